-- Each deed keeps what Sound says. Assumes nothing.
use Rattle.std.proofs.Common.{◌≡◌, ℕ, suc, ◌+◌, ◌-◌, ◌<◌, ◌≤◌, true, false, ◌≢◌, ◌⊎◌, sym, refl, ap, ◌∙◌, inl, inr, arith}
use mathlib.Core.Path.{fun_ext}
use Rattle.std.proofs.lemmas.Bool.Decides.{nat_tests}
use Rattle.std.proofs.lemmas.Bool.{both_ways, cases_eq, cases_Bool}
use Rattle.posts.specs.Places.{waits}
use Rattle.protocol.specs.History.{count}
use Rattle.protocol.specs.Letters.{N}
use Rattle.protocol.proofs.Updates.{at1, at1_is, at2_is, at3_is}
use Rattle.protocol.proofs.Sums.{every_at, some_at, some-from, count_le}
use Rattle.protocol.proofs.Net.{Net, hears, next, Deed, speak, hear, notice, close, drop, enter, done_with, waits_for, May, does, fate_at, Own, Cause, Done, Sound}

ruleset kept = (arith, nat_tests, at1_is, at2_is, at3_is)

own_kept : (s : Net) (c : Deed) (a b k : ℕ) → May s c → Own s a b k → Own (does s c) a b k
own_kept s (notice i j) a b k ok o = o
own_kept s (drop i) a b k ok o = o
own_kept s _ a b k ok o = grind kept

-- a round that was closed before, or is closed in the step
abbrev Round : Net → Deed → ℕ → ℕ → Type 0
Round s c a k = (k < s.t a) ⊎ ((c ≡ close a) × (k ≡ s.t a))

round_kept : (s : Net) (c : Deed) (a k : ℕ) → May s c → 1 ≤ k → k < (does s c).t a → Round s c a k
round_kept s (close i) a k ok k1 lt = grind kept
round_kept s (enter i w) a k ok k1 lt = grind kept
round_kept s _ a k ok k1 lt = inl lt

done_kept : (s : Net) (c : Deed) (a b k : ℕ) → May s c → Done s a b k → Done (does s c) a b k
done_kept s (close i) a b k ok o = o
done_kept s (drop i) a b k ok o = o
done_kept s (enter i w) a b k ok o = o
done_kept s _ a b k ok o = grind kept

gone_kept : (s : Net) (c : Deed) (i j : ℕ) → May s c → (s.told i j ≡ true → s.dropped j ≡ true) → (does s c).told i j ≡ true → (does s c).dropped j ≡ true
gone_kept s (notice x y) i j ok h = λ to. grind kept
gone_kept s (drop x) i j ok h = λ to. grind kept
gone_kept s _ i j ok h = h

apart_kept : (s : Net) (c : Deed) (i j : ℕ) → May s c → (s.told i j ≡ true → s.dropped j ≡ true) → (s.told j i ≡ true → s.dropped i ≡ true) → (s.told i j ≡ true → s.told j i ≡ true → ⊥) → (does s c).told i j ≡ true → (does s c).told j i ≡ true → ⊥
apart_kept s (notice x y) i j ok g g' h = λ to ot. grind kept
apart_kept s _ i j ok g g' h = h

quiet_at : (s : Net) (i j k : ℕ) → waits_for s j i ≡ false → Own s j i k → waits (s.place j i k) ≡ false
unfolding waits_for
quiet_at s i j k h o = elim (cases_Bool (waits (s.place j i k))) [
  | inr e ↦ e
  | inl e ↦
      let (k1, kr) = inside s j i k o e in
      let q : k - 1 + 1 ≡ k = omega arith in
      absurd (both_ways _ h (some-from s.reach (λ r. waits (s.place j i (r + 1))) (k - 1) (omega arith) (ap (λ (z : ℕ). waits (s.place j i z)) q ∙ e)))
]
  where
    inside : (s : Net) (a b k : ℕ) → Own s a b k → waits (s.place a b k) ≡ true → (1 ≤ k) × (k ≤ s.reach)
    inside s a b k o e = grind arith

quiet_kept : (s : Net) (c : Deed) (i j k : ℕ) → May s c → Own s j i k → (s.told i j ≡ true → s.dropped j ≡ true) → (s.told i j ≡ true → waits (s.place j i k) ≡ false) → (does s c).told i j ≡ true → waits ((does s c).place j i k) ≡ false
quiet_kept s (speak x y) i j k ok o g h to = grind kept
quiet_kept s (hear x y) i j k ok o g h to = grind kept
quiet_kept s (notice x y) i j k ok o g h to = let e = quiet_at s x y k in grind kept
quiet_kept s _ i j k ok o g h to = h to

pub word_kept : (s : Net) (c : Deed) (a k : ℕ) → May s c → k ≤ s.t a → s.word a k ≡ (does s c).word a k
word_kept s (close i) a k ok le = grind kept
word_kept s (enter i w) a k ok le = grind kept
word_kept s _ a k ok le = refl

pub hears_kept : (s : Net) (c : Deed) (a k : ℕ) → May s c → (k < s.t a) ⊎ (c ≡ close a) → hears s a k ≡ hears (does s c) a k
hears_kept s (speak i j) a k ok r = fun_ext (λ l. grind kept)
hears_kept s (hear i j) a k ok r = fun_ext (λ l. grind kept)
hears_kept s _ a k ok r = refl

n_kept : (s : Net) (c : Deed) → s.n ≡ (does s c).n
n_kept s (speak i j) = refl
n_kept s _ = refl

next_kept : (s : Net) (c : Deed) (a k : ℕ) → May s c → k ≤ s.t a → (k < s.t a) ⊎ (c ≡ close a) → (k - 1 < s.t a) ⊎ (c ≡ close a) → next s a k ≡ next (does s c) a k
next_kept s c a k ok le r r' =
    let e1 = n_kept s c in
    let e2 = word_kept s c a k ok le in
    let e3 = word_kept s c a (k - 1) ok (omega arith) in
    let e4 = hears_kept s c a k ok r in
    let e5 = hears_kept s c a (k - 1) ok r' in
    cc

pub fate_kept : (s : Net) (c : Deed) (a k : ℕ) → May s c → k ≤ s.t a → (k < s.t a) ⊎ (c ≡ close a) → (k - 1 < s.t a) ⊎ (c ≡ close a) → fate_at s a k ≡ fate_at (does s c) a k
fate_kept s c a k ok le r r' =
    let e2 = word_kept s c a k ok le in
    let e3 = word_kept s c a (k - 1) ok (omega arith) in
    let e4 = hears_kept s c a k ok r in
    let e5 = hears_kept s c a (k - 1) ok r' in
    cc

zeroth_kept : (s : Net) (c : Deed) (a : ℕ) → s.word a 0 ≡ N → (does s c).word a 0 ≡ N
zeroth_kept s (close i) a z = grind kept
zeroth_kept s (enter i w) a z = grind kept
zeroth_kept s _ a z = z

pub made : (s : Net) (a : ℕ) → (does s (close a)).word a (suc (s.t a)) ≡ next s a (s.t a)
made s a = grind kept

grown_kept : (s : Net) (c : Deed) (a k : ℕ) → May s c → Round s c a k → (k < s.t a → s.word a (suc k) ≡ next s a k) → (does s c).word a (suc k) ≡ next (does s c) a k
grown_kept s c a k ok (inl lt) g = sym (word_kept s c a (suc k) ok lt) ∙ g lt ∙ next_kept s c a k ok (omega arith) (inl lt) (inl (omega arith))
grown_kept s c a k ok (inr (e, q)) g = rw q (rw e (made s a)) ∙ next_kept s c a k ok (omega arith) (inr e) (inr e)

-- who may close has done with all others
close_done : (s : Net) (a b : ℕ) → May s (close a) → b < s.n → a ≢ b → Done s a b (s.t a)
close_done s a b ok bn ne = let e = every_at s.n (done_with s a) (grind arith) b bn in grind kept

closed_kept : (s : Net) (c : Deed) (a b k : ℕ) → May s c → Round s c a k → b < s.n → a ≢ b → (k < s.t a → Done s a b k) → Done s a b k
closed_kept s c a b k ok (inl lt) bn ne h = h lt
closed_kept s c a b k ok (inr (e, q)) bn ne h = rw q (close_done s a b (rw e at ok) bn ne)

pub dropped_kept : (s : Net) (c : Deed) → May s c → count s.n s.dropped ≤ count s.n (does s c).dropped
dropped_kept s (drop i) ok = count_le s.n s.dropped (at1 s.dropped i true) (λ l _ e. grind kept)
dropped_kept s _ ok = omega arith

cause_stays : (s : Net) (c : Deed) (d : ℕ) → May s c → s.dropped d ≡ true → s.t d ≡ 0 → ((does s c).dropped d ≡ true) × ((does s c).t d ≡ 0)
cause_stays s (close i) d ok dd dt = (dd, grind kept)
cause_stays s (drop i) d ok dd dt = (grind kept, dt)
cause_stays s (enter i w) d ok dd dt = (dd, grind kept)
cause_stays s _ d ok dd dt = (dd, dt)

waits-from : (s : Net) (j i k : ℕ) → Own s j i k → waits (s.place j i k) ≡ true → 1 ≤ s.t j
waits-from s j i k o e = grind arith

-- an office enters since it was told of another's drop-out or another's word waits: either way some office dropped out before it entered
cause_of : (s : Net) → Sound s → (i j : ℕ) → j < s.n → (s.told i j ≡ true) ⊎ (waits_for s j i ≡ true) → Cause s
unfolding waits_for
cause_of s h i j lt (inl to) = elim (cases_eq (s.t j) 0) [ inl z ↦ (j, lt, h.gone i j to, z) | inr ne ↦ h.cause j (omega arith) ]
cause_of s h i j lt (inr e) =
    let (k, _, x) = some_at s.reach (λ r. waits (s.place j i (r + 1))) e in
    h.cause j (waits-from s j i (k + 1) (h.own j i (k + 1)) x)

cause_before : (s : Net) → Sound s → (c : Deed) (a : ℕ) → May s c → 1 ≤ (does s c).t a → Cause s
cause_before s h (close i) a ok lt = h.cause i (closing s i ok)
  where
    closing : (s : Net) (i : ℕ) → May s (close i) → 1 ≤ s.t i
    closing s i ok = grind kept
cause_before s h (enter i w) a (_, _, _, (j, lj, e)) lt = cause_of s h i j lj e
cause_before s h _ a ok lt = h.cause a lt

pub keeps_does : (s : Net) → Sound s → (c : Deed) → May s c → Sound (does s c)
keeps_does s h c ok =
    record {
      own = λ a b k. own_kept s c a b k ok (h.own a b k);
      zeroth = λ a. zeroth_kept s c a (h.zeroth a);
      grown = λ a k k1 kt. grown_kept s c a k ok (round_kept s c a k ok k1 kt) (h.grown a k k1);
      closed = λ a b k k1 kt bn ne.
          let bn' : b < s.n = bn in
          done_kept s c a b k ok (closed_kept s c a b k ok (round_kept s c a k ok k1 kt) bn' ne (λ lt. h.closed a b k k1 lt bn' ne));
      gone = λ i j. gone_kept s c i j ok (h.gone i j);
      quiet = λ i j k. quiet_kept s c i j k ok (h.own j i k) (h.gone i j) (h.quiet i j k);
      apart = λ i j. apart_kept s c i j ok (h.gone i j) (h.gone j i) (h.apart i j);
      cause = λ a ta.
          let (d, dn, dd, dt) = cause_before s h c a ok ta in
          let (dd', dt') = cause_stays s c d ok dd dt in
          (d, dn, dd', dt');
    }
