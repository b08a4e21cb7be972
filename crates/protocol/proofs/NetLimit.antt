-- The round limit. Assumes nothing.
use Rattle.std.proofs.Common.{◌≡◌, ℕ, zero, suc, ◌-◌, ◌<◌, ◌≤◌, Bool, true, false, not, ◌&&◌, eqb, ltb, ◌≢◌, Some, Option, sym, ◌∙◌, inl, inr, arith}
use mathlib.Core.Bool.{beq}
use Rattle.std.proofs.lemmas.Bool.Decides.{nat_tests}
use Rattle.std.proofs.lemmas.Bool.{both_ways, cases_lt}
use Rattle.words.specs.declared.term.TermWord.{TermWord}
use Rattle.posts.specs.Places.{waits}
use Rattle.protocol.specs.Hearing.{spoke}
use Rattle.protocol.specs.History.{count}
use Rattle.protocol.specs.Letters.{N, C, A}
use Rattle.protocol.specs.Rules.{only}
use Rattle.protocol.proofs.Sums.{every_at, count_le, count_lt, count_pos, word_or, join_A, C≢N, sum_term, total_is}
use Rattle.protocol.proofs.Rules.{three, not_both, not_all, three_not}
use Rattle.protocol.proofs.Net.{Net, hears, sum_of, fits1, fits2, fits3, close, done_with, May, Own, Cause, Done, Sound}
use Rattle.protocol.proofs.NetWords.{next_N, next_C, own_N, hears_N, A_fits1, among, heard-A}
use Rattle.protocol.proofs.NetAgree.{rises}

pub own_said : (s : Net) (a b k : ℕ) (w : TermWord) → Own s a b k → hears s b k a ≡ Some w → (a ≢ b) × (k ≤ s.t a) × (s.word a k ≡ w)
own_said s a b k w o e = grind arith

got : (w : TermWord) → w ≢ N → (h : Option TermWord) → word_or N h ≡ w → h ≡ Some w
got w nn h e = grind arith

-- where the sum is w, higher than N, some office that reached round k has w there
pub word_from : (w : TermWord) → w ≢ N → (s : Net) → Sound s → (i k : ℕ) → i < s.n → k ≤ s.t i → sum_of s i k ≡ w → (z : ℕ) × (z < s.n) × (k ≤ s.t z) × (s.word z k ≡ w)
word_from w nn s h i k li ki e =
    elim (among w nn s i k e) [
      | inl c ↦ (i, li, ki, c)
      | inr (z, lz, x) ↦
          let (_, kz, wz) = own_said s z i k w (h.own z i k) (got w nn (hears s i k z) x) in
          (z, lz, kz, wz)
    ]

-- x closed round k with the sum N, and z had C there: z stopped in round k and dropped out
stopped : (s : Net) → Sound s → (x z k : ℕ) → x < s.n → z < s.n → 1 ≤ k → k < s.t x → k ≤ s.t z → sum_of s x k ≡ N → s.word z k ≡ C → (s.t z ≡ k) × (s.dropped z ≡ true)
stopped s h x z k lx lz k1 kx kz e c =
    let a = own_N s x k e in
    let ne : x ≢ z = λ q. not_both c (rw q at a) in
    let nn = hears_N s x k e z lz in
    let o = h.own z x k in
    let c1 = h.closed x z k k1 kx lz ne in
    let g = h.gone x z in
    elim (cases_lt k (s.t z)) [
      | inl lt ↦
          let c2 = h.closed z x k k1 lt lx (λ q. ne (sym q)) in
          let q = h.quiet x z k in
          let p = h.apart x z in
          absurd (clash s x z k nn c o c1 c2 q p)
      | inr le ↦ (omega arith, dropped_since s x z k nn c o c1 g)
    ]
  where
    clash : (s : Net) (x z k : ℕ) → word_or N (hears s x k z) ≡ N → s.word z k ≡ C → Own s z x k → Done s x z k → Done s z x k → (s.told x z ≡ true → waits (s.place z x k) ≡ false) → (s.told x z ≡ true → s.told z x ≡ true → ⊥) → ⊥
    clash s x z k nn c o c1 c2 q p = grind arith

    dropped_since : (s : Net) (x z k : ℕ) → word_or N (hears s x k z) ≡ N → s.word z k ≡ C → Own s z x k → Done s x z k → (s.told x z ≡ true → s.dropped z ≡ true) → s.dropped z ≡ true
    dropped_since s x z k nn c o c1 g = grind arith

-- the offices that dropped out before they closed round k - 1
abbrev out : Net → ℕ → ℕ → Bool
out s k l = s.dropped l && ltb (s.t l) k

out_more : (s : Net) (k l : ℕ) → l < s.n → out s k l ≡ true → out s (suc k) l ≡ true
out_more s k l lt e = grind (arith, nat_tests)

-- where one office has N in round k and another C, an office dropped out in each round before
mixed : (s : Net) → Sound s → Cause s → (k x y : ℕ) → x < s.n → y < s.n → 1 ≤ k → k ≤ s.t x → k ≤ s.t y → s.word x k ≡ N → s.word y k ≡ C → k ≤ count s.n (out s k)
mixed s h c zero x y lx ly k1 kx ky n w = omega arith
mixed s h (d, dn, dd, dt) (suc zero) x y lx ly k1 kx ky n w = count_pos s.n (out s 1) d dn (grind (arith, nat_tests))
mixed s h c (suc (suc k)) x y lx ly k1 kx ky n w =
    let (_, ex) = next_N s x (suc k) (sym (h.grown x (suc k) (omega arith) kx) ∙ n) in
    let ey = next_C s y (suc k) (sym (h.grown y (suc k) (omega arith) ky) ∙ w) in
    let (z, lz, kz, wz) = word_from C C≢N s h y (suc k) ly (omega arith) ey in
    let (tz, dz) = stopped s h x z (suc k) lx lz (omega arith) kx kz ex wz in
    let ih = mixed s h c (suc k) x z lx lz (omega arith) (omega arith) kz (own_N s x (suc k) ex) wz in
    let more = count_lt s.n (out s (suc k)) (out s (suc (suc k))) (out_more s (suc k)) z lz (grind (arith, nat_tests)) (grind (arith, nat_tests)) in
    omega arith

-- the others of whom i hears Empty in round k
abbrev unheard : Net → ℕ → ℕ → ℕ → Bool
unheard s i k l = not (eqb l i) && not (spoke (hears s i k l))

own_spoke : (s : Net) (a b k : ℕ) → Own s a b k → spoke (hears s b k a) ≡ true → (a ≢ b) × (k ≤ s.t a)
own_spoke s a b k o e = grind arith

-- whom i hears in round k + 1 it hears in round k
shrinks : (s : Net) → Sound s → (i l k : ℕ) → i < s.n → l < s.n → 1 ≤ k → k < s.t i → spoke (hears s i (suc k) l) ≡ true → spoke (hears s i k l) ≡ true
shrinks s h i l k li ll k1 ki e =
    let (ne, kl) = own_spoke s l i (suc k) (h.own l i (suc k)) e in
    both_hears s i l k (h.own l i k) (h.closed i l k k1 ki ll (λ q. ne (sym q))) (h.closed l i k k1 kl li ne) (h.quiet i l k) (h.apart i l)
  where
    both_hears : (s : Net) (i l k : ℕ) → Own s l i k → Done s i l k → Done s l i k → (s.told i l ≡ true → waits (s.place l i k) ≡ false) → (s.told i l ≡ true → s.told l i ≡ true → ⊥) → spoke (hears s i k l) ≡ true
    both_hears s i l k o c1 c2 q p = grind arith

cause_unheard : (s : Net) (i d : ℕ) → s.t d ≡ 0 → 1 ≤ s.t i → Own s d i 1 → unheard s i 1 d ≡ true
cause_unheard s i d z t o = grind (arith, nat_tests)

unheard_more : (s : Net) (i l k : ℕ) → unheard s i k l ≡ true → (spoke (hears s i (suc k) l) ≡ true → spoke (hears s i k l) ≡ true) → unheard s i (suc k) l ≡ true
unheard_more s i l k e sh = grind (arith, nat_tests)

first_miss : (s : Net) (i l k : ℕ) → Own s l i k → (spoke (hears s i (suc k) l) ≡ true → spoke (hears s i k l) ≡ true) → beq (spoke (hears s i (suc k) l)) (spoke (hears s i k l)) ≡ false → (unheard s i k l ≡ false) × (unheard s i (suc k) l ≡ true)
first_miss s i l k o sh b = grind (arith, nat_tests)

one_less : (s : Net) (i k : ℕ) → 1 ≤ k → fits3 s i (suc k) ≡ false → sum_of s i (suc k) ≡ N → sum_of s i k ≡ N → (l : ℕ) × (l < s.n) × (beq (spoke (hears s i (suc k) l)) (spoke (hears s i k l)) ≡ false)
one_less s i k k1 r e e' =
    let q : suc k - 1 ≡ k = omega arith in
    three_not s.n (suc k) (s.word i (suc k)) (hears s i (suc k)) (s.word i k) (hears s i k) (omega arith) e e' (rw q at r)

-- where all is N and rule 3 never fits, i hears one office less in each round
fewer : (s : Net) → Sound s → Cause s → (i : ℕ) → i < s.n → (k : ℕ) → 1 ≤ k → k ≤ s.t i → ((r : ℕ) → 1 ≤ r → r ≤ k → (fits3 s i r ≡ false) × (sum_of s i r ≡ N)) → k ≤ count s.n (unheard s i k)
fewer s h c i li zero k1 kt all = omega arith
fewer s h (d, dn, dd, dt) i li (suc zero) k1 kt all = let o = h.own d i 1 in count_pos s.n (unheard s i 1) d dn (cause_unheard s i d dt kt o)
fewer s h c i li (suc (suc k)) k1 kt all =
    let ih = fewer s h c i li (suc k) (omega arith) (omega arith) (λ r r1 rk. all r r1 (omega arith)) in
    let (r, e) = all (suc (suc k)) (omega arith) (omega arith) in
    let (_, e') = all (suc k) (omega arith) (omega arith) in
    let (l, ll, b) = one_less s i (suc k) (omega arith) r e e' in
    let sh = shrinks s h i l (suc k) li ll (omega arith) kt in
    let o = h.own l i (suc k) in
    let more = count_lt s.n (unheard s i (suc k)) (unheard s i (suc (suc k))) (λ x lx q. unheard_more s i x (suc k) q (shrinks s h i x (suc k) li lx (omega arith) kt)) l ll (first_miss s i l (suc k) o sh b).0 (first_miss s i l (suc k) o sh b).1 in
    omega arith

-- the words of i before round k, where the sum of round k is N
N_before : (s : Net) → Sound s → (i k : ℕ) → k ≤ s.t i → fits3 s i k ≡ false → sum_of s i k ≡ N → (r : ℕ) → 1 ≤ r → r ≤ k → (fits3 s i r ≡ false) × (sum_of s i r ≡ N)
N_before s h i k kt r3 e r r1 rk =
    elim (cases_lt r k) [
      | inr ge ↦ let q : k ≡ r = omega arith in rw (← q) (r3, e)
      | inl lt ↦ next_N s i r (sym (h.grown i r r1 (omega arith)) ∙ rises s h i k (suc r) (omega arith) lt kt (own_N s i k e))
    ]

not_C : (h : Option TermWord) → only C h ≡ false → word_or N h ≢ A → h ≡ Some N
not_C h a b = grind arith

-- where the sum is C and rule 2 does not fit, some office that reached round k has N there
pub N-from : (s : Net) → Sound s → (i k : ℕ) → i < s.n → k ≤ s.t i → sum_of s i k ≡ C → fits2 s i k ≡ false → (x : ℕ) × (x < s.n) × (k ≤ s.t x) × (s.word x k ≡ N)
N-from s h i k li ki e r =
    elim (not_all s.n (s.word i k) (hears s i k) C r) [
      | inl ne ↦ (i, li, ki, is_N (s.word i k) ne (λ a. not_A (A_own a)))
      | inr (x, lx, b) ↦
          let (_, kx, wx) = own_said s x i k N (h.own x i k) (not_C (hears s i k x) b (λ z. not_A (heard-A s i k x lx z))) in
          (x, lx, kx, wx)
    ]
  where
    two : (w : TermWord) → w ≡ C → w ≡ A → ⊥
    two w p q = grind arith

    not_A : sum_of s i k ≡ A → ⊥
    not_A a = two (sum_of s i k) e a

    is_N : (w : TermWord) → w ≢ C → w ≢ A → w ≡ N
    is_N w a b = grind arith

    A_own : s.word i k ≡ A → sum_of s i k ≡ A
    A_own a = total_is s.n (s.word i k) (hears s i k) ∙ join_A (s.word i k) (sum_term s.n (hears s i k)) (inl a)

pub record Closes (s : Net) (i : ℕ) : Type 0 where
  pub i_in : i < s.n
  pub from : 1 ≤ s.t i
  pub all : (j : ℕ) → j < s.n → done_with s i j ≡ true

pub may_close : (s : Net) (i : ℕ) → May s (close i) → Closes s i
may_close s i (li, _, t1, e) = record { i_in = li; from = t1; all = every_at s.n (done_with s i) e }

pub bounded : (s : Net) → Sound s → (i : ℕ) → Closes s i → fits1 s i (s.t i) ≡ false → fits2 s i (s.t i) ≡ false → fits3 s i (s.t i) ≡ false → s.t i ≤ count s.n s.dropped
bounded s h i v r1 r2 r3 =
    let c = h.cause i v.from in
    elim (three (sum_of s i (s.t i))) [
      | inl e ↦
          let a = fewer s h c i v.i_in (s.t i) v.from (omega arith) (N_before s h i (s.t i) (omega arith) r3 e) in
          let b = count_le s.n (unheard s i (s.t i)) s.dropped (λ l ll q. told_out s i l (v.all l ll) q (h.gone i l)) in
          omega arith
      | inr (inl e) ↦
          let (x, lx, kx, wx) = N-from s h i (s.t i) v.i_in (omega arith) e r2 in
          let (y, ly, ky, wy) = word_from C C≢N s h i (s.t i) v.i_in (omega arith) e in
          let a = mixed s h c (s.t i) x y lx ly v.from kx ky wx wy in
          let b = count_le s.n (out s (s.t i)) s.dropped (λ l ll q. grind arith) in
          omega arith
      | inr (inr e) ↦ absurd (both_ways _ r1 (A_fits1 s i (s.t i) e))
    ]
  where
    told_out : (s : Net) (i l : ℕ) → done_with s i l ≡ true → unheard s i (s.t i) l ≡ true → (s.told i l ≡ true → s.dropped l ≡ true) → s.dropped l ≡ true
    told_out s i l d u g = grind (arith, nat_tests)
