-- Agreement in the termination. Assumes nothing.
use Rattle.std.proofs.Common.{◌≡◌, ℕ, zero, suc, ◌-◌, ◌<◌, ◌≤◌, true, false, ◌≢◌, sym, ◌∙◌, inl, inr, arith}
use Rattle.std.proofs.lemmas.Bool.{cases_eq, cases_lt}
use Rattle.posts.specs.Places.{waits}
use Rattle.protocol.specs.Letters.{N, C}
use Rattle.protocol.proofs.Sums.{word_or}
use Rattle.protocol.proofs.Rules.{not_both}
use Rattle.protocol.proofs.Net.{Net, hears, sum_of, fits2, fits3, Own, Done, Sound}
use Rattle.protocol.proofs.NetWords.{next_N, own_N, hears_N, word_C, Fits3, unpack3, none-C, next_not_C}

a1 : (s : Net) → Sound s → (i k l : ℕ) → Fits3 s i k → k < s.t i → i < s.n → l < s.n → k ≤ s.t l → s.word l k ≡ N
a1 s h i k l f ki li ll kl =
    elim (cases_eq i l) [
      | inl e ↦ let p = f.own in grind arith
      | inr ne ↦
          let o1 = h.own l i (k - 1) in
          let o2 = h.own l i k in
          let late = f.late in
          let c1 = h.closed i l k (omega arith) ki ll ne in
          let c2 = h.closed l i (k - 1) (omega arith) (omega arith) li (λ e. ne (sym e)) in
          let g = h.quiet i l (k - 1) in
          let p = h.apart i l in
          let al = f.alike l ll in
          let nn = f.all l ll in
          grind arith
    ]

-- once an office closed round k by rule 3, no word from round k on is C
high_not_C : (s : Net) → Sound s → (l k : ℕ) → s.word l k ≢ C → ((x : ℕ) → x < s.n → k ≤ s.t x → s.word x k ≢ C) → sum_of s l k ≢ C
high_not_C s h l k p q = none-C s l k p (λ x lx. let o = h.own x l k in let b = q x lx in grind arith)

a2 : (s : Net) → Sound s → (i k : ℕ) → Fits3 s i k → k < s.t i → i < s.n → (m l : ℕ) → l < s.n → k ≤ m → m ≤ s.t l → s.word l m ≢ C
a2 s h i k f ki li zero l ll km ml = let late = f.late in omega arith
a2 s h i k f ki li (suc m) l ll km ml =
    let late = f.late in
    elim (cases_eq k (suc m)) [
      | inl e ↦ let b = a1 s h i k l f ki li ll in grind arith
      | inr ne ↦
          let g = h.grown l m (omega arith) (omega arith) in
          let ih = a2 s h i k f ki li m in
          let b = high_not_C s h l m (ih l ll (omega arith) (omega arith)) (λ x lx mx. ih x lx (omega arith) mx) in
          rw g (next_not_C s l m b)
    ]

-- an office's word never falls back to N
pub rises : (s : Net) → Sound s → (i k m : ℕ) → 1 ≤ m → m ≤ k → k ≤ s.t i → s.word i k ≡ N → s.word i m ≡ N
rises s h i zero m m1 mk kt e = grind arith
rises s h i (suc k) m m1 mk kt e =
    elim (cases_eq m (suc k)) [
      | inl q ↦ rw q e
      | inr ne ↦ rises s h i k m m1 (omega arith) (omega arith) (own_N s i k (next_N s i k (sym (h.grown i k (omega arith) (omega arith)) ∙ e)).1)
    ]

-- rule 2 fits nowhere where rule 3 fits somewhere
pub agreed : (s : Net) → Sound s → (i j k m : ℕ) → i < s.n → j < s.n → 1 ≤ k → 1 ≤ m → k < s.t i → m < s.t j → fits3 s i k ≡ true → fits2 s j m ≡ true → ⊥
agreed s h i j k m li lj k1 m1 ki mj r3 r2 =
    let f = unpack3 s i k r3 in
    let c = word_C s j m r2 in
    elim (cases_lt m k) [
      | inr km ↦ a2 s h i k f ki li m j lj km (omega arith) c
      | inl mk ↦
          let a = rises s h i k m m1 (omega arith) (omega arith) f.own in
          let b = rises s h i k (suc m) (omega arith) mk (omega arith) f.own in
          elim (cases_eq i j) [
            | inl e ↦ not_both c (rw (← e) a)
            | inr ne ↦
                let (_, z) = next_N s i m (sym (h.grown i m m1 (omega arith)) ∙ b) in
                clash s i j m (h.closed i j m m1 (omega arith) lj ne) (h.closed j i m m1 mj li (λ e. ne (sym e))) (h.own j i m) (h.quiet i j m) (h.apart i j) c (hears_N s i m z j lj)
          ]
    ]
  where
    clash : (s : Net) (i j m : ℕ) → Done s i j m → Done s j i m → Own s j i m → (s.told i j ≡ true → waits (s.place j i m) ≡ false) → (s.told i j ≡ true → s.told j i ≡ true → ⊥) → s.word j m ≡ C → word_or N (hears s i m j) ≡ N → ⊥
    clash s i j m c1 c2 o go p c z = grind arith
