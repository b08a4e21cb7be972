-- What a decided office that stands makes of the others. Assumes nothing.
use Rattle.std.proofs.Common.{◌≡◌, ℕ, suc, ◌<◌, ◌≤◌, true, false, ◌≢◌, sym, ap, ◌∙◌, inl, inr, arith}
use Rattle.std.proofs.lemmas.Bool.{both_ways, cases_eq}
use Rattle.protocol.specs.Hearing.{heard, spoke}
use Rattle.protocol.specs.Letters.{N, C, A}
use Rattle.protocol.proofs.Sums.{word_or}
use Rattle.protocol.proofs.Net.{Net, hears, sum_of, fits1, fits2, Own, Done, Sound}
use Rattle.protocol.proofs.NetWords.{next_N, own_N, hears_N, A_fits1, heard-A}
use Rattle.protocol.proofs.Rules.{three, not_both}
use Rattle.protocol.proofs.NetLimit.{N-from}

-- where every word of round k is C or A, whoever heard them decides
pub none-N : (s : Net) → Sound s → (i k : ℕ) → i < s.n → k ≤ s.t i → ((l : ℕ) → l < s.n → k ≤ s.t l → s.word l k ≢ N) → fits1 s i k ≡ false → fits2 s i k ≡ false → ⊥
none-N s h i k li ki nn r1 r2 = elim (three (sum_of s i k)) [
  | inl e ↦ nn i li ki (own_N s i k e)
  | inr (inl e) ↦ let (x, lx, kx, wx) = N-from s h i k li ki e r2 in nn x lx kx wx
  | inr (inr e) ↦ both_ways _ r1 (A_fits1 s i k e)
]

-- an A that was taken is heard
pub hears_A : (s : Net) (i j k : ℕ) → j < s.n → Own s j i k → spoke (heard (s.place j i k)) ≡ true → s.word j k ≡ A → fits1 s i k ≡ true
hears_A s i j k lj o t a = A_fits1 s i k (heard-A s i k j lj (said s i j k o t a))
  where
    said : (s : Net) (i j k : ℕ) → Own s j i k → spoke (heard (s.place j i k)) ≡ true → s.word j k ≡ A → word_or N (hears s i k j) ≡ A
    said s i j k o t a = grind arith

-- after a standing office closed round q by rule 2, no word of the next round is N
pub after-C : (s : Net) → Sound s → (j q : ℕ) → j < s.n → 1 ≤ q → s.dropped j ≡ false → s.word j q ≡ C → q < s.t j → (l : ℕ) → l < s.n → q < s.t l → s.word l (suc q) ≢ N
after-C s h j q lj q1 st c qj l ll ql n =
    let (_, e) = next_N s l q (sym (h.grown l q q1 ql) ∙ n) in
    elim (cases_eq l j) [
      | inl p ↦ not_both c (ap (λ (z : ℕ). s.word z q) (sym p) ∙ own_N s l q e)
      | inr ne ↦ heard-C s l j q (h.own j l q) (h.closed l j q q1 ql lj ne) (h.gone l j) st c (hears_N s l q e j lj)
    ]
  where
    heard-C : (s : Net) (l j q : ℕ) → Own s j l q → Done s l j q → (s.told l j ≡ true → s.dropped j ≡ true) → s.dropped j ≡ false → s.word j q ≡ C → word_or N (hears s l q j) ≡ N → ⊥
    heard-C s l j q o d g st c e = grind arith
