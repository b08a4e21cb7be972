-- Where an A and a C come from. Assumes nothing.
use Rattle.std.proofs.Common.{◌≡◌, ℕ, zero, suc, ◌<◌, ◌≤◌, true, ◌≢◌, sym, ◌∙◌, inl, inr, arith}
use Rattle.protocol.specs.Letters.{C, A}
use Rattle.protocol.proofs.Sums.{C≢N, A≢N}
use Rattle.protocol.proofs.Net.{Net, fits3, Sound}
use Rattle.protocol.proofs.NetWords.{next_C, next_A}
use Rattle.protocol.proofs.NetLimit.{word_from}

-- where nobody entered with A, an A comes from rule 3
pub A-from : (s : Net) → Sound s → ((a : ℕ) → a < s.n → 1 ≤ s.t a → s.word a 1 ≢ A) → (k i : ℕ) → i < s.n → 1 ≤ k → k ≤ s.t i → s.word i k ≡ A → (a : ℕ) × (r : ℕ) × (a < s.n) × (1 ≤ r) × (r < s.t a) × (fits3 s a r ≡ true)
A-from s h f zero i li k1 ki e = absurd (omega arith)
A-from s h f (suc zero) i li k1 ki e = absurd (f i li ki e)
A-from s h f (suc (suc k)) i li k1 ki e =
    elim (next_A s i (suc k) (sym (h.grown i (suc k) (omega arith) ki) ∙ e)) [
      | inl r ↦ (i, suc k, li, omega arith, ki, r)
      | inr t ↦
          let (l, ll, kl, wl) = word_from A A≢N s h i (suc k) li (omega arith) t in
          A-from s h f (suc k) l ll (omega arith) kl wl
    ]

-- a C goes back to an office that entered with C
pub C-first : (s : Net) → Sound s → (k i : ℕ) → i < s.n → 1 ≤ k → k ≤ s.t i → s.word i k ≡ C → (z : ℕ) × (z < s.n) × (1 ≤ s.t z) × (s.word z 1 ≡ C)
C-first s h zero i li k1 ki e = absurd (omega arith)
C-first s h (suc zero) i li k1 ki e = (i, li, ki, e)
C-first s h (suc (suc k)) i li k1 ki e =
    let (z, lz, kz, wz) = word_from C C≢N s h i (suc k) li (omega arith) (next_C s i (suc k) (sym (h.grown i (suc k) (omega arith) ki) ∙ e)) in
    C-first s h (suc k) z lz (omega arith) kz wz
