-- Masks of bits, and what their bits say. Assumes nothing.
use Rattle.std.specs.Prelude.{◌≡◌, ℕ, ◌/◌, ◌%◌, ◌^◌, Bool, true, false, cond, ◌==◌, nat_lt}

-- bit i of the mask is set
unfoldable pub bit : ℕ → ℕ → Bool
bit m i = m / 2 ^ i % 2 == 1

-- the mask with bit i alone set, or none where a mask of sixteen has no such bit
unfoldable pub lone : ℕ → ℕ
lone i = cond (nat_lt i 16) (2 ^ i) 0

-- no bit is set
abbrev pub NoBit : ℕ → Type 0
NoBit m = (i : ℕ) → bit m i ≡ false

-- there is a bit that is set
abbrev pub SomeBit : ℕ → Type 0
SomeBit m = (i : ℕ) × (bit m i ≡ true)
