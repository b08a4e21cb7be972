-- The cube. Assumes nothing.
use Rattle.std.specs.Prelude.{◌≡◌, ℕ, ◌^◌, ◌<◌, ◌≤◌, Bool, cond, ◌&&◌, ◌==◌, bit_xor, count_ones}
use Rattle.plans.specs.Covering.{Talk}
use Rattle.plans.specs.Pairs.{proper}

-- 1 round for 2 offices, 2 for 4, 3 for 8, 4 for 16
abbrev pub cube_rounds : ℕ → ℕ
cube_rounds n = cond (n == 2) 1 (cond (n == 4) 2 (cond (n == 8) 3 (cond (n == 16) 4 0)))

-- whether two numbers differ in exactly one bit, as a test
abbrev pub one_bit : ℕ → ℕ → Bool
one_bit a b = count_ones (bit_xor a b) == 1

-- in every round those whose numbers differ in exactly one bit speak to each other
abbrev pub cube_names : ℕ → Talk
cube_names n r s l = proper n (cube_rounds n) r s l && one_bit s l

-- n is 2 to the power k only where h is k
abbrev pub OnlyAt : ℕ → ℕ → ℕ → Type 0
OnlyAt n h k = n ≡ 2 ^ k → h ≡ k

-- h is the base-2 logarithm of n where that is 1 to 4, and 0 for any other n
pub record Logarithm (n h : ℕ) : Type 0 where
  pub small : h ≤ 4
  pub power : 0 < h → n ≡ 2 ^ h
  pub one : OnlyAt n h 1
  pub two : OnlyAt n h 2
  pub three : OnlyAt n h 3
  pub four : OnlyAt n h 4
