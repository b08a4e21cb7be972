-- Which numbers of offices a plan serves. Assumes nothing.
use Rattle.std.specs.Prelude.{ℕ, ◌<◌, Bool, ◌&&◌, nat_le, nat_lt}

-- a plan with these rounds serves n offices: it has a round for them
abbrev pub Serves : (ℕ → ℕ) → ℕ → Type 0
Serves rounds n = 0 < rounds n

-- whether a plan with these rounds serves n offices, as a test
abbrev pub served : (ℕ → ℕ) → ℕ → Bool
served rounds n = nat_lt 0 (rounds n)

-- whether the offices are 2 to 16, as a test
abbrev pub two_to_sixteen : ℕ → Bool
two_to_sixteen n = nat_le 2 n && nat_le n 16
