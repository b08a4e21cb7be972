-- Why an address is refused. Assumes nothing.
use Rattle.std.specs.Prelude.{◌≡◌, ℕ, true, false, ◌⊎◌}
use Rattle.posts.specs.declared.fault.PostFault.{PostFault}
use Rattle.posts.specs.declared.fault.PostFault.TheVariants.{Offices, Round}
use Rattle.posts.specs.Places.{legal, within}

-- the fault of an address from s to r in round k, of a post of this reach: the offices' if they are not legal, and else the round's if it is not within the reach
abbrev pub Refused : ℕ → ℕ → ℕ → ℕ → PostFault → Type 0
Refused s r k reach e = ((legal s r ≡ false) × (e ≡ Offices)) ⊎ ((legal s r ≡ true) × (within reach k ≡ false) × (e ≡ Round))
