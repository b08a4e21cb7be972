-- Sets of offices, by their members. Assumes nothing.
use Rattle.std.specs.Prelude.{◌≡◌, ℕ, ◌<◌, Bool, true, false, ◌&&◌, ◌||◌, ◌==◌, bit_or, nat_lt}
use Rattle.words.specs.declared.offices.Offices.{Offices}
use Rattle.words.specs.Below.{every}
use Rattle.words.specs.Masks.{bit, lone}

-- office i is in the set
abbrev pub member : Offices → ℕ → Bool
member s i = bit s.mask i

-- the set without members
abbrev pub none : Offices
none = record { mask = 0 }

-- the union of two sets
abbrev pub union : Offices → Offices → Offices
union a b = record { mask = bit_or a.mask b.mask }

-- the set with office i, if there can be such an office
abbrev pub added : Offices → ℕ → Offices
added s i = record { mask = bit_or s.mask (lone i) }

-- whether the set has no member, as a test
abbrev pub empty : Offices → Bool
empty s = s.mask == 0

-- whether the set holds every office below n, as a test
abbrev pub full : ℕ → Offices → Bool
full n s = every n (member s)

-- r has the members of a and those of b, and no others
abbrev pub Union : Offices → Offices → Offices → Type 0
Union a b r = (i : ℕ) → member r i ≡ (member a i || member b i)

-- r has the members of s, and office j if there can be such an office, and no others
abbrev pub Added : Offices → ℕ → Offices → Type 0
Added s j r = (i : ℕ) → member r i ≡ (member s i || (i == j && nat_lt j 16))

-- the set has no member
abbrev pub Vacant : Offices → Type 0
Vacant s = (i : ℕ) → member s i ≡ false

-- the set has a member
abbrev pub Inhabited : Offices → Type 0
Inhabited s = (i : ℕ) × (member s i ≡ true)

-- the set holds every office below n
abbrev pub HoldsAll : ℕ → Offices → Type 0
HoldsAll n s = (i : ℕ) → i < n → member s i ≡ true
