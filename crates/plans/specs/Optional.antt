-- Plans that may be missing. Assumes nothing.
use Rattle.std.specs.Prelude.{ℕ, false, Option, Some, None}
use Rattle.plans.specs.Covering.{Talk}

-- the rounds of a plan that may be missing: a missing one has none
abbrev pub optional_rounds : {P : Type 0} → (P → ℕ → ℕ) → Option P → ℕ → ℕ
optional_rounds rounds None n = 0
optional_rounds rounds (Some p) n = rounds p n

-- whom a plan that may be missing names: a missing one names nobody
abbrev pub optional_names : {P : Type 0} → (P → ℕ → Talk) → Option P → ℕ → Talk
optional_names names None n r s l = false
optional_names names (Some p) n r s l = names p n r s l
