-- The numbers that plans have. Assumes nothing.
use Rattle.std.specs.Prelude.{◌≡◌, ℕ, ◌<◌, Result, MatchResult}
use Rattle.plans.specs.declared.number.NumberedPlan.{NumberedPlan}
use Rattle.plans.specs.declared.number.NumberedPlan.TheVariants.{Mesh, Star, Cube}
use Rattle.plans.specs.declared.number.UnknownPlan.{UnknownPlan}

-- the number of a plan
abbrev pub number_of : NumberedPlan → ℕ
number_of Mesh = 0
number_of Star = 1
number_of Cube = 2

-- the result is the plan with this number, or an error with a number that no plan has
abbrev pub Decodes : ℕ → Result NumberedPlan UnknownPlan → Type 0
Decodes k r = MatchResult r (λ p. number_of p ≡ k) (λ e. (e.0 ≡ k) × (2 < k))
