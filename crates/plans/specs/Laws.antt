-- The laws of a plan. Assumes nothing.
use Rattle.std.specs.Prelude.{◌≡◌, ℕ, ◌≤◌, true}
use Rattle.plans.specs.Covering.{Talk, Covers}
use Rattle.plans.specs.Pairs.{Proper}
use Rattle.plans.specs.Serving.{Serves}

-- what holds of a plan that has these rounds and names these pairs, for every number n of offices
pub record PlanLaws (rounds : ℕ → ℕ) (names : ℕ → Talk) : Type 0 where
  -- it has at most 16 rounds
  pub few : (n : ℕ) → rounds n ≤ 16
  -- whoever it names is proper: the round is one of its rounds, and the two are two of the n offices
  pub proper : (n r s l : ℕ) → names n r s l ≡ true → Proper n (rounds n) r s l
  -- where it serves n, each of n offices knows of all n after its last round
  pub covers : (n : ℕ) → Serves rounds n → Covers (names n) n (rounds n)
