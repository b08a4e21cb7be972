-- The mesh. Assumes nothing.
use Rattle.std.specs.Prelude.{ℕ, cond}
use Rattle.plans.specs.Covering.{Talk}
use Rattle.plans.specs.Pairs.{proper}
use Rattle.plans.specs.Serving.{two_to_sixteen}

-- one round for 2 to 16 offices
abbrev pub mesh_rounds : ℕ → ℕ
mesh_rounds n = cond (two_to_sixteen n) 1 0

-- in it everyone speaks to everyone else
abbrev pub mesh_names : ℕ → Talk
mesh_names n r s l = proper n (mesh_rounds n) r s l
