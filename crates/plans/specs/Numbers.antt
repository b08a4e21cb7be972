-- Plans by their numbers. Assumes nothing.
use Rattle.std.specs.Prelude.{ℕ, false, cond, ◌==◌}
use Rattle.plans.specs.Covering.{Talk}
use Rattle.plans.specs.Cube.{cube_rounds, cube_names}
use Rattle.plans.specs.Mesh.{mesh_rounds, mesh_names}
use Rattle.plans.specs.Star.{star_rounds, star_names}

-- the rounds of plan k: 0 is the mesh, 1 the star, 2 the cube, and any other has none
abbrev pub numbered_rounds : ℕ → ℕ → ℕ
numbered_rounds k n = cond (k == 0) (mesh_rounds n) (cond (k == 1) (star_rounds n) (cond (k == 2) (cube_rounds n) 0))

-- whom plan k names: 0 is the mesh, 1 the star, 2 the cube, and any other names nobody
abbrev pub numbered_names : ℕ → ℕ → Talk
numbered_names k n r s l = cond (k == 0) (mesh_names n r s l) (cond (k == 1) (star_names n r s l) (cond (k == 2) (cube_names n r s l) false))
