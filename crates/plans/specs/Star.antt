-- The star. Assumes nothing.
use Rattle.std.specs.Prelude.{ℕ, cond, ◌&&◌, ◌==◌}
use Rattle.plans.specs.Covering.{Talk}
use Rattle.plans.specs.Pairs.{proper}
use Rattle.plans.specs.Serving.{two_to_sixteen}

-- two rounds for 2 to 16 offices
abbrev pub star_rounds : ℕ → ℕ
star_rounds n = cond (two_to_sixteen n) 2 0

-- in round 1 the others speak to office 0, in round 2 office 0 speaks to the others
abbrev pub star_names : ℕ → Talk
star_names n r s l = proper n (star_rounds n) r s l && cond (r == 1) (l == 0) (s == 0)
