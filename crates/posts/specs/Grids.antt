-- The grid: an entry for each place. Assumes nothing.
use Rattle.std.specs.Prelude.{◌+◌, ◌*◌}
use Rattle.posts.specs.declared.place.Place.{Place}
use Rattle.posts.specs.declared.place.Place.TheVariants.{Empty, Waiting, Taken}
use Rattle.posts.specs.Layouts.{Layout}

-- 256 entries for a round, each of them a place: for each sender the sixteen receivers
abbrev pub grid : {W : Type 0} → Layout (Place W) W
grid = record { size = 256; slot = λ s r. s * 16 + r; says = λ x r. x; blank = Empty; posted = λ x r w. Waiting w; taken = λ x r w. Taken w }
