-- The grid is a layout. Assumes nothing.
use Rattle.std.specs.Prelude.{refl}
use Rattle.std.proofs.Common.{arith}
use Rattle.std.proofs.lemmas.Bool.Decides.{nat_tests}
use Rattle.posts.specs.Grids.{grid}
use Rattle.posts.specs.Layouts.{Sound}

-- the grid is sound
pub grid_sound : {W : Type 0} → Sound (grid {W = W})
grid_sound = record {
  placed = record {
    fits = λ s r pair. grind (arith, nat_tests);
    sender = λ s r s' r' pair pair' same. grind (arith, nat_tests);
    silent = λ r. refl;
  };
  waits = λ e r w low free. refl;
  marked = λ e r w low here. refl;
  posts = λ s r r' pair pair' other same e w all. absurd (other (omega arith));
  takes = λ s r r' pair pair' other same e w. absurd (other (omega arith));
}
