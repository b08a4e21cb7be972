use Rattle.std.proofs.Common.{refl, arith}
use Rattle.posts.proofs.stored.rounds_of.Goals as goal

pub nonzero_div-rounds : goal.nonzero_div-rounds
nonzero_div-rounds g c =
    let low = g.met.E.Entry.sound.placed.fits 0 1 refl in
    let size = g.met.E.Entry.size in
    omega arith
