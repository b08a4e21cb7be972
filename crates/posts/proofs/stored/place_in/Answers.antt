use Rattle.std.proofs.Common.{sym}
use Rattle.posts.specs.Layouts.{layout_laws}
use Rattle.posts.proofs.Layouts.{place_read, refused_outside}
use Rattle.posts.proofs.stored.place_in.Goals as goal

pub returns-in-Ok : goal.returns-in-Ok
returns-in-Ok g c =
    let p = c.in-Ok.place in
    place_read g.E.Entry.layout g.met.E.Entry.sound.placed c.args.memory.now c.args.at p.at p.reach c.rounds_of.result c.index_of.result c.index-memory-index_of.result c.says.result c.in-Ok.ensures.0 c.in-Ok.ensures.1 c.rounds_of.ensures p.pair p.round c.index_of.ensures.is c.index-memory-index_of.is c.says.ensures

pub returns-in-Err : goal.returns-in-Err
returns-in-Err g c =
    let a = c.args.at in
    let past = refused_outside a.sender a.receiver a.round _ _ _ c.rounds_of.ensures c.in-Err.ensures in
    sym ((layout_laws g.E.Entry.layout (λ m. m)).outside c.args.memory.now a.sender a.receiver a.round past)
