use Rattle.std.proofs.Common.{◌≡◌, get_or, ap, ◌∙◌, sym, rules, tests}
use Rattle.posts.specs.Layouts.{places_of, place_index, reach_of, layout_laws}
use Rattle.posts.specs.Places.{within}
use Rattle.posts.proofs.Layouts.{stored_posted}
use Rattle.posts.proofs.Uses.{consistent_decides}
use Rattle.posts.proofs.stored.StoredFillWord.fill.Goals as goal

pub returns-clause-places : goal.returns-clause-places
returns-clause-places g c =
    let layout = g.E.Entry.layout in
    let memory = c.args.self.now.memory.now in
    let at = c.args.place.at in
    let w = c.args.word in
    let changed = c.change.ensures in
    let made : changed.0 ≡ layout.posted (get_or memory (place_index layout at.sender at.receiver at.round) layout.blank) at.receiver w = search (rules, tests) in
    let round = ap (λ n. within n at.round) (sym c.requires.served) ∙ c.args.place.round in
    let agree = (consistent_decides (places_of layout memory) (reach_of layout memory) ((layout_laws layout (λ m. m)).outside memory) g.E.Word.PartialEq.eq g.met.E.Word.Word.exact at.sender at.round w).0 c.requires.agrees in
    ap (places_of layout) changed.2 ∙ stored_posted layout g.met.E.Entry.sound memory at.sender at.receiver at.round c.args.place.pair round w agree c.requires.free changed.0 made
