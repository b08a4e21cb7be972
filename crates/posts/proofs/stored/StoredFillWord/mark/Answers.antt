use Rattle.std.proofs.Common.{◌≡◌, get_or, ap, ◌∙◌, sym, rules, tests}
use Rattle.posts.specs.Layouts.{places_of, place_index}
use Rattle.posts.specs.Places.{within}
use Rattle.posts.proofs.Layouts.{stored_taken}
use Rattle.posts.proofs.stored.StoredFillWord.mark.Goals as goal

pub returns-clause-places : goal.returns-clause-places
returns-clause-places g c =
    let layout = g.E.Entry.layout in
    let memory = c.args.self.now.memory.now in
    let at = c.args.place.at in
    let w = c.args.word in
    let changed = c.change.ensures in
    let made : changed.0 ≡ layout.taken (get_or memory (place_index layout at.sender at.receiver at.round) layout.blank) at.receiver w = search (rules, tests) in
    let round = ap (λ n. within n at.round) (sym c.requires.served) ∙ c.args.place.round in
    ap (places_of layout) changed.2 ∙ stored_taken layout g.met.E.Entry.sound memory at.sender at.receiver at.round c.args.place.pair round w c.requires.waits changed.0 made
