use Rattle.std.proofs.Common.{◌≡◌, [], ◌∷◌, ◌++◌, length, replicate, sym, ap, ◌∙◌, arith}
use Rattle.std.proofs.lemmas.List.{take_more_set, replicate_more, take_all}
use Rattle.posts.proofs.Layouts.{cleared}
use Rattle.posts.proofs.stored.empty.Goals as goal

pub loop-entry-preserved : goal.loop-entry-preserved
loop-entry-preserved g c =
    let l = c.loop-entry in
    let blank = g.E.Entry.layout.blank in
    take_more_set l.memory l.entry-index c.blank.result (omega arith) ∙ ap (λ xs. xs ++ c.blank.result ∷ []) l.invariant ∙ ap (λ x. replicate l.entry-index blank ++ x ∷ []) c.blank.ensures ∙ replicate_more l.entry-index blank

pub returns : goal.returns
returns g c =
    let l = c.loop-entry in
    let layout = g.E.Entry.layout in
    let end : l.entry-index ≡ length c.args.memory.now = omega arith in
    let blanks : l.memory ≡ replicate (length c.args.memory.now) layout.blank = sym (take_all l.entry-index l.memory (omega arith)) ∙ l.invariant ∙ ap (λ n. replicate n layout.blank) end in
    let done = cleared layout g.met.E.Entry.sound.placed c.args.memory.now l.memory blanks in
    record { places = done.1; reach = done.0; memory = blanks }
