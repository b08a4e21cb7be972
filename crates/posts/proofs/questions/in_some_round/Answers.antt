use Rattle.std.proofs.Common.{◌+◌, rules, tests, arith}
use Rattle.std.proofs.lemmas.Iterator.{YieldsList-from_range}
use Rattle.std.proofs.lemmas.Iterator.Search.{any_from_yields_List}
use Rattle.words.specs.Below.{some}
use Rattle.posts.proofs.questions.in_some_round.Goals as goal

pub returns : goal.returns
unfolding some
returns g c p h =
    let a = c.args in
    let n = g.P.PostView.reach a.post.now in
    any_from_yields_List (λ j. p (g.P.PostView.places a.post.now a.sender a.receiver (j + 1))) _ _ c.any.result c.any.ensures.ran (YieldsList-from_range 0 n n (cc) (omega arith)) (λ x b q k. search (rules, tests, h))
