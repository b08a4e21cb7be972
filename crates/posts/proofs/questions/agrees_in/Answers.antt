use Rattle.std.proofs.Common.{◌≡◌, rules, tests, arith}
use Rattle.std.proofs.lemmas.Bool.Decides.{Decides-at}
use Rattle.std.proofs.lemmas.Iterator.{YieldsList-from_range}
use Rattle.std.proofs.lemmas.Iterator.Search.{all_from_yields_List}
use Rattle.words.specs.Below.{every}
use Rattle.posts.specs.Places.{agrees, consistent}
use Rattle.posts.proofs.Uses.{consistent_decides}
use Rattle.posts.proofs.questions.agrees_in.Goals as goal

pub returns-clause-rule : goal.returns-clause-rule
unfolding every
returns-clause-rule g c =
    let a = c.args in
    let p = g.P.PostView.places a.post.now in
    let eq = g.W.PartialEq.eq in
    let w = a.word.now in
    let is : c.all.result ≡ consistent eq p a.sender a.round w = all_from_yields_List (λ r. agrees eq w (p a.sender r a.round)) _ _ c.all.result c.all.ensures.ran (YieldsList-from_range 0 16 16 (cc) (omega arith)) (λ x b q k. search (rules, tests)) in
    Decides-at _ _ is (consistent_decides p (g.P.PostView.reach a.post.now) (g.P.PostView.laws.outside a.post.now) eq g.met.W.Word.exact a.sender a.round w)
