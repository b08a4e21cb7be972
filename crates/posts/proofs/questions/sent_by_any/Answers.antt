use Rattle.std.proofs.Common.{◌≡◌, rules, tests, arith}
use Rattle.std.proofs.lemmas.Bool.Decides.{Decides-at}
use Rattle.std.proofs.lemmas.Iterator.{YieldsList-from_range}
use Rattle.std.proofs.lemmas.Iterator.Search.{any_from_yields_List}
use Rattle.words.specs.Below.{some}
use Rattle.posts.specs.Tests.{sent}
use Rattle.posts.proofs.Uses.{used_decides}
use Rattle.posts.proofs.questions.sent_by_any.Goals as goal

pub returns : goal.returns
unfolding some
returns g c =
    let p = g.P.PostView.places c.args.post.now in
    let n = g.P.PostView.reach c.args.post.now in
    let is : c.any.result ≡ some 16 (sent p n) = any_from_yields_List (sent p n) _ _ c.any.result c.any.ensures.ran (YieldsList-from_range 0 16 16 (cc) (omega arith)) (λ x b q k. search (rules, tests)) in
    Decides-at _ _ is (used_decides p n (g.P.PostView.laws.outside c.args.post.now))
