use Rattle.std.proofs.Common.{◌≡◌, rules, tests}
use Rattle.std.proofs.lemmas.Bool.Decides.{Decides-at}
use Rattle.posts.specs.Places.{waits}
use Rattle.posts.specs.Tests.{some_waits}
use Rattle.posts.proofs.Uses.{waits_decides}
use Rattle.posts.proofs.questions.waits_between.Goals as goal

pub returns : goal.returns
returns g c =
    let a = c.args in
    let p = g.P.PostView.places a.post.now in
    let n = g.P.PostView.reach a.post.now in
    let is : c.in_some_round.result ≡ some_waits p n a.sender a.receiver = c.in_some_round.ensures waits (λ x b e. search (rules, tests)) in
    record { value = is; rule = Decides-at _ _ is (waits_decides p n (g.P.PostView.laws.outside a.post.now) a.sender a.receiver) }
