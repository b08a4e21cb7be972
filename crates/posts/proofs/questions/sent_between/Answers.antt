use Rattle.std.proofs.Common.{not, rules, tests}
use Rattle.posts.specs.Places.{vacant}
use Rattle.posts.proofs.questions.sent_between.Goals as goal

pub returns : goal.returns
returns g c = c.in_some_round.ensures (λ x. not (vacant x)) (λ x b e. search (rules, tests))
