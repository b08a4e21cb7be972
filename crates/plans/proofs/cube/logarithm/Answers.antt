use Rattle.std.proofs.Common.{arith, sym, ◌∙◌}
use Rattle.std.proofs.lemmas.Bool.Decides.{nat_tests}
use Rattle.std.specs.Int.Count.{ones}
use Rattle.plans.proofs.Logarithms.{log_is_rounds, rounds_are_log}
use Rattle.plans.proofs.cube.logarithm.Goals as goal

pub returns-then-n-le16-clause-value : goal.returns-then-n-le16-clause-value
returns-then-n-le16-clause-value c =
    let power = sym c.is_power_of_two.ensures ∙ c.if-is_power_of_two.true in
    let log = c.ilog2.ensures in
    log_is_rounds c.args.n c.ilog2.result power c.if-n-le16.true log.bound log.power_le log.next_power_gt

pub returns-then-n-le16-clause-log : goal.returns-then-n-le16-clause-log
returns-then-n-le16-clause-log c = rounds_are_log c.args.n c.ilog2.result (returns-then-n-le16-clause-value c)

pub returns-else-is_power_of_two-clause-value : goal.returns-else-is_power_of_two-clause-value
unfolding ones
returns-else-is_power_of_two-clause-value c =
    let is = c.is_power_of_two.ensures in
    let either = c.else-is_power_of_two.either in
    grind (arith, nat_tests)

pub returns-else-is_power_of_two-clause-log : goal.returns-else-is_power_of_two-clause-log
returns-else-is_power_of_two-clause-log c = rounds_are_log c.args.n 0 (returns-else-is_power_of_two-clause-value c)
