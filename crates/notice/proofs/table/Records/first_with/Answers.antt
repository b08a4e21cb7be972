use Rattle.std.proofs.Common.{arith}
use Rattle.notice.proofs.Records.{first_with, none_with}
use Rattle.notice.proofs.table.Records.first_with.Goals as goal

pub returns-then-record-code : goal.returns-then-record-code
returns-then-record-code c = first_with _ _ c.each-all.ensures.parts c.each-all.ensures.count c.args.code c.loop-record.record-index (omega arith) c.if-record-code.true c.loop-record.invariant

pub returns : goal.returns
returns c = none_with _ _ c.each-all.ensures.parts c.each-all.ensures.count c.args.code (λ k low. c.loop-record.invariant k (omega arith))
