use Rattle.std.proofs.Common.{refl, arith, rules}
use Rattle.notice.proofs.Records.{all_formed, one_unformed}
use Rattle.notice.proofs.table.Records.formed.Goals as goal

pub returns-then-not-record_formed : goal.returns-then-not-record_formed
returns-then-not-record_formed c = (refl, one_unformed _ _ c.each-all.ensures.parts c.each-all.ensures.count c.loop-record.record-index (omega arith) (search rules))

pub invariant_of-result : goal.invariant_of-result
invariant_of-result c = record { formed = all_formed _ _ c.each-all.ensures.parts c.each-all.ensures.count (λ k low. c.loop-record.invariant k (omega arith)) }
