use Rattle.std.proofs.Common.{ℕ, ◌<◌, [], get_or}
use Rattle.notice.specs.Tables.{FormedAt}
use Rattle.notice.proofs.table.Records.formed.Given as goal

abbrev pub invariant-loop-record : goal.invariant-loop-record
invariant-loop-record l = (k : ℕ) → k < l.record-index → FormedAt (get_or l.all k []) 0
