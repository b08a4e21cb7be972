use Rattle.std.proofs.Common.{◌≤◌, rules}
use borrow.Author.Tests.{tests}
use Rattle.notice.proofs.Records.{record_formed}
use Rattle.notice.proofs.table.record_formed.Goals as goal

pub returns-then-contains : goal.returns-then-contains
returns-then-contains c =
    let some : 1 ≤ c.from-length.result = search (rules, tests) in
    let fits : c.from-length.result ≤ 62 = search (rules, tests) in
    record_formed c.args.bytes.now c.from-length.result _ c.from-length.ensures (search rules) some fits c.all_zero.ensures
