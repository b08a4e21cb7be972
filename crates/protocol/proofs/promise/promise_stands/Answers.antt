use Rattle.protocol.proofs.Whole.{kept}
use Rattle.protocol.proofs.promise.promise_stands.Goals as goal

pub returns : goal.returns
returns c = kept
