-- The termination words by their letters, and the two decisions. Assumes nothing.
use Rattle.std.specs.Prelude.{Some, Option}
use Rattle.words.specs.declared.knowledge.Decision.{Decision}
use Rattle.words.specs.declared.knowledge.Decision.TheVariants as decision
use Rattle.words.specs.declared.term.TermWord.{TermWord}
use Rattle.words.specs.declared.term.TermWord.TheVariants as word

-- noncommittable
abbrev pub N : TermWord
N = word.Noncommittable

-- committable
abbrev pub C : TermWord
C = word.Committable

-- abort
abbrev pub A : TermWord
A = word.Abort

-- a decision to keep the item
abbrev pub to_abort : Option Decision
to_abort = Some decision.Abort

-- a decision to hand it over
abbrev pub to_commit : Option Decision
to_commit = Some decision.Commit
