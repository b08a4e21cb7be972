-- The class of a knowledge among n offices, and which classes are decisions. Assumes nothing.
use Rattle.std.specs.Prelude.{ℕ, cond, Some, None, Option}
use Rattle.words.specs.declared.knowledge.Class.{Class}
use Rattle.words.specs.declared.knowledge.Class.TheVariants.{Noncommittable, Committable, Committed, Aborted}
use Rattle.words.specs.declared.knowledge.Decision.{Decision}
use Rattle.words.specs.declared.knowledge.Decision.TheVariants.{Commit, Abort}
use Rattle.words.specs.declared.knowledge.Knowledge.{Knowledge}
use Rattle.words.specs.Offices.{empty, full, Vacant, Inhabited, HoldsAll}

-- the class, case by case: aborted if no has a member; else committed if ready holds all n; else committable if yes holds all n; else noncommittable
abbrev pub Classified : ℕ → Knowledge → Class → Type 0
Classified n k Aborted = Inhabited k.no
Classified n k Committed = Vacant k.no × HoldsAll n k.ready
Classified n k Committable = Vacant k.no × (HoldsAll n k.ready → ⊥) × HoldsAll n k.yes
Classified n k Noncommittable = Vacant k.no × (HoldsAll n k.ready → ⊥) × (HoldsAll n k.yes → ⊥)

-- the class, computed
abbrev pub class_of : ℕ → Knowledge → Class
class_of n k = cond (empty k.no) (cond (full n k.ready) Committed (cond (full n k.yes) Committable Noncommittable)) Aborted

-- the decision that a class is: committed and aborted are decisions, the others are none
abbrev pub decision_of : Class → Option Decision
decision_of Aborted = Some Abort
decision_of Committed = Some Commit
decision_of Committable = None
decision_of Noncommittable = None
