-- What the accepted calls of a list say of an office. Assumes nothing.
use Rattle.std.specs.Prelude.{◌≡◌, ℕ, zero, suc, ◌+◌, ◌-◌, Bool, true, false, cond, ◌&&◌, ◌||◌, ◌≢◌, List, [], ◌∷◌, None, Option, ◌==◌}
use Rattle.words.specs.declared.knowledge.Decision.{Decision}
use Rattle.words.specs.Classes.{decision_of}
use Rattle.protocol.specs.declared.call.Call.{Call}
use Rattle.protocol.specs.declared.call.Call.TheVariants.{Vote, Close, DropOut, Notice, Join}
use Rattle.protocol.specs.Asked.{verdict}
use Rattle.protocol.specs.Letters.{to_abort}
use Rattle.protocol.specs.Model.{Model, office}
use Rattle.protocol.specs.Records.{prior, terminating, word, latest}
use Rattle.protocol.specs.Rules.{learns, class, ruling}
use Rattle.protocol.specs.Steps.{heard_in, step, run}

-- the call is a drop-out of office i
abbrev pub drops_out : ℕ → Call → Bool
drops_out i (DropOut a) = a == i
drops_out i _ = false

-- the call is a vote v of office i
abbrev pub votes : ℕ → ℕ → Call → Bool
votes i v (Vote a x) = a == i && x == v
votes i v _ = false

-- the call is a closing of office i
abbrev pub closes : ℕ → Call → Bool
closes i (Close a) = a == i
closes i _ = false

-- the call is a notice to office i, or its join: after it, it is in the termination
abbrev pub enters : ℕ → Call → Bool
enters i (Notice a b) = a == i
enters i (Join a) = a == i
enters i _ = false

-- the call is a drop-out
abbrev pub is_drop_out : Call → Bool
is_drop_out (DropOut a) = true
is_drop_out _ = false

-- the call is accepted
abbrev pub accepted : Model → Call → Bool
accepted m c = verdict m c == 0

-- some accepted call of the list passes p
unfoldable pub made : Model → List Call → (Call → Bool) → Bool
made m [] p = false
made m (c ∷ cs) p = (accepted m c && p c) || made (step m c) cs p

-- office i dropped out; until then it is standing
abbrev pub dropped : Model → List Call → ℕ → Bool
dropped m h i = made m h (drops_out i)

-- office i voted v: 1 is yes, 0 is no
abbrev pub voted : Model → List Call → ℕ → ℕ → Bool
voted m h i v = made m h (votes i v)

-- office i entered the termination
abbrev pub entered : Model → List Call → ℕ → Bool
entered m h i = made m h (enters i)

-- how many numbers below n pass p
unfoldable pub count : ℕ → (ℕ → Bool) → ℕ
count zero p = 0
count (suc n) p = cond (p n) 1 0 + count n p

-- F: how many offices dropped out
abbrev pub drop_outs : Model → List Call → ℕ
drop_outs m h = count m.n (dropped m h)

-- how many closings of office i in the termination the list has, where e says whether it entered before
unfoldable pub closings_since : Model → Bool → List Call → ℕ → ℕ
closings_since m e [] i = 0
closings_since m e (c ∷ cs) i = cond (accepted m c && (e && closes i c)) 1 0 + closings_since (step m c) (e || (accepted m c && enters i c)) cs i

-- how many closings office i has made in the termination
abbrev pub closings : Model → List Call → ℕ → ℕ
closings m h i = closings_since m false h i

-- the decision that a closing of office i gives: in the termination by the rules, in voting by the class that it leaves
abbrev pub closing_gives : Model → ℕ → Option Decision
closing_gives m i = let o = office m i in
    cond (terminating o)
    (ruling m.n o.round (word o) (heard_in m.termination i o.round) (prior o) (heard_in m.termination i (o.round - 1)))
    (decision_of (class m.n (learns m.n i o.knowledge (heard_in m.voting i o.round))))

-- the decision that a call gives office i: a vote 0 gives abort, a closing what it gives, and no other call gives one
abbrev pub gives : Model → ℕ → Call → Option Decision
gives m i c = cond (votes i 0 c) to_abort (cond (closes i c) (closing_gives m i) None)

-- what office i holds after the list, where it held d before: what the latest accepted call that gave it a decision gave
unfoldable pub held : Model → Option Decision → List Call → ℕ → Option Decision
held m d [] i = d
held m d (c ∷ cs) i = held (step m c) (latest (cond (accepted m c) (gives m i c) None) d) cs i

-- what office i holds after the list
abbrev pub holds : Model → List Call → ℕ → Option Decision
holds m h i = held m None h i

-- after the calls of `past`, office i decides in the termination by a closing
pub record DecidesInTermination (m : Model) (past : List Call) (i : ℕ) : Type 0 where
  pub closing : verdict (run m past) (Close i) ≡ 0
  pub in_termination : entered m past i ≡ true
  pub ruled : closing_gives (run m past) i ≢ None
