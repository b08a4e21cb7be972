-- The record of an office, and what each call makes of it. Assumes nothing.
use Rattle.std.specs.Prelude.{ℕ, ◌+◌, min, Bool, true, false, cond, Some, None, Option, is_some, unwrap_or, option_map, option_and_then}
use Rattle.words.specs.declared.knowledge.Decision.{Decision}
use Rattle.words.specs.declared.knowledge.Knowledge.{Knowledge}
use Rattle.words.specs.declared.term.TermWord.{TermWord}
use Rattle.words.specs.Classes.{decision_of}
use Rattle.words.specs.Knowledge.{knows_nothing}
use Rattle.words.specs.Offices.{none, added}
use Rattle.protocol.specs.declared.office.Office.{Office}
use Rattle.protocol.specs.Hearing.{Heard}
use Rattle.protocol.specs.Letters.{N, to_abort}
use Rattle.protocol.specs.Rules.{learns, class, first_word, ruling, next_word}

-- whether an office is in the termination; else it is in voting
abbrev pub terminating : Office → Bool
terminating o = is_some o.termination

-- an office's word of this termination round; N in voting
abbrev pub word : Office → TermWord
word o = unwrap_or (option_map (λ s. s.word) o.termination) N

-- an office's word of the termination round before; N in the first and in voting
abbrev pub prior : Office → TermWord
prior o = unwrap_or (option_and_then (λ s. s.prior) o.termination) N

-- the record of an office at the opening: standing, in voting, in round 1, unvoted, undecided, with empty knowledge
abbrev pub fresh : Office
fresh = record { standing = true; termination = None; voted = false; round = 1; knowledge = knows_nothing; told = none; decision = None; deciding = None }

-- whether no decision was taken
abbrev pub undecided : Option Decision → Bool
undecided None = true
undecided (Some d) = false

-- what an office holds: what the latest deciding call gave, and if this one gave nothing, what it held before
abbrev pub latest : Option Decision → Option Decision → Option Decision
latest None old = old
latest (Some d) old = Some d

-- the round after r; the number of a round is a byte, and no list of calls leads past round 33
abbrev pub next_round : ℕ → ℕ
next_round r = min (r + 1) 255

-- after the vote 1 of office i: it is in its own yes
abbrev pub voted_yes : Office → ℕ → Office
voted_yes o i = record o { voted = true; knowledge = record o.knowledge { yes = added o.knowledge.yes i } }

-- after the vote 0 of office i: it is in its own no, which is a decision to abort
abbrev pub voted_no : Office → ℕ → Office
voted_no o i = record o { voted = true; knowledge = record o.knowledge { no = added o.knowledge.no i }; decision = to_abort }

-- after a drop-out: it stands no more
abbrev pub dropped_out : Office → Office
dropped_out o = record o { standing = false }

-- once it was told of j's drop-out
abbrev pub told_of : Office → ℕ → Office
told_of o j = record o { told = added o.told j }

-- once it entered the termination: its knowledge is frozen, it is in round 1, and its class among n offices gives its first word
abbrev pub entered : ℕ → Office → Office
entered n o = record o { termination = Some (record { word = first_word (class n o.knowledge); prior = None }); round = 1 }

-- after office i closed a voting round in which it heard q: its class may now be a decision
abbrev pub closed_voting : ℕ → ℕ → Office → Heard Knowledge → Office
closed_voting n i o q =
    let k = learns n i o.knowledge q in
    record o { round = next_round o.round; knowledge = k; decision = latest (decision_of (class n k)) o.decision }

-- after it closed a termination round in which it heard q, and q' in the round before: the first rule that fits gives its decision and its next word
abbrev pub closed_termination : ℕ → Office → Heard TermWord → Heard TermWord → Office
closed_termination n o q q' =
    let d = ruling n o.round (word o) q (prior o) q' in
    record o { termination = Some (record { word = next_word n o.round (word o) q (prior o) q'; prior = Some (word o) }); round = next_round o.round; decision = latest d o.decision; deciding = cond (undecided d) o.deciding (Some o.round) }
