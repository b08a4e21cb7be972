-- The questions that the seven calls ask of a release, in their order. Assumes nothing.
use Rattle.std.specs.Prelude.{ℕ, Bool, cond, not, ◌&&◌, ◌||◌, List, [], ◌∷◌, ◌==◌, nat_le, nat_lt}
use Rattle.refusals.specs.Questions.{first_no}
use Rattle.words.specs.Below.{every, some}
use Rattle.words.specs.Knowledge.{same_knowledge}
use Rattle.words.specs.Offices.{member}
use Rattle.words.specs.Terms.{same_term}
use Rattle.posts.specs.declared.fault.PostFault.TheVariants.{Offices, Round, OtherWord, Filled, NothingWaits}
use Rattle.posts.specs.Faults.{post_number}
use Rattle.posts.specs.Places.{vacant, waits, legal, within, consistent}
use Rattle.posts.specs.Tests.{some_waits}
use Rattle.protocol.specs.declared.call.Call.{Call}
use Rattle.protocol.specs.declared.call.Call.TheVariants.{Vote, Speak, Hear, Close, DropOut, Notice, Join}
use Rattle.protocol.specs.declared.fault.CallFault.TheVariants.{NoSuchOffice, SameOffice, DroppedOut, NoSuchVote, NotVoting, AlreadyVoted, MayNotSpeak, NotNamed, RoundNotOpen, NotSpokenToAll, NotHeardAll, StillStanding, AlreadyTold, WordWaits, NoWordWaits}
use Rattle.protocol.specs.declared.office.Office.{Office}
use Rattle.protocol.specs.Faults.{call_number}
use Rattle.protocol.specs.Hearing.{heard, spoke}
use Rattle.protocol.specs.Model.{Mail, Model, office, plan_round, voting_rounds}
use Rattle.protocol.specs.Records.{terminating, word, undecided}

-- whether a word waits from s for r, within the reach of the post
unfoldable pub waiting_from : {W : Type 0} → Mail W → ℕ → ℕ → Bool
waiting_from p s r = some_waits p.places p.reach s r

-- whether the word equals the sender's other words of that round
unfoldable pub as_before : {W : Type 0} → (W → W → Bool) → Mail W → ℕ → ℕ → W → Bool
as_before alike p s k w = consistent alike p.places s k w

-- what a post asks before w is posted from s to r in round k
abbrev pub posting : {W : Type 0} → (W → W → Bool) → Mail W → ℕ → ℕ → ℕ → W → List (ℕ × Bool)
posting alike p s r k w =
    (post_number Offices, legal s r)
    ∷ (post_number Round, within p.reach k)
    ∷ (post_number OtherWord, as_before alike p s k w)
    ∷ (post_number Filled, vacant (p.places s r k))
    ∷ []

-- what a post asks before the word from s to r in round k is taken
abbrev pub taking : {W : Type 0} → Mail W → ℕ → ℕ → ℕ → List (ℕ × Bool)
taking p s r k =
    (post_number Offices, legal s r)
    ∷ (post_number Round, within p.reach k)
    ∷ (post_number NothingWaits, waits (p.places s r k))
    ∷ []

-- whether an office in voting has voted and has a round left
abbrev pub may_go_on : Model → Office → Bool
may_go_on m o = o.voted && nat_le o.round (voting_rounds m.h o.decision)

-- whether an office's round is open: in voting, voted, with a round left; or undecided in the termination
abbrev pub round_open : Model → Office → Bool
round_open m o = cond (terminating o) (undecided o.decision) (may_go_on m o)

-- whether the plan names the pair in an office's voting round, or the office is in the termination
abbrev pub may_pair : Model → Office → ℕ → ℕ → Bool
may_pair m o s l = terminating o || m.names (plan_round m.h o.round) s l

-- whether office i must deal with j in the termination: j is another office, of whose drop-out i was not told
abbrev pub counts_on : Model → ℕ → ℕ → Bool
counts_on m i j = not (i == j) && not (member (office m i).told j)

-- whether office i must speak to j in its round: in voting where the plan names them, i first
abbrev pub must_speak : Model → ℕ → ℕ → Bool
must_speak m i j = cond (terminating (office m i)) (counts_on m i j) (m.names (plan_round m.h (office m i).round) i j)

-- whether office i must hear j in its round: in voting where the plan names them, j first
abbrev pub must_hear : Model → ℕ → ℕ → Bool
must_hear m i j = cond (terminating (office m i)) (counts_on m i j) (m.names (plan_round m.h (office m i).round) j i)

-- whether office i has spoken to j in its round
abbrev pub spoken_to : Model → ℕ → ℕ → Bool
spoken_to m i j = cond (terminating (office m i)) (not (vacant (m.termination.places i j (office m i).round))) (not (vacant (m.voting.places i j (office m i).round)))

-- whether office i has heard j in its round
abbrev pub heard_from : Model → ℕ → ℕ → Bool
heard_from m i j = cond (terminating (office m i)) (spoke (heard (m.termination.places j i (office m i).round))) (spoke (heard (m.voting.places j i (office m i).round)))

-- the questions of a call, in their order, each with its number
abbrev pub questions : Model → Call → List (ℕ × Bool)
questions m (Vote i v) = let o = office m i in
    (call_number NoSuchOffice, nat_lt i m.n)
    ∷ (call_number DroppedOut, o.standing)
    ∷ (call_number NoSuchVote, nat_lt v 2)
    ∷ (call_number NotVoting, not (terminating o))
    ∷ (call_number AlreadyVoted, not o.voted)
    ∷ []
questions m (Speak i j) = let o = office m i in
    (call_number NoSuchOffice, nat_lt i m.n && nat_lt j m.n)
    ∷ (call_number SameOffice, not (i == j))
    ∷ (call_number DroppedOut, o.standing)
    ∷ (call_number MayNotSpeak, terminating o || may_go_on m o)
    ∷ (call_number NotNamed, may_pair m o i j)
    ∷ cond (terminating o) (posting same_term m.termination i j o.round (word o)) (posting same_knowledge m.voting i j o.round o.knowledge)
questions m (Hear i j) = let o = office m i in
    (call_number NoSuchOffice, nat_lt i m.n && nat_lt j m.n)
    ∷ (call_number SameOffice, not (i == j))
    ∷ (call_number DroppedOut, o.standing)
    ∷ (call_number RoundNotOpen, round_open m o)
    ∷ (call_number NotNamed, may_pair m o j i)
    ∷ cond (terminating o) (taking m.termination j i o.round) (taking m.voting j i o.round)
questions m (Close i) = let o = office m i in
    (call_number NoSuchOffice, nat_lt i m.n)
    ∷ (call_number DroppedOut, o.standing)
    ∷ (call_number RoundNotOpen, round_open m o)
    ∷ (call_number NotSpokenToAll, every m.n (λ j. not (must_speak m i j) || spoken_to m i j))
    ∷ (call_number NotHeardAll, every m.n (λ j. not (must_hear m i j) || heard_from m i j))
    ∷ []
questions m (DropOut i) =
    (call_number NoSuchOffice, nat_lt i m.n)
    ∷ (call_number DroppedOut, (office m i).standing)
    ∷ []
questions m (Notice i j) =
    (call_number NoSuchOffice, nat_lt i m.n && nat_lt j m.n)
    ∷ (call_number SameOffice, not (i == j))
    ∷ (call_number DroppedOut, (office m i).standing)
    ∷ (call_number StillStanding, not (office m j).standing)
    ∷ (call_number AlreadyTold, not (member (office m i).told j))
    ∷ (call_number WordWaits, not (waiting_from m.termination j i))
    ∷ []
questions m (Join i) =
    (call_number NoSuchOffice, nat_lt i m.n)
    ∷ (call_number DroppedOut, (office m i).standing)
    ∷ (call_number NotVoting, not (terminating (office m i)))
    ∷ (call_number NoWordWaits, some m.n (λ j. waiting_from m.termination j i))
    ∷ []

-- what a call answers: the number of the first question that gets a no, or 0 where it is accepted
abbrev pub verdict : Model → Call → ℕ
verdict m c = first_no (questions m c)
