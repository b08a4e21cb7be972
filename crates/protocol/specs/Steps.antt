-- What a call leaves, and a list of calls. Assumes nothing.
use Rattle.std.specs.Prelude.{ℕ, ◌-◌, cond, List, [], ◌∷◌, ◌==◌, slice_set}
use Rattle.words.specs.declared.knowledge.Knowledge.{Knowledge}
use Rattle.words.specs.declared.term.TermWord.{TermWord}
use Rattle.posts.specs.declared.place.Place.{Place}
use Rattle.posts.specs.declared.place.Place.TheVariants.{Empty, Waiting, Taken}
use Rattle.posts.specs.Places.{put}
use Rattle.protocol.specs.declared.call.Call.{Call}
use Rattle.protocol.specs.declared.call.Call.TheVariants.{Vote, Speak, Hear, Close, DropOut, Notice, Join}
use Rattle.protocol.specs.declared.office.Office.{Office}
use Rattle.protocol.specs.Asked.{verdict}
use Rattle.protocol.specs.Hearing.{Heard, heard}
use Rattle.protocol.specs.Model.{Mail, Model, office}
use Rattle.protocol.specs.Records.{terminating, word, voted_yes, voted_no, dropped_out, told_of, entered, closed_voting, closed_termination}

-- a word that waited is taken
abbrev pub taken : {W : Type 0} → Place W → Place W
taken Empty = Empty
taken (Waiting w) = Taken w
taken (Taken w) = Taken w

-- a post with x in one place, and else as before
unfoldable pub filled : {W : Type 0} → Mail W → ℕ → ℕ → ℕ → Place W → Mail W
filled p s r k x = record p { places = put p.places s r k x }

-- what office i has heard in round k
abbrev pub heard_in : {W : Type 0} → Mail W → ℕ → ℕ → Heard W
heard_in p i k l = heard (p.places l i k)

-- office i's record once it closed its round
abbrev pub closed : Model → ℕ → Office
closed m i = let o = office m i in
    cond (terminating o)
    (closed_termination m.n o (heard_in m.termination i o.round) (heard_in m.termination i (o.round - 1)))
    (closed_voting m.n i o (heard_in m.voting i o.round))

-- a release with office i's record changed, and no other
abbrev pub with_office : Model → ℕ → Office → Model
with_office m i o = record m { offices = slice_set m.offices i o }

-- a release with its voting post changed
abbrev pub with_voting : Model → Mail Knowledge → Model
with_voting m p = record m { voting = p }

-- a release with its termination post changed
abbrev pub with_termination : Model → Mail TermWord → Model
with_termination m p = record m { termination = p }

-- what an accepted call leaves
abbrev pub after : Model → Call → Model
after m (Vote i v) = with_office m i (cond (v == 1) (voted_yes (office m i) i) (voted_no (office m i) i))
after m (Speak i j) = let o = office m i in
    cond (terminating o) (with_termination m (filled m.termination i j o.round (Waiting (word o)))) (with_voting m (filled m.voting i j o.round (Waiting o.knowledge)))
after m (Hear i j) = let o = office m i in
    cond (terminating o) (with_termination m (filled m.termination j i o.round (taken (m.termination.places j i o.round)))) (with_voting m (filled m.voting j i o.round (taken (m.voting.places j i o.round))))
after m (Close i) = with_office m i (closed m i)
after m (DropOut i) = with_office m i (dropped_out (office m i))
after m (Notice i j) = let o = told_of (office m i) j in with_office m i (cond (terminating o) o (entered m.n o))
after m (Join i) = with_office m i (entered m.n (office m i))

-- a call: accepted, it leaves what it leaves; refused, it changes nothing
abbrev pub step : Model → Call → Model
step m c = cond (verdict m c == 0) (after m c) m

-- a list of calls
unfoldable pub run : Model → List Call → Model
run m [] = m
run m (c ∷ cs) = run (step m c) cs
