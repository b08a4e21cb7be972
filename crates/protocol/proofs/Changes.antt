-- What one call does to the records. Assumes nothing.
use Rattle.std.proofs.Common.{◌≡◌, ℕ, suc, ◌+◌, ◌<◌, Bool, true, false, cond, not, ◌&&◌, ◌||◌, eqb, ◌≢◌, ◌⊎◌, Some, Option, sym, refl, ap, ◌∙◌, inl, inr, arith}
use Rattle.std.proofs.lemmas.Bool.Decides.{nat_tests}
use Rattle.std.proofs.lemmas.Bool.{both_ways, cases_eq, cases_Bool, cond-true, cond-false, cond_both, and_left, or_right, eqb-false, eq-eqb, ne_eqb, and_from, or_cases}
use Rattle.std.proofs.Math.Bool.{or-false}
use Rattle.words.specs.declared.knowledge.Decision.{Decision}
use Rattle.words.specs.declared.knowledge.Knowledge.{Knowledge}
use Rattle.words.specs.declared.offices.Offices.{Offices}
use Rattle.words.specs.declared.term.TermWord.{TermWord}
use Rattle.words.specs.Offices.{member}
use Rattle.protocol.specs.declared.call.Call.{Call}
use Rattle.protocol.specs.declared.call.Call.TheVariants.{Vote, Speak, Hear, Close, DropOut, Notice, Join}
use Rattle.protocol.specs.declared.office.Office.{Office}
use Rattle.protocol.specs.Asked.{verdict}
use Rattle.protocol.specs.Model.{Model, office}
use Rattle.protocol.specs.Records.{terminating, undecided, latest, next_round, voted_yes, voted_no, dropped_out, told_of, entered}
use Rattle.protocol.specs.Rules.{learns}
use Rattle.protocol.specs.Steps.{heard_in, closed, with_office, after}
use Rattle.protocol.proofs.Updates.{at1_is}
use Rattle.protocol.specs.History.{drops_out, votes, closes, enters, closing_gives, gives}
use Rattle.protocol.proofs.Sums.{some_at, told_by, closed-yes, closed-no}
use Rattle.protocol.proofs.Votes.{heard_set}
use Rattle.protocol.proofs.View.{Good, office_set}
use Rattle.protocol.proofs.Guards as asked
use Rattle.protocol.proofs.Steps.{up_ending}

-- a termination closing of i
abbrev pub ends_round : Model → ℕ → Call → Bool
ends_round m i c = closes i c && terminating (office m i)

-- the acting office, and its record after the call
abbrev pub actor : Call → ℕ
actor (Vote i v) = i
actor (Speak i j) = i
actor (Hear i j) = i
actor (Close i) = i
actor (DropOut i) = i
actor (Notice i j) = i
actor (Join i) = i

abbrev pub record_after : Model → Call → Office
record_after m (Vote i v) = cond (eqb v 1) (voted_yes (office m i) i) (voted_no (office m i) i)
record_after m (Close i) = closed m i
record_after m (DropOut i) = dropped_out (office m i)
record_after m (Notice i j) = cond (terminating (office m i)) (told_of (office m i) j) (entered m.n (told_of (office m i) j))
record_after m (Join i) = entered m.n (office m i)
record_after m c = office m (actor c)

at_set : (m : Model) (w : ℕ → ℕ → TermWord) → Good m w → (i : ℕ) → i < m.n → (o : Office) (a : ℕ) → ((a ≡ i) × (office (with_office m i o) a ≡ o)) ⊎ ((a ≢ i) × (office (with_office m i o) a ≡ office m a))
at_set m w g i li o a =
    let few = g.fixed.few in
    let e = ap (λ (f : ℕ → Office). f a) (office_set m i o g.whole (omega arith)) in
    elim (at1_is (office m) i o a) [ inl (q, x) ↦ inl (q, e ∙ x) | inr (q, x) ↦ inr (q, e ∙ x) ]

same_offices : (m : Model) (i a : ℕ) (s : Model) → office s a ≡ office m a → ((a ≡ i) × (office s a ≡ office m i)) ⊎ ((a ≢ i) × (office s a ≡ office m a))
same_offices m i a s e = elim (cases_eq a i) [ inl q ↦ inl (q, e ∙ ap (office m) q) | inr ne ↦ inr (ne, e) ]

pub changed : (m : Model) (w : ℕ → ℕ → TermWord) → Good m w → (c : Call) → verdict m c ≡ 0 → (a : ℕ) → ((a ≡ actor c) × (office (after m c) a ≡ record_after m c)) ⊎ ((a ≢ actor c) × (office (after m c) a ≡ office m a))
changed m w g (Vote i v) ok a = at_set m w g i (asked.vote_asked m i v ok).0 _ a
changed m w g (Speak i j) ok a = same_offices m i a (after m (Speak i j)) (cond_both (terminating (office m i)) _ _ (λ (s : Model). office s a ≡ office m a) (λ _. refl) (λ _. refl))
changed m w g (Hear i j) ok a = same_offices m i a (after m (Hear i j)) (cond_both (terminating (office m i)) _ _ (λ (s : Model). office s a ≡ office m a) (λ _. refl) (λ _. refl))
changed m w g (Close i) ok a = at_set m w g i (asked.close_asked m i ok).0 _ a
changed m w g (DropOut i) ok a = at_set m w g i (asked.drop_asked m i ok).0 _ a
changed m w g (Notice i j) ok a = at_set m w g i (asked.notice_asked m i j ok).0 _ a
changed m w g (Join i) ok a = at_set m w g i (asked.join_asked m i ok).0 _ a

-- what the record of the acting office shows after the call
pub standing_new : (m : Model) (c : Call) → verdict m c ≡ 0 → (record_after m c).standing ≡ ((office m (actor c)).standing && not (drops_out (actor c) c))
standing_new m (DropOut i) ok = grind (arith, nat_tests)
standing_new m _ ok = grind arith

-- a test of the acting office fails for any other
not_acting : (i a : ℕ) → a ≢ i → eqb i a ≡ false
not_acting i a ne = ne_eqb i a (λ e. ne (sym e))

pub drops_other : (c : Call) (a : ℕ) → a ≢ actor c → drops_out a c ≡ false
drops_other (DropOut i) a ne = not_acting i a ne
drops_other _ a ne = refl

pub closes_other : (c : Call) (a : ℕ) → a ≢ actor c → closes a c ≡ false
closes_other (Close i) a ne = not_acting i a ne
closes_other _ a ne = refl

pub votes_other : (c : Call) (a v : ℕ) → a ≢ actor c → votes a v c ≡ false
votes_other (Vote i v) a x ne = and_left _ _ (not_acting i a ne)
votes_other _ a x ne = refl

pub decision_new : (m : Model) (c : Call) → verdict m c ≡ 0 → (record_after m c).decision ≡ latest (gives m (actor c) c) (office m (actor c)).decision
decision_new m (Vote i v) ok = let (_, _, v2, _, _) = asked.vote_asked m i v ok in voted_new v (office m i).decision v2
  where
    voted_new : (v : ℕ) (d : Option Decision) → v < 2 → (cond (eqb v 1) (voted_yes (office m i) i) (voted_no (office m i) i)).decision ≡ latest (gives m i (Vote i v)) (office m i).decision
    voted_new v d lt = grind (arith, nat_tests)
decision_new m (Close i) ok = elim (cases_Bool (terminating (office m i))) [ inl p ↦ rw (p, eq-eqb i i refl) refl | inr p ↦ rw (p, eq-eqb i i refl) refl ]
decision_new m (Notice i j) ok = cond_both (terminating (office m i)) _ _ (λ (o : Office). o.decision ≡ (office m i).decision) (λ _. refl) (λ _. refl)
decision_new m _ ok = refl

pick_round : (b : Bool) (o p : Office) (x y : Option Decision) (r old : Option ℕ) → o.deciding ≡ cond (undecided x) old r → p.deciding ≡ old → (cond b o p).deciding ≡ cond (b && not (undecided (cond b x y))) r old
pick_round true o p x y r old e f = grind arith
pick_round false o p x y r old e f = f

pub deciding_new : (m : Model) (c : Call) → (record_after m c).deciding ≡ cond (ends_round m (actor c) c && not (undecided (closing_gives m (actor c)))) (Some (office m (actor c)).round) (office m (actor c)).deciding
deciding_new m (Vote i v) = cond_both (eqb v 1) _ _ (λ (o : Office). o.deciding ≡ (office m i).deciding) (λ _. refl) (λ _. refl)
deciding_new m (Close i) = rw (eq-eqb i i refl) (pick_round (terminating (office m i)) _ _ _ _ (Some (office m i).round) (office m i).deciding refl refl)
deciding_new m (Notice i j) = cond_both (terminating (office m i)) _ _ (λ (o : Office). o.deciding ≡ (office m i).deciding) (λ _. refl) (λ _. refl)
deciding_new m _ = refl

-- a round more for a termination closing
pub ending_new : (m : Model) (w : ℕ → ℕ → TermWord) → Good m w → (c : Call) → verdict m c ≡ 0 → terminating (office m (actor c)) ≡ true → (terminating (record_after m c) ≡ true) × ((record_after m c).round ≡ cond (ends_round m (actor c) c) 1 0 + (office m (actor c)).round)
ending_new m w g (Vote i v) ok p = let (_, _, _, q, _) = asked.vote_asked m i v ok in absurd (both_ways _ q p)
ending_new m w g (Close i) ok p = (
  cond_both (terminating (office m i)) _ _ (λ (o : Office). terminating o ≡ true) (λ _. refl) (λ _. p),
  cond_both (terminating (office m i)) _ _ (λ (o : Office). o.round ≡ next_round (office m i).round) (λ _. refl) (λ _. refl) ∙ up_ending m w g i p ok ∙ more (eqb i i) (terminating (office m i)) (office m i).round (eq-eqb i i refl) p,
)
  where
    more : (a b : Bool) (r : ℕ) → a ≡ true → b ≡ true → suc r ≡ cond (a && b) 1 0 + r
    more a b r e f = grind arith
ending_new m w g (Notice i j) ok p = let e = cond-true (terminating (office m i)) (told_of (office m i) j) (entered m.n (told_of (office m i) j)) p in (ap terminating e ∙ p, ap (λ (o : Office). o.round) e ∙ omega arith)
ending_new m w g (Join i) ok p = let (_, _, q, _) = asked.join_asked m i ok in absurd (both_ways _ q p)
ending_new m w g _ ok p = (p, omega arith)

pub voting_new : (m : Model) (c : Call) → terminating (office m (actor c)) ≡ false → (terminating (record_after m c) ≡ false) ⊎ ((terminating (record_after m c) ≡ true) × ((record_after m c).round ≡ 1))
voting_new m (Vote i v) p = inl (cond_both (eqb v 1) _ _ (λ (o : Office). terminating o ≡ false) (λ _. p) (λ _. p))
voting_new m (Close i) p = inl (ap terminating (cond-false (terminating (office m i)) _ _ p) ∙ p)
voting_new m (Notice i j) p = let e = cond-false (terminating (office m i)) (told_of (office m i) j) (entered m.n (told_of (office m i) j)) p in inr (ap terminating e, ap (λ (o : Office). o.round) e)
voting_new m (Join i) p = inr (refl, refl)
voting_new m _ p = inl p

-- an office that closes its voting round has itself in its yes, or in its no, only where it had it before
own_yes : (m : Model) (w : ℕ → ℕ → TermWord) → Good m w → (i : ℕ) → member (learns m.n i (office m i).knowledge (heard_in m.voting i (office m i).round)).yes i ≡ true → member (office m i).knowledge.yes i ≡ true
own_yes m w g i x = elim (or_cases _ _ (sym (closed-yes m.n i (office m i).knowledge (heard_in m.voting i (office m i).round) i) ∙ x)) [
  | inl own ↦ own
  | inr other ↦ let (l, ll, y) = some_at m.n (λ l. member (told_by (heard_in m.voting i (office m i).round) l).yes i) other in
      (g.fair.yes_own l i (g.fair.in_yes l i (office m i).round i (heard_set (λ k. k.yes) refl (m.voting.places l i (office m i).round) i y))).1
]

own_no : (m : Model) (w : ℕ → ℕ → TermWord) → Good m w → (i : ℕ) → member (learns m.n i (office m i).knowledge (heard_in m.voting i (office m i).round)).no i ≡ true → member (office m i).knowledge.no i ≡ true
own_no m w g i x = elim (or_cases _ _ (sym (closed-no m.n i (office m i).knowledge (heard_in m.voting i (office m i).round) i) ∙ x)) [
  | inl own ↦ own
  | inr other ↦ let (l, ll, y) = some_at m.n (λ l. member (told_by (heard_in m.voting i (office m i).round) l).no i) other in
      (g.fair.no_own l i (g.fair.in_no l i (office m i).round i (heard_set (λ k. k.no) refl (m.voting.places l i (office m i).round) i y))).1
]

-- who has itself in f, its yes or its no, had it before, or votes v now
abbrev pub OwnVote : (Knowledge → Offices) → ℕ → Type 0
OwnVote f v = (m : Model) (w : ℕ → ℕ → TermWord) → Good m w → (c : Call) → verdict m c ≡ 0 → member (f (record_after m c).knowledge) (actor c) ≡ true → (votes (actor c) v c ≡ true) ⊎ (member (f (office m (actor c)).knowledge) (actor c) ≡ true)

own_vote : (f : Knowledge → Offices) (v : ℕ) →
    ((m : Model) (i x : ℕ) → x < 2 → member (f (record_after m (Vote i x)).knowledge) i ≡ true → (votes i v (Vote i x) ≡ true) ⊎ (member (f (office m i).knowledge) i ≡ true)) →
    ((m : Model) (w : ℕ → ℕ → TermWord) → Good m w → (i : ℕ) → member (f (learns m.n i (office m i).knowledge (heard_in m.voting i (office m i).round))) i ≡ true → member (f (office m i).knowledge) i ≡ true) → OwnVote f v
own_vote f v vote close m w g (Vote i x) ok e = let (_, _, lt, _, _) = asked.vote_asked m i x ok in vote m i x lt e
own_vote f v vote close m w g (Close i) ok e = inr (cond_both (terminating (office m i)) _ _ (λ (o : Office). member (f o.knowledge) i ≡ true → member (f (office m i).knowledge) i ≡ true) (λ _ x. x) (λ _ x. close m w g i x) e)
own_vote f v vote close m w g (Notice i j) ok e = inr (cond_both (terminating (office m i)) _ _ (λ (o : Office). member (f o.knowledge) i ≡ true → member (f (office m i).knowledge) i ≡ true) (λ _ x. x) (λ _ x. x) e)
own_vote f v vote close m w g _ ok e = inr e

pub yes_new : OwnVote (λ k. k.yes) 1
yes_new = own_vote (λ k. k.yes) 1 vote own_yes
  where
    vote : (m : Model) (i x : ℕ) → x < 2 → member (record_after m (Vote i x)).knowledge.yes i ≡ true → (votes i 1 (Vote i x) ≡ true) ⊎ (member (office m i).knowledge.yes i ≡ true)
    vote m i x lt = cond_both (eqb x 1) _ _ (λ (o : Office). member o.knowledge.yes i ≡ true → (votes i 1 (Vote i x) ≡ true) ⊎ (member (office m i).knowledge.yes i ≡ true)) (λ b _. inl (and_from _ _ (eq-eqb i i refl) b)) (λ _ e. inr e)

pub no_new : OwnVote (λ k. k.no) 0
no_new = own_vote (λ k. k.no) 0 vote own_no
  where
    vote : (m : Model) (i x : ℕ) → x < 2 → member (record_after m (Vote i x)).knowledge.no i ≡ true → (votes i 0 (Vote i x) ≡ true) ⊎ (member (office m i).knowledge.no i ≡ true)
    vote m i x lt = cond_both (eqb x 1) _ _ (λ (o : Office). member o.knowledge.no i ≡ true → (votes i 0 (Vote i x) ≡ true) ⊎ (member (office m i).knowledge.no i ≡ true)) (λ _ e. inr e)
        (λ b _. let z : x ≢ 1 = eqb-false x 1 b in inl (and_from _ _ (eq-eqb i i refl) (eq-eqb x 0 (omega arith))))

pub enters_other : (c : Call) (a : ℕ) → a ≢ actor c → enters a c ≡ false
enters_other (Notice i j) a ne = not_acting i a ne
enters_other (Join i) a ne = not_acting i a ne
enters_other _ a ne = refl

pub phase_new : (m : Model) (c : Call) → terminating (record_after m c) ≡ (terminating (office m (actor c)) || enters (actor c) c)
phase_new m (Vote i v) = cond_both (eqb v 1) _ _ (λ (o : Office). terminating o ≡ (terminating (office m i) || false)) (λ _. sym (or-false _)) (λ _. sym (or-false _))
phase_new m (Close i) = cond_both (terminating (office m i)) _ _ (λ (o : Office). terminating o ≡ (terminating (office m i) || false)) (λ p. sym p ∙ sym (or-false _)) (λ _. sym (or-false _))
phase_new m (Notice i j) = cond_both (terminating (office m i)) _ _ (λ (o : Office). terminating o ≡ (terminating (office m i) || eqb i i)) (λ p. p ∙ sym (or_right _ _ (eq-eqb i i refl))) (λ _. sym (or_right _ _ (eq-eqb i i refl)))
phase_new m (Join i) = sym (or_right _ _ (eq-eqb i i refl))
phase_new m _ = sym (or-false _)
