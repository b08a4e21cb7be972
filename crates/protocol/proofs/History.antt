-- What the records show is what the accepted calls of the list say. Assumes nothing.
use Rattle.std.proofs.Common.{◌≡◌, ℕ, suc, ◌+◌, ◌<◌, Bool, true, false, cond, not, ◌&&◌, ◌||◌, eqb, ◌≢◌, ◌⊎◌, List, [], ◌∷◌, ◌++◌, Some, None, Option, sym, refl, ap, ◌∙◌, ap₂, inl, inr, arith}
use Rattle.std.proofs.lemmas.Bool.{false≢true, both_ways, cond-true, cond-false, cond_both, eqb-true, eq-eqb, and_left, and_right, or_left, or_right, or_cases}
use Rattle.std.proofs.Math.Bool.{and-true, or-false, or_assoc}
use Rattle.words.specs.declared.knowledge.Decision.{Decision}
use Rattle.words.specs.declared.knowledge.Knowledge.{Knowledge}
use Rattle.words.specs.declared.offices.Offices.{Offices}
use Rattle.words.specs.declared.term.TermWord.{TermWord}
use Rattle.words.specs.Classes.{decision_of}
use Rattle.words.specs.Offices.{member, none}
use Rattle.protocol.specs.declared.call.Call.{Call}
use Rattle.protocol.specs.declared.call.Call.TheVariants.{Vote, Speak, Hear, Close, Notice}
use Rattle.protocol.specs.declared.office.Office.{Office}
use Rattle.protocol.specs.Asked.{verdict}
use Rattle.protocol.specs.Letters.{to_abort, to_commit}
use Rattle.protocol.specs.Model.{Model, office}
use Rattle.protocol.specs.Records.{terminating, undecided, latest}
use Rattle.protocol.specs.Rules.{class}
use Rattle.protocol.specs.Steps.{heard_in, after, step, run}
use Rattle.protocol.specs.History.{drops_out, votes, closes, enters, accepted, made, dropped, voted, closings_since, closings, closing_gives, gives, held, DecidesInTermination}
use Rattle.protocol.specs.History.{entered}
use Rattle.protocol.proofs.Sums.{some_at, some-member, told_by, closed-no}
use Rattle.protocol.proofs.Votes.{heard_set, none_before}
use Rattle.protocol.proofs.View as view
use Rattle.protocol.proofs.View.{Good}
use Rattle.protocol.proofs.Guards as asked
use Rattle.protocol.proofs.Steps.{after-closing, after_is, yes-class, no-class}
use Rattle.protocol.proofs.Runs.{Fine, fine_step, fine_run}
use Rattle.protocol.proofs.Decided.{class_abort, class_commit, all_ready}
use Rattle.protocol.proofs.Changes.{ends_round, actor, record_after, changed, standing_new, drops_other, closes_other, votes_other, enters_other, phase_new, decision_new, deciding_new, ending_new, voting_new, OwnVote, yes_new, no_new}

-- a call leaves the record of a as it was: it is refused, or another acts
abbrev Left : Model → Call → ℕ → Type 0
Left m c a = (accepted m c ≡ false) ⊎ (a ≢ actor c)

-- what is true of each office's record after one more call: it is true of each that the call leaves, and of the acting one's
step_at : (m : Model) → Fine m → (c : Call) (P : ℕ → Office → Type 0) → ((a : ℕ) → Left m c a → P a (office m a)) → (accepted m c ≡ true → verdict m c ≡ 0 → P (actor c) (record_after m c)) → (a : ℕ) → P a (office (step m c) a)
step_at m (w, g) c P left new a = cond_both (accepted m c) (after m c) m (λ (s : Model). P a (office s a))
    (λ e. let ok = eqb-true _ _ e in elim (changed m w g c ok a) [ inl (p, x) ↦ rw (x, p) (new e ok) | inr (ne, x) ↦ rw x (left a (inr ne)) ])
    (λ e. left a (inl e))

-- no accepted call of a passes a test of a's calls
idle : (m : Model) (c : Call) (a : ℕ) → Left m c a → (b : Bool) → (a ≢ actor c → b ≡ false) → (accepted m c && b) ≡ false
idle m c a x b other = elim x [ inl e ↦ and_left _ _ e | inr ne ↦ and_right _ _ (other ne) ]

step-n : (m : Model) (c : Call) → (step m c).n ≡ m.n
step-n m c = cond_both (accepted m c) (after m c) m (λ (s : Model). s.n ≡ m.n) (λ _. after-n c) (λ _. refl)
  where
    after-n : (c : Call) → (after m c).n ≡ m.n
    after-n (Speak i j) = cond_both (terminating (office m i)) _ _ (λ (s : Model). s.n ≡ m.n) (λ _. refl) (λ _. refl)
    after-n (Hear i j) = cond_both (terminating (office m i)) _ _ (λ (s : Model). s.n ≡ m.n) (λ _. refl) (λ _. refl)
    after-n _ = refl

pub run-n : (m : Model) (h : List Call) → (run m h).n ≡ m.n
unfolding run
run-n m [] = refl
run-n m (c ∷ h) = run-n (step m c) h ∙ step-n m c

pub run_append : (m : Model) (xs ys : List Call) → run m (xs ++ ys) ≡ run (run m xs) ys
unfolding run
run_append m [] ys = refl
run_append m (x ∷ xs) ys = run_append (step m x) xs ys

-- standing
step_standing : (m : Model) → Fine m → (c : Call) (a : ℕ) → (office (step m c) a).standing ≡ ((office m a).standing && not (accepted m c && drops_out a c))
step_standing m f c = step_at m f c (λ (a : ℕ) (o : Office). o.standing ≡ ((office m a).standing && not (accepted m c && drops_out a c)))
    (λ a x. keep _ _ (idle m c a x _ (drops_other c a)))
    (λ e ok. rw e (standing_new m c ok))
  where
    keep : (b d : Bool) → d ≡ false → b ≡ (b && not d)
    keep b d z = grind arith

pub standing_shown : (m : Model) → Fine m → (h : List Call) (a : ℕ) → (office (run m h) a).standing ≡ ((office m a).standing && not (dropped m h a))
unfolding run made
standing_shown m f [] a = sym (and-true _)
standing_shown m f (c ∷ h) a = standing_shown (step m c) (fine_step m f c) h a ∙ ap (λ b. b && not (dropped (step m c) h a)) (step_standing m f c a) ∙ regroup (office m a).standing (accepted m c && drops_out a c) (dropped (step m c) h a)
  where
    regroup : (a b c : Bool) → ((a && not b) && not c) ≡ (a && not (b || c))
    regroup a b c = grind arith

-- decisions
step_decision : (m : Model) → Fine m → (c : Call) (a : ℕ) → (office (step m c) a).decision ≡ latest (cond (accepted m c) (gives m a c) None) (office m a).decision
step_decision m f c = step_at m f c (λ (a : ℕ) (o : Office). o.decision ≡ latest (cond (accepted m c) (gives m a c) None) (office m a).decision)
    (λ a x. nothing (accepted m c) (votes a 0 c) (closes a c) (closing_gives m a) _ (idle m c a x _ (λ ne. votes_other c a 0 ne)) (idle m c a x _ (closes_other c a)))
    (λ e ok. rw e (decision_new m c ok))
  where
    nothing : (b x y : Bool) (d old : Option Decision) → (b && x) ≡ false → (b && y) ≡ false → old ≡ latest (cond b (cond x to_abort (cond y d None)) None) old
    nothing b x y d old p q = grind arith

pub decision_shown : (m : Model) → Fine m → (h : List Call) (a : ℕ) → (office (run m h) a).decision ≡ held m (office m a).decision h a
unfolding run held
decision_shown m f [] a = refl
decision_shown m f (c ∷ h) a = decision_shown (step m c) (fine_step m f c) h a ∙ ap (λ d. held (step m c) d h a) (step_decision m f c a)

-- votes
step_own : (f : Knowledge → Offices) (v : ℕ) → OwnVote f v → (m : Model) → Fine m → (c : Call) (a : ℕ) → member (f (office (step m c) a).knowledge) a ≡ true → ((accepted m c && votes a v c) ≡ true) ⊎ (member (f (office m a).knowledge) a ≡ true)
step_own f v own m (w, g) c = step_at m (w, g) c (λ (a : ℕ) (o : Office). member (f o.knowledge) a ≡ true → ((accepted m c && votes a v c) ≡ true) ⊎ (member (f (office m a).knowledge) a ≡ true))
    (λ a _ e. inr e)
    (λ e ok. rw e (own m w g c ok))

own_voted : (f : Knowledge → Offices) (v : ℕ) → OwnVote f v → (m : Model) → Fine m → (h : List Call) (a : ℕ) → member (f (office (run m h) a).knowledge) a ≡ true → (voted m h a v ≡ true) ⊎ (member (f (office m a).knowledge) a ≡ true)
unfolding run made
own_voted f v own m fi [] a e = inr e
own_voted f v own m fi (c ∷ h) a e = elim (own_voted f v own (step m c) (fine_step m fi c) h a e) [
  | inl q ↦ inl (or_right _ _ q)
  | inr q ↦ elim (step_own f v own m fi c a q) [ inl x ↦ inl (or_left _ _ x) | inr x ↦ inr x ]
]

pub yes-voted : (m : Model) → Fine m → (h : List Call) (a : ℕ) → member (office (run m h) a).knowledge.yes a ≡ true → (voted m h a 1 ≡ true) ⊎ (member (office m a).knowledge.yes a ≡ true)
yes-voted = own_voted (λ k. k.yes) 1 yes_new

pub no-voted : (m : Model) → Fine m → (h : List Call) (a : ℕ) → member (office (run m h) a).knowledge.no a ≡ true → (voted m h a 0 ≡ true) ⊎ (member (office m a).knowledge.no a ≡ true)
no-voted = own_voted (λ k. k.no) 0 no_new

-- phases
step_phase : (m : Model) → Fine m → (c : Call) (a : ℕ) → terminating (office (step m c) a) ≡ (terminating (office m a) || (accepted m c && enters a c))
step_phase m f c = step_at m f c (λ (a : ℕ) (o : Office). terminating o ≡ (terminating (office m a) || (accepted m c && enters a c)))
    (λ a x. keep _ _ (idle m c a x _ (enters_other c a)))
    (λ e _. rw e (phase_new m c))
  where
    keep : (b d : Bool) → d ≡ false → b ≡ (b || d)
    keep b d z = grind arith

pub phase_shown : (m : Model) → Fine m → (h : List Call) (a : ℕ) → terminating (office (run m h) a) ≡ (terminating (office m a) || entered m h a)
unfolding run made
phase_shown m f [] a = sym (or-false _)
phase_shown m f (c ∷ h) a = phase_shown (step m c) (fine_step m f c) h a ∙ ap (λ b. b || entered (step m c) h a) (step_phase m f c a) ∙ or_assoc (terminating (office m a)) (accepted m c && enters a c) (entered (step m c) h a)

-- the termination closings, by the phase that the record shows
unfoldable ended : Model → List Call → ℕ → ℕ
ended m [] i = 0
ended m (c ∷ cs) i = cond (accepted m c && ends_round m i c) 1 0 + ended (step m c) cs i

ended_is : (m : Model) → Fine m → (h : List Call) (a : ℕ) → closings_since m (terminating (office m a)) h a ≡ ended m h a
unfolding closings_since ended
ended_is m f [] a = refl
ended_is m f (c ∷ h) a =
    let one = swap (accepted m c) (terminating (office m a)) (closes a c) in
    let rest = ap (λ (b : Bool). closings_since (step m c) b h a) (sym (step_phase m f c a)) ∙ ended_is (step m c) (fine_step m f c) h a in
    ap₂ (λ (x y : ℕ). x + y) one rest
  where
    swap : (a b c : Bool) → ◌≡◌ {A = ℕ} (cond (a && (b && c)) 1 0) (cond (a && (c && b)) 1 0)
    swap a b c = grind arith

-- termination rounds
step_ending : (m : Model) → Fine m → (c : Call) (a : ℕ) → terminating (office m a) ≡ true → (terminating (office (step m c) a) ≡ true) × ((office (step m c) a).round ≡ cond (accepted m c && ends_round m a c) 1 0 + (office m a).round)
step_ending m (w, g) c = step_at m (w, g) c (λ (a : ℕ) (o : Office). terminating (office m a) ≡ true → (terminating o ≡ true) × (o.round ≡ cond (accepted m c && ends_round m a c) 1 0 + (office m a).round))
    (λ a x p. (p, keep _ _ (idle m c a x _ (λ ne. and_left _ _ (closes_other c a ne)))))
    (λ e ok. rw e (ending_new m w g c ok))
  where
    keep : (b : Bool) (r : ℕ) → b ≡ false → r ≡ cond b 1 0 + r
    keep b r z = grind arith

step-voting : (m : Model) → Fine m → (c : Call) (a : ℕ) → terminating (office m a) ≡ false → (terminating (office (step m c) a) ≡ false) ⊎ ((terminating (office (step m c) a) ≡ true) × ((office (step m c) a).round ≡ 1))
step-voting m f c = step_at m f c (λ (a : ℕ) (o : Office). terminating (office m a) ≡ false → (terminating o ≡ false) ⊎ ((terminating o ≡ true) × (o.round ≡ 1)))
    (λ a _ p. inl p)
    (λ _ _. voting_new m c)

rounds_on : (m : Model) → Fine m → (h : List Call) (a : ℕ) → terminating (office m a) ≡ true → (terminating (office (run m h) a) ≡ true) × ((office (run m h) a).round ≡ ended m h a + (office m a).round)
unfolding run ended
rounds_on m f [] a e = (e, omega arith)
rounds_on m f (c ∷ h) a e =
    let (p, q) = step_ending m f c a e in
    let (x, y) = rounds_on (step m c) (fine_step m f c) h a p in
    (x, omega arith)

rounds_ended : (m : Model) → Fine m → (h : List Call) (a : ℕ) → terminating (office m a) ≡ false → terminating (office (run m h) a) ≡ true → (office (run m h) a).round ≡ suc (ended m h a)
unfolding run ended
rounds_ended m f [] a p e = absurd (both_ways _ p e)
rounds_ended m f (c ∷ h) a p e =
    let z = no_close (accepted m c) (closes a c) (terminating (office m a)) p in
    elim (step-voting m f c a p) [
      | inl q ↦ let ih = rounds_ended (step m c) (fine_step m f c) h a q e in omega arith
      | inr (q, r) ↦ let (_, y) = rounds_on (step m c) (fine_step m f c) h a q in omega arith
    ]
  where
    no_close : (a b c : Bool) → c ≡ false → ◌≡◌ {A = ℕ} (cond (a && (b && c)) 1 0) 0
    no_close a b c e = grind arith

pub rounds_shown : (m : Model) → Fine m → (h : List Call) (a : ℕ) → terminating (office m a) ≡ false → terminating (office (run m h) a) ≡ true → (office (run m h) a).round ≡ suc (closings m h a)
rounds_shown m f h a p e = rounds_ended m f h a p e ∙ ap suc (sym (ended_is m f h a) ∙ ap (λ (b : Bool). closings_since m b h a) p)

-- who entered is in the termination
pub in_termination : (m : Model) → Fine m → (h : List Call) (a : ℕ) → terminating (office m a) ≡ false → terminating (office (run m h) a) ≡ entered m h a
in_termination m f h a p = phase_shown m f h a ∙ ap (λ b. b || entered m h a) p

-- a decision is never changed
module _ (m : Model) (w : ℕ → ℕ → TermWord) (g : Good m w) (i : ℕ) where
  no-from : (x : ℕ) → member (after-closing m w g i).no x ≡ true → (l : ℕ) × (member (office m l).knowledge.no x ≡ true)
  unfolding after-closing
  no-from x e = elim (or_cases _ _ (sym (closed-no m.n i (office m i).knowledge (heard_in m.voting i (office m i).round) x) ∙ e)) [
    | inl own ↦ (i, own)
    | inr told ↦ let (l, ll, y) = some_at m.n (λ l. member (told_by (heard_in m.voting i (office m i).round) l).no x) told in
        (l, g.fair.in_no l i (office m i).round x (heard_set (λ k. k.no) refl (m.voting.places l i (office m i).round) x y))
  ]

  both_stay : (d d' : Option Decision) → d ≢ None → (d ≡ to_abort → d' ≡ to_commit → ⊥) → (d ≡ to_commit → d' ≡ to_abort → ⊥) → latest d' d ≡ d
  both_stay d d' a b c = grind arith

  closing-stays : i < m.n → terminating (office m i) ≡ false → (office m i).decision ≢ None → latest (decision_of (class m.n (after-closing m w g i))) (office m i).decision ≡ (office m i).decision
  closing-stays li p nd =
      let de = ((g.rec i li).in_voting p).0 in
      both_stay (office m i).decision (decision_of (class m.n (after-closing m w g i))) nd
      (λ a c. abort_commit (no-class m w g i (after-closing m w g i) (λ z. class_abort m.n _ (sym de ∙ a) (none_before (view.votes m) i (ap (λ k. k.no.mask) (sym (after_is m w g i p)) ∙ z)))) c)
      (λ c a.
      let (x, e) = some-member (after-closing m w g i).no (class_abort m.n _ a) in
      let (l, y) = no-from x e in
      let (lx, z) = g.fair.no_own l x y in
      g.fair.one_vote x (all_ready m w g i (class_commit m.n _ (sym de ∙ c)) x lx) z)
    where
      abort_commit : {d : Option Decision} → d ≡ to_abort → d ≡ to_commit → ⊥
      abort_commit a b = grind arith

kept_new : (m : Model) (w : ℕ → ℕ → TermWord) → Good m w → (c : Call) → verdict m c ≡ 0 → (office m (actor c)).decision ≢ None → (record_after m c).decision ≡ (office m (actor c)).decision
unfolding after-closing
kept_new m w g (Vote i v) ok nd =
    let (li, _, _, p, vo) = asked.vote_asked m i v ok in
    let (k, _) = g.fair.blank i vo in
    absurd (nd (((g.rec i li).in_voting p).0 ∙ yes-class m w g i (office m i).knowledge (ap (λ k. k.no.mask) k) (ap (λ k. k.ready.mask) k)))
kept_new m w g (Close i) ok nd = cond_both (terminating (office m i)) _ _ (λ (o : Office). o.decision ≡ (office m i).decision)
    (λ p. absurd (nd (asked.close_ending m i p ok))) (λ p. closing-stays m w g i (asked.close_asked m i ok).0 p nd)
kept_new m w g (Notice i j) ok nd = cond_both (terminating (office m i)) _ _ (λ (o : Office). o.decision ≡ (office m i).decision) (λ _. refl) (λ _. refl)
kept_new m w g _ ok nd = refl

step_stays : (m : Model) → Fine m → (c : Call) (a : ℕ) → (office m a).decision ≢ None → (office (step m c) a).decision ≡ (office m a).decision
step_stays m (w, g) c = step_at m (w, g) c (λ (a : ℕ) (o : Office). (office m a).decision ≢ None → o.decision ≡ (office m a).decision)
    (λ _ _ _. refl)
    (λ _ ok. kept_new m w g c ok)

pub stays : (m : Model) → Fine m → (h : List Call) (a : ℕ) → (office m a).decision ≢ None → (office (run m h) a).decision ≡ (office m a).decision
unfolding run
stays m f [] a nd = refl
stays m f (c ∷ h) a nd = let e = step_stays m f c a nd in stays (step m c) (fine_step m f c) h a (λ z. nd (sym e ∙ z)) ∙ e

-- the deciding round
step_deciding : (m : Model) → Fine m → (c : Call) (a : ℕ) → (office (step m c) a).deciding ≡ cond (accepted m c && (ends_round m a c && not (undecided (closing_gives m a)))) (Some (office m a).round) (office m a).deciding
step_deciding m f c = step_at m f c (λ (a : ℕ) (o : Office). o.deciding ≡ cond (accepted m c && (ends_round m a c && not (undecided (closing_gives m a)))) (Some (office m a).round) (office m a).deciding)
    (λ a x. sym (cond-false _ _ _ (idle m c a x _ (λ ne. and_left _ _ (and_left _ _ (closes_other c a ne))))))
    (λ e _. rw e (deciding_new m c))

closes_is : (c : Call) (a : ℕ) → closes a c ≡ true → c ≡ Close a
closes_is (Close i) a e = ap Close (eqb-true i a e)
closes_is _ a e = absurd (false≢true e)

-- a call that does not end a round of a by a decision leaves its deciding round
deciding_left : (m : Model) → Fine m → (c : Call) (a : ℕ) → (c ≡ Close a → verdict m (Close a) ≡ 0 → terminating (office m a) ≡ true → closing_gives m a ≢ None → ⊥) → (office (step m c) a).deciding ≡ (office m a).deciding
deciding_left m f c a none = step_deciding m f c a ∙ cond-false _ _ _ (not_all (accepted m c) (closes a c) (terminating (office m a)) (closing_gives m a)
    (λ ok cl p nd. let q = closes_is c a cl in none q (ap (verdict m) (sym q) ∙ eqb-true _ _ ok) p nd))
  where
    not_all : (a b t : Bool) (d : Option Decision) → (a ≡ true → b ≡ true → t ≡ true → d ≢ None → ⊥) → (a && ((b && t) && not (undecided d))) ≡ false
    not_all a b t d n = grind arith

deciding_on : (m : Model) → Fine m → (h : List Call) (a : ℕ) → terminating (office m a) ≡ true → (office m a).decision ≢ None → (office (run m h) a).deciding ≡ (office m a).deciding
unfolding run
deciding_on m f [] a p nd = refl
deciding_on m f (c ∷ h) a p nd =
    let e = step_stays m f c a nd in
    deciding_on (step m c) (fine_step m f c) h a (step_ending m f c a p).0 (λ z. nd (sym e ∙ z)) ∙ deciding_left m f c a (λ _ ok p _. nd (asked.close_ending m a p ok))

-- i decides by the closing
decides : (m : Model) → Fine m → (i : ℕ) → verdict m (Close i) ≡ 0 → terminating (office m i) ≡ true → closing_gives m i ≢ None →
    (terminating (office (step m (Close i)) i) ≡ true) × ((office (step m (Close i)) i).decision ≢ None) × ((office (step m (Close i)) i).deciding ≡ Some (office m i).round)
decides m f i ok p nd =
    let e = step_decision m f (Close i) i in (
      (step_ending m f (Close i) i p).0,
      λ z. not_open (accepted m (Close i)) (eqb i i) (closing_gives m i) (office m i).decision (eq-eqb _ _ ok) (eq-eqb i i refl) nd (sym e ∙ z),
      step_deciding m f (Close i) i ∙ cond-true _ _ _ (all_four (accepted m (Close i)) (eqb i i) (terminating (office m i)) (closing_gives m i) (eq-eqb _ _ ok) (eq-eqb i i refl) p nd),
    )
  where
    not_open : (a b : Bool) (d e : Option Decision) → a ≡ true → b ≡ true → d ≢ None → latest (cond a (cond b d None) None) e ≡ None → ⊥
    not_open a b d e x y z q = grind arith

    all_four : (a b t : Bool) (d : Option Decision) → a ≡ true → b ≡ true → t ≡ true → d ≢ None → (a && ((b && t) && not (undecided d))) ≡ true
    all_four a b t d x y z q = grind arith

pub round_shown : (m : Model) → Fine m → (past later : List Call) (i : ℕ) → terminating (office m i) ≡ false → DecidesInTermination m past i → (office (run m (past ++ (Close i ∷ later))) i).deciding ≡ Some (suc (closings m past i))
unfolding run
round_shown m f past later i p d =
    let s = run m past in
    let fs = fine_run m f past in
    let (pe, nd, r) = decides s fs i d.closing (in_termination m f past i p ∙ d.in_termination) d.ruled in
    ap (λ (x : Model). (office x i).deciding) (run_append m past (Close i ∷ later)) ∙ deciding_on (step s (Close i)) (fine_step s fs (Close i)) later i pe nd ∙ r ∙ ap Some (rounds_shown m f past i p (in_termination m f past i p ∙ d.in_termination))

pub round_none : (m : Model) → Fine m → (h : List Call) (a : ℕ) → (office m a).deciding ≡ None →
    ((past later : List Call) → h ≡ past ++ (Close a ∷ later) → verdict (run m past) (Close a) ≡ 0 → terminating (office (run m past) a) ≡ true → closing_gives (run m past) a ≢ None → ⊥) → (office (run m h) a).deciding ≡ None
unfolding run
round_none m f [] a z never = z
round_none m f (c ∷ h) a z never =
    round_none (step m c) (fine_step m f c) h a (deciding_left m f c a (λ q. never [] h (ap (λ x. x ∷ h) q)) ∙ z) (λ past later e. never (c ∷ past) later (ap (λ l. c ∷ l) e))
