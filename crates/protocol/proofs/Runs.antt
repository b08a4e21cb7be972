-- Every run keeps what Good says. Assumes nothing.
use Rattle.std.proofs.Common.{◌≡◌, ℕ, ◌-◌, ◌<◌, ◌≤◌, Bool, true, false, cond, eqb, ◌⊎◌, List, [], ◌∷◌, length, get_or, None, sym, refl, ap, ◌∙◌, subst, inl, inr, arith}
use Rattle.std.proofs.lemmas.Bool.Decides.{nat_tests}
use Rattle.std.proofs.lemmas.Bool.{both_ways, cases_lt, cases_Bool, cond_both, eqb-true}
use Rattle.words.specs.declared.knowledge.Knowledge.{Knowledge}
use Rattle.words.specs.declared.offices.Offices.{Offices}
use Rattle.words.specs.declared.term.TermWord.{TermWord}
use Rattle.words.specs.Classes.{decision_of}
use Rattle.words.specs.Knowledge.{knows_nothing}
use Rattle.words.specs.Offices.{member, none, full}
use Rattle.words.proofs.Members.{member-none}
use Rattle.posts.specs.declared.place.Place.TheVariants.{Empty}
use Rattle.posts.specs.Places.{Places, vacant}
use Rattle.protocol.specs.declared.call.Call.{Call}
use Rattle.protocol.specs.declared.call.Call.TheVariants.{Vote, Speak, Hear, Close, DropOut, Notice, Join}
use Rattle.protocol.specs.declared.office.Office.{Office}
use Rattle.protocol.specs.Asked.{verdict}
use Rattle.protocol.specs.Letters.{N}
use Rattle.protocol.specs.Model.{Model, nobody, office}
use Rattle.protocol.specs.Openings.{Opening}
use Rattle.protocol.specs.Records.{terminating, fresh, closed_voting, closed_termination}
use Rattle.protocol.specs.Rules.{class}
use Rattle.protocol.specs.Steps.{heard_in, with_office, after, step, run}
use lib.ListN.{get_or-replicate, get_or-eq_default}
use Rattle.protocol.proofs.Sums.{full_at, no_member}
use Rattle.protocol.proofs.Voting.{content}
use Rattle.protocol.proofs.View.{t_of, r_of, Good}
use Rattle.protocol.proofs.Guards as asked
use Rattle.protocol.proofs.Steps as steps
use Rattle.protocol.proofs.Steps.{at_round}

-- the release is good, with some words of the termination
abbrev pub Fine : Model → Type 0
Fine m = (w : ℕ → ℕ → TermWord) × Good m w

fine_office : (m : Model) (i : ℕ) (b : Bool) (x y : Office) → (b ≡ true → Fine (with_office m i x)) → (b ≡ false → Fine (with_office m i y)) → Fine (with_office m i (cond b x y))
fine_office m i b x y = cond_both b x y (λ o. Fine (with_office m i o))

pub fine_after : (m : Model) → Fine m → (c : Call) → verdict m c ≡ 0 → Fine (after m c)
unfolding steps.after-voting steps.after_ending
fine_after m (w, g) (Vote i v) ok =
    let (li, st, v2, p, vo) = asked.vote_asked m i v ok in
    fine_office m i (eqb v 1) _ _ (λ _. (w, steps.vote_yes m w g i li p vo)) (λ _. (w, steps.vote_no m w g i li p vo))
fine_after m (w, g) (Speak i j) ok = cond_both (terminating (office m i)) _ _ Fine (λ p. (w, steps.speak_ending m w g i j p ok)) (λ p. (w, steps.speak_voting m w g i j p ok))
fine_after m (w, g) (Hear i j) ok = cond_both (terminating (office m i)) _ _ Fine (λ p. (w, steps.hear_ending m w g i j p ok)) (λ p. (w, steps.hear_voting m w g i j p ok))
fine_after m (w, g) (Close i) ok =
    fine_office m i (terminating (office m i)) _ _
    (λ p. subst (λ (r : ℕ). Fine (with_office m i (at_round (closed_termination m.n (office m i) (heard_in m.termination i (office m i).round) (heard_in m.termination i ((office m i).round - 1))) r))) (sym (steps.up_ending m w g i p ok)) (_, steps.close_ending m w g i p ok))
    (λ p. subst (λ (r : ℕ). Fine (with_office m i (at_round (closed_voting m.n i (office m i) (heard_in m.voting i (office m i).round)) r))) (sym (steps.up_voting m w g i p ok)) (w, steps.close_voting m w g i p ok))
fine_after m (w, g) (DropOut i) ok = (w, steps.drop_out m w g i ok)
fine_after m (w, g) (Notice i j) ok = fine_office m i (terminating (office m i)) _ _ (λ p. (w, steps.notice_ending m w g i j p ok)) (λ p. (_, steps.notice_voting m w g i j p ok))
fine_after m (w, g) (Join i) ok = (_, steps.join m w g i ok)

pub fine_step : (m : Model) → Fine m → (c : Call) → Fine (step m c)
fine_step m f c = cond_both (eqb (verdict m c) 0) (after m c) m Fine (λ e. fine_after m f c (eqb-true _ _ e)) (λ _. f)

pub fine_run : (m : Model) → Fine m → (h : List Call) → Fine (run m h)
unfolding run
fine_run m f [] = f
fine_run m f (c ∷ h) = fine_run (step m c) (fine_step m f c) h

-- the opening
module _ (m : Model) (o : Opening m) where
  fresh_at : (a : ℕ) → (office m a ≡ fresh) ⊎ (office m a ≡ nobody)
  fresh_at a = elim (cases_lt a 16) [
    | inl lt ↦ inl (ap (λ l. get_or l a nobody) o.all_fresh ∙ get_or-replicate 16 a fresh nobody lt)
    | inr ge ↦ inr (get_or-eq_default m.offices nobody (subst (λ (n : ℕ). n ≤ a) (sym (ap length o.all_fresh)) ge))
  ]

  -- what is the same in a fresh and in a nobody record
  pub like : {B : Type 0} (f : Office → B) (x : B) → f fresh ≡ x → f nobody ≡ x → (a : ℕ) → f (office m a) ≡ x
  like f x p q a = elim (fresh_at a) [ inl e ↦ ap f e ∙ p | inr e ↦ ap f e ∙ q ]

  pub standing_at : (a : ℕ) → a < m.n → (office m a).standing ≡ true
  standing_at a la = let few = o.few in ap (λ l. (get_or l a nobody).standing) o.all_fresh ∙ ap (λ (x : Office). x.standing) (get_or-replicate 16 a fresh nobody (omega arith))

  pub in_voting : (a : ℕ) → terminating (office m a) ≡ false
  in_voting = like terminating false refl refl

  no_t : (a : ℕ) → t_of (office m a) ≡ 0
  no_t = like t_of 0 refl refl

  r_low : (a : ℕ) → r_of (office m a) ≤ 1
  r_low a = elim (fresh_at a) [ inl e ↦ rw e (omega arith) | inr e ↦ rw e (omega arith) ]

  -- a set that is empty in a fresh record and in the record of nobody has no member
  pub none_in_record : (f : Office → Offices) → f fresh ≡ none → f nobody ≡ none → (a j : ℕ) → member (f (office m a)) j ≡ true → ⊥
  none_in_record f p q a j e = no_member (f (office m a)) j (ap (λ (s : Offices). s.mask) (like f none p q a)) e

  no-told : (a j : ℕ) → member (office m a).told j ≡ false
  no-told a j = ap (λ (x : Offices). member x j) (like (λ o. o.told) none refl refl a) ∙ member-none j

  no_word : (s d k : ℕ) → m.voting.places s d k ≡ Empty
  no_word s d k = ap (λ (p : Places Knowledge). p s d k) o.voting_unused

  none_in_place : (f : Knowledge → Offices) → f knows_nothing ≡ none → (s d k j : ℕ) → member (f (content (m.voting.places s d k))) j ≡ true → ⊥
  none_in_place f z s d k j e = no_member (f (content (m.voting.places s d k))) j (ap (λ p. (f (content p)).mask) (no_word s d k) ∙ ap (λ (s : Offices). s.mask) z) e

  all_vacant : (s d k : ℕ) → vacant (m.voting.places s d k) ≡ false → ⊥
  all_vacant s d k e = both_ways _ e (ap vacant (no_word s d k))

  no-ruling : decision_of (class m.n knows_nothing) ≡ None
  unfolding class
  no-ruling = elim (cases_Bool (full m.n none)) [
    | inr q ↦ grind (arith, nat_tests)
    | inl q ↦ let two = o.two in absurd (both_ways _ (member-none 0) (full_at m.n none q 0 (omega arith)))
  ]

  pub start : Good m (λ a k. N)
  start = record {
    fixed = record { two = o.two; few = o.few; rounds = o.some_rounds; short = o.few_rounds; voting_reach = o.voting_reach; termination_reach = o.termination_reach; proper = o.proper; covers = o.covers };
    whole = ap length o.all_fresh;
    sound = record {
      own = λ a b k. inl (ap (λ (p : Places TermWord). p a b k) o.termination_unused);
      zeroth = λ a. refl;
      grown = λ i k k1 lt. let z = no_t i in absurd (omega arith);
      closed = λ a b k k1 lt bn ne. let z = no_t a in absurd (omega arith);
      gone = λ i j e. absurd (none_in_record (λ o. o.told) refl refl i j e);
      quiet = λ i j k e. absurd (none_in_record (λ o. o.told) refl refl i j e);
      apart = λ i j e _. none_in_record (λ o. o.told) refl refl i j e;
      cause = λ a lt. let z = no_t a in absurd (omega arith);
    };
    fair = record {
      blank = λ i _. (like (λ o. o.knowledge) knows_nothing refl refl i, r_low i);
      yes_own = λ i j e. absurd (none_in_record (λ o. o.knowledge.yes) refl refl i j e);
      no_own = λ i j e. absurd (none_in_record (λ o. o.knowledge.no) refl refl i j e);
      ready_own = λ i j e. absurd (none_in_record (λ o. o.knowledge.ready) refl refl i j e);
      one_vote = λ j e _. none_in_record (λ o. o.knowledge.yes) refl refl j j e;
      in_yes = λ s d k j e. absurd (none_in_place (λ k. k.yes) refl s d k j e);
      in_no = λ s d k j e. absurd (none_in_place (λ k. k.no) refl s d k j e);
      in_ready = λ s d k j e. absurd (none_in_place (λ k. k.ready) refl s d k j e);
      lies = λ s d k. inl (no_word s d k);
      spoke = λ i j k k1 lt _ _. let z = r_low i in absurd (omega arith);
      took = λ i j k k1 lt _ _. let z = r_low i in absurd (omega arith);
      bounded = λ i. let z = r_low i in omega arith;
      learnt = λ i l _ e _ _. absurd (both_ways _ (like (λ o. o.voted) false refl refl i) e);
      learnt_in = λ s d k l e _. absurd (all_vacant s d k e);
      primed = λ i l _ lt _ _. let z = r_low i in let h = o.some_rounds in absurd (omega arith);
      primed_in = λ s d k l e _. absurd (all_vacant s d k e);
    };
    rec = λ a la. steps.voting_rec _ _ _ (in_voting a) (let few = o.few in let q : office m a ≡ fresh = ap (λ l. get_or l a nobody) o.all_fresh ∙ get_or-replicate 16 a fresh nobody (omega arith) in rw q (omega arith)) (no-told a) (like (λ o. o.decision) None refl refl a ∙ sym no-ruling ∙ ap (λ k. decision_of (class m.n k)) (sym (like (λ o. o.knowledge) knows_nothing refl refl a)), like (λ o. o.deciding) None refl refl a);
  }

  pub fine : (h : List Call) → Fine (run m h)
  fine h = fine_run m ((λ a k. N), start) h
