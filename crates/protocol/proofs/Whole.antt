-- The promise, of every list of calls. Assumes nothing.
use Rattle.std.proofs.Common.{◌≡◌, ℕ, suc, ◌+◌, ◌<◌, ◌≤◌, true, not, ◌&&◌, ◌≢◌, ◌⊎◌, List, [], ◌∷◌, ◌++◌, None, sym, refl, ap, ◌∙◌, subst, inl, inr, arith}
use Rattle.std.proofs.lemmas.Bool.{not-true, not-false}
use Rattle.words.specs.Offices.{member}
use Rattle.protocol.specs.declared.call.Call.{Call}
use Rattle.protocol.specs.History.{count}
use Rattle.protocol.specs.Letters.{to_abort}
use Rattle.protocol.specs.Model.{Model, office}
use Rattle.protocol.specs.Openings.{Opening}
use Rattle.protocol.specs.Steps.{step, run}
use Rattle.protocol.specs.History.{dropped, voted, closings, held, holds, drop_outs, DecidesInTermination}
use Rattle.protocol.specs.History.{entered}
use Rattle.protocol.specs.Promise.{Promise, Kept, Stands}
use Rattle.protocol.proofs.Sums.{count_le}
use Rattle.protocol.proofs.View.{net}
use Rattle.protocol.proofs.Guards as asked
use Rattle.protocol.proofs.Runs as runs
use Rattle.protocol.proofs.Runs.{Fine}
use Rattle.protocol.proofs.Decided as decided
use Rattle.protocol.proofs.Deadlock as deadlock
use Rattle.protocol.proofs.History as history
use Rattle.protocol.specs.Records.{terminating}

module _ (m : Model) (o : Opening m) where
  open_fine : Fine m
  unfolding run
  open_fine = runs.fine m o []

  none-yes : (a : ℕ) → member (office m a).knowledge.yes a ≡ true → ⊥
  none-yes a = runs.none_in_record m o (λ o. o.knowledge.yes) refl refl a a

  none-no : (a : ℕ) → member (office m a).knowledge.no a ≡ true → ⊥
  none-no a = runs.none_in_record m o (λ o. o.knowledge.no) refl refl a a

  module _ (h : List Call) where
    fine : Fine (run m h)
    fine = runs.fine m o h

    same-n : (run m h).n ≡ m.n
    same-n = history.run-n m h

    shown : (i : ℕ) → (office (run m h) i).decision ≡ holds m h i
    shown i = history.decision_shown m open_fine h i ∙ ap (λ d. held m d h i) (runs.like m o (λ o. o.decision) None refl refl i)

    stood : (i : ℕ) → i < m.n → (office (run m h) i).standing ≡ not (dropped m h i)
    stood i li = history.standing_shown m open_fine h i ∙ ap (λ b. b && not (dropped m h i)) (runs.standing_at m o i li)

    phase : (i : ℕ) → terminating (office (run m h) i) ≡ entered m h i
    phase i = history.in_termination m open_fine h i (runs.in_voting m o i)

    in_run : (i : ℕ) → i < m.n → i < (run m h).n
    in_run i li = rw same-n li

    out_run : (i : ℕ) → i < (run m h).n → i < m.n
    out_run i li = rw same-n at li

    yes_said : (j : ℕ) → member (office (run m h) j).knowledge.yes j ≡ true → voted m h j 1 ≡ true
    yes_said j e = elim (history.yes-voted m open_fine h j e) [ inl q ↦ q | inr q ↦ absurd (none-yes j q) ]

    no_said : (j : ℕ) → member (office (run m h) j).knowledge.no j ≡ true → voted m h j 0 ≡ true
    no_said j e = elim (history.no-voted m open_fine h j e) [ inl q ↦ q | inr q ↦ absurd (none-no j q) ]

    some_no : (i : ℕ) → i < m.n → holds m h i ≡ to_abort → (j : ℕ) × (j < m.n) × ((voted m h j 0 ≡ true) ⊎ (dropped m h j ≡ true))
    some_no i li e =
        let (w, g) = fine in
        let (j, lj, x) = decided.abort_no (run m h) w g i (in_run i li) (shown i ∙ e) in
        (j, out_run j lj, elim x [ inl y ↦ inl (no_said j y) | inr y ↦ inr (not-false _ (sym (stood j (out_run j lj)) ∙ y)) ])

    limit : (i : ℕ) → DecidesInTermination m h i → suc (closings m h i) ≤ drop_outs m h + 1
    limit i d =
        let (w, g) = fine in
        let li = (asked.close_asked (run m h) i d.closing).0 in
        let p = phase i ∙ d.in_termination in
        let (_, _, lim, _) = (g.rec i li).still_open p (asked.close_ending (run m h) i p d.closing) in
        let r = history.rounds_shown m open_fine h i (runs.in_voting m o i) p in
        let e = same-n in
        let c = count_le m.n (net (run m h) w).dropped (dropped m h) (λ l ll x. not-false _ (sym (stood l ll) ∙ not-true _ x)) in
        let c' : count (run m h).n (net (run m h) w).dropped ≡ count m.n (net (run m h) w).dropped = ap (λ (n : ℕ). count n (net (run m h) w).dropped) e in
        omega arith

  prefix : (past later h : List Call) → h ≡ past ++ later → (i : ℕ) → holds m past i ≢ None → holds m h i ≡ holds m past i
  prefix past later h e i nd =
      let q = shown past i in
      sym (shown h i) ∙ ap (λ (l : List Call). (office (run m l) i).decision) e ∙ ap (λ (s : Model). (office s i).decision) (history.run_append m past later)
      ∙ history.stays (run m past) (fine past) later i (λ z. nd (sym q ∙ z)) ∙ q

  promise : (h : List Call) → Promise m h (run m h)
  promise h = record {
    agreed = λ i j li lj a c. (let (w, g) = fine h in decided.opposite (run m h) w g i j (in_run h i li) (in_run h j lj) (shown h i ∙ a) (shown h j ∙ c));
    stays = λ i past later li e. prefix past later h e i;
    all_yes = λ i li e j lj. (let (w, g) = fine h in yes_said h j (decided.commit_yes (run m h) w g i (in_run h i li) (shown h i ∙ e) j (in_run h j lj)));
    some_no = some_no h;
    limit = λ i past later e d. limit past i d;
    no_deadlock = λ stuck i li nd un. (let (w, g) = fine h in deadlock.decided (run m h) w g stuck i (in_run h i li) (stood h i li ∙ ap not nd) (shown h i ∙ un));
    standing_shown = stood h;
    phase_shown = λ i li. phase h i;
    decision_shown = λ i li. shown h i;
    round_shown = λ i past later e d. ap (λ (l : List Call). (office (run m l) i).deciding) e ∙ history.round_shown m open_fine past later i (runs.in_voting m o i) d;
    round_none = λ i li none. history.round_none m open_fine h i (runs.like m o (λ o. o.deciding) None refl refl i) (λ past later e ok p nd. none past later e (record { closing = ok; in_termination = sym (phase past i) ∙ p; ruled = nd }));
  }

pub kept : Kept
kept m h o = promise m o h

-- a call that leaves the step keeps the promise
pub stands : (s : Model) (c : Call) (t : Model) → t ≡ step s c → Stands s c t
unfolding run
stands s c t e m h o q = (
  subst (Promise m h) (sym q) (kept m h o),
  subst (Promise m (h ++ (c ∷ []))) (history.run_append m h (c ∷ []) ∙ ap (λ (x : Model). step x c) (sym q) ∙ sym e) (kept m (h ++ (c ∷ [])) o),
)
