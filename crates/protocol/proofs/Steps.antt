-- Each accepted call keeps what Good says. Assumes nothing.
use Rattle.std.proofs.Common.{◌≡◌, ℕ, suc, ◌-◌, ◌<◌, ◌≤◌, Bool, true, false, cond, not, ◌&&◌, ◌||◌, eqb, ◌≢◌, Some, None, Option, sym, refl, ap, ◌∙◌, subst, inl, inr, arith}
use mathlib.Core.Path.{fun_ext}
use Rattle.std.proofs.lemmas.Bool.Decides.{nat_tests}
use Rattle.std.proofs.lemmas.Bool.{true≢false, both_ways, cases_eq, cases_Bool, cond-true, cond-false}
use Rattle.words.specs.declared.knowledge.Decision.{Decision}
use Rattle.words.specs.declared.knowledge.Knowledge.{Knowledge}
use Rattle.words.specs.declared.offices.Offices.{Offices}
use Rattle.words.specs.declared.term.TermWord.{TermWord}
use Rattle.words.specs.Classes.{decision_of}
use Rattle.words.specs.Offices.{member, added, full}
use Rattle.words.proofs.Members.{member-added}
use Rattle.posts.specs.declared.place.Place.{Place}
use Rattle.posts.specs.declared.place.Place.TheVariants.{Empty, Waiting}
use Rattle.posts.specs.Places.{vacant}
use Rattle.protocol.specs.declared.call.Call.TheVariants.{Speak, Hear, Close, DropOut, Notice, Join}
use Rattle.protocol.specs.declared.office.Office.{Office}
use Rattle.protocol.specs.Asked.{waiting_from, verdict}
use Rattle.protocol.specs.Hearing.{heard, spoke}
use Rattle.protocol.specs.Letters.{N, to_abort}
use Rattle.protocol.specs.Model.{Mail, Model, office, voting_rounds}
use Rattle.protocol.specs.Records.{prior, terminating, word, undecided, latest, next_round, voted_yes, voted_no, dropped_out, told_of, entered, closed_voting, closed_termination}
use Rattle.protocol.specs.Rules.{learns, class, first_word, ruling, next_word}
use Rattle.protocol.specs.Steps.{taken, filled, heard_in, with_office, with_voting, with_termination}
use Rattle.protocol.proofs.Updates.{at1, at2, at3, at1_is, at2_is, filled_is}
use Rattle.words.proofs.Members.{added_self}
use Rattle.protocol.proofs.Sums.{every_at, all_below, count_all, some_at, full_at, full_from, no_member}
use Rattle.protocol.proofs.Net.{Net, Deed, speak, hear, notice, close, drop, enter, May, does, word_after, fate_at, waits_for, Sound}
use Rattle.protocol.proofs.NetKeeps.{keeps_does, word_kept, fate_kept, made}
use Rattle.protocol.proofs.Decided.{no_rule}
use Rattle.protocol.proofs.NetLimit.{bounded, may_close}
use Rattle.protocol.proofs.Voting as v
use Rattle.protocol.proofs.Voting.{Votes, Fair, Plan, Can, moved}
use Rattle.protocol.proofs.Votes.{fair_kept, none_before, own_counts}
use Rattle.protocol.proofs.View.{t_of, r_of, net_of, votes_of, net, votes, Rec, Fixed, Good, rec_kept, at1_map, at1_id, net_eq, votes_eq, good_office}
use Rattle.protocol.proofs.Guards as asked

abbrev Words : Type 0
Words = ℕ → ℕ → TermWord

-- all that is true of the termination, for a table of offices
abbrev All : Net → (ℕ → Office) → Type 0
All s off = Sound s × ((a : ℕ) → a < s.n → Rec s a (off a))

told_map : (f : ℕ → Offices) (i j : ℕ) → j < 16 → (λ (a b : ℕ). member (at1 f i (added (f i) j) a) b) ≡ at2 (λ a b. member (f a) b) i j true
told_map f i j lt = fun_ext (λ a. fun_ext (λ b. let h = member-added (f i) j b in grind (arith, nat_tests, at1_is, at2_is)))

-- a record with another round
abbrev pub at_round : Office → ℕ → Office
at_round o r = record o { round = r }

-- the record of an office in voting
pub voting_rec : (s : Net) (i : ℕ) (o : Office) → terminating o ≡ false → 1 ≤ o.round → ((j : ℕ) → member o.told j ≡ false) → (o.decision ≡ decision_of (class s.n o.knowledge)) × (o.deciding ≡ None) → Rec s i o
voting_rec s i o p from told de = record {
  word_now = λ e. absurd (both_ways _ p e);
  prior_now = λ e. absurd (both_ways _ p e);
  first = λ e. absurd (both_ways _ p e);
  from = from;
  untold = λ _. told;
  in_voting = λ _. de;
  still_open = λ e. absurd (both_ways _ p e);
  shut = λ e. absurd (both_ways _ p e);
}

module _ (m : Model) (w : Words) (g : Good m w) where
  cover : Plan (votes m)
  cover = record { few = g.fixed.few; one = g.fixed.rounds; proper = g.fixed.proper; cover = g.fixed.covers }

  -- after a deed, with the records as they were
  deed : (c : Deed) → May (net m w) c → All (does (net m w) c) (office m)
  deed c ok = (keeps_does (net m w) g.sound c ok, λ a la. rec_kept (net m w) c a (office m a) ok refl (g.rec a la))

  fixed_on : (v : Mail Knowledge) (e : Mail TermWord) → v.reach ≡ m.voting.reach → e.reach ≡ m.termination.reach → Fixed (record m { voting = v; termination = e })
  fixed_on v e p q = record { two = g.fixed.two; few = g.fixed.few; rounds = g.fixed.rounds; short = g.fixed.short; voting_reach = rw p g.fixed.voting_reach; termination_reach = rw q g.fixed.termination_reach; proper = g.fixed.proper; covers = g.fixed.covers }

  -- the voting post changes, and nothing else
  good_voting : {q p : Mail Knowledge} → q ≡ p → q.reach ≡ m.voting.reach → Fair (votes_of m.n m.h m.names q (office m)) → Good (with_voting m p) w
  good_voting {q} e r f = subst (λ (p : Mail Knowledge). Good (with_voting m p) w) e (record { fixed = fixed_on q m.termination r refl; whole = g.whole; sound = g.sound; fair = f; rec = g.rec })

  -- the termination post changes, and nothing else
  good_termination : {q p : Mail TermWord} → q ≡ p → All (net_of m.n q w (office m)) (office m) → q.reach ≡ m.termination.reach → Good (with_termination m p) w
  good_termination {q} e d r = subst (λ (p : Mail TermWord). Good (with_termination m p) w) e (record { fixed = fixed_on m.voting q refl r; whole = g.whole; sound = d.0; fair = g.fair; rec = d.1 })

  module _ (i : ℕ) where
    t_is : terminating (office m i) ≡ true → t_of (office m i) ≡ (office m i).round
    t_is p = cond-true _ _ _ p

    r_is : terminating (office m i) ≡ false → r_of (office m i) ≡ (office m i).round
    r_is p = cond-false _ _ _ p

    t_not : terminating (office m i) ≡ false → t_of (office m i) ≡ 0
    t_not p = cond-false _ _ _ p

    r_not : terminating (office m i) ≡ true → r_of (office m i) ≡ 0
    r_not p = cond-true _ _ _ p

    -- the last round, by what i knows
    pub last_is : i < m.n → terminating (office m i) ≡ false → voting_rounds m.h (office m i).decision ≡ v.last (votes m) i
    unfolding class
    last_is li p = let e = ((g.rec i li).in_voting p).0 in rw e (grind arith)

    pub speak_voting : (j : ℕ) → terminating (office m i) ≡ false → verdict m (Speak i j) ≡ 0 → Good (with_voting m (filled m.voting i j (office m i).round (Waiting (office m i).knowledge))) w
    speak_voting j p ok =
        let (li, lj, ne, st, vo, le, nm, va) = asked.speak_voting m i j p ok in
        let re = r_is p in
        let f = (g.rec i li).from in
        let can : Can (votes m) (v.say i j) = (li, lj, vo, rw re f, rw (re, ← last_is li p) le, rw re nm, rw re va) in
        good_voting (filled_is m.voting i j (office m i).round (Waiting (office m i).knowledge)) refl
        (subst (λ (k : ℕ). Fair (votes_of m.n m.h m.names (record m.voting { places = at3 m.voting.places i j k (Waiting (office m i).knowledge) }) (office m))) re (fair_kept (votes m) g.fair cover (v.say i j) can))

    pub hear_voting : (j : ℕ) → terminating (office m i) ≡ false → verdict m (Hear i j) ≡ 0 → Good (with_voting m (filled m.voting j i (office m i).round (taken (m.voting.places j i (office m i).round)))) w
    hear_voting j p ok =
        let (li, lj, ne, st) = asked.hear_asked m i j ok in
        let re = r_is p in
        let f = (g.rec i li).from in
        let can : Can (votes m) (v.hear i j) = (li, lj, rw re f) in
        good_voting (filled_is m.voting j i (office m i).round (taken (m.voting.places j i (office m i).round))) refl
        (subst (λ (k : ℕ). Fair (votes_of m.n m.h m.names (record m.voting { places = at3 m.voting.places j i k (taken (m.voting.places j i k)) }) (office m))) re (fair_kept (votes m) g.fair cover (v.hear i j) can))

    empty-place : {W : Type 0} (p : Place W) → vacant p ≡ true → p ≡ Empty
    empty-place p e = grind arith

    stands : (j : ℕ) → (office m j).standing ≡ true → not (office m j).standing ≡ false
    stands j e = ap not e

    pub speak_ending : (j : ℕ) → terminating (office m i) ≡ true → verdict m (Speak i j) ≡ 0 → Good (with_termination m (filled m.termination i j (office m i).round (Waiting (word (office m i))))) w
    speak_ending j p ok =
        let (li, lj, ne, st, r1, rr, va) = asked.speak_ending m i j p ok in
        let te = t_is p in
        let may : May (net m w) (speak i j) = ((li, lj, ne, stands i st), rw te r1, rw te rr, rw te (empty-place _ va)) in
        let d = deed (speak i j) may in
        let d1 = subst (λ (k : ℕ). All (net_of m.n (record m.termination { places = at3 m.termination.places i j k (Waiting (w i k)) }) w (office m)) (office m)) te d in
        let d2 = subst (λ (x : TermWord). All (net_of m.n (record m.termination { places = at3 m.termination.places i j (office m i).round (Waiting x) }) w (office m)) (office m)) (sym ((g.rec i li).word_now p)) d1 in
        good_termination (filled_is m.termination i j (office m i).round (Waiting (word (office m i)))) d2 refl

    pub hear_ending : (j : ℕ) → terminating (office m i) ≡ true → verdict m (Hear i j) ≡ 0 → Good (with_termination m (filled m.termination j i (office m i).round (taken (m.termination.places j i (office m i).round)))) w
    hear_ending j p ok =
        let (li, lj, ne, st) = asked.hear_asked m i j ok in
        let te = t_is p in
        let f = (g.rec i li).from in
        let may : May (net m w) (hear i j) = ((li, lj, ne, stands i st), rw te f) in
        let d = subst (λ (k : ℕ). All (net_of m.n (record m.termination { places = at3 m.termination.places j i k (taken (m.termination.places j i k)) }) w (office m)) (office m)) te (deed (hear i j) may) in
        good_termination (filled_is m.termination j i (office m i).round (taken (m.termination.places j i (office m i).round))) d refl

    -- the records after i's was changed, where all else stays true
    rec_at : (s : Net) (o : Office) → ((a : ℕ) → a < m.n → Rec s a (office m a)) → Rec s i o → (a : ℕ) → a < m.n → Rec s a (at1 (office m) i o a)
    rec_at s o old new a la = elim (at1_is (office m) i o a) [
      | inl (q, x) ↦ rw (x, q) new
      | inr (_, x) ↦ rw x (old a la)
    ]

    -- a release with i's record changed, in the termination s
    good_at : (w' : Words) (o : Office) (s : Net) → i < m.n → net_of m.n m.termination w' (at1 (office m) i o) ≡ s → Sound s × ((a : ℕ) → a < m.n → Rec s a (office m a)) → Rec s i o → Fair (votes_of m.n m.h m.names m.voting (at1 (office m) i o)) → Good (with_office m i o) w'
    good_at w' o s li e (sound, old) new f = good_office m w w' i o g li (subst Sound (sym e) sound) f (subst (λ (s : Net). (a : ℕ) → a < m.n → Rec s a (at1 (office m) i o a)) (sym e) (rec_at s o old new))

    -- i's record changes, the termination does not
    same_net : (o : Office) → t_of o ≡ t_of (office m i) → o.standing ≡ (office m i).standing → o.told ≡ (office m i).told → net_of m.n m.termination w (at1 (office m) i o) ≡ net m w
    same_net o e1 e2 e3 = net_eq m.n m.termination w _ _ _ _ _ _ (at1_id t_of (office m) i o e1) (at1_id (λ o. not o.standing) (office m) i o (ap not e2)) (at1_id (λ o. member o.told) (office m) i o (ap member e3))

    keep_net : (o : Office) → i < m.n → t_of o ≡ t_of (office m i) → o.standing ≡ (office m i).standing → o.told ≡ (office m i).told → Rec (net m w) i o → Fair (votes_of m.n m.h m.names m.voting (at1 (office m) i o)) → Good (with_office m i o) w
    keep_net o li e1 e2 e3 r f = good_at w o (net m w) li (same_net o e1 e2 e3) (g.sound, g.rec) r f

    -- the voting with i's record changed
    fair_at : (o : Office) (k : ℕ → Knowledge) (d : ℕ → Bool) (r : ℕ → ℕ) → (λ (a : ℕ). (at1 (office m) i o a).knowledge) ≡ k → (λ (a : ℕ). (at1 (office m) i o a).voted) ≡ d → (λ (a : ℕ). r_of (at1 (office m) i o a)) ≡ r → Fair (record (votes m) { knowledge = k; voted = d; r = r }) → Fair (votes_of m.n m.h m.names m.voting (at1 (office m) i o))
    fair_at o k d r x y z f = subst Fair (sym (votes_eq m.n m.h m.names m.voting.places _ k _ d _ r x y z)) f

    same-votes : (o : Office) → o.knowledge ≡ (office m i).knowledge → o.voted ≡ (office m i).voted → r_of o ≡ r_of (office m i) → Fair (votes_of m.n m.h m.names m.voting (at1 (office m) i o))
    same-votes o e1 e2 e3 =
        fair_at o _ _ _ (at1_id (λ o. o.knowledge) (office m) i o e1) (at1_id (λ o. o.voted) (office m) i o e2) (at1_id r_of (office m) i o e3) g.fair

    not_full : (s : Offices) → s.mask ≡ 0 → full m.n s ≡ false
    not_full s e = elim (cases_Bool (full m.n s)) [
      | inr q ↦ q
      | inl q ↦ let two = g.fixed.two in absurd (no_member s 0 e (full_at m.n s q 0 (omega arith)))
    ]

    with_some : i < m.n → (x : Offices) → (added x i).mask ≢ 0
    with_some li x e = let few = g.fixed.few in no_member (added x i) i e (added_self x i (omega arith))

    pub yes-class : (k : Knowledge) → k.no.mask ≡ 0 → k.ready.mask ≡ 0 → decision_of (class m.n k) ≡ None
    unfolding class
    yes-class k a b = let f = not_full k.ready b in grind (arith, nat_tests)

    pub no-class : (k : Knowledge) → k.no.mask ≢ 0 → decision_of (class m.n k) ≡ to_abort
    unfolding class
    no-class k a = grind (arith, nat_tests)

    pub vote_yes : i < m.n → terminating (office m i) ≡ false → (office m i).voted ≡ false → Good (with_office m i (voted_yes (office m i) i)) w
    vote_yes li p vo =
        let o = office m i in
        let (kn, _) = g.fair.blank i vo in
        let r = g.rec i li in
        let (de, z) = r.in_voting p in
        let from = r.from in
        let rec' : Rec (net m w) i (voted_yes o i) = voting_rec _ _ _ p (r.from) (r.untold p) (de ∙ yes-class o.knowledge (ap (λ k. k.no.mask) kn) (ap (λ k. k.ready.mask) kn) ∙ sym (yes-class _ (ap (λ k. k.no.mask) kn) (ap (λ k. k.ready.mask) kn)), z) in
        let can : Can (votes m) (v.yes i) = (li, vo, rw (r_is p) from) in
        let f = fair_kept (votes m) g.fair cover (v.yes i) can in
        keep_net (voted_yes o i) li refl refl refl rec'
        (fair_at _ _ _ _ (at1_map (λ o. o.knowledge) (office m) i (voted_yes o i)) (at1_map (λ o. o.voted) (office m) i (voted_yes o i)) (at1_id r_of (office m) i (voted_yes o i) refl) f)

    pub vote_no : i < m.n → terminating (office m i) ≡ false → (office m i).voted ≡ false → Good (with_office m i (voted_no (office m i) i)) w
    vote_no li p vo =
        let o = office m i in
        let r = g.rec i li in
        let (de, z) = r.in_voting p in
        let from = r.from in
        let rec' : Rec (net m w) i (voted_no o i) = voting_rec _ _ _ p (r.from) (r.untold p) (sym (no-class _ (with_some li o.knowledge.no)), z) in
        let can : Can (votes m) (v.no i) = (li, vo, rw (r_is p) from) in
        let f = fair_kept (votes m) g.fair cover (v.no i) can in
        keep_net (voted_no o i) li refl refl refl rec'
        (fair_at _ _ _ _ (at1_map (λ o. o.knowledge) (office m) i (voted_no o i)) (at1_map (λ o. o.voted) (office m) i (voted_no o i)) (at1_id r_of (office m) i (voted_no o i) refl) f)

    -- what i knows once it closed its voting round
    unfoldable pub after-closing : Knowledge
    after-closing = learns m.n i (office m i).knowledge (heard_in m.voting i (office m i).round)

    pub after_is : terminating (office m i) ≡ false → after-closing ≡ v.closed_known (votes m) i
    unfolding after-closing
    after_is p = ap (λ (k : ℕ). learns m.n i (office m i).knowledge (heard_in m.voting i k)) (sym (r_is p))

    ruling_back : (n : ℕ) (k k' : Knowledge) → (k'.no.mask ≡ 0 → k.no.mask ≡ 0) → (full n k.ready ≡ true → full n k'.ready ≡ true) → decision_of (class n k') ≡ None → decision_of (class n k) ≡ None
    unfolding class
    ruling_back n k k' a b e = grind (arith, nat_tests)

    pub closing_keeps : terminating (office m i) ≡ false → decision_of (class m.n after-closing) ≡ None → decision_of (class m.n (office m i).knowledge) ≡ None
    closing_keeps p e = ruling_back m.n (office m i).knowledge (v.closed_known (votes m) i) (none_before (votes m) i)
        (λ f. full_from m.n _ (λ l ll. (own_counts (votes m) i l).2 (full_at m.n _ f l ll))) (ap (λ k. decision_of (class m.n k)) (sym (after_is p)) ∙ e)

    latest-same : (d d0 : Option Decision) → (d ≡ None → d0 ≡ None) → latest d d0 ≡ d
    latest-same d d0 f = grind arith

    unfoldable pub after-voting : Office
    after-voting = at_round (closed_voting m.n i (office m i) (heard_in m.voting i (office m i).round)) (suc (office m i).round)

    pub close_voting : terminating (office m i) ≡ false → verdict m (Close i) ≡ 0 → Good (with_office m i after-voting) w
    unfolding after-voting after-closing
    close_voting p ok =
        let o = office m i in
        let (li, st, e1, e2) = asked.close_asked m i ok in
        let (vo, le) = asked.close_voting m i p ok in
        let r = g.rec i li in
        let (de, z) = r.in_voting p in
        let from = r.from in
        let re = r_is p in
        let can : Can (votes m) (v.close i) = (
          li,
          vo,
          rw re from,
          rw (re, ← last_is li p) le,
          all_below m.n _ (λ j lj. let q = every_at m.n _ e1 j lj in rw re (rw p at q)),
          all_below m.n _ (λ j lj. let q = every_at m.n _ e2 j lj in rw re (rw p at q)),
        ) in
        let f = fair_kept (votes m) g.fair cover (v.close i) can in
        let rec' : Rec (net m w) i after-voting = voting_rec _ _ _ p (omega arith) (r.untold p) (latest-same _ _ (λ u. de ∙ closing_keeps p u), z) in
        keep_net after-voting li (cond-false _ _ _ p ∙ sym (t_not p)) refl refl rec'
        (fair_at _ _ _ _
        (at1_map (λ o. o.knowledge) (office m) i after-voting ∙ ap (at1 (λ a. (office m a).knowledge) i) (after_is p))
        (at1_id (λ o. o.voted) (office m) i after-voting refl)
        (at1_map r_of (office m) i after-voting ∙ ap (at1 (λ a. r_of (office m a)) i) (cond-false _ _ _ p ∙ ap suc (sym re))) f)

    pub drop_out : verdict m (DropOut i) ≡ 0 → Good (with_office m i (dropped_out (office m i))) w
    drop_out ok =
        let o = office m i in
        let (li, st) = asked.drop_asked m i ok in
        let d = deed (drop i) li in
        let r = d.1 i li in
        let e = net_eq m.n m.termination w _ _ _ _ _ _ (at1_id t_of (office m) i (dropped_out o) refl) (at1_map (λ o. not o.standing) (office m) i (dropped_out o)) (at1_id (λ o. member o.told) (office m) i (dropped_out o) refl) in
        let rec' : Rec (does (net m w) (drop i)) i (dropped_out o) = record { word_now = r.word_now; prior_now = r.prior_now; first = r.first; from = r.from; untold = r.untold; in_voting = r.in_voting; still_open = r.still_open; shut = r.shut } in
        good_at w (dropped_out o) (does (net m w) (drop i)) li e d rec' (same-votes (dropped_out o) refl refl refl)

    told_is : (j : ℕ) → j < m.n → (λ (a b : ℕ). member (at1 (office m) i (told_of (office m i) j) a).told b) ≡ at2 (λ a b. member (office m a).told b) i j true
    told_is j lj = let few = g.fixed.few in ap {B = ℕ → ℕ → Bool} (λ (f : ℕ → Offices) (a b : ℕ). member (f a) b) (at1_map (λ o. o.told) (office m) i (told_of (office m i) j)) ∙ told_map (λ a. (office m a).told) i j (omega arith)

    notice_may : (j : ℕ) → verdict m (Notice i j) ≡ 0 → May (net m w) (notice i j)
    unfolding waits_for waiting_from
    notice_may j ok = let (li, lj, ne, st, so, to, qu) = asked.notice_asked m i j ok in ((li, lj, ne, stands i st), ap not so, to, qu)

    pub notice_ending : (j : ℕ) → terminating (office m i) ≡ true → verdict m (Notice i j) ≡ 0 → Good (with_office m i (told_of (office m i) j)) w
    notice_ending j p ok =
        let o = office m i in
        let may = notice_may j ok in
        let li = may.0.0 in
        let d = deed (notice i j) may in
        let r = d.1 i li in
        let e = net_eq m.n m.termination w _ _ _ _ _ _ (at1_id t_of (office m) i (told_of o j) refl) (at1_id (λ o. not o.standing) (office m) i (told_of o j) refl) (told_is j may.0.1) in
        let rec' : Rec (does (net m w) (notice i j)) i (told_of o j) = record { word_now = r.word_now; prior_now = r.prior_now; first = r.first; from = r.from; untold = λ e. absurd (both_ways _ e p); in_voting = r.in_voting; still_open = r.still_open; shut = r.shut } in
        good_at w (told_of o j) (does (net m w) (notice i j)) li e d rec' (same-votes (told_of o j) refl refl refl)

    pub enter_word : TermWord
    enter_word = first_word (class m.n (office m i).knowledge)

    -- i enters, in a termination s in which it is still in voting, with whatever it was told
    enter_rec : (s : Net) (o : Office) → s.n ≡ m.n → s.word i 0 ≡ N → (o.decision ≡ decision_of (class s.n o.knowledge)) × (o.deciding ≡ None) → (x : TermWord) → x ≡ first_word (class m.n o.knowledge) → May s (enter i x) → Rec (does s (enter i x)) i (entered m.n o)
    enter_rec s o n z (de, dz) x xe may = record {
      word_now = λ _. sym xe ∙ sym at_one;
      prior_now = λ _. sym (sym (word_kept s (enter i x) i 0 may (omega arith)) ∙ z);
      first = λ _. at_one ∙ xe ∙ ap (λ n. first_word (class n o.knowledge)) (sym n);
      from = omega arith;
      untold = λ e. absurd (true≢false e);
      in_voting = λ e. absurd (true≢false e);
      still_open = λ _ u. (sym de ∙ u, dz, omega arith, λ k k1 lt. absurd (omega arith));
      shut = λ _ u. inl (dz, refl, de);
    }
      where
        at_one : (does s (enter i x)).word i 1 ≡ x
        at_one = grind (arith, at2_is)

    join_may : verdict m (Join i) ≡ 0 → May (net m w) (enter i enter_word)
    unfolding waits_for waiting_from
    join_may ok =
        let (li, st, p, wa) = asked.join_asked m i ok in
        let (j, lj, x) = some_at m.n (λ j. waiting_from m.termination j i) wa in
        (li, stands i st, t_not p, (j, lj, inr x))

    left : (o : Office) → o.knowledge ≡ (office m i).knowledge → o.voted ≡ (office m i).voted → terminating o ≡ true → i < m.n → Fair (votes_of m.n m.h m.names m.voting (at1 (office m) i o))
    left o e1 e2 e3 li =
        fair_at o _ _ _ (at1_id (λ o. o.knowledge) (office m) i o e1) (at1_id (λ o. o.voted) (office m) i o e2) (at1_map r_of (office m) i o ∙ ap (at1 (λ a. r_of (office m a)) i) (cond-true _ _ _ e3))
        (fair_kept (votes m) g.fair cover (v.leave i) li)

    pub join : verdict m (Join i) ≡ 0 → Good (with_office m i (entered m.n (office m i))) (word_after (net m w) (enter i enter_word))
    unfolding enter_word
    join ok =
        let o = office m i in
        let (li, st, p, wa) = asked.join_asked m i ok in
        let may = join_may ok in
        let d = deed (enter i enter_word) may in
        let w' = word_after (net m w) (enter i enter_word) in
        let e = net_eq m.n m.termination w' _ _ _ _ _ _ (at1_map t_of (office m) i (entered m.n o)) (at1_id (λ o. not o.standing) (office m) i (entered m.n o) refl) (at1_id (λ o. member o.told) (office m) i (entered m.n o) refl) in
        good_at w' (entered m.n o) (does (net m w) (enter i enter_word)) li e d (enter_rec (net m w) o refl (g.sound.zeroth i) ((g.rec i li).in_voting p) enter_word refl may) (left (entered m.n o) refl refl refl li)

    pub notice_voting : (j : ℕ) → terminating (office m i) ≡ false → verdict m (Notice i j) ≡ 0 → Good (with_office m i (entered m.n (told_of (office m i) j))) (word_after (net m w) (enter i enter_word))
    unfolding enter_word
    notice_voting j p ok =
        let o : Office = told_of (office m i) j in
        let s : Net = does (net m w) (notice i j) in
        let may1 = notice_may j ok in
        let li = may1.0.0 in
        let lj = may1.0.1 in
        let d1 = deed (notice i j) may1 in
        let now-told : s.told i j ≡ true = is_told (λ a b. member (office m a).told b) j in
        let may2 : May s (enter i enter_word) = (li, may1.0.3, t_not p, (j, lj, inl now-told)) in
        let d2 : All (does s (enter i enter_word)) (office m) = (keeps_does s d1.0 (enter i enter_word) may2, λ a la. rec_kept s (enter i enter_word) a (office m a) may2 refl (d1.1 a la)) in
        let w' = word_after (net m w) (enter i enter_word) in
        let e = net_eq m.n m.termination w' _ _ _ _ _ _ (at1_map t_of (office m) i (entered m.n o)) (at1_id (λ o. not o.standing) (office m) i (entered m.n o) refl) (entered-told j lj) in
        good_at w' (entered m.n o) (does s (enter i enter_word)) li e d2 (enter_rec s o refl (d1.0.zeroth i) ((d1.1 i li).in_voting p) enter_word refl may2) (left (entered m.n o) refl refl refl li)
      where
        is_told : (f : ℕ → ℕ → Bool) (j : ℕ) → at2 f i j true i j ≡ true
        is_told f j = grind (arith, at2_is)

        entered-told : (j : ℕ) → j < m.n → (λ (a b : ℕ). member (at1 (office m) i (entered m.n (told_of (office m i) j)) a).told b) ≡ at2 (λ a b. member (office m a).told b) i j true
        entered-told j lj = let few = g.fixed.few in ap {B = ℕ → ℕ → Bool} (λ (f : ℕ → Offices) (a b : ℕ). member (f a) b) (at1_map (λ o. o.told) (office m) i (entered m.n (told_of (office m i) j))) ∙ told_map (λ a. (office m a).told) i j (omega arith)

    unfoldable pub after_ending : Office
    after_ending = at_round (closed_termination m.n (office m i) (heard_in m.termination i (office m i).round) (heard_in m.termination i ((office m i).round - 1))) (suc (office m i).round)

    close_may : terminating (office m i) ≡ true → verdict m (Close i) ≡ 0 → May (net m w) (close i)
    close_may p ok =
        let (li, st, e1, e2) = asked.close_asked m i ok in
        let from = (g.rec i li).from in
        let te = t_is p in
        (li, stands i st, rw te from, all_below m.n _ (λ j lj. let q1 = every_at m.n _ e1 j lj in let q2 = every_at m.n _ e2 j lj in rw te (done (eqb i j) (member (office m i).told j) (m.termination.places i j (office m i).round) (m.termination.places j i (office m i).round) (rw p at q1) (rw p at q2))))
      where
        done : (a b : Bool) (p q : Place TermWord) → (not (not a && not b) || not (vacant p)) ≡ true → (not (not a && not b) || spoke (heard q)) ≡ true → (a || (b || (not (vacant p) && spoke (heard q)))) ≡ true
        done a b p q x y = grind arith

    -- the rule by which i closes, in the words of the termination
    fate_is : i < m.n → terminating (office m i) ≡ true → fate_at (net m w) i (t_of (office m i)) ≡ ruling m.n (office m i).round (word (office m i)) (heard_in m.termination i (office m i).round) (prior (office m i)) (heard_in m.termination i ((office m i).round - 1))
    fate_is li p = ap (fate_at (net m w) i) (t_is p)
        ∙ ap (λ x. ruling m.n (office m i).round x (heard_in m.termination i (office m i).round) (w i ((office m i).round - 1)) (heard_in m.termination i ((office m i).round - 1))) (sym ((g.rec i li).word_now p))
        ∙ ap (λ x. ruling m.n (office m i).round (word (office m i)) (heard_in m.termination i (office m i).round) x (heard_in m.termination i ((office m i).round - 1))) (sym ((g.rec i li).prior_now p))

    next_is : i < m.n → terminating (office m i) ≡ true → word_after (net m w) (close i) i (suc (office m i).round) ≡ next_word m.n (office m i).round (word (office m i)) (heard_in m.termination i (office m i).round) (prior (office m i)) (heard_in m.termination i ((office m i).round - 1))
    next_is li p = ap (λ (k : ℕ). word_after (net m w) (close i) i (suc k)) (sym (t_is p)) ∙ made (net m w) i
        ∙ ap (λ (k : ℕ). next_word m.n k (w i k) (heard_in m.termination i k) (w i (k - 1)) (heard_in m.termination i (k - 1))) (t_is p)
        ∙ ap (λ x. next_word m.n (office m i).round x (heard_in m.termination i (office m i).round) (w i ((office m i).round - 1)) (heard_in m.termination i ((office m i).round - 1))) (sym ((g.rec i li).word_now p))
        ∙ ap (λ x. next_word m.n (office m i).round (word (office m i)) (heard_in m.termination i (office m i).round) x (heard_in m.termination i ((office m i).round - 1))) (sym ((g.rec i li).prior_now p))

    close_rec : terminating (office m i) ≡ true → verdict m (Close i) ≡ 0 → Rec (does (net m w) (close i)) i after_ending
    unfolding after_ending
    close_rec p ok =
        let o = office m i in
        let (li, st, e1, e2) = asked.close_asked m i ok in
        let may = close_may p ok in
        let r = g.rec i li in
        let s : Net = net m w in
        let te = t_is p in
        let from = r.from in
        let back : o.round ≡ suc o.round - 1 = omega arith in
        let (ru, dz, lim, fs) = r.still_open p (asked.close_ending m i p ok) in
        let f : Option Decision = ruling m.n o.round (word o) (heard_in m.termination i o.round) (prior o) (heard_in m.termination i (o.round - 1)) in
        let now-fate : fate_at (does s (close i)) i o.round ≡ f = sym (fate_kept s (close i) i o.round may (omega arith) (inr refl) (inr refl)) ∙ ap (fate_at s i) (sym te) ∙ fate_is li p in
        let old : (k : ℕ) → 1 ≤ k → k < o.round → fate_at (does s (close i)) i k ≡ None = λ k k1 lt. sym (fate_kept s (close i) i k may (omega arith) (inr refl) (inr refl)) ∙ fs k k1 lt in
        record {
          word_now = λ _. sym (next_is li p);
          prior_now = λ _. r.word_now p ∙ word_kept s (close i) i o.round may (omega arith) ∙ ap ((does s (close i)).word i) back;
          first = λ _. sym (word_kept s (close i) i 1 may (omega arith)) ∙ r.first p;
          from = omega arith;
          untold = λ e. absurd (true≢false e);
          in_voting = λ e. absurd (true≢false e);
          still_open = λ _ u.
              let fu : f ≡ None = later_open f o.decision u in
              let (n1, n2, n3) = no_rule _ _ _ (fate_is li p ∙ fu) in
              let bd = bounded s g.sound i (may_close s i may) n1 n2 n3 in
              (ru, ap (λ d. cond (undecided d) o.deciding (Some o.round)) fu ∙ dz, omega arith, λ k k1 lt. elim (cases_eq k o.round) [ inl q ↦ ap (fate_at (does s (close i)) i) q ∙ now-fate ∙ fu | inr ne ↦ old k k1 (omega arith) ]);
          shut = λ _ u.
              let fu : f ≢ None = λ q. u (ap (λ d. latest d o.decision) q ∙ asked.close_ending m i p ok) in
              inr (o.round, decided_at f o.deciding (Some o.round) fu, from, refl, decided f o.decision fu ∙ sym now-fate, ru, old);
        }
      where
        later_open : (d e : Option Decision) → latest d e ≡ None → d ≡ None
        later_open d e q = grind arith

        decided_at : (d : Option Decision) (x y : Option ℕ) → d ≢ None → cond (undecided d) x y ≡ y
        decided_at d x y q = grind arith

        decided : (d e : Option Decision) → d ≢ None → latest d e ≡ d
        decided d e q = grind arith

    pub close_ending : terminating (office m i) ≡ true → verdict m (Close i) ≡ 0 → Good (with_office m i after_ending) (word_after (net m w) (close i))
    unfolding after_ending
    close_ending p ok =
        let o = office m i in
        let may = close_may p ok in
        let li = may.0 in
        let d = deed (close i) may in
        let w' = word_after (net m w) (close i) in
        let e = net_eq m.n m.termination w' _ _ _ _ _ _ (at1_map t_of (office m) i after_ending ∙ ap (at1 (λ a. t_of (office m a)) i) (t_closed p)) (at1_id (λ o. not o.standing) (office m) i after_ending refl) (at1_id (λ o. member o.told) (office m) i after_ending refl) in
        good_at w' after_ending (does (net m w) (close i)) li e d (close_rec p ok) (same-votes after_ending refl refl (r_closed p))
      where
        t_closed : terminating (office m i) ≡ true → t_of after_ending ≡ suc (t_of (office m i))
        t_closed p = ap suc (sym (t_is p))

        r_closed : terminating (office m i) ≡ true → r_of after_ending ≡ r_of (office m i)
        r_closed p = sym (r_not p)

    -- the round stays a byte
    up_is : (r : ℕ) → r < 255 → next_round r ≡ suc r
    up_is r lt = omega arith

    pub up_voting : terminating (office m i) ≡ false → verdict m (Close i) ≡ 0 → next_round (office m i).round ≡ suc (office m i).round
    up_voting p ok = let (_, le) = asked.close_voting m i p ok in let h = g.fixed.short in up_is (office m i).round (low m.h (office m i).round (office m i).decision h le)
      where
        low : (h r : ℕ) (d : Option Decision) → h ≤ 16 → r ≤ voting_rounds h d → r < 255
        low h r d a b = grind arith

    pub up_ending : terminating (office m i) ≡ true → verdict m (Close i) ≡ 0 → next_round (office m i).round ≡ suc (office m i).round
    up_ending p ok =
        let li = (asked.close_asked m i ok).0 in
        let (_, _, lim, _) = (g.rec i li).still_open p (asked.close_ending m i p ok) in
        let c = count_all m.n (net m w).dropped in
        let few = g.fixed.few in
        up_is (office m i).round (omega arith)
