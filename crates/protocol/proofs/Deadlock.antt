-- No deadlock, in one state. Assumes nothing.
use Rattle.std.proofs.Common.{◌≡◌, ℕ, zero, suc, ◌+◌, ◌-◌, ◌<◌, ◌≤◌, Bool, true, false, cond, not, ◌&&◌, ◌||◌, eqb, ◌≢◌, ◌⊎◌, None, Option, sym, refl, ap, ◌∙◌, subst, inl, inr, arith}
use Rattle.std.proofs.lemmas.Bool.Decides.{nat_tests}
use Rattle.std.proofs.lemmas.Bool.{both_ways, not-true, cases_eq, cases_lt, cases_Bool, cond-true, cond-false, eqb-false, le-leb, and_from}
use Rattle.words.specs.declared.knowledge.Class.{Class}
use Rattle.words.specs.declared.knowledge.Decision.{Decision}
use Rattle.words.specs.declared.knowledge.Knowledge.{Knowledge}
use Rattle.words.specs.declared.term.TermWord.{TermWord}
use Rattle.words.specs.Below.{every}
use Rattle.words.specs.Classes.{decision_of}
use Rattle.words.specs.Knowledge.{same_knowledge}
use Rattle.words.specs.Offices.{member, full}
use Rattle.words.specs.Terms.{same_term}
use Rattle.posts.specs.declared.place.Place.{Place}
use Rattle.posts.specs.declared.place.Place.TheVariants.{Empty, Waiting, Taken}
use Rattle.posts.specs.Places.{vacant, waits, agrees}
use Rattle.protocol.specs.declared.call.Call.{Call}
use Rattle.protocol.specs.declared.call.Call.TheVariants.{Vote, Speak, Hear, Close, Notice, Join}
use Rattle.protocol.specs.Asked.{waiting_from, as_before, verdict}
use Rattle.protocol.specs.Hearing.{heard, spoke}
use Rattle.protocol.specs.Letters.{N, A, to_abort, to_commit}
use Rattle.protocol.specs.Model.{Mail, Model, office, plan_round, voting_rounds}
use Rattle.protocol.specs.Records.{terminating, word, undecided}
use Rattle.protocol.specs.Rules.{class, first_word}
use Rattle.protocol.specs.History.{is_drop_out}
use Rattle.protocol.proofs.Sums.{every_at, all_below, every_not, some_at, some-from, full_from, count_all, in_one}
use Rattle.protocol.proofs.Net.{Net, fits1, fits2, fits3, Own, Done}
use Rattle.protocol.proofs.NetWords.{word_C, says_A_next}
use Rattle.protocol.proofs.NetDead.{none-N, hears_A, after-C}
use Rattle.protocol.proofs.Voting.{Votes, has_yes, last, is_taken, content, Lies, Knew}
use Rattle.protocol.proofs.Votes.{still_open}
use Rattle.protocol.proofs.View.{t_of, r_of, net, votes, Good}
use Rattle.protocol.proofs.Decided.{no_rule, class_commit, class-N, first_of, ready_all, no_voter}
use Rattle.protocol.proofs.Steps.{last_is}
use Rattle.protocol.proofs.Accepts as accepts

agrees_own : (p : Place TermWord) (x y : TermWord) → (p ≡ Empty) ⊎ ((p ≡ Waiting y) ⊎ (p ≡ Taken y)) → x ≡ y → agrees same_term x p ≡ true
agrees_own p x y o e = grind arith

own_word : (s : Net) (a b k : ℕ) → Own s a b k → (s.place a b k ≡ Empty) ⊎ ((s.place a b k ≡ Waiting (s.word a k)) ⊎ (s.place a b k ≡ Taken (s.word a k)))
own_word s a b k o = grind arith

some_rule : (a b c : Bool) → cond a to_abort (cond b to_commit (cond c to_abort None)) ≢ None → ((a ≡ true) ⊎ (c ≡ true)) ⊎ (b ≡ true)
some_rule a b c e = grind arith

decided_class : (c : Class) → decision_of c ≢ None → (first_word c ≡ A) ⊎ (decision_of c ≡ to_commit)
decided_class c e = grind arith

open_or : (d : Option Decision) → (d ≡ None) ⊎ (d ≢ None)
open_or d = elim (cases_Bool (undecided d)) [ inl e ↦ inl (is d e) | inr e ↦ inr (is_not d e) ]
  where
    is : (d : Option Decision) → undecided d ≡ true → d ≡ None
    is d e = grind arith

    is_not : (d : Option Decision) → undecided d ≡ false → d ≢ None
    is_not d e q = grind arith

full_not : {W : Type 0} (p : Place W) → p ≢ Empty → vacant p ≡ false
full_not p e = grind arith

not_empty : {W : Type 0} (p : Place W) → waits p ≡ true → vacant p ≡ false
not_empty p e = grind arith

waiting : {W : Type 0} (p : Place W) → vacant p ≡ false → is_taken p ≡ false → waits p ≡ true
waiting p a b = grind arith

taken_not : {W : Type 0} (p : Place W) → spoke (heard p) ≡ true → waits p ≡ true → ⊥
taken_not p a b = grind arith

not_vacant : {W : Type 0} (p : Place W) → waits p ≡ true → p ≢ Empty
not_vacant p a b = grind arith

own_low : (s : Net) (a b k : ℕ) → Own s a b k → s.place a b k ≢ Empty → k ≤ s.t a
own_low s a b k o e = grind arith

or_done : (a b c : Bool) → (a ≡ false → b ≡ false → c ≡ true) → (not (not a && not b) || c) ≡ true
or_done a b c f = grind arith

or_named : (a b : Bool) → (a ≡ true → b ≡ true) → (not a || b) ≡ true
or_named a b f = grind arith

took_j : (s : Net) (k i j : ℕ) → Done s i j k → (s.told i j ≡ true → ⊥) → spoke (heard (s.place j i k)) ≡ true
took_j s k i j (inl t) nt = absurd (nt t)
took_j s k i j (inr (_, x)) nt = x

spoke_j : (s : Net) (k j i : ℕ) → Done s j i k → (s.told j i ≡ true → ⊥) → s.place j i k ≢ Empty
spoke_j s k j i (inl t) nt = absurd (nt t)
spoke_j s k j i (inr (x, _)) nt = x

some_waits : (p : Mail TermWord) (j i : ℕ) → waiting_from p j i ≡ true → (k : ℕ) × (1 ≤ k) × (waits (p.places j i k) ≡ true)
unfolding waiting_from
some_waits p j i q = let (k, _, x) = some_at p.reach (λ k. waits (p.places j i (k + 1))) q in (k + 1, omega arith, x)

agrees_known : (p : Place Knowledge) (x : Knowledge) → (p ≡ Empty) ⊎ (content p ≡ x) → agrees same_knowledge x p ≡ true
agrees_known Empty x o = refl
agrees_known _ x o = grind (arith, nat_tests)

lies_now : (u : Votes) (s d : ℕ) → 1 ≤ u.r s → Lies u s d (u.r s) → (u.place s d (u.r s) ≡ Empty) ⊎ (content (u.place s d (u.r s)) ≡ u.knowledge s)
lies_now u s d r1 x = grind arith

last_low : (u : Votes) (i : ℕ) → last u i ≤ u.h + u.h
last_low u i = grind (arith, nat_tests)

last_none : (u : Votes) (i : ℕ) → (u.knowledge i).no.mask ≡ 0 → last u i ≡ u.h + u.h
last_none u i e = grind (arith, nat_tests)

last_some : (u : Votes) (i : ℕ) → (u.knowledge i).no.mask ≢ 0 → last u i ≡ u.h
last_some u i e = grind (arith, nat_tests)

class-some : (n : ℕ) (k : Knowledge) → k.no.mask ≢ 0 → decision_of (class n k) ≢ None
unfolding class
class-some n k a e = grind (arith, nat_tests)

class-ready : (n : ℕ) (k : Knowledge) → full n k.ready ≡ true → decision_of (class n k) ≢ None
unfolding class
class-ready n k a e = grind (arith, nat_tests)

module _ (m : Model) (w : ℕ → ℕ → TermWord) (g : Good m w) (stuck : (c : Call) → is_drop_out c ≡ false → verdict m c ≢ 0) where
  few : m.n ≤ 16
  few = g.fixed.few

  gone : (j : ℕ) → not (office m j).standing ≡ true → (office m j).standing ≡ true → ⊥
  gone j a b = both_ways _ (not-true _ a) b

  voted_all : (i : ℕ) → i < m.n → (office m i).standing ≡ true → terminating (office m i) ≡ false → (office m i).voted ≡ true
  voted_all i li st p = elim (cases_Bool (office m i).voted) [ inl e ↦ e | inr e ↦ absurd (stuck (Vote i 1) refl (accepts.vote_ok m few i li st p e)) ]

  -- once an office dropped out, every standing office has entered
  has_entered : (d : ℕ) → d < m.n → (office m d).standing ≡ false → (i : ℕ) → i < m.n → (office m i).standing ≡ true → terminating (office m i) ≡ true
  has_entered d ld so i li st = elim (cases_Bool (terminating (office m i))) [
    | inl p ↦ p
    | inr p ↦ absurd (elim (cases_Bool (waiting_from m.termination d i)) [
      | inr q ↦ stuck (Notice i d) refl (accepts.notice_ok m few i li st d ld (λ e. both_ways _ (ap (λ (z : ℕ). (office m z).standing) e ∙ so) st) so ((g.rec i li).untold p d) q)
      | inl q ↦ stuck (Join i) refl (accepts.join_ok m few i li st p (some-from m.n (λ j. waiting_from m.termination j i) d ld q))
    ])
  ]

  module _ (d : ℕ) (ld : d < m.n) (so : (office m d).standing ≡ false) where
    t_is : (i : ℕ) → i < m.n → (office m i).standing ≡ true → t_of (office m i) ≡ (office m i).round
    t_is i li st = cond-true _ _ _ (has_entered d ld so i li st)

    same-words : (j : ℕ) → j < m.n → (office m j).standing ≡ true → as_before same_term m.termination j (office m j).round (word (office m j)) ≡ true
    unfolding as_before
    same-words j lj st = all_below 16 (λ r. agrees same_term (word (office m j)) (m.termination.places j r (office m j).round))
        (λ r lr. agrees_own (m.termination.places j r (office m j).round) (word (office m j)) (w j (office m j).round) (own_word (net m w) j r (office m j).round (g.sound.own j r (office m j).round)) ((g.rec j lj).word_now (has_entered d ld so j lj st)))

    spoken_in : (j : ℕ) → j < m.n → (office m j).standing ≡ true → (office m j).round ≤ m.termination.reach → (i : ℕ) → i < m.n → j ≢ i → vacant (m.termination.places j i (office m j).round) ≡ false
    spoken_in j lj st rr i li ne = elim (cases_Bool (vacant (m.termination.places j i (office m j).round))) [
      | inr e ↦ e
      | inl e ↦ absurd (stuck (Speak j i) refl (accepts.speak_ending_ok m few j lj st i li ne (has_entered d ld so j lj st) (g.rec j lj).from rr (same-words j lj st) e))
    ]

    in_reach : (i : ℕ) → i < m.n → (office m i).standing ≡ true → (office m i).decision ≡ None → (office m i).round ≤ m.termination.reach
    in_reach i li st un = let (_, _, lim, _) = (g.rec i li).still_open (has_entered d ld so i li st) un in let c = count_all m.n (net m w).dropped in let r = g.fixed.termination_reach in omega arith

    -- a standing office that decided keeps no standing undecided office ahead of it
    ahead : (i j : ℕ) → i < m.n → j < m.n → (office m i).standing ≡ true → (office m j).standing ≡ true → (office m i).decision ≡ None → (office m j).decision ≢ None → (office m j).round < (office m i).round → ⊥
    ahead i j li lj sti stj un de lt =
        let s : Net = net m w in
        let pi = has_entered d ld so i li sti in
        let pj = has_entered d ld so j lj stj in
        let ti = t_is i li sti in
        let tj = t_is j lj stj in
        let (_, _, _, fs) = (g.rec i li).still_open pi un in
        let r = g.rec j lj in
        let from = r.from in
        let (none1, none2, _) = no_rule (fits1 s i (office m j).round) (fits2 s i (office m j).round) (fits3 s i (office m j).round) (fs (office m j).round from lt) in
        let ne : i ≢ j = λ e. lower i j e lt in
        let told-j : spoke (heard (m.termination.places j i (office m j).round)) ≡ true = took_j s (office m j).round i j (g.sound.closed i j (office m j).round from (omega arith) lj ne) (λ q. gone j (g.sound.gone i j q) stj) in
        let not_A : s.word j (office m j).round ≢ A = λ a. both_ways _ none1 (hears_A s i j (office m j).round lj (g.sound.own j i (office m j).round) told-j a) in
        elim (r.shut pj de) [
          | inl (_, r1, e) ↦ elim (decided_class (class m.n (office m j).knowledge) (λ q. de (e ∙ q))) [
            | inl a ↦ not_A (ap (s.word j) r1 ∙ r.first pj ∙ a)
            | inr c ↦ let no-N : (l : ℕ) → l < m.n → 1 ≤ s.t l → s.word l 1 ≢ N = λ l ll t1 q. class-N m.n _ (ready_all m w g j (class_commit m.n _ c) l ll) (sym (first_of m w g l ll t1) ∙ q) in
                none-N s g.sound i 1 li (omega arith) no-N (ap (fits1 s i) (sym r1) ∙ none1) (ap (fits2 s i) (sym r1) ∙ none2)
          ]
          | inr (k, _, q1, rq, f, _, _) ↦ elim (some_rule (fits1 s j k) (fits2 s j k) (fits3 s j k) (λ z. de (f ∙ z))) [
            | inl x ↦ not_A (ap (s.word j) rq ∙ g.sound.grown j k q1 (omega arith) ∙ says_A_next s j k x)
            | inr x ↦ let no-N : (l : ℕ) → l < m.n → suc k ≤ s.t l → s.word l (suc k) ≢ N = λ l ll tl. after-C s g.sound j k lj q1 (ap not stj) (word_C s j k x) (omega arith) l ll tl in
                none-N s g.sound i (suc k) li (omega arith) no-N (ap (fits1 s i) (sym rq) ∙ none1) (ap (fits2 s i) (sym rq) ∙ none2)
          ]
        ]
      where
        lower : (i j : ℕ) → i ≡ j → (office m j).round < (office m i).round → ⊥
        lower i j e lt = let q = ap (λ (z : ℕ). (office m z).round) e in omega arith

    -- who closed round r spoke in it to i, who stands
    spoke_before : (j i k : ℕ) → i < m.n → (office m i).standing ≡ true → 1 ≤ k → k < (net m w).t j → j ≢ i → vacant (m.termination.places j i k) ≡ false
    spoke_before j i k li st k1 kt ne = full_not (m.termination.places j i k) (spoke_j (net m w) k j i (g.sound.closed j i k k1 kt li ne) (λ q. gone i (g.sound.gone j i q) st))

    all_decided : (b i : ℕ) → i < m.n → (office m i).standing ≡ true → (office m i).round < b → (office m i).decision ≢ None
    all_decided zero i li st lt un = absurd (omega arith)
    all_decided (suc b) i li st lt un =
        let s : Net = net m w in
        let p = has_entered d ld so i li st in
        let r1 = (g.rec i li).from in
        let rr = in_reach i li st un in
        let ti = t_is i li st in
        stuck (Close i) refl (accepts.close_ok m few i li st (rw p (ap undecided un))
        (all_below m.n _ (λ j lj. rw p (or_done (eqb i j) (member (office m i).told j) (not (vacant (m.termination.places i j (office m i).round))) (λ ne nt. ap not (spoken_in i li st rr j lj (eqb-false i j ne))))))
        (all_below m.n _ (λ j lj. rw p (or_done (eqb i j) (member (office m i).told j) (is_taken (m.termination.places j i (office m i).round)) (λ ne nt. heard_j (all_decided b) j lj (eqb-false i j ne) nt r1 rr p)))))
      where
        from-dropped : (j : ℕ) → j < m.n → i ≢ j → member (office m i).told j ≡ false → 1 ≤ (office m i).round → (k : ℕ) → 1 ≤ k → waits (m.termination.places j i k) ≡ true → vacant (m.termination.places j i (office m i).round) ≡ false
        from-dropped j lj ne nt r1 k k1 wa =
            let ti = t_is i li st in
            let kt = own_low (net m w) j i k (g.sound.own j i k) (not_vacant (m.termination.places j i k) wa) in
            elim (cases_lt k (office m i).round) [
              | inl lt ↦ absurd (taken_not (m.termination.places j i k) (took_j (net m w) k i j (g.sound.closed i j k k1 (omega arith) lj ne) (λ q. both_ways _ nt q)) wa)
              | inr ge ↦ elim (cases_eq k (office m i).round) [
                | inl e ↦ ap (λ (z : ℕ). vacant (m.termination.places j i z)) (sym e) ∙ not_empty (m.termination.places j i k) wa
                | inr nk ↦ spoke_before j i (office m i).round li st r1 (omega arith) (λ e. ne (sym e))
              ]
            ]

        posted : ((j : ℕ) → j < m.n → (office m j).standing ≡ true → (office m j).round < b → (office m j).decision ≢ None) → (j : ℕ) → j < m.n → i ≢ j → member (office m i).told j ≡ false → 1 ≤ (office m i).round → (office m i).round ≤ m.termination.reach → vacant (m.termination.places j i (office m i).round) ≡ false
        posted ih j lj ne nt r1 rr = elim (cases_Bool (office m j).standing) [
          | inr dj ↦ elim (cases_Bool (waiting_from m.termination j i)) [
            | inr q ↦ absurd (stuck (Notice i j) refl (accepts.notice_ok m few i li st j lj ne dj nt q))
            | inl q ↦ let (k, k1, x) = some_waits m.termination j i q in from-dropped j lj ne nt r1 k k1 x
          ]
          | inl sj ↦ elim (cases_lt (office m j).round (office m i).round) [
            | inl lt' ↦ absurd (elim (open_or (office m j).decision) [ inl u ↦ ih j lj sj (omega arith) u | inr u ↦ ahead i j li lj st sj un u lt' ])
            | inr ge ↦ elim (cases_eq (office m j).round (office m i).round) [
              | inl e ↦ ap (λ (z : ℕ). vacant (m.termination.places j i z)) (sym e) ∙ spoken_in j lj sj (omega arith) i li (λ z. ne (sym z))
              | inr nk ↦ let tj = t_is j lj sj in spoke_before j i (office m i).round li st r1 (omega arith) (λ e. ne (sym e))
            ]
          ]
        ]

        heard_j : ((j : ℕ) → j < m.n → (office m j).standing ≡ true → (office m j).round < b → (office m j).decision ≢ None) → (j : ℕ) → j < m.n → i ≢ j → member (office m i).told j ≡ false → 1 ≤ (office m i).round → (office m i).round ≤ m.termination.reach → terminating (office m i) ≡ true → is_taken (m.termination.places j i (office m i).round) ≡ true
        heard_j ih j lj ne nt r1 rr p = elim (cases_Bool (is_taken (m.termination.places j i (office m i).round))) [
          | inl e ↦ e
          | inr e ↦ absurd (stuck (Hear i j) refl (accepts.hear_ending_ok m few i li st j lj ne p un r1 rr (waiting _ (posted ih j lj ne nt r1 rr) e)))
        ]

  -- where nobody dropped out
  module _ (all : (j : ℕ) → j < m.n → (office m j).standing ≡ true) where
    voting : (j : ℕ) → j < m.n → terminating (office m j) ≡ false
    voting j lj = elim (cases_Bool (terminating (office m j))) [
      | inr p ↦ p
      | inl p ↦ let f = (g.rec j lj).from in let t : t_of (office m j) ≡ (office m j).round = cond-true _ _ _ p in let (d, ld, dd, _) = g.sound.cause j (omega arith) in absurd (gone d dd (all d ld))
    ]

    r_is : (j : ℕ) → j < m.n → r_of (office m j) ≡ (office m j).round
    r_is j lj = cond-false _ _ _ (voting j lj)

    low : (i : ℕ) → i < m.n → (office m i).round ≤ last (votes m) i → (office m i).round ≤ m.voting.reach
    low i li le = let a = last_low (votes m) i in let b = g.fixed.voting_reach in omega arith

    same_words_voting : (i : ℕ) → i < m.n → as_before same_knowledge m.voting i (office m i).round (office m i).knowledge ≡ true
    unfolding as_before
    same_words_voting i li =
        let r1 = (g.rec i li).from in
        let re = r_is i li in
        all_below 16 (λ r. agrees same_knowledge (office m i).knowledge (m.voting.places i r (office m i).round))
        (λ r lr. agrees_known (m.voting.places i r (office m i).round) (office m i).knowledge (subst (λ (k : ℕ). (m.voting.places i r k ≡ Empty) ⊎ (content (m.voting.places i r k) ≡ (office m i).knowledge)) re (lies_now (votes m) i r (omega arith) (g.fair.lies i r (r_of (office m i))))))

    -- who has a round left has spoken in it
    spoke_now : (i : ℕ) → i < m.n → (office m i).round ≤ last (votes m) i → (j : ℕ) → m.names (plan_round m.h (office m i).round) i j ≡ true → vacant (m.voting.places i j (office m i).round) ≡ false
    spoke_now i li le j nm = elim (cases_Bool (vacant (m.voting.places i j (office m i).round))) [
      | inr e ↦ e
      | inl e ↦ let pr = g.fixed.proper _ i j nm in let lj = pr.listener in let ne = pr.apart in
          absurd (stuck (Speak i j) refl (accepts.speak_voting_ok m few i li (all i li) j lj ne (voting i li) (voted_all i li (all i li) (voting i li)) (rw (last_is m w g i li (voting i li)) le) nm (g.rec i li).from (low i li le) (same_words_voting i li) e))
    ]

    -- an office without a round left is past the round of every office that has one
    past : (i j : ℕ) → i < m.n → j < m.n → (office m i).round ≤ last (votes m) i → last (votes m) j < (office m j).round → (office m j).round ≤ (office m i).round → ⊥
    past i j li lj le nl jr = elim (cases_eq (office m j).knowledge.no.mask 0) [
      | inl z ↦ let a = last_none (votes m) j z in let b = last_low (votes m) i in omega arith
      | inr ne ↦
          let a = last_some (votes m) j ne in
          let re = r_is i li in
          let r1 = (g.rec i li).from in
          let none = still_open (votes m) i (omega arith) (omega arith) in
          let (x, lx, no-x) = no_voter m w g j ne in
          let y = in_one (office m i).knowledge.no x none (has_yes (votes m) i x) (g.fair.learnt i x li (voted_all i li (all i li) (voting i li)) (omega arith) (inr (omega arith, lx))) in
          g.fair.one_vote x (g.fair.yes_own i x y).1 no-x
    ]

    no_round_left : (b i : ℕ) → i < m.n → (office m i).round < b → (office m i).round ≤ last (votes m) i → ⊥
    no_round_left zero i li lt le = omega arith
    no_round_left (suc b) i li lt le =
        let p = voting i li in
        let vo = voted_all i li (all i li) p in
        let le' : (office m i).round ≤ voting_rounds m.h (office m i).decision = rw (last_is m w g i li p) le in
        stuck (Close i) refl (accepts.close_ok m few i li (all i li) (rw p (and_from _ _ vo (le-leb _ _ le')))
        (all_below m.n _ (λ j lj. rw p (or_named _ _ (λ nm. ap not (spoke_now i li le j nm)))))
        (all_below m.n _ (λ j lj. rw p (or_named _ _ (λ nm. heard_j (no_round_left b) j lj nm p vo le')))))
      where
        posted : ((j : ℕ) → j < m.n → (office m j).round < b → (office m j).round ≤ last (votes m) j → ⊥) → (j : ℕ) → j < m.n → m.names (plan_round m.h (office m i).round) j i ≡ true → vacant (m.voting.places j i (office m i).round) ≡ false
        posted ih j lj nm =
            let rj = r_is j lj in
            let r1 = (g.rec i li).from in
            elim (cases_lt (office m i).round (office m j).round) [
              | inl lt' ↦ g.fair.spoke j i (office m i).round r1 (omega arith) li nm
              | inr ge ↦ elim (cases_lt (last (votes m) j) (office m j).round) [
                | inl nl ↦ absurd (past i j li lj le nl ge)
                | inr hl ↦ elim (cases_eq (office m j).round (office m i).round) [
                  | inl e ↦ ap (λ (z : ℕ). vacant (m.voting.places j i z)) (sym e) ∙ spoke_now j lj hl i (ap (λ (z : ℕ). m.names (plan_round m.h z) j i) e ∙ nm)
                  | inr nk ↦ absurd (ih j lj (omega arith) hl)
                ]
              ]
            ]

        heard_j : ((j : ℕ) → j < m.n → (office m j).round < b → (office m j).round ≤ last (votes m) j → ⊥) → (j : ℕ) → j < m.n → m.names (plan_round m.h (office m i).round) j i ≡ true → terminating (office m i) ≡ false → (office m i).voted ≡ true → (office m i).round ≤ voting_rounds m.h (office m i).decision → is_taken (m.voting.places j i (office m i).round) ≡ true
        heard_j ih j lj nm p vo le' = elim (cases_Bool (is_taken (m.voting.places j i (office m i).round))) [
          | inl e ↦ e
          | inr e ↦ let ne = (g.fixed.proper _ j i nm).apart in
              absurd (stuck (Hear i j) refl (accepts.hear_voting_ok m few i li (all i li) j lj (λ q. ne (sym q)) p vo le' nm (g.rec i li).from (low i li le) (waiting _ (posted ih j lj nm) e)))
        ]

    voting_decided : (i : ℕ) → i < m.n → (office m i).decision ≢ None
    voting_decided i li un = elim (cases_lt (last (votes m) i) (office m i).round) [
      | inr le ↦ no_round_left (suc (office m i).round) i li (omega arith) le
      | inl nl ↦
          let de = ((g.rec i li).in_voting (voting i li)).0 in
          elim (cases_eq (office m i).knowledge.no.mask 0) [
            | inr ne ↦ class-some m.n _ ne (sym de ∙ un)
            | inl z ↦
                let a = last_none (votes m) i z in
                let b = g.fair.bounded i in
                let re = r_is i li in
                let q : r_of (office m i) - suc m.h ≡ m.h = omega arith in
                let hr : m.h < r_of (office m i) = omega arith in
                class-ready m.n _ (full_from m.n _ (λ l ll. g.fair.primed i l li hr z (subst (λ (k : ℕ). Knew (votes m) k i l) (sym q) (g.fixed.covers i l li ll)))) (sym de ∙ un)
          ]
    ]

  pub decided : (i : ℕ) → i < m.n → (office m i).standing ≡ true → (office m i).decision ≢ None
  decided i li st = elim (cases_Bool (every m.n (λ j. (office m j).standing))) [
    | inl e ↦ voting_decided (every_at m.n (λ j. (office m j).standing) e) i li
    | inr e ↦ let (d, ld, so) = every_not m.n (λ j. (office m j).standing) e in all_decided d ld so (suc (office m i).round) i li st (omega arith)
  ]
