-- Each move of the voting keeps what Fair says. Assumes nothing.
use Rattle.std.proofs.Common.{◌≡◌, ℕ, suc, ◌+◌, ◌-◌, ◌<◌, ◌≤◌, Bool, true, false, ◌&&◌, ◌||◌, eqb, ltb, ◌⊎◌, Option, sym, refl, ap, ◌∙◌, subst, inl, inr, arith}
use Rattle.std.proofs.lemmas.Bool.Decides.{nat_tests}
use Rattle.std.proofs.lemmas.Bool.{both_ways, cases_eq, cases_Bool, or_cases, or_left, or_right}
use Rattle.words.specs.declared.knowledge.Knowledge.{Knowledge}
use Rattle.words.specs.declared.offices.Offices.{Offices}
use Rattle.words.specs.Knowledge.{knows_nothing}
use Rattle.words.specs.Offices.{member, none, full}
use Rattle.words.proofs.Members.{member-none, member-added}
use Rattle.posts.specs.declared.place.Place.{Place}
use Rattle.posts.specs.declared.place.Place.TheVariants.{Waiting}
use Rattle.posts.specs.Places.{vacant}
use Rattle.protocol.specs.Hearing.{heard}
use Rattle.protocol.specs.Model.{plan_round}
use Rattle.protocol.proofs.Sums.{every_at, some_at, some-from, full_at, full_from, some-member, no_member, in_one, told_by, word_or, closed-yes, closed-no, closed-ready}
use Rattle.protocol.proofs.Updates.{at1_is, at3_is}
use Rattle.protocol.proofs.Voting.{Votes, Move, yes, no, close, leave, say, hear, last, named, is_taken, spoken, listened, Can, closed_known, moved, content, has_yes, has_no, has_ready, Knew, Reached, Lies, Fair, Plan}

ruleset kept = (arith, nat_tests, at1_is, at3_is)

ruleset sets = (kept, member-added, member-none)

-- who is in a set f of what was heard is in that set of the word in the place
pub heard_set : (f : Knowledge → Offices) → f knows_nothing ≡ none → (p : Place Knowledge) (j : ℕ) → member (f (word_or knows_nothing (heard p))) j ≡ true → member (f (content p)) j ≡ true
heard_set f z (Waiting x) j e = absurd (both_ways _ (member-none j) (ap (λ (s : Offices). member s j) (sym z) ∙ e))
heard_set f z _ j e = e

module _ (u : Votes) where
  grows_yes : (v : Move) → Can u v → (a j : ℕ) → has_yes u a j ≡ true → has_yes (moved u v) a j ≡ true
  grows_yes (yes i) g a j e = grind sets
  grows_yes (no i) g a j e = grind sets
  grows_yes (close i) g a j e = let c = closed-yes u.n i (u.knowledge i) (λ l. heard (u.place l i (u.r i))) j in grind kept
  grows_yes _ g a j e = e

  grows_no : (v : Move) → Can u v → (a j : ℕ) → has_no u a j ≡ true → has_no (moved u v) a j ≡ true
  grows_no (yes i) g a j e = grind sets
  grows_no (no i) g a j e = grind sets
  grows_no (close i) g a j e = let c = closed-no u.n i (u.knowledge i) (λ l. heard (u.place l i (u.r i))) j in grind kept
  grows_no _ g a j e = e

  grows_ready : (v : Move) → Can u v → (a j : ℕ) → has_ready u a j ≡ true → has_ready (moved u v) a j ≡ true
  grows_ready (yes i) g a j e = grind sets
  grows_ready (no i) g a j e = grind sets
  grows_ready (close i) g a j e = let c = closed-ready u.n i (u.knowledge i) (λ l. heard (u.place l i (u.r i))) j in grind kept
  grows_ready _ g a j e = e

  -- who is in a yes after a move was in one before, or has just voted
  pub yes_origin : Fair u → (v : Move) → Can u v → (a j : ℕ) → has_yes (moved u v) a j ≡ true → (v ≡ yes j) ⊎ ((l : ℕ) × (has_yes u l j ≡ true))
  yes_origin f (yes i) g a j e = elim (cases_Bool (has_yes u a j)) [ inl q ↦ inr (a, q) | inr q ↦ elim (cases_eq i j) [ inl s ↦ inl (ap yes s) | inr ne ↦ absurd (let z = member-added (u.knowledge i).yes i j in grind kept) ] ]
  yes_origin f (no i) g a j e = inr (a, grind kept)
  yes_origin f (close i) g a j e = inr (elim (at1_is u.knowledge i (closed_known u i) a) [
    | inr (ne, q) ↦ (a, ap (λ k. member k.yes j) (sym q) ∙ e)
    | inl (s, q) ↦ elim (or_cases _ _ (sym (closed-yes u.n i (u.knowledge i) (λ l. heard (u.place l i (u.r i))) j) ∙ ap (λ k. member k.yes j) (sym q) ∙ e)) [
      | inl own ↦ (i, own)
      | inr other ↦ let (l, ll, x) = some_at u.n (λ l. member (told_by (λ l. heard (u.place l i (u.r i))) l).yes j) other in
          (l, f.in_yes l i (u.r i) j (heard_set (λ k. k.yes) refl (u.place l i (u.r i)) j x))
    ]
  ])
  yes_origin f _ g a j e = inr (a, e)

  -- who is in a no after a move was in one before, or has just voted
  pub no_origin : Fair u → (v : Move) → Can u v → (a j : ℕ) → has_no (moved u v) a j ≡ true → (v ≡ no j) ⊎ ((l : ℕ) × (has_no u l j ≡ true))
  no_origin f (yes i) g a j e = inr (a, grind kept)
  no_origin f (no i) g a j e = elim (cases_Bool (has_no u a j)) [ inl q ↦ inr (a, q) | inr q ↦ elim (cases_eq i j) [ inl s ↦ inl (ap no s) | inr ne ↦ absurd (let z = member-added (u.knowledge i).no i j in grind kept) ] ]
  no_origin f (close i) g a j e = inr (elim (at1_is u.knowledge i (closed_known u i) a) [
    | inr (ne, q) ↦ (a, ap (λ k. member k.no j) (sym q) ∙ e)
    | inl (s, q) ↦ elim (or_cases _ _ (sym (closed-no u.n i (u.knowledge i) (λ l. heard (u.place l i (u.r i))) j) ∙ ap (λ k. member k.no j) (sym q) ∙ e)) [
      | inl own ↦ (i, own)
      | inr other ↦ let (l, ll, x) = some_at u.n (λ l. member (told_by (λ l. heard (u.place l i (u.r i))) l).no j) other in
          (l, f.in_no l i (u.r i) j (heard_set (λ k. k.no) refl (u.place l i (u.r i)) j x))
    ]
  ])
  no_origin f _ g a j e = inr (a, e)

  -- who is in a ready after a move was in one before, or has yes full
  ready_origin : Fair u → (v : Move) → Can u v → (a j : ℕ) → has_ready (moved u v) a j ≡ true → (full u.n ((moved u v).knowledge j).yes ≡ true) ⊎ ((l : ℕ) × (has_ready u l j ≡ true))
  ready_origin f (yes i) g a j e = inr (a, grind kept)
  ready_origin f (no i) g a j e = inr (a, grind kept)
  ready_origin f (close i) g a j e = elim (at1_is u.knowledge i (closed_known u i) a) [
    | inr (ne, q) ↦ inr (a, ap (λ k. member k.ready j) (sym q) ∙ e)
    | inl (s, q) ↦ elim (or_cases _ _ (sym (closed-ready u.n i (u.knowledge i) (λ l. heard (u.place l i (u.r i))) j) ∙ ap (λ k. member k.ready j) (sym q) ∙ e)) [
      | inr self ↦ inl (grind kept)
      | inl old ↦ inr (elim (or_cases _ _ old) [
        | inl own ↦ (i, own)
        | inr other ↦ let (l, ll, x) = some_at u.n (λ l. member (told_by (λ l. heard (u.place l i (u.r i))) l).ready j) other in
            (l, f.in_ready l i (u.r i) j (heard_set (λ k. k.ready) refl (u.place l i (u.r i)) j x))
      ])
    ]
  ]
  ready_origin f _ g a j e = inr (a, e)

  full_moved : (v : Move) → Can u v → (a : ℕ) → full u.n (u.knowledge a).yes ≡ true → full u.n ((moved u v).knowledge a).yes ≡ true
  full_moved v g a e = full_from u.n _ (λ l ll. grows_yes v g a l (full_at u.n _ e l ll))

  voter : (v : Move) (j : ℕ) → Can u v → (v ≡ yes j) ⊎ (v ≡ no j) → (j < u.n) × (u.voted j ≡ false)
  voter (yes i) j g e = grind arith
  voter _ j g e = grind arith

  just_yes : Plan u → (j : ℕ) → j < u.n → has_yes (moved u (yes j)) j j ≡ true
  just_yes c j lj = let few = c.few in let j16 : j < 16 = omega arith in let z = member-added (u.knowledge j).yes j j in grind kept

  just_no : Plan u → (j : ℕ) → j < u.n → has_no (moved u (no j)) j j ≡ true
  just_no c j lj = let few = c.few in let j16 : j < 16 = omega arith in let z = member-added (u.knowledge j).no j j in grind kept

  yes_own' : Fair u → Plan u → (v : Move) → Can u v → (a j : ℕ) → has_yes (moved u v) a j ≡ true → (j < u.n) × (has_yes (moved u v) j j ≡ true)
  yes_own' f c v g a j e = elim (yes_origin f v g a j e) [
    | inl q ↦ ((voter v j g (inl q)).0, rw q (just_yes c j (voter v j g (inl q)).0))
    | inr (l, x) ↦ let (lt, y) = f.yes_own l j x in (lt, grows_yes v g j j y)
  ]

  no_own' : Fair u → Plan u → (v : Move) → Can u v → (a j : ℕ) → has_no (moved u v) a j ≡ true → (j < u.n) × (has_no (moved u v) j j ≡ true)
  no_own' f c v g a j e = elim (no_origin f v g a j e) [
    | inl q ↦ ((voter v j g (inr q)).0, rw q (just_no c j (voter v j g (inr q)).0))
    | inr (l, x) ↦ let (lt, y) = f.no_own l j x in (lt, grows_no v g j j y)
  ]

  ready_own' : Fair u → (v : Move) → Can u v → (a j : ℕ) → has_ready (moved u v) a j ≡ true → full u.n ((moved u v).knowledge j).yes ≡ true
  ready_own' f v g a j e = elim (ready_origin f v g a j e) [ inl q ↦ q | inr (l, x) ↦ full_moved v g j (f.ready_own l j x) ]

  unvoted_none : Fair u → (j : ℕ) → u.voted j ≡ false → (has_yes u j j ≡ false) × (has_no u j j ≡ false)
  unvoted_none f j e = let (k, _) = f.blank j e in let z = member-none j in (ap (λ k. member k.yes j) k ∙ z, ap (λ k. member k.no j) k ∙ z)

  one_vote' : Fair u → (v : Move) → Can u v → (j : ℕ) → has_yes (moved u v) j j ≡ true → has_no (moved u v) j j ≡ true → ⊥
  one_vote' f v g j y x = elim (yes_origin f v g j j y) [
    | inl q ↦ elim (no_origin f v g j j x) [
      | inl q' ↦ differ v j q q'
      | inr (l, b) ↦ let (_, c) = f.no_own l j b in let (_, z) = unvoted_none f j (voter v j g (inl q)).1 in both_ways _ z c
    ]
    | inr (l, a) ↦ let (_, d) = f.yes_own l j a in elim (no_origin f v g j j x) [
      | inl q' ↦ let (z, _) = unvoted_none f j (voter v j g (inr q')).1 in both_ways _ z d
      | inr (l', b) ↦ f.one_vote j d (f.no_own l' j b).1
    ]
  ]
    where
      differ : (v : Move) (j : ℕ) → v ≡ yes j → v ≡ no j → ⊥
      differ v j p q = grind arith

  -- a set f that its sender has of every word before a move, it has of every word after it
  in_place : (f : Knowledge → Offices) → ((s d k j : ℕ) → member (f (content (u.place s d k))) j ≡ true → member (f (u.knowledge s)) j ≡ true) → (v : Move) (s d k j : ℕ) → member (f (content ((moved u v).place s d k))) j ≡ true → member (f (u.knowledge s)) j ≡ true
  in_place f own (say i b) s d k j e = let q = own s d k j in grind kept
  in_place f own (hear i b) s d k j e = let q = own s d k j in grind kept
  in_place f own _ s d k j e = own s d k j e

  blank' : (v : Move) → Can u v → (i : ℕ) → (u.voted i ≡ false → (u.knowledge i ≡ knows_nothing) × (u.r i ≤ 1)) → (moved u v).voted i ≡ false → ((moved u v).knowledge i ≡ knows_nothing) × ((moved u v).r i ≤ 1)
  blank' (say a c) g i b e = b e
  blank' (hear a c) g i b e = b e
  blank' _ g i b e = grind kept

  lies' : (v : Move) → Can u v → (s d k : ℕ) → Lies u s d k → Lies (moved u v) s d k
  lies' (yes a) g s d k b = grind kept
  lies' _ g s d k b = grind kept

  round' : (v : Move) → Can u v → (i k : ℕ) → 1 ≤ k → k < (moved u v).r i → (k < u.r i) ⊎ ((v ≡ close i) × (k ≡ u.r i))
  round' (close a) g i k k1 lt = grind kept
  round' (leave a) g i k k1 lt = grind kept
  round' _ g i k k1 lt = inl lt

  filled' : (v : Move) → Can u v → (s d k : ℕ) → vacant (u.place s d k) ≡ false → vacant ((moved u v).place s d k) ≡ false
  filled' (say a c) g s d k b = grind kept
  filled' (hear a c) g s d k b = grind kept
  filled' _ g s d k b = b

  taken' : (v : Move) → Can u v → (s d k : ℕ) → is_taken (u.place s d k) ≡ true → is_taken ((moved u v).place s d k) ≡ true
  taken' (say a c) g s d k b = grind kept
  taken' (hear a c) g s d k b = grind kept
  taken' _ g s d k b = b

  spoke_now : (i j : ℕ) → Can u (close i) → j < u.n → named u (u.r i) i j ≡ true → vacant (u.place i j (u.r i)) ≡ false
  spoke_now i j (_, _, _, _, e, _) lj nm = let q = every_at u.n (spoken u i) e j lj in grind arith

  took_now : (i j : ℕ) → Can u (close i) → j < u.n → named u (u.r i) j i ≡ true → is_taken (u.place j i (u.r i)) ≡ true
  took_now i j (_, _, _, _, _, e) lj nm = let q = every_at u.n (listened u i) e j lj in grind arith

  spoke' : Fair u → (v : Move) → Can u v → (i j k : ℕ) → 1 ≤ k → k < (moved u v).r i → j < u.n → named u k i j ≡ true → vacant ((moved u v).place i j k) ≡ false
  spoke' f v g i j k k1 lt lj nm = filled' v g i j k (elim (round' v g i k k1 lt) [
    | inl old ↦ f.spoke i j k k1 old lj nm
    | inr (e, q) ↦ rw q (spoke_now i j (rw e at g) lj (rw q at nm))
  ])

  took' : Fair u → (v : Move) → Can u v → (i j k : ℕ) → 1 ≤ k → k < (moved u v).r i → j < u.n → named u k j i ≡ true → is_taken ((moved u v).place j i k) ≡ true
  took' f v g i j k k1 lt lj nm = taken' v g j i k (elim (round' v g i k k1 lt) [
    | inl old ↦ f.took i j k k1 old lj nm
    | inr (e, q) ↦ rw q (took_now i j (rw e at g) lj (rw q at nm))
  ])

  bounded' : (v : Move) → Can u v → (i : ℕ) → u.r i ≤ suc (u.h + u.h) → (moved u v).r i ≤ suc (u.h + u.h)
  bounded' (close a) g i b = grind kept
  bounded' (leave a) g i b = grind kept
  bounded' _ g i b = b

  -- a word that i has taken counts in its closing
  heard-taken : (p : Place Knowledge) → is_taken p ≡ true → word_or knows_nothing (heard p) ≡ content p
  heard-taken p e = grind arith

  counts : (i s l : ℕ) → s < u.n → is_taken (u.place s i (u.r i)) ≡ true →
      (member (content (u.place s i (u.r i))).yes l ≡ true → member (closed_known u i).yes l ≡ true)
      × (member (content (u.place s i (u.r i))).no l ≡ true → member (closed_known u i).no l ≡ true)
      × (member (content (u.place s i (u.r i))).ready l ≡ true → member (closed_known u i).ready l ≡ true)
  counts i s l ls t =
      let p : ℕ → Option Knowledge = λ l. heard (u.place l i (u.r i)) in
      let q = heard-taken (u.place s i (u.r i)) t in (
        λ e. let x = some-from u.n (λ z. member (told_by p z).yes l) s ls (ap (λ k. member k.yes l) q ∙ e) in let c = closed-yes u.n i (u.knowledge i) p l in c ∙ or_right _ _ x,
        λ e. let x = some-from u.n (λ z. member (told_by p z).no l) s ls (ap (λ k. member k.no l) q ∙ e) in let c = closed-no u.n i (u.knowledge i) p l in c ∙ or_right _ _ x,
        λ e. let x = some-from u.n (λ z. member (told_by p z).ready l) s ls (ap (λ k. member k.ready l) q ∙ e) in let c = closed-ready u.n i (u.knowledge i) p l in c ∙ or_left _ _ (or_right _ _ x),
      )

  pub own_counts : (i l : ℕ) →
      (has_yes u i l ≡ true → member (closed_known u i).yes l ≡ true)
      × (has_no u i l ≡ true → member (closed_known u i).no l ≡ true)
      × (has_ready u i l ≡ true → member (closed_known u i).ready l ≡ true)
  own_counts i l =
      let p : ℕ → Option Knowledge = λ l. heard (u.place l i (u.r i)) in
      (λ e. closed-yes u.n i (u.knowledge i) p l ∙ or_left _ _ e, λ e. closed-no u.n i (u.knowledge i) p l ∙ or_left _ _ e, λ e. closed-ready u.n i (u.knowledge i) p l ∙ or_left _ _ (or_left _ _ e))

  either : (a b c d : Bool) → (a || b) ≡ true → (a ≡ true → c ≡ true) → (b ≡ true → d ≡ true) → (c || d) ≡ true
  either a b c d e f g = grind arith

  full-place : (p : Place Knowledge) → is_taken p ≡ true → vacant p ≡ false
  full-place p e = grind arith

  low_round : (k : ℕ) → k ≤ u.h → plan_round u.h k ≡ k
  low_round k le = grind (arith, nat_tests)

  high_round : (k : ℕ) → u.h < k → plan_round u.h k ≡ k - u.h
  high_round k lt = grind (arith, nat_tests)

  -- at the closing of round r ≤ h, i has a vote of all whom it knows of after r rounds of the plan
  gathers : Fair u → Plan u → (i l : ℕ) → Can u (close i) → u.r i ≤ u.h → Knew u (u.r i) i l → (member (closed_known u i).yes l || member (closed_known u i).no l) ≡ true
  gathers f c i l g le e =
      let (li, vi, r1, _, _, _) = g in
      let q : ℕ = u.r i - 1 in
      let qe : u.r i ≡ suc q = omega arith in
      elim (subst (λ (k : ℕ). Knew u k i l) qe e) [
        | inl a ↦ either _ _ _ _ (f.learnt i l li vi r1 (inl (le, a))) (own_counts i l).0 (own_counts i l).1
        | inr (s, nm, a) ↦
            let ls = (c.proper (suc q) s i nm).speaker in
            let t = took_now i s g ls (ap (λ k. u.names k s i) (low_round (u.r i) le ∙ qe) ∙ nm) in
            either _ _ _ _ (f.learnt_in s i (u.r i) l (full-place (u.place s i (u.r i)) t) (inl (le, a))) (counts i s l ls t).0 (counts i s l ls t).1
      ]

  hit_learnt : Fair u → Plan u → (i l : ℕ) → Can u (close i) → Reached u (suc (u.r i)) i l → (member (closed_known u i).yes l || member (closed_known u i).no l) ≡ true
  hit_learnt f c i l g (inl (lt, k)) =
      let q : suc (u.r i) - 1 ≡ u.r i = omega arith in
      gathers f c i l g (omega arith) (subst (λ (k : ℕ). Knew u k i l) q k)
  hit_learnt f c i l g (inr (lt, ll)) =
      let (li, vi, r1, _, _, _) = g in
      elim (cases_eq (u.r i) u.h) [
        | inl q ↦ gathers f c i l g (omega arith) (subst (λ (k : ℕ). Knew u k i l) (sym q) (c.cover i l li ll))
        | inr ne ↦ either _ _ _ _ (f.learnt i l li vi r1 (inr (omega arith, ll))) (own_counts i l).0 (own_counts i l).1
      ]

  pub none_before : (i : ℕ) → (closed_known u i).no.mask ≡ 0 → (u.knowledge i).no.mask ≡ 0
  none_before i e = elim (cases_eq (u.knowledge i).no.mask 0) [
    | inl q ↦ q
    | inr ne ↦ let (x, m) = some-member (u.knowledge i).no ne in absurd (no_member (closed_known u i).no x e ((own_counts i x).1 m))
  ]

  self : (i l : ℕ) (b : Bool) → i < 16 → b ≡ true → i ≡ l → (b && (eqb l i && ltb i 16)) ≡ true
  self i l b lt h e = grind (arith, nat_tests)

  hit_primed : Fair u → Plan u → (i l : ℕ) → Can u (close i) → u.h < suc (u.r i) → (closed_known u i).no.mask ≡ 0 → Knew u (suc (u.r i) - suc u.h) i l → member (closed_known u i).ready l ≡ true
  hit_primed f c i l g lt none e =
      let (li, vi, r1, _, _, _) = g in
      let few = c.few in
      elim (cases_eq (u.r i) u.h) [
        | inl q ↦
            let z : suc (u.r i) - suc u.h ≡ 0 = omega arith in
            let yes-full = full_from u.n (closed_known u i).yes (λ x lx. in_one (closed_known u i).no x none (member (closed_known u i).yes x) (hit_learnt f c i x g (inr (omega arith, lx)))) in
            let k = closed-ready u.n i (u.knowledge i) (λ l. heard (u.place l i (u.r i))) l in
            k ∙ or_right _ _ (self i l (full u.n (closed_known u i).yes) (omega arith) yes-full (subst (λ (k : ℕ). Knew u k i l) z e))
        | inr ne ↦
            let q : ℕ = u.r i - suc u.h in
            let qe : suc (u.r i) - suc u.h ≡ suc q = omega arith in
            let pe : u.r i - u.h ≡ suc q = omega arith in
            elim (subst (λ (k : ℕ). Knew u k i l) qe e) [
              | inl a ↦ (own_counts i l).2 (f.primed i l li (omega arith) (none_before i none) a)
              | inr (s, nm, a) ↦
                  let ls = (c.proper (suc q) s i nm).speaker in
                  let t = took_now i s g ls (ap (λ k. u.names k s i) (high_round (u.r i) (omega arith) ∙ pe) ∙ nm) in
                  (counts i s l ls t).2 ((f.primed_in s i (u.r i) l (full-place (u.place s i (u.r i)) t) (omega arith)).1 a)
            ]
      ]

  -- who has not voted is in round 1, and knows of itself alone
  fresh_sees : Fair u → Plan u → (i a l : ℕ) → i ≡ a → u.voted a ≡ false → 1 ≤ u.r i → Reached u (u.r i) i l → i ≡ l
  fresh_sees f c i a l q va r1 (inl (le, e)) =
      let w = (f.blank i (rw q va)).1 in
      let s : u.r i - 1 ≡ 0 = omega arith in
      subst (λ (k : ℕ). Knew u k i l) s e
  fresh_sees f c i a l q va r1 (inr (lt, ll)) =
      let w = (f.blank i (rw q va)).1 in
      let one = c.one in
      absurd (omega arith)

  learnt' : Fair u → Plan u → (v : Move) → Can u v → (i l : ℕ) → i < u.n → (moved u v).voted i ≡ true → 1 ≤ (moved u v).r i → Reached u ((moved u v).r i) i l → (has_yes (moved u v) i l || has_no (moved u v) i l) ≡ true
  learnt' f c (yes a) g i l li vi r1 e = elim (at1_is u.voted a true i) [
    | inl (q, _) ↦ let z = fresh_sees f c i a l q g.1 r1 e in or_left (has_yes (moved u (yes a)) i l) (has_no (moved u (yes a)) i l) (subst (λ (x : ℕ). has_yes (moved u (yes a)) i x ≡ true) z (subst (λ (x : ℕ). has_yes (moved u (yes a)) x x ≡ true) (sym q) (just_yes c a g.0)))
    | inr (ne, x) ↦ either _ _ _ _ (f.learnt i l li (sym x ∙ vi) r1 e) (grows_yes (yes a) g i l) (grows_no (yes a) g i l)
  ]
  learnt' f c (no a) g i l li vi r1 e = elim (at1_is u.voted a true i) [
    | inl (q, _) ↦ let z = fresh_sees f c i a l q g.1 r1 e in or_right (has_yes (moved u (no a)) i l) (has_no (moved u (no a)) i l) (subst (λ (x : ℕ). has_no (moved u (no a)) i x ≡ true) z (subst (λ (x : ℕ). has_no (moved u (no a)) x x ≡ true) (sym q) (just_no c a g.0)))
    | inr (ne, x) ↦ either _ _ _ _ (f.learnt i l li (sym x ∙ vi) r1 e) (grows_yes (no a) g i l) (grows_no (no a) g i l)
  ]
  learnt' f c (close a) g i l li vi r1 e = elim (at1_is u.r a (suc (u.r a)) i) [
    | inl (q, x) ↦ elim (at1_is u.knowledge a (closed_known u a) i) [
      | inl (_, y) ↦ rw y (hit_learnt f c a l g (subst (λ (z : ℕ). Reached u (suc (u.r a)) z l) q (subst (λ (z : ℕ). Reached u z i l) x e)))
      | inr (ne, _) ↦ absurd (ne q)
    ]
    | inr (ne, x) ↦ either _ _ _ _ (f.learnt i l li vi (rw x at r1) (subst (λ (z : ℕ). Reached u z i l) x e)) (grows_yes (close a) g i l) (grows_no (close a) g i l)
  ]
  learnt' f c (leave a) g i l li vi r1 e = elim (at1_is u.r a 0 i) [
    | inl (q, x) ↦ absurd (omega arith)
    | inr (ne, x) ↦ f.learnt i l li vi (rw x at r1) (subst (λ (z : ℕ). Reached u z i l) x e)
  ]
  learnt' f c _ g i l li vi r1 e = f.learnt i l li vi r1 e

  -- hearing changes no word
  heard-same : (a b s d k : ℕ) → (vacant ((moved u (hear a b)).place s d k) ≡ vacant (u.place s d k)) × (content ((moved u (hear a b)).place s d k) ≡ content (u.place s d k))
  heard-same a b s d k = grind kept

  learnt_in' : Fair u → (v : Move) → Can u v → (s d k l : ℕ) → vacant ((moved u v).place s d k) ≡ false → Reached u k s l → (member (content ((moved u v).place s d k)).yes l || member (content ((moved u v).place s d k)).no l) ≡ true
  learnt_in' f (say a b) g s d k l e x = elim (at3_is u.place a b (u.r a) (Waiting (u.knowledge a)) s d k) [
    | inl (p, _, q, y) ↦ let (la, _, va, r1, _, _, _) = g in rw y (f.learnt a l la va r1 (subst (λ (z : ℕ). Reached u z a l) q (subst (λ (z : ℕ). Reached u k z l) p x)))
    | inr (_, y) ↦ rw y (f.learnt_in s d k l (rw y at e) x)
  ]
  learnt_in' f (hear a b) g s d k l e x = let (n, o) = heard-same a b s d k in rw o (f.learnt_in s d k l (sym n ∙ e) x)
  learnt_in' f _ g s d k l e x = f.learnt_in s d k l e x

  pub still_open : (a : ℕ) → u.r a ≤ last u a → u.h < u.r a → (u.knowledge a).no.mask ≡ 0
  still_open a le lt = grind (arith, nat_tests)

  primed_in' : Fair u → (v : Move) → Can u v → (s d k l : ℕ) → vacant ((moved u v).place s d k) ≡ false → u.h < k → ((content ((moved u v).place s d k)).no.mask ≡ 0) × (Knew u (k - suc u.h) s l → member (content ((moved u v).place s d k)).ready l ≡ true)
  primed_in' f (say a b) g s d k l e x = elim (at3_is u.place a b (u.r a) (Waiting (u.knowledge a)) s d k) [
    | inl (p, _, q, y) ↦ let (la, _, va, r1, le, _, _) = g in let none = still_open a le (rw q at x) in
        rw y (none, λ w. f.primed a l la (rw q at x) none (subst (λ (z : ℕ). Knew u (z - suc u.h) a l) q (subst (λ (z : ℕ). Knew u (k - suc u.h) z l) p w)))
    | inr (_, y) ↦ rw y (f.primed_in s d k l (rw y at e) x)
  ]
  primed_in' f (hear a b) g s d k l e x = let (n, o) = heard-same a b s d k in rw o (f.primed_in s d k l (sym n ∙ e) x)
  primed_in' f _ g s d k l e x = f.primed_in s d k l e x

  primed' : Fair u → Plan u → (v : Move) → Can u v → (i l : ℕ) → i < u.n → u.h < (moved u v).r i → ((moved u v).knowledge i).no.mask ≡ 0 → Knew u ((moved u v).r i - suc u.h) i l → has_ready (moved u v) i l ≡ true
  primed' f c (yes a) g i l li lt z e = let b = (f.blank a g.1).1 in let one = c.one in let o : (u.knowledge i).no.mask ≡ 0 → has_ready u i l ≡ true = λ n. f.primed i l li lt n e in grind kept
  primed' f c (no a) g i l li lt z e = let b = (f.blank a g.1).1 in let one = c.one in let o : (u.knowledge i).no.mask ≡ 0 → has_ready u i l ≡ true = λ n. f.primed i l li lt n e in grind kept
  primed' f c (close a) g i l li lt z e = elim (at1_is u.r a (suc (u.r a)) i) [
    | inl (q, x) ↦ elim (at1_is u.knowledge a (closed_known u a) i) [ inl (_, y) ↦ rw y (hit_primed f c a l g (rw x at lt) (rw y at z) (subst (λ (z : ℕ). Knew u (suc (u.r a) - suc u.h) z l) q (subst (λ (z : ℕ). Knew u (z - suc u.h) i l) x e))) | inr (ne, _) ↦ absurd (ne q) ]
    | inr (ne, x) ↦ elim (at1_is u.knowledge a (closed_known u a) i) [ inl (q, _) ↦ absurd (ne q) | inr (_, y) ↦ rw y (f.primed i l li (rw x at lt) (rw y at z) (subst (λ (z : ℕ). Knew u (z - suc u.h) i l) x e)) ]
  ]
  primed' f c (leave a) g i l li lt z e = elim (at1_is u.r a 0 i) [
    | inl (q, x) ↦ absurd (omega arith)
    | inr (ne, x) ↦ f.primed i l li (rw x at lt) z (subst (λ (z : ℕ). Knew u (z - suc u.h) i l) x e)
  ]
  primed' f c _ g i l li lt z e = f.primed i l li lt z e

  pub fair_kept : Fair u → Plan u → (v : Move) → Can u v → Fair (moved u v)
  fair_kept f c v g = record {
    blank = λ i. blank' v g i (f.blank i);
    yes_own = yes_own' f c v g;
    no_own = no_own' f c v g;
    ready_own = ready_own' f v g;
    one_vote = one_vote' f v g;
    in_yes = λ s d k j e. grows_yes v g s j (in_place (λ k. k.yes) f.in_yes v s d k j e);
    in_no = λ s d k j e. grows_no v g s j (in_place (λ k. k.no) f.in_no v s d k j e);
    in_ready = λ s d k j e. grows_ready v g s j (in_place (λ k. k.ready) f.in_ready v s d k j e);
    lies = λ s d k. lies' v g s d k (f.lies s d k);
    spoke = spoke' f v g;
    took = took' f v g;
    bounded = λ i. bounded' v g i (f.bounded i);
    learnt = learnt' f c v g;
    learnt_in = learnt_in' f v g;
    primed = primed' f c v g;
    primed_in = primed_in' f v g;
  }
