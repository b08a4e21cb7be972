-- When a call is accepted. Assumes nothing.
use Rattle.std.proofs.Common.{◌≡◌, ℕ, ◌<◌, ◌≤◌, Bool, true, false, not, ◌&&◌, ◌||◌, eqb, ltb, ◌≢◌, [], ◌∷◌, None, sym, refl, ap, arith}
use Rattle.std.proofs.lemmas.Bool.{ne_eqb, lt-ltb, le-leb, and_from}
use Rattle.words.specs.Below.{every, some}
use Rattle.words.specs.Knowledge.{same_knowledge}
use Rattle.words.specs.Offices.{member}
use Rattle.words.specs.Terms.{same_term}
use Rattle.posts.specs.Places.{vacant, waits, legal, within}
use Rattle.protocol.specs.declared.call.Call.TheVariants.{Vote, Speak, Hear, Close, Notice, Join}
use Rattle.protocol.specs.Asked.{waiting_from, as_before, round_open, must_speak, must_hear, spoken_to, heard_from, verdict}
use Rattle.protocol.specs.Model.{Model, office, plan_round, voting_rounds}
use Rattle.protocol.specs.Records.{terminating, word, undecided}
use Rattle.refusals.specs.Questions.{first_no}

two_below : (m : Model) (i j : ℕ) → i < m.n → j < m.n → (ltb i m.n && ltb j m.n) ≡ true
two_below m i j li lj = and_from _ _ (lt-ltb _ _ li) (lt-ltb _ _ lj)

differ : (i j : ℕ) → i ≢ j → not (eqb i j) ≡ true
differ i j ne = ap not (ne_eqb i j ne)

legal_pair : (i j : ℕ) → i < 16 → j < 16 → i ≢ j → legal i j ≡ true
legal_pair i j li lj ne = and_from _ _ (lt-ltb i 16 li) (and_from _ _ (lt-ltb j 16 lj) (differ i j ne))

in_reach : (k n : ℕ) → 1 ≤ k → k ≤ n → within n k ≡ true
in_reach k n a b = and_from _ _ (le-leb 1 k a) (le-leb k n b)

nine : (a b c d e f g h i : Bool) → a ≡ true → b ≡ true → c ≡ true → d ≡ true → e ≡ true → f ≡ true → g ≡ true → h ≡ true → i ≡ true → first_no ((5, a) ∷ (6, b) ∷ (7, c) ∷ (11, d) ∷ (12, e) ∷ (31, f) ∷ (32, g) ∷ (33, h) ∷ (34, i) ∷ []) ≡ 0
nine a b c d e f g h i p1 p2 p3 p4 p5 p6 p7 p8 p9 = grind arith

eight : (a b c d e f g h : Bool) → a ≡ true → b ≡ true → c ≡ true → d ≡ true → e ≡ true → f ≡ true → g ≡ true → h ≡ true → first_no ((5, a) ∷ (6, b) ∷ (7, c) ∷ (13, d) ∷ (12, e) ∷ (31, f) ∷ (32, g) ∷ (35, h) ∷ []) ≡ 0
eight a b c d e f g h p1 p2 p3 p4 p5 p6 p7 p8 = grind arith

module _ (m : Model) (few : m.n ≤ 16) (i : ℕ) (li : i < m.n) (st : (office m i).standing ≡ true) where
  pub vote_ok : terminating (office m i) ≡ false → (office m i).voted ≡ false → verdict m (Vote i 1) ≡ 0
  vote_ok p vo = let a = lt-ltb i m.n li in grind arith

  pub speak_voting_ok : (j : ℕ) → j < m.n → i ≢ j → terminating (office m i) ≡ false → (office m i).voted ≡ true → (office m i).round ≤ voting_rounds m.h (office m i).decision → m.names (plan_round m.h (office m i).round) i j ≡ true →
      1 ≤ (office m i).round → (office m i).round ≤ m.voting.reach → as_before same_knowledge m.voting i (office m i).round (office m i).knowledge ≡ true → vacant (m.voting.places i j (office m i).round) ≡ true → verdict m (Speak i j) ≡ 0
  speak_voting_ok j lj ne p vo le nm r1 rr co va = rw p (nine _ _ _ _ _ _ _ _ _ (two_below m i j li lj) (differ i j ne) st (and_from _ _ vo (le-leb _ _ le)) nm (legal_pair i j (omega arith) (omega arith) ne) (in_reach (office m i).round m.voting.reach r1 rr) co va)

  pub speak_ending_ok : (j : ℕ) → j < m.n → i ≢ j → terminating (office m i) ≡ true → 1 ≤ (office m i).round → (office m i).round ≤ m.termination.reach → as_before same_term m.termination i (office m i).round (word (office m i)) ≡ true → vacant (m.termination.places i j (office m i).round) ≡ true → verdict m (Speak i j) ≡ 0
  speak_ending_ok j lj ne p r1 rr co va = rw p (nine _ _ _ _ _ _ _ _ _ (two_below m i j li lj) (differ i j ne) st refl refl (legal_pair i j (omega arith) (omega arith) ne) (in_reach (office m i).round m.termination.reach r1 rr) co va)

  pub hear_voting_ok : (j : ℕ) → j < m.n → i ≢ j → terminating (office m i) ≡ false → (office m i).voted ≡ true → (office m i).round ≤ voting_rounds m.h (office m i).decision → m.names (plan_round m.h (office m i).round) j i ≡ true →
      1 ≤ (office m i).round → (office m i).round ≤ m.voting.reach → waits (m.voting.places j i (office m i).round) ≡ true → verdict m (Hear i j) ≡ 0
  hear_voting_ok j lj ne p vo le nm r1 rr wa = rw p (eight _ _ _ _ _ _ _ _ (two_below m i j li lj) (differ i j ne) st (and_from _ _ vo (le-leb _ _ le)) nm (legal_pair j i (omega arith) (omega arith) (λ e. ne (sym e))) (in_reach (office m i).round m.voting.reach r1 rr) wa)

  pub hear_ending_ok : (j : ℕ) → j < m.n → i ≢ j → terminating (office m i) ≡ true → (office m i).decision ≡ None → 1 ≤ (office m i).round → (office m i).round ≤ m.termination.reach → waits (m.termination.places j i (office m i).round) ≡ true → verdict m (Hear i j) ≡ 0
  hear_ending_ok j lj ne p un r1 rr wa = rw p (eight _ _ _ _ _ _ _ _ (two_below m i j li lj) (differ i j ne) st (ap undecided un) refl (legal_pair j i (omega arith) (omega arith) (λ e. ne (sym e))) (in_reach (office m i).round m.termination.reach r1 rr) wa)

  pub close_ok : (round_open m (office m i)) ≡ true → every m.n (λ j. not (must_speak m i j) || spoken_to m i j) ≡ true → every m.n (λ j. not (must_hear m i j) || heard_from m i j) ≡ true → verdict m (Close i) ≡ 0
  close_ok op e1 e2 = rw (lt-ltb i m.n li, st, op, e1, e2) refl

  pub notice_ok : (j : ℕ) → j < m.n → i ≢ j → (office m j).standing ≡ false → member (office m i).told j ≡ false → waiting_from m.termination j i ≡ false → verdict m (Notice i j) ≡ 0
  notice_ok j lj ne so to qu = rw (two_below m i j li lj, differ i j ne, st, so, to, qu) refl

  pub join_ok : terminating (office m i) ≡ false → some m.n (λ j. waiting_from m.termination j i) ≡ true → verdict m (Join i) ≡ 0
  join_ok p wa = rw (lt-ltb i m.n li, st, p, wa) refl
