-- What an accepted call was asked. Assumes nothing.
use Rattle.std.proofs.Common.{◌≡◌, ℕ, ◌<◌, ◌≤◌, Bool, true, false, not, ◌&&◌, ◌||◌, eqb, ltb, leb, ◌≢◌, [], ◌∷◌, None, arith}
use Rattle.std.proofs.lemmas.Bool.Decides.{nat_tests}
use Rattle.std.proofs.lemmas.Bool.{eqb-false, ltb-true, leb-true, and_parts, not-true}
use Rattle.words.specs.Below.{every, some}
use Rattle.words.specs.Knowledge.{same_knowledge}
use Rattle.words.specs.Offices.{member}
use Rattle.posts.specs.Places.{vacant, legal, within}
use Rattle.protocol.specs.declared.call.Call.TheVariants.{Vote, Speak, Hear, Close, DropOut, Notice, Join}
use Rattle.protocol.specs.Asked.{waiting_from, as_before, must_speak, must_hear, spoken_to, heard_from, verdict}
use Rattle.protocol.specs.Model.{Model, office, plan_round, voting_rounds}
use Rattle.refusals.specs.Questions.{first_no}
use Rattle.protocol.specs.Records.{terminating}

all_nine : (a b c d e f g h i : Bool) → first_no ((5, a) ∷ (6, b) ∷ (7, c) ∷ (11, d) ∷ (12, e) ∷ (31, f) ∷ (32, g) ∷ (33, h) ∷ (34, i) ∷ []) ≡ 0 →
    (a ≡ true) × (b ≡ true) × (c ≡ true) × (d ≡ true) × (e ≡ true) × (f ≡ true) × (g ≡ true) × (h ≡ true) × (i ≡ true)
all_nine a b c d e f g h i q = grind arith

pub vote_asked : (m : Model) (i v : ℕ) → verdict m (Vote i v) ≡ 0 → (i < m.n) × ((office m i).standing ≡ true) × (v < 2) × (terminating (office m i) ≡ false) × ((office m i).voted ≡ false)
vote_asked m i v e = grind (arith, nat_tests)

pub speak_voting : (m : Model) (i j : ℕ) → terminating (office m i) ≡ false → verdict m (Speak i j) ≡ 0 → (i < m.n) × (j < m.n) × (i ≢ j) × ((office m i).standing ≡ true) × ((office m i).voted ≡ true) × ((office m i).round ≤ voting_rounds m.h (office m i).decision) × (m.names (plan_round m.h (office m i).round) i j ≡ true) × (vacant (m.voting.places i j (office m i).round) ≡ true)
speak_voting m i j p e =
    let (a, b, c, d, x, _, _, _, v) = all_nine (ltb i m.n && ltb j m.n) (not (eqb i j)) (office m i).standing ((office m i).voted && leb (office m i).round (voting_rounds m.h (office m i).decision)) (m.names (plan_round m.h (office m i).round) i j) (legal i j) (within m.voting.reach (office m i).round) (as_before same_knowledge m.voting i (office m i).round (office m i).knowledge) (vacant (m.voting.places i j (office m i).round)) (rw p at e) in
    (ltb-true _ _ (and_parts _ _ a).0, ltb-true _ _ (and_parts _ _ a).1, eqb-false _ _ (not-true _ b), c, (and_parts _ _ d).0, leb-true _ _ (and_parts _ _ d).1, x, v)

pub speak_ending : (m : Model) (i j : ℕ) → terminating (office m i) ≡ true → verdict m (Speak i j) ≡ 0 → (i < m.n) × (j < m.n) × (i ≢ j) × ((office m i).standing ≡ true) × (1 ≤ (office m i).round) × ((office m i).round ≤ m.termination.reach) × (vacant (m.termination.places i j (office m i).round) ≡ true)
speak_ending m i j p e = grind (arith, nat_tests)

pub hear_asked : (m : Model) (i j : ℕ) → verdict m (Hear i j) ≡ 0 → (i < m.n) × (j < m.n) × (i ≢ j) × ((office m i).standing ≡ true)
hear_asked m i j e = grind (arith, nat_tests)

pub close_asked : (m : Model) (i : ℕ) → verdict m (Close i) ≡ 0 → (i < m.n) × ((office m i).standing ≡ true) × (every m.n (λ j. not (must_speak m i j) || spoken_to m i j) ≡ true) × (every m.n (λ j. not (must_hear m i j) || heard_from m i j) ≡ true)
close_asked m i e = grind (arith, nat_tests)

pub close_voting : (m : Model) (i : ℕ) → terminating (office m i) ≡ false → verdict m (Close i) ≡ 0 → ((office m i).voted ≡ true) × ((office m i).round ≤ voting_rounds m.h (office m i).decision)
close_voting m i p e = grind (arith, nat_tests)

pub close_ending : (m : Model) (i : ℕ) → terminating (office m i) ≡ true → verdict m (Close i) ≡ 0 → (office m i).decision ≡ None
close_ending m i p e = grind (arith, nat_tests)

pub drop_asked : (m : Model) (i : ℕ) → verdict m (DropOut i) ≡ 0 → (i < m.n) × ((office m i).standing ≡ true)
drop_asked m i e = grind (arith, nat_tests)

pub notice_asked : (m : Model) (i j : ℕ) → verdict m (Notice i j) ≡ 0 → (i < m.n) × (j < m.n) × (i ≢ j) × ((office m i).standing ≡ true) × ((office m j).standing ≡ false) × (member (office m i).told j ≡ false) × (waiting_from m.termination j i ≡ false)
notice_asked m i j e = grind (arith, nat_tests)

pub join_asked : (m : Model) (i : ℕ) → verdict m (Join i) ≡ 0 → (i < m.n) × ((office m i).standing ≡ true) × (terminating (office m i) ≡ false) × (some m.n (λ j. waiting_from m.termination j i) ≡ true)
join_asked m i e = grind (arith, nat_tests)
