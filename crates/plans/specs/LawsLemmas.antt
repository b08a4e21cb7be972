-- Each plan keeps its laws: covering is one test, computed at each number of offices. Assumes nothing.
use Rattle.std.specs.Prelude.{◌≡◌, ℕ, ◌≤◌, Bool, true, false, cond, ◌||◌, ◌==◌, Option, Some, None, refl}
use Rattle.std.proofs.Common.{arith}
use Rattle.std.specs.Int.Count.{ones}
use Rattle.std.proofs.lemmas.Bool.{false≢true}
use Rattle.std.proofs.lemmas.Bool.Decides.{nat_tests}
use Rattle.words.specs.Below.{every}
use Rattle.words.specs.Masks.{bit}
use Rattle.words.proofs.Below.{every_decides}
use Rattle.plans.specs.Covering.{Talk}
use Rattle.plans.specs.Cube.{cube_rounds, cube_names}
use Rattle.plans.specs.Laws.{PlanLaws}
use Rattle.plans.specs.Mesh.{mesh_rounds, mesh_names}
use Rattle.plans.specs.Numbers.{numbered_rounds, numbered_names}
use Rattle.plans.specs.Optional.{optional_rounds, optional_names}
use Rattle.plans.specs.Pairs.{Proper, proper}
use Rattle.plans.specs.Serving.{Serves}
use Rattle.plans.specs.Star.{star_rounds, star_names}
use Rattle.plans.specs.Masks.{told, masks, full, full_decides}
use Rattle.plans.specs.PairsLemmas.{proper_decides}

-- whether the plan covers n offices, if it serves them
covered : (ℕ → ℕ) → (ℕ → Talk) → ℕ → Bool
covered rounds names n = rounds n == 0 || full (names n) n (rounds n)

-- a plan of at most 16 offices that names proper pairs and covers each number of offices up to 16 keeps the laws
kept : (rounds : ℕ → ℕ) (names : ℕ → Talk) → ((n : ℕ) → rounds n ≤ 16) → ((n : ℕ) → Serves rounds n → n ≤ 16) →
    ((n r s l : ℕ) → names n r s l ≡ true → proper n (rounds n) r s l ≡ true) → every 17 (covered rounds names) ≡ true → PlanLaws rounds names
unfolding covered
kept rounds names few sizes bounded passed = record {
  few = few;
  proper = pairs;
  covers = λ n h.
      let size = sizes n h in
      let here = (every_decides (covered rounds names) 17).0 passed n (omega arith) in
      let whole : full (names n) n (rounds n) ≡ true = grind (arith, nat_tests) in
      (full_decides (names n) n (λ r s l e. (pairs n r s l e).speaker) (rounds n)).0 whole;
}
  where
    pairs : (n r s l : ℕ) → names n r s l ≡ true → Proper n (rounds n) r s l
    pairs n r s l e = (proper_decides n (rounds n) r s l).0 (bounded n r s l e)

mesh_covered : every 17 (covered mesh_rounds mesh_names) ≡ true
unfolding covered full masks told every bit
mesh_covered = refl

star_covered : every 17 (covered star_rounds star_names) ≡ true
unfolding covered full masks told every bit
star_covered = refl

cube_covered : every 17 (covered cube_rounds cube_names) ≡ true
unfolding covered full masks told every bit ones
cube_covered = refl

-- the mesh keeps the laws of a plan
pub mesh_laws : PlanLaws mesh_rounds mesh_names
mesh_laws = kept mesh_rounds mesh_names (λ n. grind (arith, nat_tests)) (λ n h. grind (arith, nat_tests)) (λ n r s l e. e) mesh_covered

-- the star keeps them
pub star_laws : PlanLaws star_rounds star_names
star_laws = kept star_rounds star_names (λ n. grind (arith, nat_tests)) (λ n h. grind (arith, nat_tests)) (λ n r s l e. grind (arith, nat_tests)) star_covered

-- the cube keeps them
pub cube_laws : PlanLaws cube_rounds cube_names
cube_laws = kept cube_rounds cube_names (λ n. grind (arith, nat_tests)) (λ n h. grind (arith, nat_tests)) (λ n r s l e. grind (arith, nat_tests)) cube_covered

-- a plan that serves no number of offices
none_laws : PlanLaws (λ n. 0) (λ n r s l. false)
none_laws = record {
  few = λ n. omega arith;
  proper = λ n r s l e. absurd (false≢true e);
  covers = λ n h. absurd (omega arith);
}

-- of two plans that keep the laws, either may be chosen by a test
either : (b : Bool) {q r : ℕ → ℕ} {t u : ℕ → Talk} → PlanLaws q t → PlanLaws r u → PlanLaws (λ n. cond b (q n) (r n)) (λ n k s l. cond b (t n k s l) (u n k s l))
either true x y = x
either false x y = y

-- the plan of each number keeps them
pub numbered_laws : (k : ℕ) → PlanLaws (numbered_rounds k) (numbered_names k)
numbered_laws k = either (k == 0) mesh_laws (either (k == 1) star_laws (either (k == 2) cube_laws none_laws))

-- a plan that may be missing keeps them, where each plan of its type does
pub optional_laws : {P : Type 0} (rounds : P → ℕ → ℕ) (names : P → ℕ → Talk) → ((p : P) → PlanLaws (rounds p) (names p)) → (o : Option P) →
    PlanLaws (optional_rounds rounds o) (optional_names names o)
optional_laws rounds names laws None = none_laws
optional_laws rounds names laws (Some p) = laws p
