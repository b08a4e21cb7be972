-- The questions that a call asks, and what its answer says of them. Assumes nothing.
use Rattle.std.specs.Prelude.{◌≡◌, ℕ, Bool, cond, ◌⊎◌, List, [], ◌∷◌, Ok, Err, Result}

-- every question of the list, each with its number, gets a yes
abbrev pub Passes : List (ℕ × Type 0) → Type 0
Passes [] = Unit {0}
Passes (q ∷ qs) = q.1 × Passes qs

-- the first question of the list that gets a no has the number n
abbrev pub Refuses : List (ℕ × Type 0) → ℕ → Type 0
Refuses [] n = ⊥
Refuses (q ∷ qs) n = ((q.1 → ⊥) × (n ≡ q.0)) ⊎ (q.1 × Refuses qs n)

-- the number of the first question of a list of tests that gets a no, or 0 where each gets a yes
abbrev pub first_no : List (ℕ × Bool) → ℕ
first_no [] = 0
first_no (q ∷ qs) = cond q.1 (first_no qs) q.0

-- what a call answers that asks these questions: a value, of which `Given` holds, only where each question gets a yes;
-- a fault, of which `number` gives the number, only where that is the number of the first that gets a no, and then `Kept` holds, that nothing changed
abbrev pub Answers : {X E : Type 0} → List (ℕ × Type 0) → (E → ℕ) → (X → Type 0) → Type 0 → Result X E → Type 0
Answers qs number Given Kept (Ok x) = Passes qs × Given x
Answers qs number Given Kept (Err e) = Refuses qs (number e) × Kept
