-- The questions that posting and taking ask, and what they answer and leave. Assumes nothing.
use Rattle.std.specs.Prelude.{◌≡◌, ℕ, true, List, [], ◌∷◌, Result}
use Rattle.refusals.specs.Questions.{Answers}
use Rattle.posts.specs.declared.place.Place.TheVariants.{Waiting, Taken}
use Rattle.posts.specs.declared.fault.PostFault.{PostFault}
use Rattle.posts.specs.declared.fault.PostFault.TheVariants.{Offices, Round, OtherWord, Filled, NothingWaits}
use Rattle.posts.specs.Faults.{post_number}
use Rattle.posts.specs.Places.{Places, put, vacant, waits, legal, within, Consistent}

-- the questions of posting w from s to r in round k, in their order, of a post with these places and this reach
abbrev pub post_questions : {W : Type 0} → Places W → ℕ → ℕ → ℕ → ℕ → W → List (ℕ × Type 0)
post_questions p reach s r k w =
    (post_number Offices, legal s r ≡ true)
    ∷ (post_number Round, within reach k ≡ true)
    ∷ (post_number OtherWord, Consistent p s k w)
    ∷ (post_number Filled, vacant (p s r k) ≡ true)
    ∷ []

-- the questions of taking the word from s to r in round k, in their order
abbrev pub take_questions : {W : Type 0} → Places W → ℕ → ℕ → ℕ → ℕ → List (ℕ × Type 0)
take_questions p reach s r k =
    (post_number Offices, legal s r ≡ true)
    ∷ (post_number Round, within reach k ≡ true)
    ∷ (post_number NothingWaits, waits (p s r k) ≡ true)
    ∷ []

-- what posting answers, and which places it leaves: the word waits in its place, or nothing changed
abbrev pub Posted : {W : Type 0} → Places W → ℕ → ℕ → ℕ → ℕ → W → Places W → Result (Unit {0}) PostFault → Type 0
Posted p reach s r k w p' = Answers (post_questions p reach s r k w) post_number (λ _. p' ≡ put p s r k (Waiting w)) (p' ≡ p)

-- what taking answers, and which places it leaves: the word that waited is given and is now taken, or nothing changed
abbrev pub Took : {W : Type 0} → Places W → ℕ → ℕ → ℕ → ℕ → Places W → Result W PostFault → Type 0
Took p reach s r k p' = Answers (take_questions p reach s r k) post_number (λ w. (p s r k ≡ Waiting w) × (p' ≡ put p s r k (Taken w))) (p' ≡ p)
