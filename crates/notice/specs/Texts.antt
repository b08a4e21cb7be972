-- The text for a code in two tables, the questions that a look-up asks, and what it answers. Assumes nothing.
use Rattle.std.specs.Prelude.{ℕ, ◌⊎◌, List, [], ◌∷◌, Result}
use Rattle.std.specs.Borrow.{Bor}
use Rattle.refusals.specs.Questions.{Answers}
use Rattle.notice.specs.declared.fault.TextFault.{TextFault}
use Rattle.notice.specs.declared.fault.TextFault.TheVariants.{Table, Record, Code}
use Rattle.notice.specs.Faults.{text_number}
use Rattle.notice.specs.Tables.{Sized, Formed, Holds, Lacks, FirstText}

-- the text for a code: in the office's own table, or, where that lacks the code, in the English one
abbrev pub TextFor : List ℕ → List ℕ → ℕ → List ℕ → Type 0
TextFor own english code text = FirstText own code text ⊎ (Lacks own code × FirstText english code text)

-- the questions of a look-up, in their order
abbrev pub text_questions : List ℕ → List ℕ → ℕ → List (ℕ × Type 0)
text_questions own english code =
    (text_number Table, Sized own × Sized english)
    ∷ (text_number Record, Formed own × Formed english)
    ∷ (text_number Code, Holds own code ⊎ Holds english code)
    ∷ []

-- what a look-up answers
abbrev pub LookedUp : List ℕ → List ℕ → ℕ → Result (Bor (List ℕ)) TextFault → Type 0
LookedUp own english code = Answers (text_questions own english code) text_number (λ text. TextFor own english code text.now) (Unit {0})
