-- The notice line, the questions that it asks, and what it answers and leaves in the output. Assumes nothing.
use Rattle.std.specs.Prelude.{◌≡◌, ℕ, ◌<◌, ◌≤◌, ◌⊎◌, List, [], ◌∷◌, ◌++◌, length, drop, Some, None, Option, Result}
use Rattle.refusals.specs.Digits.{two_digits}
use Rattle.refusals.specs.Questions.{Passes, Refuses, Answers}
use Rattle.notice.specs.declared.fault.NoticeFault.{NoticeFault}
use Rattle.notice.specs.declared.fault.NoticeFault.TheVariants.{Office, Room}
use Rattle.notice.specs.Faults.{notice_number}
use Rattle.notice.specs.Texts.{TextFor, text_questions}

-- the notice line: two digits of the office, a space, the text and a line feed
abbrev pub notice_line : ℕ → List ℕ → List ℕ
notice_line office text = two_digits office ++ (32 ∷ (text ++ (10 ∷ [])))

-- what a buffer holds once its first bytes are overwritten
abbrev pub over : List ℕ → List ℕ → List ℕ
over front before = front ++ drop (length front) before

-- the line stands at the front of the buffer, where it fits, and the rest is as it was; nothing changes where it doesn't fit
abbrev pub PutOver : List ℕ → List ℕ → List ℕ → Option ℕ → Type 0
PutOver line before after (Some n) = (after ≡ over line before) × (n ≡ length line) × (n ≤ length before)
PutOver line before after None = (after ≡ before) × (length before < length line)

-- the questions of a notice line, in their order: the office's, the look-up's, and whether the line of the text for the code fits into the room
unfoldable pub line_questions : ℕ → ℕ → List ℕ → List ℕ → ℕ → List (ℕ × Type 0)
line_questions office code own english room =
    (notice_number Office, office < 16)
    ∷ (text_questions own english code
    ++ ((notice_number Room, (text : List ℕ) → TextFor own english code text → length (notice_line office text) ≤ room) ∷ []))

-- the line with the text for the code stands at the front of the output, the rest is as it was, and n is the line's length, which lies within the output
pub record LinePut (office code : ℕ) (own english before after : List ℕ) (n : ℕ) : Type 0 where
  pub text : List ℕ
  pub right : TextFor own english code text
  pub put : after ≡ over (notice_line office text) before
  pub end : n ≡ length (notice_line office text)
  pub within : n ≤ length before

-- what writing a notice line answers and leaves in the output: a refusal leaves it as it was
abbrev pub Written : ℕ → ℕ → List ℕ → List ℕ → List ℕ → List ℕ → Result ℕ NoticeFault → Type 0
Written office code own english before after =
    Answers (line_questions office code own english (length before)) notice_number (LinePut office code own english before after) (after ≡ before)

-- what a counter shows at the front of the output, n bytes: the notice line where every question gets a yes, else the number of the first that gets a no, in two digits, and a line feed
abbrev pub Shown : ℕ → ℕ → List ℕ → List ℕ → List ℕ → List ℕ → ℕ → Type 0
Shown office code own english before after n =
    (Passes (line_questions office code own english (length before)) × LinePut office code own english before after n)
    ⊎ ((k : ℕ) × Refuses (line_questions office code own english (length before)) k × (after ≡ over (two_digits k ++ (10 ∷ [])) before) × (n ≡ 3))
