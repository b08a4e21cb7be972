-- A code has at most one text, so whether its line fits is a question about that text. Assumes nothing.
use Rattle.std.proofs.Common.{◌≡◌, ℕ, ◌+◌, ◌<◌, ◌≤◌, List, [], ◌∷◌, length, sym, ap, ◌∙◌, inl, inr, arith, length-append}
use Rattle.std.proofs.lemmas.Bool.{cases_order}
use Rattle.notice.specs.Lines.{notice_line}
use Rattle.notice.specs.Tables.{FirstText, text_at}
use Rattle.notice.specs.Texts.{TextFor}

first_unique : (t : List ℕ) (code : ℕ) (a b : List ℕ) → FirstText t code a → FirstText t code b → a ≡ b
first_unique t code a b x y =
    elim (cases_order x.place y.place) [
      | inl e ↦ x.part ∙ ap (text_at t) e ∙ sym y.part
      | inr (inl l) ↦ absurd (y.first x.place l x.same)
      | inr (inr l) ↦ absurd (x.first y.place l y.same)
    ]

module _ (own english : List ℕ) (code : ℕ) where
  pub text_unique : (a b : List ℕ) → TextFor own english code a → TextFor own english code b → a ≡ b
  text_unique a b (inl x) (inl y) = first_unique own code a b x y
  text_unique a b (inl x) (inr y) = absurd (y.0 x.place x.inside x.same)
  text_unique a b (inr x) (inl y) = absurd (x.0 y.place y.inside y.same)
  text_unique a b (inr x) (inr y) = first_unique english code a b x.1 y.1

  module _ (office room : ℕ) (text : List ℕ) (right : TextFor own english code text) where
    pub line_fits : length text + 4 ≤ room → (t : List ℕ) → TextFor own english code t → length (notice_line office t) ≤ room
    line_fits enough t other =
        let same = text_unique t text other right in
        omega (arith, ap length same, length-append t (10 ∷ []))

    pub line_over : room < length text + 4 → ((t : List ℕ) → TextFor own english code t → length (notice_line office t) ≤ room) → ⊥
    line_over short all = let fits = simp length-append at (all text right) in omega arith
