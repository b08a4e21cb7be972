-- Termination words in their order. Assumes nothing.
use Rattle.std.specs.Prelude.{◌≡◌, ℕ, ◌≤◌, Bool, cond, ◌⊎◌, ◌==◌, nat_le}
use Rattle.words.specs.declared.term.TermWord.{TermWord}
use Rattle.words.specs.declared.term.TermWord.TheVariants.{Noncommittable, Committable, Abort}

-- the place of a word in the rising order
abbrev pub rank : TermWord → ℕ
rank Noncommittable = 0
rank Committable = 1
rank Abort = 2

-- the higher of two words
abbrev pub higher : TermWord → TermWord → TermWord
higher a b = cond (nat_le (rank a) (rank b)) b a

-- whether two words are equal, as a test
abbrev pub same_term : TermWord → TermWord → Bool
same_term a b = rank a == rank b

-- r is the higher of a and b: one of the two, and below neither
pub record Higher (a b r : TermWord) : Type 0 where
  pub one : (r ≡ a) ⊎ (r ≡ b)
  pub first : rank a ≤ rank r
  pub second : rank b ≤ rank r
