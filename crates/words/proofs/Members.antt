-- The members of the sets that are made of others. Assumes nothing.
use Rattle.std.proofs.Common.{◌≡◌, ℕ, ◌<◌, true, false, ◌&&◌, ◌||◌, eqb, ltb, ap, ◌∙◌, arith}
use Rattle.std.proofs.lemmas.Bool.Decides.{nat_tests}
use Rattle.words.specs.declared.offices.Offices.{Offices}
use Rattle.words.specs.Masks.{lone}
use Rattle.words.specs.Offices.{member, none, added}
use Rattle.words.specs.MasksLemmas.{bit-none, bit-bit_or, bit-lone}

pub member-none : (i : ℕ) → member none i ≡ false
member-none = bit-none

pub member-added : (s : Offices) (j i : ℕ) → member (added s j) i ≡ (member s i || (eqb i j && ltb j 16))
member-added s j i = bit-bit_or s.mask (lone j) i ∙ ap (λ b. member s i || b) (bit-lone j i)

pub added_self : (s : Offices) (j : ℕ) → j < 16 → member (added s j) j ≡ true
added_self s j low = let is = member-added s j j in grind (arith, nat_tests)

pub added_other : (s : Offices) (j i : ℕ) → (i ≡ j → ⊥) → member (added s j) i ≡ member s i
added_other s j i other = let is = member-added s j i in grind (arith, nat_tests)
