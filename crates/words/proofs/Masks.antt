-- What the methods of a set of offices take from the bits of its mask. Assumes nothing.
use Rattle.std.proofs.Common.{◌≡◌, ℕ, ◌+◌, ◌/◌, ◌%◌, ◌^◌, ◌<◌, ◌≤◌, true, false, eqb, leb, Decides, refl, sym, ap, ◌∙◌, inl, inr, arith}
use Rattle.std.proofs.lemmas.Bool.{cases_lt, false≢true}
use Rattle.std.proofs.lemmas.Bool.Decides.{nat_tests, same_from_decides}
use Rattle.std.proofs.lemmas.Nat.Bits.{bit_at_ones, bit_at-trailing_ones}
use Rattle.std.specs.Int.{trailing_ones, w16}
use Rattle.std.specs.Int.Count.{count_trailing_zeros}
use Rattle.words.specs.Below.{every}
use Rattle.words.specs.Masks.{bit}
use Rattle.words.specs.MasksLemmas.{bit-bit_or, bit-none, bit-lone, empty_or_not, lone_shift, lone_past, bit_past}
use Rattle.words.proofs.Below.{every_decides}

-- the bit at a place, as a shift and a remainder give it
pub bit_shift : (m i : ℕ) → bit m i ≡ eqb (m / 2 ^ i % 2) 1
unfolding bit
bit_shift m i = refl

-- a mask ends in t ones: each bit below t is set, and the next is not
record Ends (m t : ℕ) : Type 0 where
  set : (i : ℕ) → i < t → bit m i ≡ true
  next : bit m t ≡ false

all_ones : Ends 65535 16
unfolding bit
all_ones = record { set = λ i low. ap (λ b. eqb b 1) (bit_at_ones 16 i low); next = refl }

ones_end : (m : ℕ) → m < 2 ^ 16 → Ends m (trailing_ones w16 m)
unfolding bit count_trailing_zeros
ones_end m small =
    elim (cases_lt (m + 1) (2 ^ 16)) [
      | inl below ↦ let t = bit_at-trailing_ones w16 m below in record { set = λ i low. ap (λ b. eqb b 1) (t.2 i low); next = ap (λ b. eqb b 1) t.1 }
      | inr not ↦ let is : m ≡ 65535 = omega arith in rw is all_ones
    ]

-- a mask of sixteen bits ends in n ones or more where each of its first n bits is set
pub ones_decide : (m n : ℕ) → m < 2 ^ 16 → Decides (leb n (trailing_ones w16 m)) ((i : ℕ) → i < n → bit m i ≡ true)
ones_decide m n small =
    let t = ones_end m small in (
      λ e i low.
          let within : n ≤ trailing_ones w16 m = grind (arith, nat_tests) in
          t.set i (omega arith),
      λ all.
          elim (cases_lt (trailing_ones w16 m) n) [
            | inl past ↦ absurd (false≢true (sym t.next ∙ all (trailing_ones w16 m) past))
            | inr within ↦ grind (arith, nat_tests)
          ],
    )

pub ones_every : (m n : ℕ) → m < 2 ^ 16 → leb n (trailing_ones w16 m) ≡ every n (bit m)
ones_every m n small = same_from_decides _ _ (ones_decide m n small) (every_decides (bit m) n)

pub ruleset bits = (bit-bit_or, bit-none, bit-lone, empty_or_not, lone_shift, lone_past)

pub ruleset bit_reads = (bit_shift, bit_past)

pub ruleset first_ones = (ones_decide, ones_every)
