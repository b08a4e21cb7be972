-- Bits of masks. Assumes nothing.
use Rattle.std.specs.Prelude.{◌≡◌, ℕ, suc, ◌*◌, ◌/◌, ◌%◌, ◌^◌, ◌<◌, ◌≤◌, true, false, ◌&&◌, ◌||◌, ◌≢◌, MatchBool, ◌==◌, nat_eq, nat_lt, refl}
use Rattle.std.proofs.Common.{ap, ◌∙◌, inl, inr, arith, pow_mono}
use Rattle.std.proofs.Math.Arith.{bin_ind}
use Rattle.std.specs.Int.Bits.{bit_or}
use Rattle.std.proofs.lemmas.Nat.{pow_below}
use Rattle.std.proofs.lemmas.Nat.Bits.{same_from_bits, bit_at-suc, bit_at-zero, bit_at_or, bit_at-pow_same, bit_at-pow_other, bit_at_above}
use Rattle.std.proofs.lemmas.Bool.{cases_eq}
use Rattle.std.proofs.lemmas.Bool.Decides.{nat_tests}
use Rattle.words.specs.Masks.{bit, lone, SomeBit, NoBit}

-- the union of masks is associative
pub or_assoc : (a b c : ℕ) → bit_or (bit_or a b) c ≡ bit_or a (bit_or b c)
or_assoc a b c = same_from_bits _ _ (λ i. omega (arith, bit_at_or (bit_or a b) c i, bit_at_or a b i, bit_at_or a (bit_or b c) i, bit_at_or b c i))

-- a bit of a union
pub bit-bit_or : (a b i : ℕ) → bit (bit_or a b) i ≡ (bit a i || bit b i)
unfolding bit
bit-bit_or a b i = let is = bit_at_or a b i in grind (arith, nat_tests)

-- bit j + 1 is bit j of the half
pub bit_up : (m j : ℕ) → bit m (suc j) ≡ bit (m / 2) j
unfolding bit
bit_up m j = ap (λ b. nat_eq b 1) (bit_at-suc m j)

-- the mask 0 has no bit
pub bit-none : (i : ℕ) → bit 0 i ≡ false
unfolding bit
bit-none i = ap (λ b. nat_eq b 1) (bit_at-zero i)

-- a power of two has one bit
pub bit_pow : (r i : ℕ) → bit (2 ^ r) i ≡ (i == r)
unfolding bit
bit_pow r i =
    elim (cases_eq i r) [
      | inl e ↦ let is = ap (λ k. 2 ^ r / 2 ^ k % 2) e ∙ bit_at-pow_same r in grind (arith, nat_tests)
      | inr other ↦ let is = bit_at-pow_other r i other in grind (arith, nat_tests)
    ]

-- a mask has no bit from its size up
pub bit-over : (m i : ℕ) → m < 2 ^ i → bit m i ≡ false
unfolding bit
bit-over m i small = ap (λ b. nat_eq b 1) (bit_at_above m i i small (omega arith))

-- bit 0 of an odd number
first : (n : ℕ) → n % 2 ≡ 1 → bit n 0 ≡ true
unfolding bit
first n odd = grind (arith, nat_tests)

-- a mask that is not 0 has a bit
pub some-bit : (m : ℕ) → m ≢ 0 → SomeBit m
some-bit =
    bin_ind (λ (n : ℕ). n ≢ 0 → SomeBit n) (λ other. absurd (other refl))
    (λ n ih other.
    elim (cases_eq (n % 2) 1) [
      | inl odd ↦ (0, first n odd)
      | inr even ↦ let found = ih (λ z. other (omega arith)) in (suc found.0, bit_up n found.0 ∙ found.1)
    ])

-- the mask of one bit
pub bit-lone : (j i : ℕ) → bit (lone j) i ≡ (i == j && nat_lt j 16)
unfolding lone
bit-lone j i =
    let pow = bit_pow j i in
    let nil = bit-none i in
    grind (arith, nat_tests)

-- a mask is 0 where it has no bit
pub empty_or_not : (m : ℕ) → MatchBool (m == 0) (NoBit m) (SomeBit m)
empty_or_not m =
    elim (cases_eq m 0) [ inl e ↦ rw e bit-none | inr other ↦ let f : nat_eq m 0 ≡ false = grind (arith, nat_tests) in rw f (some-bit m other) ]

-- 1 shifted to a place within sixteen bits
pub lone_shift : (j : ℕ) → j < 16 → 1 * 2 ^ j % 65536 ≡ lone j
unfolding lone
lone_shift j within =
    let small = pow_below j 16 within in
    grind (arith, nat_tests)

-- a place past the sixteen bits gives no mask
pub lone_past : (j : ℕ) → 16 ≤ j → 0 ≡ lone j
unfolding lone
lone_past j past = grind (arith, nat_tests)

-- past the sixteen bits of a mask there is none
pub bit_past : (m i : ℕ) → m < 2 ^ 16 → 16 ≤ i → bit m i ≡ false
bit_past m i small past = bit-over m i (omega (arith, pow_mono past))
