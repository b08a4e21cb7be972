-- What each office knows after some rounds, as a list of masks, so that covering can be computed. Assumes nothing.
use Rattle.std.specs.Prelude.{◌≡◌, ℕ, zero, suc, ◌^◌, ◌<◌, Bool, true, false, cond, ◌&&◌, ◌||◌, List, map, Decides, ◌==◌, slice_index, refl}
use Rattle.std.proofs.Common.{sym, ap, ◌∙◌, zero-add}
use Rattle.std.specs.Int.Bits.{bit_or}
use Rattle.std.specs.List.{range_with_len}
use Rattle.std.proofs.lemmas.List.FromFn.{get_or-map-range_with_len}
use Rattle.std.proofs.lemmas.Bool.Decides.{Decides-eqb, Decides-at, Decides-like, Decides-and, Decides-or, Decides-below_or}
use Rattle.words.specs.Below.{every}
use Rattle.words.specs.Masks.{bit}
use Rattle.words.proofs.Below.{every_decides}
use Rattle.words.specs.MasksLemmas.{bit-bit_or, bit_pow, bit-none}
use Rattle.plans.specs.Covering.{Talk, Knows, Covers}

-- what those below k who speak to office i knew, in one mask
unfoldable pub told : (ℕ → ℕ → Bool) → List ℕ → ℕ → ℕ → ℕ
told speaks known i zero = 0
told speaks known i (suc s) = let rest = told speaks known i s in cond (speaks s i) (bit_or (slice_index known s) rest) rest

-- whom each of n offices knows of after m rounds
unfoldable pub masks : Talk → ℕ → ℕ → List ℕ
masks talk n zero = map (λ i. 2 ^ i) (range_with_len 0 n)
masks talk n (suc m) = let known = masks talk n m in map (λ i. bit_or (slice_index known i) (told (talk (suc m)) known i n)) (range_with_len 0 n)

-- whether each of n offices knows of all n after h rounds
unfoldable pub full : Talk → ℕ → ℕ → Bool
full talk n h = let known = masks talk n h in every n (λ i. every n (bit (slice_index known i)))

same : (b : Bool) → Decides b (b ≡ true)
same b = (λ e. e, λ e. e)

told_none : (speaks : ℕ → ℕ → Bool) (known : List ℕ) (i j : ℕ) → bit (told speaks known i 0) j ≡ false
unfolding told
told_none speaks known i j = bit-none j

told_more : (speaks : ℕ → ℕ → Bool) (known : List ℕ) (i j s : ℕ) → bit (told speaks known i (suc s)) j ≡ ((speaks s i && bit (slice_index known s) j) || bit (told speaks known i s) j)
unfolding told
told_more speaks known i j s =
    let rest = told speaks known i s in
    elim (speaks s i) as (λ b. bit (cond b (bit_or (slice_index known s) rest) rest) j ≡ ((b && bit (slice_index known s) j) || bit rest j)) [
      | true ↦ bit-bit_or (slice_index known s) rest j
      | false ↦ refl
    ]

-- somebody below k speaks to office i and knew of j
Told : (ℕ → ℕ → Bool) → List ℕ → ℕ → ℕ → ℕ → Type 0
Told speaks known i j k = (s : ℕ) × (s < k) × ((speaks s i ≡ true) × (bit (slice_index known s) j ≡ true))

told_decides : (speaks : ℕ → ℕ → Bool) (known : List ℕ) (i j k : ℕ) → Decides (bit (told speaks known i k) j) (Told speaks known i j k)
unfolding Told
told_decides speaks known i j =
    Decides-below_or (λ s. speaks s i && bit (slice_index known s) j) (λ s. (speaks s i ≡ true) × (bit (slice_index known s) j ≡ true)) (λ k. bit (told speaks known i k) j)
    (λ s. Decides-and (speaks s i) (bit (slice_index known s) j) (same (speaks s i)) (same (bit (slice_index known s) j)))
    (told_none speaks known i j) (told_more speaks known i j)

-- nobody speaks with a number from n up
abbrev pub Silent : Talk → ℕ → Type 0
Silent talk n = (r s l : ℕ) → talk r s l ≡ true → s < n

-- the bits of the masks are those known of
masks_decide : (talk : Talk) (n : ℕ) → Silent talk n → (m i j : ℕ) → i < n → Decides (bit (slice_index (masks talk n m) i) j) (Knows talk m i j)
unfolding masks Told
masks_decide talk n silent zero i j lt =
    let is = get_or-map-range_with_len (λ i. 2 ^ i) 0 n i i 0 lt (zero-add i) in
    Decides-at _ (j == i) (ap (λ x. bit x j) is ∙ bit_pow i j) (Decides-like (j == i) sym sym (Decides-eqb j i))
masks_decide talk n silent (suc m) i j lt =
    let known = masks talk n m in
    let before : (s : ℕ) → s < n → Decides (bit (slice_index known s) j) (Knows talk m s j) = λ s. masks_decide talk n silent m s j in
    let new = told (talk (suc m)) known i n in
    let is = get_or-map-range_with_len (λ i. bit_or (slice_index known i) (told (talk (suc m)) known i n)) 0 n i i 0 lt (zero-add i) in
    Decides-at _ (bit (slice_index known i) j || bit new j) (ap (λ x. bit x j) is ∙ bit-bit_or (slice_index known i) new j)
    (Decides-or (bit (slice_index known i) j) (bit new j) (before i lt)
    (Decides-like (bit new j)
    (λ x. (x.0, x.2.0, (before x.0 x.1).0 x.2.1))
    (λ y. let low = silent (suc m) y.0 i y.1 in (y.0, low, (y.1, (before y.0 low).1 y.2)))
    (told_decides (talk (suc m)) known i j n)))

-- the test of the masks tells covering
pub full_decides : (talk : Talk) (n : ℕ) → Silent talk n → (h : ℕ) → Decides (full talk n h) (Covers talk n h)
unfolding full
full_decides talk n silent h =
    let known = masks talk n h in
    Decides-like (full talk n h)
    (λ f i j p q. (masks_decide talk n silent h i j p).0 ((every_decides (bit (slice_index known i)) n).0 (f i p) j q))
    (λ c i p. (every_decides (bit (slice_index known i)) n).1 (λ j q. (masks_decide talk n silent h i j p).1 (c i j p q)))
    (every_decides (λ i. every n (bit (slice_index known i))) n)
