-- The records of a table as its chunks of 64 bytes. Assumes nothing.
use Rattle.std.proofs.Common.{◌≡◌, ℕ, zero, suc, ◌+◌, ◌-◌, ◌*◌, ◌<◌, ◌≤◌, ◌≢◌, List, [], length, take, drop, get_or, Bool, Decides, sym, ap, ◌∙◌, subst, add-zero, zero-add, length-take, length-drop, arith}
use Rattle.std.specs.Simd.{first_chunks}
use Rattle.std.proofs.Math.Nat.{mul-zero}
use Rattle.std.proofs.lemmas.List.{get_or-drop, get_or-take, drop-take, drop-drop, take-take}
use Rattle.notice.specs.Tables.{records, code_at, length_at, record_at, EachRecord, FormedAt, Formed, Lacks, FirstRecord, FirstText}

-- element k of the first chunks of n elements
pub chunk_at : (n count k : ℕ) (t : List ℕ) (d : List ℕ) → k < count → get_or (first_chunks n count t) k d ≡ take n (drop (n * k) t)
chunk_at n zero k t d h = absurd (omega arith)
chunk_at n (suc c) zero t d h = simp mul-zero
chunk_at n (suc c) (suc k) t d h =
    let further : n + n * k ≡ n * suc k = omega arith in
    chunk_at n c k (drop n t) d (omega arith) ∙ ap (take n) (drop-drop (n * k) n t ∙ ap (λ m. drop m t) further)

module _ (t : List ℕ) (k : ℕ) where
  -- byte j of record k
  pub byte_in : (j : ℕ) → j < 64 → get_or (record_at t k) j 0 ≡ get_or t (64 * k + j) 0
  byte_in j h = get_or-take 64 (drop (64 * k) t) j 0 h ∙ get_or-drop (64 * k) t j 0

  -- its code
  pub code_in : get_or (record_at t k) 0 0 ≡ code_at t k
  code_in = byte_in 0 (omega arith) ∙ ap (λ i. get_or t i 0) (add-zero (64 * k))

  -- the first bytes of its text
  pub text_in : (n : ℕ) → n ≤ 62 → take n (drop 2 (record_at t k)) ≡ take n (drop (64 * k + 2) t)
  text_in n h = ap (take n) (drop-take 2 62 (drop (64 * k) t)) ∙ take-take n 62 (drop 2 (drop (64 * k) t)) h ∙ ap (take n) (drop-drop 2 (64 * k) t)

  -- a record is formed as a table of its own where it is in its place
  pub formed_in : FormedAt t k → FormedAt (record_at t k) 0
  formed_in f =
      let same : length_at (record_at t k) 0 ≡ length_at t k = byte_in 1 (omega arith) in
      record {
        some = rw same f.some;
        fits = rw same f.fits;
        zeros = λ j low high. rw zero-add (byte_in j high ∙ f.zeros j (omega arith) high);
      }

  pub formed_out : FormedAt (record_at t k) 0 → FormedAt t k
  formed_out f =
      let same : length_at (record_at t k) 0 ≡ length_at t k = byte_in 1 (omega arith) in
      record {
        some = omega arith;
        fits = omega arith;
        zeros = λ j low high. sym (byte_in j high) ∙ (rw zero-add at (f.zeros j (omega arith) high));
      }

-- the tests of a record's length and of the bytes after its text decide whether it is formed
pub record_formed : (b : List ℕ) (n : ℕ) (r : Bool) → n ≡ get_or b 1 0 → length b ≡ 64 → 1 ≤ n → n ≤ 62 → Decides r ((j : ℕ) → j < length (take (64 - (2 + n)) (drop (2 + n) b)) → get_or (take (64 - (2 + n)) (drop (2 + n) b)) j 0 ≡ 0) → Decides r (FormedAt b 0)
record_formed b n r is whole some fits zeros =
    let size : length (take (64 - (2 + n)) (drop (2 + n) b)) ≡ 62 - n = simp (length-take, length-drop) (omega arith) in
    let tail : (j : ℕ) → j < 62 - n → get_or (take (64 - (2 + n)) (drop (2 + n) b)) j 0 ≡ get_or b (2 + n + j) 0 =
    λ j h. get_or-take (64 - (2 + n)) (drop (2 + n) b) j 0 (omega arith) ∙ get_or-drop (2 + n) b j 0 in (
      (λ yes.
          record {
            some = omega arith;
            fits = omega arith;
            zeros = λ j low high.
                let place : 2 + n + (j - (2 + n)) ≡ 0 + j = omega arith in
                ap (λ i. get_or b i 0) (sym place) ∙ sym (tail (j - (2 + n)) (omega arith)) ∙ zeros.0 yes (j - (2 + n)) (omega arith);
          }),
      λ f. zeros.1 (λ j h.
          let low : length_at b 0 + 2 ≤ 2 + n + j = omega arith in
          let high : 2 + n + j < 64 = omega arith in
          tail j (omega arith) ∙ (rw zero-add at (f.zeros (2 + n + j) low high))),
    )

module _ (t : List ℕ) (all : List (List ℕ)) (each : EachRecord t all) (count : length all ≡ records t) where
  -- the code of an element is that of the record
  code_of : (k : ℕ) → k < records t → get_or (get_or all k []) 0 0 ≡ code_at t k
  code_of k below = ap (λ b. get_or b 0 0) (each k [] below) ∙ code_in t k

  -- no element has the code
  pub none_with : (code : ℕ) → ((k : ℕ) → k < length all → get_or (get_or all k []) 0 0 ≢ code) → Lacks t code
  none_with code h k below same = h k (omega arith) (code_of k below ∙ same)

  -- element i has the code, and none before it
  pub first_with : (code i : ℕ) → i < length all → get_or (get_or all i []) 0 0 ≡ code → ((k : ℕ) → k < i → get_or (get_or all k []) 0 0 ≢ code) → FirstRecord t code (get_or all i [])
  first_with code i within here before =
      let below : i < records t = omega arith in
      record {
        place = i;
        inside = below;
        same = sym (code_of i below) ∙ here;
        first = λ k low e. before k low (code_of k (omega arith) ∙ e);
        part = each i [] below;
      }

  -- each element is formed, or one is not
  pub all_formed : ((k : ℕ) → k < length all → FormedAt (get_or all k []) 0) → Formed t
  all_formed h k below = let P : List ℕ → Type 0 = λ b. FormedAt b 0 in formed_out t k (subst P (each k [] below) (h k (omega arith)))

  pub one_unformed : (i : ℕ) → i < length all → (FormedAt (get_or all i []) 0 → ⊥) → Formed t → ⊥
  one_unformed i within fails f =
      let P : List ℕ → Type 0 = λ b. FormedAt b 0 in
      let below : i < records t = omega arith in
      fails (subst P (sym (each i [] below)) (formed_in t i (f i below)))

module _ (t : List ℕ) (code : ℕ) (b : List ℕ) (formed : Formed t) (found : FirstRecord t code b) where
  -- the length of the first record with a code
  pub length_found : get_or b 1 0 ≡ length_at t found.place
  length_found = ap (λ r. get_or r 1 0) found.part ∙ byte_in t found.place 1 (omega arith)

  -- its text lies within it
  pub first_fits : get_or b 1 0 ≤ 62
  first_fits = let fits = (formed found.place found.inside).fits in rw length_found fits

  -- and is the text for the code
  pub first_text : (n : ℕ) → n ≡ get_or b 1 0 → FirstText t code (take n (drop 2 b))
  first_text n is =
      let fits : n ≤ 62 = let most = first_fits in omega arith in
      let part : take n (drop 2 b) ≡ take n (drop (64 * found.place + 2) t) = ap (λ r. take n (drop 2 r)) found.part ∙ text_in t found.place n fits in
      record {
        place = found.place;
        inside = found.inside;
        same = found.same;
        first = found.first;
        part = part ∙ ap (λ m. take m (drop (64 * found.place + 2) t)) (is ∙ length_found);
      }
