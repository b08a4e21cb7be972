-- Text tables: records of 64 bytes, each a code, a length, a text of that length, and zeros. Assumes nothing.
use Rattle.std.specs.Prelude.{◌≡◌, ℕ, ◌+◌, ◌*◌, ◌/◌, ◌<◌, ◌≤◌, List, length, take, drop, Some, None, Option, ◌≢◌, slice_index, slice_index_or}
use Rattle.std.specs.Borrow.{Bor}

-- how many whole records the table has
abbrev pub records : List ℕ → ℕ
records t = length t / 64

-- the code of record k: its first byte
abbrev pub code_at : List ℕ → ℕ → ℕ
code_at t k = slice_index t (64 * k)

-- the length of the text of record k: its second byte
abbrev pub length_at : List ℕ → ℕ → ℕ
length_at t k = slice_index t (64 * k + 1)

-- the text of record k: as many bytes as its length says, from its third on
abbrev pub text_at : List ℕ → ℕ → List ℕ
text_at t k = take (length_at t k) (drop (64 * k + 2) t)

-- the bytes of record k
abbrev pub record_at : List ℕ → ℕ → List ℕ
record_at t k = take 64 (drop (64 * k) t)

-- the elements of the list are the records of the table, in their order
abbrev pub EachRecord : List ℕ → List (List ℕ) → Type 0
EachRecord t all = (k : ℕ) (d : List ℕ) → k < records t → slice_index_or all k d ≡ record_at t k

-- the table is made of whole records, at most 256 of them
abbrev pub Sized : List ℕ → Type 0
Sized t = (length t ≡ 64 * records t) × (records t ≤ 256)

-- record k has a length of 1 to 62, and each byte after its text is zero
pub record FormedAt (t : List ℕ) (k : ℕ) : Type 0 where
  pub some : 1 ≤ length_at t k
  pub fits : length_at t k ≤ 62
  pub zeros : (j : ℕ) → length_at t k + 2 ≤ j → j < 64 → slice_index t (64 * k + j) ≡ 0

-- every record is so
abbrev pub Formed : List ℕ → Type 0
Formed t = (k : ℕ) → k < records t → FormedAt t k

-- some record of the table has the code
abbrev pub Holds : List ℕ → ℕ → Type 0
Holds t code = (k : ℕ) × (k < records t) × (code_at t k ≡ code)

-- no record of the table has the code
abbrev pub Lacks : List ℕ → ℕ → Type 0
Lacks t code = (k : ℕ) → k < records t → code_at t k ≢ code

-- the text is that of the first record of the table with the code
pub record FirstText (t : List ℕ) (code : ℕ) (text : List ℕ) : Type 0 where
  pub place : ℕ
  pub inside : place < records t
  pub same : code_at t place ≡ code
  pub first : (k : ℕ) → k < place → code_at t k ≢ code
  pub part : text ≡ text_at t place

-- the bytes are those of the first record of the table with the code (the fields are those of FirstText, which stays as it is)
pub record FirstRecord (t : List ℕ) (code : ℕ) (bytes : List ℕ) : Type 0 where
  pub place : ℕ
  pub inside : place < records t
  pub same : code_at t place ≡ code
  pub first : (k : ℕ) → k < place → code_at t k ≢ code
  pub part : bytes ≡ record_at t place

-- what a search of one table gives
abbrev pub Found : List ℕ → ℕ → Option (Bor (List ℕ)) → Type 0
Found t code (Some text) = FirstText t code text.now
Found t code None = Lacks t code
