-- The termination alone: the words of the offices by round, the round of each (0 while it is in voting), and the places. Assumes nothing.
use Rattle.std.proofs.Common.{◌≡◌, ℕ, suc, ◌+◌, ◌-◌, ◌<◌, ◌≤◌, Bool, true, false, not, ◌&&◌, ◌||◌, eqb, ◌≢◌, ◌⊎◌, Option}
use Rattle.words.specs.declared.knowledge.Decision.{Decision}
use Rattle.words.specs.declared.term.TermWord.{TermWord}
use Rattle.words.specs.Below.{every, some}
use Rattle.posts.specs.declared.place.Place.TheVariants.{Empty, Waiting, Taken}
use Rattle.posts.specs.Places.{Places, vacant, waits}
use Rattle.protocol.specs.Hearing.{Heard, heard, spoke}
use Rattle.protocol.specs.Letters.{N}
use Rattle.protocol.specs.Rules.{rule_1, rule_2, rule_3, ruling, next_word}
use Rattle.protocol.specs.Steps.{taken}
use Rattle.protocol.proofs.Updates.{at1, at2, at3}
use Rattle.protocol.proofs.Sums.{total_term}

pub record Net : Type 0 where
  pub n : ℕ
  pub reach : ℕ
  pub place : Places TermWord
  pub word : ℕ → ℕ → TermWord
  pub t : ℕ → ℕ
  pub dropped : ℕ → Bool
  pub told : ℕ → ℕ → Bool

abbrev pub hears : Net → ℕ → ℕ → Heard TermWord
hears s i k l = heard (s.place l i k)

abbrev pub sum_of : Net → ℕ → ℕ → TermWord
sum_of s i k = total_term s.n (s.word i k) (hears s i k)

abbrev pub fits1 : Net → ℕ → ℕ → Bool
fits1 s i k = rule_1 s.n (s.word i k) (hears s i k)

abbrev pub fits2 : Net → ℕ → ℕ → Bool
fits2 s i k = rule_2 s.n (s.word i k) (hears s i k)

abbrev pub fits3 : Net → ℕ → ℕ → Bool
fits3 s i k = rule_3 s.n k (s.word i k) (hears s i k) (s.word i (k - 1)) (hears s i (k - 1))

abbrev pub next : Net → ℕ → ℕ → TermWord
next s i k = next_word s.n k (s.word i k) (hears s i k) (s.word i (k - 1)) (hears s i (k - 1))

abbrev pub fate_at : Net → ℕ → ℕ → Option Decision
fate_at s i k = ruling s.n k (s.word i k) (hears s i k) (s.word i (k - 1)) (hears s i (k - 1))

pub data Deed : Type 0 where
  speak hear notice : ℕ → ℕ → Deed
  close drop : ℕ → Deed
  enter : ℕ → TermWord → Deed

-- i member spoken to and heard j in its round, or was told that it dropped out
abbrev pub done_with : Net → ℕ → ℕ → Bool
done_with s i j = eqb i j || (s.told i j || (not (vacant (s.place i j (s.t i))) && spoke (heard (s.place j i (s.t i)))))

-- whether a word of j waits for i
unfoldable pub waits_for : Net → ℕ → ℕ → Bool
waits_for s j i = some s.reach (λ r. waits (s.place j i (r + 1)))

abbrev pub Pair : Net → ℕ → ℕ → Type 0
Pair s i j = (i < s.n) × (j < s.n) × (i ≢ j) × (s.dropped i ≡ false)

abbrev pub May : Net → Deed → Type 0
May s (speak i j) = Pair s i j × (1 ≤ s.t i) × (s.t i ≤ s.reach) × (s.place i j (s.t i) ≡ Empty)
May s (hear i j) = Pair s i j × (1 ≤ s.t i)
May s (notice i j) = Pair s i j × (s.dropped j ≡ true) × (s.told i j ≡ false) × (waits_for s j i ≡ false)
May s (close i) = (i < s.n) × (s.dropped i ≡ false) × (1 ≤ s.t i) × (every s.n (done_with s i) ≡ true)
May s (drop i) = i < s.n
May s (enter i w) = (i < s.n) × (s.dropped i ≡ false) × (s.t i ≡ 0) × ((j : ℕ) × (j < s.n) × ((s.told i j ≡ true) ⊎ (waits_for s j i ≡ true)))

abbrev pub place_after : Net → Deed → Places TermWord
place_after s (speak i j) = at3 s.place i j (s.t i) (Waiting (s.word i (s.t i)))
place_after s (hear i j) = at3 s.place j i (s.t i) (taken (s.place j i (s.t i)))
place_after s _ = s.place

abbrev pub word_after : Net → Deed → ℕ → ℕ → TermWord
word_after s (close i) = at2 s.word i (suc (s.t i)) (next s i (s.t i))
word_after s (enter i w) = at2 s.word i 1 w
word_after s _ = s.word

abbrev pub t_after : Net → Deed → ℕ → ℕ
t_after s (close i) = at1 s.t i (suc (s.t i))
t_after s (enter i w) = at1 s.t i 1
t_after s _ = s.t

abbrev pub dropped-after : Net → Deed → ℕ → Bool
dropped-after s (drop i) = at1 s.dropped i true
dropped-after s _ = s.dropped

abbrev pub told-after : Net → Deed → ℕ → ℕ → Bool
told-after s (notice i j) = at2 s.told i j true
told-after s _ = s.told

abbrev pub does : Net → Deed → Net
does s c = record s { place = place_after s c; word = word_after s c; t = t_after s c; dropped = dropped-after s c; told = told-after s c }

-- a place holds nothing or the sender's word of that round
abbrev pub Own : Net → ℕ → ℕ → ℕ → Type 0
Own s a b k = (s.place a b k ≡ Empty) ⊎ ((a ≢ b) × (1 ≤ k) × (k ≤ s.t a) × (k ≤ s.reach) × (a < s.n) × ((s.place a b k ≡ Waiting (s.word a k)) ⊎ (s.place a b k ≡ Taken (s.word a k))))

-- some office dropped out before it entered
abbrev pub Cause : Net → Type 0
Cause s = (d : ℕ) × (d < s.n) × (s.dropped d ≡ true) × (s.t d ≡ 0)

-- where a closed round k, it spoke to and heard b, or was told that b dropped out
abbrev pub Done : Net → ℕ → ℕ → ℕ → Type 0
Done s a b k = (s.told a b ≡ true) ⊎ ((s.place a b k ≢ Empty) × (spoke (heard (s.place b a k)) ≡ true))

pub record Sound (s : Net) : Type 0 where
  pub own : (a b k : ℕ) → Own s a b k
  pub zeroth : (a : ℕ) → s.word a 0 ≡ N
  pub grown : (i k : ℕ) → 1 ≤ k → k < s.t i → s.word i (suc k) ≡ next s i k
  pub closed : (a b k : ℕ) → 1 ≤ k → k < s.t a → b < s.n → a ≢ b → Done s a b k
  pub gone : (i j : ℕ) → s.told i j ≡ true → s.dropped j ≡ true
  pub quiet : (i j k : ℕ) → s.told i j ≡ true → waits (s.place j i k) ≡ false
  pub apart : (i j : ℕ) → s.told i j ≡ true → s.told j i ≡ true → ⊥
  pub cause : (a : ℕ) → 1 ≤ s.t a → Cause s
