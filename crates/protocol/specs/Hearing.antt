-- What an office heard in a round, and the sum of its words. Assumes nothing.
use Rattle.std.specs.Prelude.{ℕ, zero, suc, Bool, true, false, List, [], ◌∷◌, ◌++◌, Some, None, Option}
use Rattle.posts.specs.declared.place.Place.{Place}
use Rattle.posts.specs.declared.place.Place.TheVariants.{Empty, Waiting, Taken}
use Rattle.words.specs.Sum.{sum_of}

-- what was heard in a round: by office, its word if one was heard from it
abbrev pub Heard : Type 0 → Type 0
Heard W = ℕ → Option W

-- the word that was heard from a place: a taken one
abbrev pub heard : {W : Type 0} → Place W → Option W
heard Empty = None
heard (Waiting w) = None
heard (Taken w) = Some w

-- whether a word was heard
abbrev pub spoke : {W : Type 0} → Option W → Bool
spoke None = false
spoke (Some w) = true

-- the word, if one was heard, as a list
abbrev pub listed : {W : Type 0} → Option W → List W
listed None = []
listed (Some w) = w ∷ []

-- the words that were heard from the offices below n
unfoldable pub words : {W : Type 0} → ℕ → Heard W → List W
words zero q = []
words (suc n) q = words n q ++ listed (q n)

-- the sum of an office's own word and of those that it heard
unfoldable pub total : {W : Type 0} → W → (W → W → W) → ℕ → W → Heard W → W
total nil join n own q = sum_of nil join (own ∷ words n q)
