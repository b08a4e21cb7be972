-- Places, and what is asked of them. Assumes nothing.
use Rattle.std.specs.Prelude.{◌≡◌, ℕ, ◌≤◌, Bool, true, false, cond, not, ◌&&◌, ◌==◌, nat_le, nat_lt}
use Rattle.words.specs.Below.{every}
use Rattle.posts.specs.declared.place.Place.{Place}
use Rattle.posts.specs.declared.place.Place.TheVariants.{Empty, Waiting, Taken}

-- what a post holds, by sender, receiver and round
abbrev pub Places : Type 0 → Type 0
Places W = ℕ → ℕ → ℕ → Place W

-- a post with nothing in it
abbrev pub no_words : {W : Type 0} → Places W
no_words s r k = Empty

-- one place holds x, and all others are as before
abbrev pub put : {W : Type 0} → Places W → ℕ → ℕ → ℕ → Place W → Places W
put p s r k x s' r' k' = cond (s' == s && (r' == r && k' == k)) x (p s' r' k')

-- the place holds the word, waiting or taken
abbrev pub Holds : {W : Type 0} → Place W → W → Type 0
Holds Empty w = ⊥
Holds (Waiting v) w = v ≡ w
Holds (Taken v) w = v ≡ w

-- whether the place is empty, as a test
abbrev pub vacant : {W : Type 0} → Place W → Bool
vacant Empty = true
vacant (Waiting w) = false
vacant (Taken w) = false

-- whether a word waits in the place, as a test
abbrev pub waits : {W : Type 0} → Place W → Bool
waits Empty = false
waits (Waiting w) = true
waits (Taken w) = false

-- whether the word in the place, if there is one, equals w, as a test
abbrev pub agrees : {W : Type 0} → (W → W → Bool) → W → Place W → Bool
agrees alike w Empty = true
agrees alike w (Waiting v) = alike v w
agrees alike w (Taken v) = alike v w

-- whether both offices are below 16 and differ, as a test
abbrev pub legal : ℕ → ℕ → Bool
legal s r = nat_lt s 16 && (nat_lt r 16 && not (s == r))

-- whether the round is 1 to the reach n, as a test
abbrev pub within : ℕ → ℕ → Bool
within n k = nat_le 1 k && nat_le k n

-- whether the word equals all words of the sender in that round, waiting or taken, as a test
abbrev pub consistent : {W : Type 0} → (W → W → Bool) → Places W → ℕ → ℕ → W → Bool
consistent alike p s k w = every 16 (λ r. agrees alike w (p s r k))

-- the word equals all words of the sender in that round, waiting or taken
abbrev pub Consistent : {W : Type 0} → Places W → ℕ → ℕ → W → Type 0
Consistent {W} p s k w = (r : ℕ) (v : W) → Holds (p s r k) v → v ≡ w

-- there is a round in which a word from s waits for r
abbrev pub WaitsFrom : {W : Type 0} → Places W → ℕ → ℕ → Type 0
WaitsFrom {W} p s r = (k : ℕ) × (w : W) × (p s r k ≡ Waiting w)

-- there is a place that holds a word
abbrev pub Used : {W : Type 0} → Places W → Type 0
Used {W} p = (s r k : ℕ) × (w : W) × Holds (p s r k) w

-- what holds of every post: its reach is at most 32, and outside legal offices and rounds a place is empty
pub record PostLaws {P W : Type 0} (places : P → Places W) (reach : P → ℕ) : Type 0 where
  pub short : (p : P) → reach p ≤ 32
  pub outside : (p : P) (s r k : ℕ) → (legal s r && within (reach p) k) ≡ false → places p s r k ≡ Empty
