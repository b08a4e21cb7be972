-- Tests over the rounds and the offices of a post. Assumes nothing.
use Rattle.std.specs.Prelude.{ℕ, ◌+◌, Bool, not}
use Rattle.words.specs.Below.{some}
use Rattle.posts.specs.Places.{Places, vacant, waits}

-- whether, within n rounds, a word waits from s for r
abbrev pub some_waits : {W : Type 0} → Places W → ℕ → ℕ → ℕ → Bool
some_waits p n s r = some n (λ j. waits (p s r (j + 1)))

-- whether, within n rounds, a word was posted from s to r
abbrev pub sent_to : {W : Type 0} → Places W → ℕ → ℕ → ℕ → Bool
sent_to p n s r = some n (λ j. not (vacant (p s r (j + 1))))

-- whether, within n rounds, a word was posted by s
abbrev pub sent : {W : Type 0} → Places W → ℕ → ℕ → Bool
sent p n s = some 16 (sent_to p n s)
