-- Who knows of whom after some rounds. Assumes nothing.
use Rattle.std.specs.Prelude.{◌≡◌, ℕ, zero, suc, ◌<◌, Bool, true, ◌⊎◌}

-- who speaks to whom: by round, speaker and listener
abbrev pub Talk : Type 0
Talk = ℕ → ℕ → ℕ → Bool

-- after m rounds office i knows of office j: at first of itself alone, and after each round also of those whom its speakers knew of when the round began
abbrev pub Knows : Talk → ℕ → ℕ → ℕ → Type 0
Knows talk zero i j = i ≡ j
Knows talk (suc m) i j = Knows talk m i j ⊎ ((s : ℕ) × (talk (suc m) s i ≡ true) × Knows talk m s j)

-- covering (in the field's terms, full information exchange): after h rounds each of n offices knows of all n
abbrev pub Covers : Talk → ℕ → ℕ → Type 0
Covers talk n h = (i j : ℕ) → i < n → j < n → Knows talk h i j
