-- Tests of the numbers below another. Assumes nothing.
use Rattle.std.specs.Prelude.{ℕ, Bool}
use Rattle.std.specs.List.{list_all, list_any, range_with_len}

-- whether p passes each of the n numbers from 0 on
unfoldable pub every : ℕ → (ℕ → Bool) → Bool
every n p = list_all p (range_with_len 0 n)

-- whether p passes some of the n numbers from 0 on
unfoldable pub some : ℕ → (ℕ → Bool) → Bool
some n p = list_any p (range_with_len 0 n)
