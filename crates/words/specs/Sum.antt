-- The sum of a list of words of any kind. Assumes nothing.
use Rattle.std.specs.Prelude.{◌≡◌, List, [], ◌∷◌}
use Rattle.std.specs.List.{AllByRecursion}
use Rattle.std.specs.List.Sorted.{IsPermutation}

-- the words joined to one another and to the empty word
abbrev pub sum_of : {W : Type 0} → W → (W → W → W) → List W → W
sum_of nil join [] = nil
sum_of nil join (x ∷ xs) = join x (sum_of nil join xs)

-- r is the sum of the same words in any order
abbrev pub AnyOrder : {W : Type 0} → W → (W → W → W) → List W → W → Type 0
AnyOrder {W} nil join xs r = (ys : List W) → IsPermutation xs ys → sum_of nil join ys ≡ r

-- r is the least upper bound of the words: joining one of them changes nothing in it, and it changes nothing in what none of them changes
pub record LeastBound {W : Type 0} (join : W → W → W) (words : List W) (r : W) : Type 0 where
  pub above : AllByRecursion (λ x. join x r ≡ r) words
  pub least : (b : W) → AllByRecursion (λ x. join x b ≡ b) words → join r b ≡ b
