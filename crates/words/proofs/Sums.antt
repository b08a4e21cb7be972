-- What the laws of a join give of a sum. Assumes nothing.
use Rattle.std.proofs.Common.{◌≡◌, ℕ, ◌+◌, ◌<◌, List, [], ◌∷◌, ◌++◌, length, get_or, take, sym, ap, ◌∙◌, subst}
use Rattle.std.specs.List.{AllByRecursion, fold}
use Rattle.std.specs.List.Sorted.{IsPermutation}
use Rattle.std.proofs.lemmas.List.{take_more}
use Rattle.std.proofs.ByRecursion.{All-weaker, all_shuffled}
use Rattle.std.proofs.lemmas.List.Sorted.{IsPermutation-sym}
use Rattle.words.specs.Sum.{sum_of, LeastBound, AnyOrder}

module _ {W : Type 0} (nil : W) (join : W → W → W)
    (assoc : (x y z : W) → join (join x y) z ≡ join x (join y z)) (comm : (x y : W) → join x y ≡ join y x) (idem : (x : W) → join x x ≡ x) (unit : (x : W) → join nil x ≡ x) where
  pub sum_append : (xs ys : List W) → sum_of nil join (xs ++ ys) ≡ join (sum_of nil join xs) (sum_of nil join ys)
  sum_append [] ys = sym (unit _)
  sum_append (x ∷ xs) ys = ap (join x) (sum_append xs ys) ∙ sym (assoc x _ _)

  -- one word more
  pub sum_more : (xs : List W) (i : ℕ) (x : W) → i < length xs → x ≡ get_or xs i x → join (sum_of nil join (take i xs)) x ≡ sum_of nil join (take (i + 1) xs)
  sum_more xs i x within read =
      let pushed : take (i + 1) xs ≡ take i xs ++ (x ∷ []) = take_more xs i x within ∙ ap (λ y. take i xs ++ (y ∷ [])) (sym read) in
      sym (ap (sum_of nil join) pushed ∙ sum_append (take i xs) (x ∷ []) ∙ ap (join _) (comm x nil ∙ unit x))

  -- words joined one after another to what was joined before
  folded_from : (xs : List W) (a : W) → fold join a xs ≡ join a (sum_of nil join xs)
  folded_from [] a = sym (comm a nil ∙ unit a)
  folded_from (x ∷ xs) a = folded_from xs (join a x) ∙ assoc a x _

  pub folded-sum : (xs : List W) → fold join nil xs ≡ sum_of nil join xs
  folded-sum xs = folded_from xs nil ∙ unit _

  -- by idempotence each word is absorbed by the sum
  absorbed : (xs : List W) → AllByRecursion (λ x. join x (sum_of nil join xs) ≡ sum_of nil join xs) xs
  absorbed [] = tt
  absorbed (x ∷ xs) =
      let s = sum_of nil join xs in (
        sym (assoc x x s) ∙ ap (λ y. join y s) (idem x),
        All-weaker (λ y. join y s ≡ s) (λ y. join y (join x s) ≡ join x s) (λ y h. sym (assoc y x s) ∙ ap (λ z. join z s) (comm y x) ∙ assoc x y s ∙ ap (join x) h) xs (absorbed xs),
      )

  -- what absorbs each word absorbs the sum
  least : (xs : List W) (b : W) → AllByRecursion (λ x. join x b ≡ b) xs → join (sum_of nil join xs) b ≡ b
  least [] b h = unit b
  least (x ∷ xs) b h = assoc x _ b ∙ ap (join x) (least xs b h.1) ∙ h.0

  -- so two lists of the same words have sums that absorb each other
  shuffled : (xs ys : List W) → IsPermutation xs ys → sum_of nil join ys ≡ sum_of nil join xs
  shuffled xs ys s =
      let up = least xs (sum_of nil join ys) (all_shuffled _ ys xs (IsPermutation-sym xs ys s) (absorbed ys)) in
      let down = least ys (sum_of nil join xs) (all_shuffled _ xs ys s (absorbed xs)) in
      sym up ∙ comm _ _ ∙ down

  pub sum_bound : (xs : List W) (r : W) → r ≡ sum_of nil join xs → LeastBound join xs r
  sum_bound xs r is = subst (LeastBound join xs) (sym is) (record { above = absorbed xs; least = least xs })

  pub sum_any_order : (xs : List W) (r : W) → r ≡ sum_of nil join xs → AnyOrder nil join xs r
  sum_any_order xs r is ys s = shuffled xs ys s ∙ sym is
