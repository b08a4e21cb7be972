-- Tests of the numbers below another: what they tell, and their steps. Assumes nothing.
use Rattle.std.proofs.Common.{◌≡◌, ℕ, zero, suc, ◌+◌, ◌<◌, Bool, true, false, ◌&&◌, ◌||◌, Decides, refl, ap, ◌∙◌, sym, add-zero, add-one, zero-add, arith}
use Rattle.std.specs.List.{list_all, list_any, range_with_len}
use Rattle.std.proofs.lemmas.Bool.Decides.{Decides-below_and, Decides-below_or}
use Rattle.words.specs.Below.{every, some}

swap_and : (a b c : Bool) → (a && (b && c)) ≡ (b && (a && c))
swap_and true b c = refl
swap_and false true c = refl
swap_and false false c = refl

swap_or : (a b c : Bool) → (a || (b || c)) ≡ (b || (a || c))
swap_or false b c = refl
swap_or true true c = refl
swap_or true false c = refl

-- one number more, at the end
module _ (p : ℕ → Bool) where
  all_more : (a n : ℕ) → list_all p (range_with_len a (suc n)) ≡ (p (a + n) && list_all p (range_with_len a n))
  all_more a zero = ap (λ k. p k && true) (sym (add-zero a))
  all_more a (suc n) =
      let rest = list_all p (range_with_len (a + 1) n) in
      let same : a + 1 + n ≡ a + suc n = omega arith in
      ap (λ b. p a && b) (all_more (a + 1) n) ∙ swap_and (p a) _ rest ∙ ap (λ k. p k && (p a && rest)) same

  any_more : (a n : ℕ) → list_any p (range_with_len a (suc n)) ≡ (p (a + n) || list_any p (range_with_len a n))
  any_more a zero = ap (λ k. p k || false) (sym (add-zero a))
  any_more a (suc n) =
      let rest = list_any p (range_with_len (a + 1) n) in
      let same : a + 1 + n ≡ a + suc n = omega arith in
      ap (λ b. p a || b) (any_more (a + 1) n) ∙ swap_or (p a) _ rest ∙ ap (λ k. p k || (p a || rest)) same

-- every number below 0 passes
pub every-none : (p : ℕ → Bool) → true ≡ every 0 p
unfolding every
every-none p = refl

-- no number below 0 does
pub some-none : (p : ℕ → Bool) → false ≡ some 0 p
unfolding some
some-none p = refl

pub every_suc : (p : ℕ → Bool) (n : ℕ) → every (suc n) p ≡ (p n && every n p)
unfolding every
every_suc p n = all_more p 0 n ∙ ap (λ k. p k && list_all p (range_with_len 0 n)) (zero-add n)

pub some_suc : (p : ℕ → Bool) (n : ℕ) → some (suc n) p ≡ (p n || some n p)
unfolding some
some_suc p n = any_more p 0 n ∙ ap (λ k. p k || list_any p (range_with_len 0 n)) (zero-add n)

pub every_decides : (p : ℕ → Bool) (n : ℕ) → Decides (every n p) ((i : ℕ) → i < n → p i ≡ true)
unfolding every
every_decides p = Decides-below_and p (λ i. p i ≡ true) (λ n. every n p) (λ i. (λ e. e, λ e. e)) refl (every_suc p)

pub some_decides : (p : ℕ → Bool) (n : ℕ) → Decides (some n p) ((i : ℕ) × (i < n) × (p i ≡ true))
unfolding some
some_decides p = Decides-below_or p (λ i. p i ≡ true) (λ n. some n p) (λ i. (λ e. e, λ e. e)) refl (some_suc p)

pub every_more : (p : ℕ → Bool) (n : ℕ) (a b : Bool) → a ≡ p n → b ≡ every n p → (a && b) ≡ every (n + 1) p
every_more p n a b here before = rw (here, before, add-one, every_suc)

pub some_more : (p : ℕ → Bool) (n : ℕ) (a b : Bool) → a ≡ p n → b ≡ some n p → (a || b) ≡ some (n + 1) p
some_more p n a b here before = rw (here, before, add-one, some_suc)
