-- What an updated function holds. Assumes nothing.
use Rattle.std.proofs.Common.{◌≡◌, ℕ, cond, ◌&&◌, eqb, ◌≢◌, ◌⊎◌, refl, arith}
use Rattle.std.proofs.lemmas.Bool.Decides.{nat_tests}
use Rattle.posts.specs.declared.place.Place.{Place}
use Rattle.protocol.specs.Model.{Mail}
use Rattle.protocol.specs.Steps.{filled}

unfoldable pub at1 : {A : Type 0} → (ℕ → A) → ℕ → A → ℕ → A
at1 f i v a = cond (eqb a i) v (f a)

unfoldable pub at2 : {A : Type 0} → (ℕ → ℕ → A) → ℕ → ℕ → A → ℕ → ℕ → A
at2 f i j v a b = cond (eqb a i && eqb b j) v (f a b)

unfoldable pub at3 : {A : Type 0} → (ℕ → ℕ → ℕ → A) → ℕ → ℕ → ℕ → A → ℕ → ℕ → ℕ → A
at3 f i j k v a b c = cond (eqb a i && (eqb b j && eqb c k)) v (f a b c)

pub at1_is : {A : Type 0} (f : ℕ → A) (i : ℕ) (v : A) (a : ℕ) → ((a ≡ i) × (at1 f i v a ≡ v)) ⊎ ((a ≢ i) × (at1 f i v a ≡ f a))
unfolding at1
at1_is f i v a = grind (arith, nat_tests)

pub at2_is : {A : Type 0} (f : ℕ → ℕ → A) (i j : ℕ) (v : A) (a b : ℕ) → ((a ≡ i) × (b ≡ j) × (at2 f i j v a b ≡ v)) ⊎ (((a ≡ i) → (b ≡ j) → ⊥) × (at2 f i j v a b ≡ f a b))
unfolding at2
at2_is f i j v a b = grind (arith, nat_tests)

pub at3_is : {A : Type 0} (f : ℕ → ℕ → ℕ → A) (i j k : ℕ) (v : A) (a b c : ℕ) → ((a ≡ i) × (b ≡ j) × (c ≡ k) × (at3 f i j k v a b c ≡ v)) ⊎ (((a ≡ i) → (b ≡ j) → (c ≡ k) → ⊥) × (at3 f i j k v a b c ≡ f a b c))
unfolding at3
at3_is f i j k v a b c = grind (arith, nat_tests)

-- a post with one place filled
pub filled_is : {W : Type 0} (p : Mail W) (s r k : ℕ) (x : Place W) → ◌≡◌ {A = Mail W} (record p { places = at3 p.places s r k x }) (filled p s r k x)
unfolding at3 filled
filled_is p s r k x = refl
