-- How a memory of entries stands for places. Assumes nothing.
use Rattle.std.specs.Prelude.{◌≡◌, ℕ, ◌+◌, ◌-◌, ◌*◌, ◌/◌, ◌<◌, min, true, cond, ◌&&◌, List, length, slice_index_or}
use Rattle.std.proofs.Common.{arith}
use Rattle.std.proofs.lemmas.Bool.{cond-false}
use Rattle.posts.specs.declared.place.Place.{Place}
use Rattle.posts.specs.declared.place.Place.TheVariants.{Empty, Waiting, Taken}
use Rattle.posts.specs.Places.{Places, PostLaws, Holds, vacant, legal, within}

-- how the entries of one round stand for its places: how many they are, which of them a sender and a receiver have, what an entry says of a receiver, the entry that says nothing, and an entry with a word for one receiver more, or of which one receiver more took the word
pub record Layout (E W : Type 0) : Type 0 where
  pub size : ℕ
  pub slot : ℕ → ℕ → ℕ
  pub says : E → ℕ → Place W
  pub blank : E
  pub posted : E → ℕ → W → E
  pub taken : E → ℕ → W → E

-- the places of a layout do not mix: each legal pair has a slot of the round, a slot has one sender, and the blank entry says nothing
pub record Placed {E W : Type 0} (layout : Layout E W) : Type 0 where
  pub fits : (s r : ℕ) → legal s r ≡ true → layout.slot s r < layout.size
  pub sender : (s r s' r' : ℕ) → legal s r ≡ true → legal s' r' ≡ true → layout.slot s r ≡ layout.slot s' r' → s ≡ s'
  pub silent : (r : ℕ) → layout.says layout.blank r ≡ Empty

-- what holds of every kind of entry: its places do not mix; a word that is posted to a receiver of whom the entry says nothing waits for it, one that waits can be taken, and of another receiver in the same slot the entry says what it said, as long as the word that it says is the one posted
pub record Sound {E W : Type 0} (layout : Layout E W) : Type 0 where
  pub placed : Placed layout
  pub waits : (e : E) (r : ℕ) (w : W) → r < 16 → vacant (layout.says e r) ≡ true → layout.says (layout.posted e r w) r ≡ Waiting w
  pub marked : (e : E) (r : ℕ) (w : W) → r < 16 → layout.says e r ≡ Waiting w → layout.says (layout.taken e r w) r ≡ Taken w
  pub posts : (s r r' : ℕ) → legal s r ≡ true → legal s r' ≡ true → (r' ≡ r → ⊥) → layout.slot s r' ≡ layout.slot s r → (e : E) (w : W) → ((v : W) → Holds (layout.says e r') v → v ≡ w) → layout.says (layout.posted e r w) r' ≡ layout.says e r'
  pub takes : (s r r' : ℕ) → legal s r ≡ true → legal s r' ≡ true → (r' ≡ r → ⊥) → layout.slot s r' ≡ layout.slot s r → (e : E) (w : W) → layout.says (layout.taken e r w) r' ≡ layout.says e r'

-- the reach: as many rounds as the memory has entries for, at most 32
abbrev pub reach_of : {E W : Type 0} → Layout E W → List E → ℕ
reach_of layout memory = min 32 (length memory / layout.size)

-- where an entry stands, by the entries of a round, its slot and its round: the rounds follow one another
abbrev pub index_of : ℕ → ℕ → ℕ → ℕ
index_of size slot k = (k - 1) * size + slot

-- where the entry of a place stands
abbrev pub place_index : {E W : Type 0} → Layout E W → ℕ → ℕ → ℕ → ℕ
place_index layout s r k = index_of layout.size (layout.slot s r) k

-- what the memory holds: a legal place within the reach is what its entry says of the receiver
unfoldable pub places_of : {E W : Type 0} → Layout E W → List E → Places W
places_of layout memory s r k =
    cond (legal s r && within (reach_of layout memory) k) (layout.says (slice_index_or memory (place_index layout s r k) layout.blank) r) Empty

-- what a layout says of any memory keeps the laws of a post
pub layout_laws : {P E W : Type 0} (layout : Layout E W) (memory : P → List E) → PostLaws (λ p. places_of layout (memory p)) (λ p. reach_of layout (memory p))
unfolding places_of
layout_laws layout memory = record {
  short = λ p. omega arith;
  outside = λ p s r k h. cond-false (legal s r && within (reach_of layout (memory p)) k) _ _ h;
}
