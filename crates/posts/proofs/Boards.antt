-- What a board's entry, written or read, says of a place. Assumes nothing.
use Rattle.std.proofs.Common.{◌≡◌, ℕ, ◌/◌, min, Bool, true, List, get_or, set, Decides, sym, refl, ap, ◌∙◌}
use Rattle.std.proofs.lemmas.List.{length-set}
use Rattle.posts.specs.declared.address.Address.{Address}
use Rattle.posts.specs.declared.board.BoardEntry.{BoardEntry}
use Rattle.posts.specs.declared.place.Place.{Place}
use Rattle.posts.specs.declared.place.Place.TheVariants.{Waiting, Taken}
use Rattle.posts.specs.Boards.{board, blank_entry, entry_says, entry_posted, entry_taken}
use Rattle.posts.specs.BoardsLemmas.{board_sound}
use Rattle.posts.specs.Layouts.{reach_of, place_index, places_of, layout_laws}
use Rattle.posts.specs.Places.{Consistent, legal, within, put, consistent, vacant}
use Rattle.posts.proofs.Layouts.{stored_posted, stored_taken, place_read}
use Rattle.posts.proofs.Uses.{consistent_decides}

module _ {W : Type 0} (memory memory' : List (BoardEntry W)) (s r k at : ℕ) (pair : legal s r ≡ true) (round : within (reach_of board memory) k ≡ true) (is : at ≡ place_index (board {W = W}) s r k) (w : W) where
  -- an entry that is read at the index was read in its place
  found : (old : BoardEntry W) → old ≡ get_or memory at blank_entry → old ≡ get_or memory (place_index (board {W = W}) s r k) blank_entry
  found old read = read ∙ ap (λ i. get_or memory i blank_entry) is

  -- an entry that is written at the index leaves the reach and the places of the memory with it in its place
  written : (new : BoardEntry W) → memory' ≡ set memory at new → (reach_of board memory' ≡ reach_of board memory) × (places_of board memory' ≡ places_of board (set memory (place_index (board {W = W}) s r k) new))
  written new wrote = (ap (reach_of board) wrote ∙ ap (λ n. min 32 (n / 16)) (length-set memory at new), ap (places_of board) (wrote ∙ ap (λ i. set memory i new) is))

  -- a word posted into the entry of its place
  pub board_posted : (alike : W → W → Bool) → ((x y : W) → Decides (alike x y) (x ≡ y)) → (old new : BoardEntry W) → old ≡ get_or memory at blank_entry → new ≡ entry_posted old r w → memory' ≡ set memory at new → consistent alike (places_of board memory) s k w ≡ true → vacant (places_of board memory s r k) ≡ true → (reach_of board memory' ≡ reach_of board memory) × (places_of board memory' ≡ put (places_of board memory) s r k (Waiting w))
  board_posted alike exact old new read made wrote agree free =
      let done = written new wrote in
      let all : Consistent (places_of board memory) s k w = (consistent_decides (places_of board memory) (reach_of board memory) ((layout_laws board (λ m. m)).outside memory) alike exact s k w).0 agree in
      (done.0, done.1 ∙ stored_posted board board_sound memory s r k pair round w all free new (made ∙ ap (λ y. entry_posted y r w) (found old read)))

  -- a word taken from the entry of its place
  pub board_took : (old new : BoardEntry W) → old ≡ get_or memory at blank_entry → new ≡ entry_taken old r → memory' ≡ set memory at new → places_of board memory s r k ≡ Waiting w → (reach_of board memory' ≡ reach_of board memory) × (places_of board memory' ≡ put (places_of board memory) s r k (Taken w))
  board_took old new read made wrote here =
      let done = written new wrote in
      (done.0, done.1 ∙ stored_taken board board_sound memory s r k pair round w here new (made ∙ ap (λ y. entry_taken y r) (found old read)))

-- a place that is read off the board
pub board_read : {W : Type 0} (memory : List (BoardEntry W)) (s r k at reach : ℕ) (pair round : Bool) (e : BoardEntry W) (x : Place W) → reach ≡ reach_of board memory → pair ≡ legal s r → pair ≡ true → round ≡ within reach k → round ≡ true → at ≡ place_index (board {W = W}) s r k → ((d : BoardEntry W) → e ≡ get_or memory at d) → x ≡ entry_says e r → x ≡ places_of board memory s r k
board_read {W} memory s r k at reach pair round e x far is-pair lawful is-round inside is read says =
    let there : Address = record { sender = s; receiver = r; round = k } in
    let sound = board_sound {W = W} in
    place_read board sound.placed memory there there reach reach at e x refl refl far (sym is-pair ∙ lawful) (sym is-round ∙ inside) is (read e) says
