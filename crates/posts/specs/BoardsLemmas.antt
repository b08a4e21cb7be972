-- The board is a layout. Assumes nothing.
use Rattle.std.specs.Prelude.{◌≡◌, ℕ, ◌<◌, Bool, true, false, Some, None, Option, refl}
use Rattle.std.proofs.Common.{sym, ap, arith}
use Rattle.std.proofs.lemmas.Bool.{false≢true}
use Rattle.std.proofs.lemmas.Bool.Decides.{nat_tests}
use Rattle.words.specs.declared.Offices.{Offices}
use Rattle.words.specs.Offices.{member, none}
use Rattle.words.proofs.Members.{member-none, added_self, added_other}
use Rattle.posts.specs.declared.board.BoardEntry.{BoardEntry}
use Rattle.posts.specs.declared.place.Place.TheVariants.{Waiting, Taken}
use Rattle.posts.specs.Boards.{board, place_by, entry_says, entry_posted, entry_taken}
use Rattle.posts.specs.Layouts.{Sound}
use Rattle.posts.specs.Places.{Holds, vacant}

-- a receiver's place, as its flags change
module _ {W : Type 0} (w : W) where
  fresh : (t a : Bool) (v : W) → vacant (place_by (Some v) t a) ≡ true → place_by (Some w) t true ≡ Waiting w
  fresh true a v e = absurd (false≢true e)
  fresh false a v e = refl

  taken : (t a : Bool) (v : W) → place_by (Some v) t a ≡ Waiting w → place_by (Some v) true a ≡ Taken w
  taken true a v e = cc
  taken false true v e = let is : v ≡ w = cc in ap Taken is
  taken false false v e = cc

  kept : (t a : Bool) (v : W) → ((u : W) → Holds (place_by (Some v) t a) u → u ≡ w) → place_by (Some w) t a ≡ place_by (Some v) t a
  kept true a v all = ap Taken (sym (all v refl))
  kept false true v all = ap Waiting (sym (all v refl))
  kept false false v all = refl

-- an entry, posted to and taken by receiver r
module _ {W : Type 0} (w : W) (r : ℕ) where
  posted_mine : r < 16 → (o : Option W) (a t : Offices) → vacant (entry_says (record { word = o; addressed = a; taken = t }) r) ≡ true → entry_says (entry_posted (record { word = o; addressed = a; taken = t }) r w) r ≡ Waiting w
  posted_mine low None a t e = rw (member-none r, added_self none r low) refl
  posted_mine low (Some v) a t e = rw (added_self a r low) (fresh w (member t r) (member a r) v e)

  took_mine : r < 16 → (o : Option W) (a t : Offices) → entry_says (record { word = o; addressed = a; taken = t }) r ≡ Waiting w → entry_says (entry_taken (record { word = o; addressed = a; taken = t }) r) r ≡ Taken w
  took_mine low None a t e = cc
  took_mine low (Some v) a t e = rw (added_self t r low) (taken w (member t r) (member a r) v e)

  module _ (r' : ℕ) (other : r' ≡ r → ⊥) where
    posted_others : (o : Option W) (a t : Offices) → ((v : W) → Holds (entry_says (record { word = o; addressed = a; taken = t }) r') v → v ≡ w) → entry_says (entry_posted (record { word = o; addressed = a; taken = t }) r w) r' ≡ entry_says (record { word = o; addressed = a; taken = t }) r'
    posted_others None a t all = rw (added_other none r r' other, member-none r') refl
    posted_others (Some v) a t all = rw (added_other a r r' other) (kept w (member t r') (member a r') v all)

    took_others : (e : BoardEntry W) → entry_says (entry_taken e r) r' ≡ entry_says e r'
    took_others e = ap (λ b. place_by e.word b (member e.addressed r')) (added_other e.taken r r' other)

-- the board is sound
pub board_sound : {W : Type 0} → Sound (board {W = W})
board_sound = record {
  placed = record {
    fits = λ s r pair. grind (arith, nat_tests);
    sender = λ s r s' r' pair pair' same. same;
    silent = λ r. refl;
  };
  waits = λ e r w low free. posted_mine w r low e.word e.addressed e.taken free;
  marked = λ e r w low here. took_mine w r low e.word e.addressed e.taken here;
  posts = λ s r r' pair pair' other same e w all. posted_others w r r' other e.word e.addressed e.taken all;
  takes = λ s r r' pair pair' other same e w. took_others w r r' other e;
}
