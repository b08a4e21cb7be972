-- The board: an entry for each sender. Assumes nothing.
use Rattle.std.specs.Prelude.{ℕ, Bool, true, false, Some, None, Option}
use Rattle.words.specs.Offices.{member, none, added}
use Rattle.posts.specs.declared.board.BoardEntry.{BoardEntry}
use Rattle.posts.specs.declared.place.Place.{Place}
use Rattle.posts.specs.declared.place.Place.TheVariants.{Empty, Waiting, Taken}
use Rattle.posts.specs.Layouts.{Layout}

-- the entry that says nothing
abbrev pub blank_entry : {W : Type 0} → BoardEntry W
blank_entry = record { word = None; addressed = none; taken = none }

-- a receiver's place, by the word, whether the receiver has taken it, and whether it is addressed
abbrev pub place_by : {W : Type 0} → Option W → Bool → Bool → Place W
place_by None taken addressed = Empty
place_by (Some w) true addressed = Taken w
place_by (Some w) false true = Waiting w
place_by (Some w) false false = Empty

-- what an entry says of one receiver
abbrev pub entry_says : {W : Type 0} → BoardEntry W → ℕ → Place W
entry_says e r = place_by e.word (member e.taken r) (member e.addressed r)

-- the entry with the word, addressed to one receiver more; a word that comes first has no other receivers
abbrev pub entry_posted : {W : Type 0} → BoardEntry W → ℕ → W → BoardEntry W
entry_posted e r w =
    elim e.word [
      | None ↦ record { word = Some w; addressed = added none r; taken = none }
      | Some v ↦ record { word = Some w; addressed = added e.addressed r; taken = e.taken }
    ]

-- the entry taken by one receiver more
abbrev pub entry_taken : {W : Type 0} → BoardEntry W → ℕ → BoardEntry W
entry_taken e r = record { word = e.word; addressed = e.addressed; taken = added e.taken r }

-- 16 entries for a round, one for each sender
abbrev pub board : {W : Type 0} → Layout (BoardEntry W) W
board = record { size = 16; slot = λ s r. s; says = entry_says; blank = blank_entry; posted = entry_posted; taken = λ e r w. entry_taken e r }
