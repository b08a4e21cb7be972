-- What a release promises over every list of calls. Assumes nothing.
use Rattle.std.specs.Prelude.{◌≡◌, ℕ, suc, ◌+◌, ◌<◌, ◌≤◌, true, false, not, ◌≢◌, ◌⊎◌, List, [], ◌∷◌, ◌++◌, Some, None}
use Rattle.protocol.specs.declared.call.Call.{Call}
use Rattle.protocol.specs.declared.call.Call.TheVariants.{Close}
use Rattle.protocol.specs.Asked.{verdict}
use Rattle.protocol.specs.History.{is_drop_out, dropped, voted, entered, drop_outs, closings, holds, DecidesInTermination}
use Rattle.protocol.specs.Letters.{to_abort, to_commit}
use Rattle.protocol.specs.Model.{Model, office}
use Rattle.protocol.specs.Openings.{Opening}
use Rattle.protocol.specs.Steps.{run}
use Rattle.protocol.specs.Records.{terminating}

-- m is the release as it was opened, h the list of calls since, with any numbers, and s the release as it is now
pub record Promise (m : Model) (h : List Call) (s : Model) : Type 0 where
  -- agreement: no two offices, standing or dropped, hold opposite decisions
  pub agreed : (i j : ℕ) → i < m.n → j < m.n → holds m h i ≡ to_abort → holds m h j ≢ to_commit
  -- stability: what an office held after a part of the list, it holds now
  pub stays : (i : ℕ) (past later : List Call) → i < m.n → h ≡ past ++ later → holds m past i ≢ None → holds m h i ≡ holds m past i
  -- commit is held only where every office voted yes
  pub all_yes : (i : ℕ) → i < m.n → holds m h i ≡ to_commit → (j : ℕ) → j < m.n → voted m h j 1 ≡ true
  -- abort is held only where some office voted no or dropped out
  pub some_no : (i : ℕ) → i < m.n → holds m h i ≡ to_abort → (j : ℕ) × (j < m.n) × ((voted m h j 0 ≡ true) ⊎ (dropped m h j ≡ true))
  -- round limit: an office that decides in the termination does so in termination round F + 1 or earlier, where F offices had dropped out by then
  pub limit : (i : ℕ) (past later : List Call) → h ≡ past ++ (Close i ∷ later) → DecidesInTermination m past i → suc (closings m past i) ≤ drop_outs m past + 1
  -- no deadlock: if every call except a drop-out, whatever its values, would be refused, each standing office holds a decision
  pub no_deadlock : ((c : Call) → is_drop_out c ≡ false → verdict s c ≢ 0) → (i : ℕ) → i < m.n → dropped m h i ≡ false → holds m h i ≢ None
  -- the records show who stands
  pub standing_shown : (i : ℕ) → i < m.n → (office s i).standing ≡ not (dropped m h i)
  -- the records show who entered the termination
  pub phase_shown : (i : ℕ) → i < m.n → terminating (office s i) ≡ entered m h i
  -- the records show who holds what
  pub decision_shown : (i : ℕ) → i < m.n → (office s i).decision ≡ holds m h i
  -- where an office decided in the termination, its record shows the round: the number of its closings there, that one included
  pub round_shown : (i : ℕ) (past later : List Call) → h ≡ past ++ (Close i ∷ later) → DecidesInTermination m past i → (office s i).deciding ≡ Some (suc (closings m past i))
  -- where it did not, its record shows none
  pub round_none : (i : ℕ) → i < m.n → ((past later : List Call) → h ≡ past ++ (Close i ∷ later) → DecidesInTermination m past i → ⊥) → (office s i).deciding ≡ None

-- of every opening and every list of calls
abbrev pub Kept : Type 0
Kept = (m : Model) (h : List Call) → Opening m → Promise m h (run m h)

-- of a call c that found the release as s and left it as t: whatever opening and list of calls led to s, the promise holds of that list in s, and of that list with c in t
abbrev pub Stands : Model → Call → Model → Type 0
Stands s c t = (m : Model) (h : List Call) → Opening m → s ≡ run m h → Promise m h s × Promise m (h ++ (c ∷ [])) t
