-- A release as a pure state. Assumes nothing.
use Rattle.std.specs.Prelude.{ℕ, ◌+◌, ◌-◌, false, cond, List, Some, None, Option, nat_le, slice_index_or}
use Rattle.words.specs.declared.knowledge.Decision.{Decision}
use Rattle.words.specs.declared.knowledge.Decision.TheVariants.{Commit, Abort}
use Rattle.words.specs.declared.knowledge.Knowledge.{Knowledge}
use Rattle.words.specs.declared.term.TermWord.{TermWord}
use Rattle.words.specs.Knowledge.{knows_nothing}
use Rattle.words.specs.Offices.{none}
use Rattle.plans.specs.Covering.{Talk}
use Rattle.posts.specs.Places.{Places}
use Rattle.protocol.specs.declared.office.Office.{Office}

-- what a post means: its reach, and what it holds by sender, receiver and round
pub record Mail (W : Type 0) : Type 0 where
  pub reach : ℕ
  pub places : Places W

-- a release of n offices over a plan with h rounds for them, which names these pairs; the records of the offices, and the two posts
pub record Model : Type 0 where
  pub n : ℕ
  pub h : ℕ
  pub names : Talk
  pub offices : List Office
  pub voting : Mail Knowledge
  pub termination : Mail TermWord

-- the record that stands for an office that is not in the table
abbrev pub nobody : Office
nobody = record { standing = false; termination = None; voted = false; round = 0; knowledge = knows_nothing; told = none; decision = None; deciding = None }

-- the record of office i
abbrev pub office : Model → ℕ → Office
office m i = slice_index_or m.offices i nobody

-- the round of the plan that voting round r follows: r, or r - h above h
abbrev pub plan_round : ℕ → ℕ → ℕ
plan_round h r = cond (nat_le r h) r (r - h)

-- the number of voting rounds: 2h, or h for an office that aborted
abbrev pub voting_rounds : ℕ → Option Decision → ℕ
voting_rounds h None = h + h
voting_rounds h (Some Commit) = h + h
voting_rounds h (Some Abort) = h
