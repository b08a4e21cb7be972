-- What an opening is. Assumes nothing.
use Rattle.std.specs.Prelude.{◌≡◌, ℕ, ◌+◌, ◌≤◌, true, replicate}
use Rattle.plans.specs.Covering.{Covers}
use Rattle.plans.specs.Pairs.{Proper}
use Rattle.posts.specs.Places.{no_words}
use Rattle.protocol.specs.Model.{Model}
use Rattle.protocol.specs.Records.{fresh}

-- a release as an accepted opening gives it
pub record Opening (m : Model) : Type 0 where
  -- there are 2 to 16 offices
  pub two : 2 ≤ m.n
  pub few : m.n ≤ 16
  -- the plan serves them: it has 1 to 16 rounds, names only pairs of them in these rounds, and covers
  pub some_rounds : 1 ≤ m.h
  pub few_rounds : m.h ≤ 16
  pub proper : (r s l : ℕ) → m.names r s l ≡ true → Proper m.n m.h r s l
  pub covers : Covers m.names m.n m.h
  -- the posts reach 2h rounds for voting and n + 1 for the termination
  pub voting_reach : m.h + m.h ≤ m.voting.reach
  pub termination_reach : m.n + 1 ≤ m.termination.reach
  -- neither post was ever used
  pub voting_unused : m.voting.places ≡ no_words
  pub termination_unused : m.termination.places ≡ no_words
  -- every office is standing, in voting, in round 1, unvoted, undecided, with empty knowledge
  pub all_fresh : m.offices ≡ replicate 16 fresh
