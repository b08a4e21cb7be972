-- The numbers of the questions that a post asks. Assumes nothing.
use Rattle.std.specs.Prelude.{ℕ}
use Rattle.posts.specs.declared.fault.PostFault.{PostFault}
use Rattle.posts.specs.declared.fault.PostFault.TheVariants.{Offices, Round, OtherWord, Filled, NothingWaits}

-- the number of a post's fault
abbrev pub post_number : PostFault → ℕ
post_number Offices = 31
post_number Round = 32
post_number OtherWord = 33
post_number Filled = 34
post_number NothingWaits = 35
