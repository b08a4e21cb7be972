-- The numbers of the questions that the calls of a release ask. Assumes nothing.
use Rattle.std.specs.Prelude.{ℕ}
use Rattle.posts.specs.Faults.{post_number}
use Rattle.protocol.specs.declared.fault.CallFault.{CallFault}
use Rattle.protocol.specs.declared.fault.CallFault.TheVariants.{NoSuchOffice, SameOffice, DroppedOut, NoSuchVote, NotVoting, AlreadyVoted, MayNotSpeak, NotNamed, RoundNotOpen, NotSpokenToAll, NotHeardAll, StillStanding, AlreadyTold, WordWaits, NoWordWaits, Post}

-- the number of a call's fault; a post's fault keeps its own
abbrev pub call_number : CallFault → ℕ
call_number NoSuchOffice = 5
call_number SameOffice = 6
call_number DroppedOut = 7
call_number NoSuchVote = 8
call_number NotVoting = 9
call_number AlreadyVoted = 10
call_number MayNotSpeak = 11
call_number NotNamed = 12
call_number RoundNotOpen = 13
call_number NotSpokenToAll = 14
call_number NotHeardAll = 15
call_number StillStanding = 16
call_number AlreadyTold = 17
call_number WordWaits = 18
call_number NoWordWaits = 19
call_number (Post f) = post_number f
