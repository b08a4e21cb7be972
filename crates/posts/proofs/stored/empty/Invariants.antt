use Rattle.std.proofs.Common.{◌≡◌, take, replicate}
use Rattle.posts.proofs.stored.empty.Given as goal

abbrev pub invariant-loop-entry : goal.invariant-loop-entry
invariant-loop-entry g l = take l.entry-index l.memory ≡ replicate l.entry-index g.E.Entry.layout.blank
