-- The numbers of the questions that a look-up and a notice line ask. Assumes nothing.
use Rattle.std.specs.Prelude.{ℕ}
use Rattle.notice.specs.declared.fault.TextFault.{TextFault}
use Rattle.notice.specs.declared.fault.TextFault.TheVariants.{Table, Record, Code}
use Rattle.notice.specs.declared.fault.NoticeFault.{NoticeFault}
use Rattle.notice.specs.declared.fault.NoticeFault.TheVariants.{Office, Text, Room}

-- the number of a look-up's fault
abbrev pub text_number : TextFault → ℕ
text_number Table = 25
text_number Record = 26
text_number Code = 27

-- the number of a notice line's fault: the look-up's own stays as it is
abbrev pub notice_number : NoticeFault → ℕ
notice_number Office = 5
notice_number (Text fault) = text_number fault
notice_number Room = 28
