-- The numbers of the statuses, and how a report names them.
use Rattle.std.specs.Prelude.{ℕ, List, ◌++◌, codes}
use Rattle.call_end.specs.declared.status.Status.{Status}
use Rattle.call_end.specs.declared.status.Status.TheVariants.{Done, Usage, ReadFault, WriteFault, Input, Cycle}
use Rattle.call_end.specs.declared.status.Status.TheVariants.{Unfinished, Rejected, NoMemory, Layout, TooLong}
use Rattle.call_end.specs.declared.status.Status.TheVariants.{TooTall, Row, Disagree}

abbrev pub number_of : Status → ℕ
number_of Done = 0
number_of Usage = 1
number_of ReadFault = 2
number_of WriteFault = 3
number_of Input = 4
number_of Cycle = 5
number_of Unfinished = 6
number_of Rejected = 7
number_of NoMemory = 8
number_of Layout = 9
number_of TooLong = 10
number_of TooTall = 11
number_of Row = 12
number_of Disagree = 13

-- the number and the word of a status, with which a report begins
abbrev pub text_of : Status → List ℕ
text_of Done = codes "status 0 ok"
text_of Usage = codes "status 1 usage"
text_of ReadFault = codes "status 2 read"
text_of WriteFault = codes "status 3 write"
text_of Input = codes "status 4 input"
text_of Cycle = codes "status 5 cycle"
text_of Unfinished = codes "status 6 unfinished"
text_of Rejected = codes "status 7 rejected"
text_of NoMemory = codes "status 8 memory"
text_of Layout = codes "status 9 layout"
text_of TooLong = codes "status 10 long"
text_of TooTall = codes "status 11 tall"
text_of Row = codes "status 12 row"
text_of Disagree = codes "status 13 disagree"

-- the first line of a report
abbrev pub first_line : Status → List ℕ
first_line answer = text_of answer ++ codes "\n"

-- the same with the name of a file
abbrev pub named_line : Status → List ℕ → List ℕ
named_line answer name = text_of answer ++ codes " " ++ name ++ codes "\n"
