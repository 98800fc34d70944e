-- What the program says where it gives no report.
use Rattle.std.specs.Prelude.{ℕ, List, codes, Option, None, Some}
use Rattle.officer.specs.declared.fetch.FetchFault.{FetchFault}
use Rattle.officer.specs.declared.fetch.FetchFault.TheVariants as fetch
use Rattle.officer.specs.declared.fault.Cause.{Cause}
use Rattle.officer.specs.declared.surroundings.WordsFault.{WordsFault}
use Rattle.officer.specs.declared.surroundings.WordsFault.TheVariants as words
use Rattle.officer.specs.declared.fault.Cause.TheVariants.{Graph, Second, TooLarge, Memory, Write, Words}
use Rattle.officer.specs.declared.forms.Form.{Form}
use Rattle.officer.specs.declared.forms.Form.TheVariants as form

-- the line on standard error
abbrev pub line_of : Cause → List ℕ
line_of Graph = codes "officer: cannot read the graph"
line_of Second = codes "officer: cannot read the second file"
line_of TooLarge = codes "officer: input too large"
line_of Memory = codes "officer: no memory"
line_of Write = codes "officer: cannot write"
line_of (Words form) = codes "officer: bad command line"

-- the status: 2 for the command line, 3 for what the surroundings refuse
abbrev pub status_of : Cause → ℕ
status_of Graph = 3
status_of Second = 3
status_of TooLarge = 3
status_of Memory = 3
status_of Write = 3
status_of (Words form) = 2

-- the line that tells a form
abbrev pub usage_of : Form → List ℕ
usage_of form.Check = codes "officer: usage: officer check G"
usage_of form.Apply = codes "officer: usage: officer apply G RULES"
usage_of form.Islands = codes "officer: usage: officer islands G"
usage_of form.Share = codes "officer: usage: officer share G RIGHTS X Y"
usage_of form.Derive = codes "officer: usage: officer derive G RIGHTS X Y"
usage_of form.Table = codes "officer: usage: officer table G RIGHT [--workers N]"
usage_of form.Who = codes "officer: usage: officer who G RIGHTS Y"
usage_of form.Reach = codes "officer: usage: officer reach G X"
usage_of form.Verify = codes "officer: usage: officer verify G POLICY [--why]"
usage_of form.Cut = codes "officer: usage: officer cut G RIGHT X Y [--keep A B ..]"
usage_of form.Run = codes "officer: usage: officer run G SCRIPT"
usage_of form.Race = codes "officer: usage: officer race G SCRIPT"

-- the second line on standard error, for a bad command line alone: the nearest form, or where all forms stand
abbrev pub form_line_of : Cause → Option (List ℕ)
form_line_of Graph = None
form_line_of Second = None
form_line_of TooLarge = None
form_line_of Memory = None
form_line_of Write = None
form_line_of (Words None) = Some (codes "officer: officer --help lists all forms")
form_line_of (Words (Some nearest)) = Some (usage_of nearest)

-- the cause where an input was not fetched; an unreadable one has a cause of its own
abbrev pub cause_of_fetch : FetchFault → Cause → Cause
cause_of_fetch fetch.Unreadable unreadable = unreadable
cause_of_fetch fetch.TooLarge unreadable = TooLarge
cause_of_fetch fetch.Memory unreadable = Memory

-- the cause where the words of the command line were not given: no form is near to words that can't be read
abbrev pub cause_of_words : WordsFault → Cause
cause_of_words words.Unreadable = Words None
cause_of_words words.Memory = Memory
