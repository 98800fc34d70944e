-- What the program asks of its surroundings in turn, what they answer, and how the program ends.
use Rattle.std.specs.Prelude.{◌≡◌, ◌⊎◌, ⊤, ℕ, List, [], ◌∷◌, ◌++◌, Option, None, Some, Result, Ok, Err}
use Rattle.std.specs.Result.{result_map_both}
use Rattle.officer.specs.declared.fault.Cause.{Cause}
use Rattle.officer.specs.declared.fault.Cause.TheVariants.{Graph, Second, Memory, Write, Words as NoWords}
use Rattle.officer.specs.declared.call.Texts.{Texts}
use Rattle.officer.specs.declared.deliver.DeliverFault.{DeliverFault}
use Rattle.officer.specs.declared.fetch.FetchFault.{FetchFault}
use Rattle.officer.specs.declared.surroundings.WordsFault.{WordsFault}
use Rattle.officer.specs.declared.help.TheConstants.{HELP, VERSION}
use Rattle.officer.specs.Faults.{cause_of_fetch, cause_of_words}
use Rattle.officer.specs.Forms.{nearest_form}
use Rattle.tg_inputs.specs.Readings.{ReportText}
use Rattle.tg_inputs.specs.Calls.{CallWords, Input as input, File as file, Files as files, Race as race, CommandWords, command_of, RequestWords, Help as help, Version as version, Report as report_on, request_of}
use Rattle.tg_reports.specs.Reports.{IsReport}
use Rattle.tg_plays.specs.Races.{IsRaceReport}

-- one question to the surroundings, and its answer
pub data Dealing : Type 0 where
  Words : Result (List (List ℕ)) WordsFault → Dealing
  Input : Result (List ℕ) FetchFault → Dealing
  File : List ℕ → Result (List ℕ) FetchFault → Dealing
  Print : List ℕ → Result ⊤ DeliverFault → Dealing

-- an answer, its value seen by view
abbrev pub seen : {X A E : Type 0} → (X → A) → Result X E → Result A E
seen view answer = result_map_both view (λ e. e) answer

-- the bytes of texts
abbrev pub bytes_of : Texts → List ℕ × List ℕ
bytes_of texts = (texts.first.items, texts.second.items)

-- dealings that are known grow by these
abbrev pub Adds : Option (List Dealing) → Option (List Dealing) → List Dealing → Type 0
Adds None after more = ⊤
Adds (Some before) None more = ⊥
Adds (Some before) (Some after) more = after ≡ before ++ more

-- there were some dealings of which the fact holds, and no others
pub record Deals (before after : Option (List Dealing)) (P : List Dealing → Type 0) : Type 0 where
  pub dealings : List Dealing
  pub added : Adds before after dealings
  pub fact : P dealings

-- a text that was read, or the cause where it was not
abbrev pub text_or : Cause → Result (List ℕ) FetchFault → Result (List ℕ) Cause
text_or unreadable answer = result_map_both (λ bytes. bytes) (λ fault. cause_of_fetch fault unreadable) answer

-- a text with another
abbrev pub and_text : Result (List ℕ) Cause → Result (List ℕ) Cause → Result (List ℕ × List ℕ) Cause
and_text (Ok first) (Ok second) = Ok (first, second)
and_text (Ok first) (Err cause) = Err cause
and_text (Err cause) second = Err cause

-- the graph was read by this question, and there is no second text
pub record ReadsGraph (question : Result (List ℕ) FetchFault → Dealing) (texts : Result (List ℕ × List ℕ) Cause) (dealings : List Dealing) : Type 0 where
  pub answer : Result (List ℕ) FetchFault
  pub asked : dealings ≡ question answer ∷ []
  pub texts_are : texts ≡ and_text (text_or Graph answer) (Ok [])

-- a second text was read from a file once the graph was there
pub record ReadsSecond (path first : List ℕ) (texts : Result (List ℕ × List ℕ) Cause) (dealings : List Dealing) : Type 0 where
  pub answer : Result (List ℕ) FetchFault
  pub asked : dealings ≡ File path answer ∷ []
  pub texts_are : texts ≡ and_text (Ok first) (text_or Second answer)

-- what was done after the graph was asked for: nothing where it was not there
abbrev pub GoesOn : List ℕ → Result (List ℕ) Cause → Result (List ℕ × List ℕ) Cause → List Dealing → Type 0
GoesOn path (Ok first) texts dealings = ReadsSecond path first texts dealings
GoesOn path (Err cause) texts dealings = (texts ≡ Err cause) × (dealings ≡ [])

-- the graph was read from a file, and then a second text from another
pub record ReadsBoth (graph path : List ℕ) (texts : Result (List ℕ × List ℕ) Cause) (dealings : List Dealing) : Type 0 where
  pub answer : Result (List ℕ) FetchFault
  pub after : List Dealing
  pub asked : dealings ≡ File graph answer ∷ after
  pub goes_on : GoesOn path (text_or Graph answer) texts after

-- the texts of a call were read so, or for this cause not
abbrev pub Reads : CallWords → Result (List ℕ × List ℕ) Cause → List Dealing → Type 0
Reads input texts dealings = ReadsGraph Input texts dealings
Reads (file command graph) texts dealings = ReadsGraph (File graph) texts dealings
Reads (files command graph path) texts dealings = ReadsBoth graph path texts dealings
Reads (race graph path) texts dealings = ReadsBoth graph path texts dealings

-- a report of these bytes
abbrev pub report_with : List ℕ → ℕ → ReportText
report_with text status = record { bytes = text; status = status }

-- the end after a report was printed: its status, unless the output did not take it
abbrev pub end_of_print : ReportText → Result ⊤ DeliverFault → Result ℕ Cause
end_of_print report answer = result_map_both (λ _. report.status) (λ _. Write) answer

-- a report was printed, once, and the program ended with its status
pub record Prints (report : ReportText) (end : Result ℕ Cause) (dealings : List Dealing) : Type 0 where
  pub answer : Result ⊤ DeliverFault
  pub asked : dealings ≡ Print report.bytes answer ∷ []
  pub end_is : end ≡ end_of_print report answer

-- nothing more was asked, and the program ended for that cause
abbrev pub Stops : Cause → Result ℕ Cause → List Dealing → Type 0
Stops cause end dealings = (dealings ≡ []) × (end ≡ Err cause)

-- a report that the command may have for these texts; without a command, that of a race
abbrev pub IsReportOf : Option CommandWords → List ℕ → List ℕ → ReportText → Type 0
IsReportOf (Some command) first second report = IsReport command first second report
IsReportOf None first second report = IsRaceReport first second report

-- such a report was printed
pub record PrintsReport (command : Option CommandWords) (first second : List ℕ) (end : Result ℕ Cause) (dealings : List Dealing) : Type 0 where
  pub report : ReportText
  pub is : IsReportOf command first second report
  pub prints : Prints report end dealings

-- what was done with the texts of a call: their report was printed, unless there was no memory to make it
abbrev pub Answers : Option CommandWords → Result (List ℕ × List ℕ) Cause → Result ℕ Cause → List Dealing → Type 0
Answers command (Ok texts) end dealings = PrintsReport command texts.0 texts.1 end dealings ⊎ Stops Memory end dealings
Answers command (Err cause) end dealings = Stops cause end dealings

-- the texts of a call were read, and its report was printed
pub record AnswersCall (call : CallWords) (end : Result ℕ Cause) (dealings : List Dealing) : Type 0 where
  pub texts : Result (List ℕ × List ℕ) Cause
  pub reading : List Dealing
  pub after : List Dealing
  pub in_turn : dealings ≡ reading ++ after
  pub reads : Reads call texts reading
  pub answers : Answers (command_of call) texts end after

-- a text of the program's own as a report
abbrev pub told : List ℕ → ReportText
told text = report_with text 0

-- what is asked for was answered: without a text that is read, or as the call that it is
abbrev pub AnswersRequest : RequestWords → Result ℕ Cause → List Dealing → Type 0
AnswersRequest help end dealings = Prints (told HELP.now) end dealings
AnswersRequest version end dealings = Prints (told VERSION.now) end dealings
AnswersRequest (report_on call) end dealings = AnswersCall call end dealings

-- what was done with words: what they ask for was answered, if they ask for anything
abbrev pub AnswersForm : List (List ℕ) → Option RequestWords → Result ℕ Cause → List Dealing → Type 0
AnswersForm words None end dealings = Stops (NoWords (nearest_form words)) end dealings
AnswersForm words (Some request) end dealings = AnswersRequest request end dealings

-- what was done once the words were asked for, which is nothing where they were not given or there was no memory
abbrev pub AnswersWords : Result (List (List ℕ)) WordsFault → Result ℕ Cause → List Dealing → Type 0
AnswersWords (Ok words) end dealings = AnswersForm words (request_of words) end dealings ⊎ Stops Memory end dealings
AnswersWords (Err fault) end dealings = Stops (cause_of_words fault) end dealings

-- a run of the program: it asks for the words, answers what they ask for, and ends so
pub record IsRun (end : Result ℕ Cause) (dealings : List Dealing) : Type 0 where
  pub words : Result (List (List ℕ)) WordsFault
  pub after : List Dealing
  pub asked : dealings ≡ Words words ∷ after
  pub answers : AnswersWords words end after
