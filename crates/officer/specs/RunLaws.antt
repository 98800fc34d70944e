-- What a run of the program comes to.
use Rattle.std.specs.Prelude.{◌≡◌, ℕ, List, [], ◌∷◌, ◌++◌, Some, Ok}
use Rattle.tg_inputs.specs.Calls.{CallWords, Input as input, File as file, Files as files, Race as race, command_of, RequestWords, Help as help, Version as version, Report as report_on, request_of}
use Rattle.tg_inputs.specs.Readings.{ReportText}
use Rattle.officer.specs.declared.help.TheConstants.{HELP, VERSION}
use Rattle.officer.specs.Dealings.{Dealing, Words, Input, File, Print, IsReportOf, IsRun, told}

-- the texts of a call are read, the graph first, and are there
abbrev pub texts_given : CallWords → List ℕ → List ℕ → List Dealing
texts_given input first second = Input (Ok first) ∷ []
texts_given (file command graph) first second = File graph (Ok first) ∷ []
texts_given (files command graph path) first second = File graph (Ok first) ∷ File path (Ok second) ∷ []
texts_given (race graph path) first second = File graph (Ok first) ∷ File path (Ok second) ∷ []

-- the texts of what is asked for: none but those of a call
abbrev pub texts_read : RequestWords → List ℕ → List ℕ → List Dealing
texts_read help first second = []
texts_read version first second = []
texts_read (report_on call) first second = texts_given call first second

-- what may be printed for these texts: a text of the program's own, or a report of the call
abbrev pub IsAnswer : RequestWords → List ℕ → List ℕ → ReportText → Type 0
IsAnswer help first second report = report ≡ told HELP.now
IsAnswer version first second report = report ≡ told VERSION.now
IsAnswer (report_on call) first second report = IsReportOf (command_of call) first second report

-- The words asked for something, its texts were there, and all of its report was printed; nothing else was done, and the status is the report's.
pub record HasPrinted (status : ℕ) (dealings : List Dealing) : Type 0 where
  pub words : List (List ℕ)
  pub request : RequestWords
  pub first : List ℕ
  pub second : List ℕ
  pub report : ReportText
  pub asked : request_of words ≡ Some request
  pub is : IsAnswer request first second report
  pub done : dealings ≡ Words (Ok words) ∷ (texts_read request first second ++ Print report.bytes (Ok tt) ∷ [])
  pub same : status ≡ report.status

-- a run that ends with a status has printed the report
abbrev pub RunsPrintReports : Type 0
RunsPrintReports = (status : ℕ) (dealings : List Dealing) → IsRun (Ok status) dealings → HasPrinted status dealings
