-- A run that ends with a status has printed the report.
use Rattle.std.proofs.Common.{◌≡◌, inl, inr, ℕ, List, [], ◌∷◌, ◌++◌, refl, sym, ◌∙◌, ap, subst}
use Rattle.std.specs.Prelude.{⊤, Option, None, Some, Result, Ok, Err}
use Rattle.officer.specs.declared.fault.Cause.{Cause}
use Rattle.officer.specs.declared.fault.Cause.TheVariants.{Graph, Second}
use Rattle.officer.specs.declared.deliver.DeliverFault.{DeliverFault}
use Rattle.officer.specs.declared.fetch.FetchFault.{FetchFault}
use Rattle.officer.specs.declared.surroundings.WordsFault.{WordsFault}
use Rattle.tg_inputs.specs.Calls.{CallWords, Input as input, File as file, Files as files, Race as race, command_of, RequestWords, Help as help, Version as version, Report as report_on, request_of}
use Rattle.tg_inputs.specs.Readings.{ReportText}
use Rattle.officer.specs.declared.help.TheConstants.{HELP, VERSION}
use Rattle.officer.specs.Dealings.{Dealing, Words, Input, File, Print, text_or, and_text, GoesOn, Reads, told, end_of_print, Prints, Answers, AnswersRequest, AnswersForm, AnswersWords}
use Rattle.officer.specs.RunLaws.{texts_given, texts_read, IsAnswer, HasPrinted, RunsPrintReports}

ok_err : {A B : Type 0} (E : Type 0) (x : B) (y : E) → ◌≡◌ {A = Result B E} (Ok x) (Err y) → A
ok_err E x y e = cc

ok_is : {A E : Type 0} (x y : A) → ◌≡◌ {A = Result A E} (Ok x) (Ok y) → x ≡ y
ok_is x y e = cc

graph_given : (question : Result (List ℕ) FetchFault → Dealing) (first second : List ℕ) (reading : List Dealing) (answer : Result (List ℕ) FetchFault) → reading ≡ question answer ∷ [] → Ok (first, second) ≡ and_text (text_or Graph answer) (Ok []) → reading ≡ question (Ok first) ∷ []
graph_given question first second reading (Ok bytes) e t =
    let same : first ≡ bytes = ap (λ (p : List ℕ × List ℕ). p.0) (ok_is (first, second) (bytes, []) t) in
    e ∙ ap (λ (b : List ℕ). question (Ok b) ∷ []) (sym same)
graph_given question first second reading (Err fault) e t = ok_err Cause (first, second) _ t

second_given : (path b first second : List ℕ) (after : List Dealing) (answer : Result (List ℕ) FetchFault) → after ≡ File path answer ∷ [] → Ok (first, second) ≡ and_text (Ok b) (text_or Second answer) → (first ≡ b) × (after ≡ File path (Ok second) ∷ [])
second_given path b first second after (Ok bytes) e t =
    let pair = ok_is (first, second) (b, bytes) t in
    (ap (λ (p : List ℕ × List ℕ). p.0) pair, e ∙ ap (λ (p : List ℕ × List ℕ). File path (Ok p.1) ∷ []) (sym pair))
second_given path b first second after (Err fault) e t = ok_err Cause (first, second) _ t

both_given : (graph path first second : List ℕ) (reading after : List Dealing) (answer : Result (List ℕ) FetchFault) → reading ≡ File graph answer ∷ after → GoesOn path (text_or Graph answer) (Ok (first, second)) after → reading ≡ File graph (Ok first) ∷ File path (Ok second) ∷ []
both_given graph path first second reading after (Ok bytes) e g =
    let s = second_given path bytes first second after g.answer g.asked g.texts_are in
    e ∙ (ap (λ (b : List ℕ). File graph (Ok b) ∷ after) (sym s.0) ∙ ap (λ (ds : List Dealing). File graph (Ok first) ∷ ds) s.1)
both_given graph path first second reading after (Err fault) e g = ok_err Cause (first, second) _ g.0

reads_given : (call : CallWords) (first second : List ℕ) (reading : List Dealing) → Reads call (Ok (first, second)) reading → reading ≡ texts_given call first second
reads_given input first second reading r = graph_given Input first second reading r.answer r.asked r.texts_are
reads_given (file command graph) first second reading r = graph_given (File graph) first second reading r.answer r.asked r.texts_are
reads_given (files command graph path) first second reading r = both_given graph path first second reading r.after r.answer r.asked r.goes_on
reads_given (race graph path) first second reading r = both_given graph path first second reading r.after r.answer r.asked r.goes_on

report_printed : (report : ReportText) (status : ℕ) (after : List Dealing) (answer : Result ⊤ DeliverFault) → after ≡ Print report.bytes answer ∷ [] → Ok status ≡ end_of_print report answer → (after ≡ Print report.bytes (Ok tt) ∷ []) × (status ≡ report.status)
report_printed report status after (Ok done) e k = (e, ok_is status report.status k)
report_printed report status after (Err fault) e k = ok_err Cause status _ k

text_printed : (words : List (List ℕ)) (request : RequestWords) (report : ReportText) (status : ℕ) (dealings : List Dealing) → request_of words ≡ Some request → texts_read request [] [] ≡ [] → IsAnswer request [] [] report → Prints report (Ok status) dealings → HasPrinted status (Words (Ok words) ∷ dealings)
text_printed words request report status dealings asked none is p =
    let printed = report_printed report status dealings p.answer p.asked p.end_is in
    record {
      words = words;
      request = request;
      first = [];
      second = [];
      report = report;
      asked = asked;
      is = is;
      done = ap (λ (ds : List Dealing). Words (Ok words) ∷ ds) (printed.0 ∙ ap (λ (ds : List Dealing). ds ++ Print report.bytes (Ok tt) ∷ []) (sym none));
      same = printed.1;
    }

call_printed : (words : List (List ℕ)) (call : CallWords) (status : ℕ) (dealings reading after : List Dealing) (texts : Result (List ℕ × List ℕ) Cause) → request_of words ≡ Some (report_on call) → dealings ≡ reading ++ after → Reads call texts reading → Answers (command_of call) texts (Ok status) after → HasPrinted status (Words (Ok words) ∷ dealings)
call_printed words call status dealings reading after (Ok texts) asked turn r (inl p) =
    let printed = report_printed p.report status after p.prints.answer p.prints.asked p.prints.end_is in
    let given = reads_given call texts.0 texts.1 reading r in
    record {
      words = words;
      request = report_on call;
      first = texts.0;
      second = texts.1;
      report = p.report;
      asked = asked;
      is = p.is;
      done = ap (λ (ds : List Dealing). Words (Ok words) ∷ ds) (turn ∙ (ap (λ (ds : List Dealing). ds ++ after) given ∙ ap (λ (ds : List Dealing). texts_given call texts.0 texts.1 ++ ds) printed.0));
      same = printed.1;
    }
call_printed words call status dealings reading after (Ok texts) asked turn r (inr stops) = ok_err Cause status _ stops.1
call_printed words call status dealings reading after (Err cause) asked turn r stops = ok_err Cause status _ stops.1

request_printed : (words : List (List ℕ)) (request : RequestWords) (status : ℕ) (dealings : List Dealing) → request_of words ≡ Some request → AnswersRequest request (Ok status) dealings → HasPrinted status (Words (Ok words) ∷ dealings)
request_printed words help status dealings e p = text_printed words help (told HELP.now) status dealings e refl refl p
request_printed words version status dealings e p = text_printed words version (told VERSION.now) status dealings e refl refl p
request_printed words (report_on call) status dealings e a = call_printed words call status dealings a.reading a.after a.texts e a.in_turn a.reads a.answers

form_printed : (words : List (List ℕ)) (status : ℕ) (dealings : List Dealing) (o : Option RequestWords) → request_of words ≡ o → AnswersForm words o (Ok status) dealings → HasPrinted status (Words (Ok words) ∷ dealings)
form_printed words status dealings None e stops = ok_err Cause status _ stops.1
form_printed words status dealings (Some request) e a = request_printed words request status dealings e a

words_printed : (given : Result (List (List ℕ)) WordsFault) (status : ℕ) (dealings : List Dealing) → AnswersWords given (Ok status) dealings → HasPrinted status (Words given ∷ dealings)
words_printed (Ok words) status dealings (inl a) = form_printed words status dealings (request_of words) refl a
words_printed (Ok words) status dealings (inr stops) = ok_err Cause status _ stops.1
words_printed (Err fault) status dealings stops = ok_err Cause status _ stops.1

pub runs_print_reports : RunsPrintReports
runs_print_reports status dealings run = subst (HasPrinted status) (sym run.asked) (words_printed run.words status run.after run.answers)
