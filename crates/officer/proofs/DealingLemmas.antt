-- Dealings one after another.
use Rattle.std.proofs.Common.{◌≡◌, ℕ, List, [], ◌∷◌, ◌++◌, refl, sym, ◌∙◌, ap, subst, inl, append_assoc}
use Rattle.std.specs.Prelude.{Option, None, Some, Result, Ok}
use Rattle.officer.specs.declared.fault.Cause.{Cause}
use Rattle.officer.specs.declared.fault.Cause.TheVariants.{Graph, Second}
use Rattle.officer.specs.declared.fetch.FetchFault.{FetchFault}
use Rattle.officer.specs.declared.surroundings.WordsFault.{WordsFault}
use Rattle.tg_inputs.specs.Calls.{CallWords, CommandWords, command_of, RequestWords, request_of}
use Rattle.tg_inputs.specs.Readings.{ReportText}
use Rattle.officer.specs.Dealings.{Dealing, Words, File, Adds, Deals, text_or, and_text, GoesOn, ReadsBoth, Reads, IsReportOf, report_with, Prints, AnswersCall, AnswersRequest, AnswersForm, AnswersWords, IsRun}

-- dealings and then more
adds_more : (before mid after : Option (List Dealing)) (some more : List Dealing) → Adds before mid some → Adds mid after more → Adds before after (some ++ more)
adds_more None mid after some more h k = tt
adds_more (Some b) None after some more h k = absurd h
adds_more (Some b) (Some m) None some more h k = absurd k
adds_more (Some b) (Some m) (Some a) some more h k = k ∙ (ap (λ ds. ds ++ more) h ∙ append_assoc b some more)

-- two files are read, the graph first
pub both_read : (before mid after : Option (List Dealing)) (graph path first : List ℕ) (a b : Result (List ℕ) FetchFault) (texts : Result (List ℕ × List ℕ) Cause) → Adds before mid (File graph a ∷ []) → text_or Graph a ≡ Ok first → Adds mid after (File path b ∷ []) → texts ≡ and_text (Ok first) (text_or Second b) → Deals before after (ReadsBoth graph path texts)
both_read before mid after graph path first a b texts h e k t = record {
  dealings = File graph a ∷ File path b ∷ [];
  added = adds_more before mid after (File graph a ∷ []) (File path b ∷ []) h k;
  fact = record {
    answer = a;
    after = File path b ∷ [];
    asked = refl;
    goes_on = subst (λ (r : Result (List ℕ) Cause). GoesOn path r texts (File path b ∷ [])) (sym e) (record { answer = b; asked = refl; texts_are = t });
  };
}

-- a report of the same command and texts
pub report_same : (command command' : Option CommandWords) (first first' second second' : List ℕ) (report : ReportText) → command ≡ command' → first ≡ first' → second ≡ second' → IsReportOf command first second report → IsReportOf command' first' second' report
report_same command command' first first' second second' report c e k is =
    subst (λ (s : List ℕ). IsReportOf command' first' s report) k (subst (λ (f : List ℕ). IsReportOf command' f second report) e (subst (λ (w : Option CommandWords). IsReportOf w first second report) c is))

-- the texts of a call are read, and a report of them is printed
pub call_answered : (before mid after : Option (List Dealing)) (call : CallWords) (texts : Result (List ℕ × List ℕ) Cause) (first second : List ℕ) (report : ReportText) (end : Result ℕ Cause) → Deals before mid (Reads call texts) → texts ≡ Ok (first, second) → IsReportOf (command_of call) first second report → Deals mid after (Prints report end) → Deals before after (AnswersCall call end)
call_answered before mid after call texts first second report end d e is p = record {
  dealings = d.dealings ++ p.dealings;
  added = adds_more before mid after d.dealings p.dealings d.added p.added;
  fact = record {
    texts = Ok (first, second);
    reading = d.dealings;
    after = p.dealings;
    in_turn = refl;
    reads = subst (λ (t : Result (List ℕ × List ℕ) Cause). Reads call t d.dealings) e d.fact;
    answers = inl (record { report = report; is = is; prints = p.fact });
  };
}

-- the same bytes were printed
pub bytes_printed : (before after : Option (List Dealing)) (bytes text : List ℕ) (status : ℕ) (end : Result ℕ Cause) → bytes ≡ text → Deals before after (Prints (report_with bytes status) end) → Deals before after (Prints (report_with text status) end)
bytes_printed before after bytes text status end e d = subst (λ (b : List ℕ). Deals before after (Prints (report_with b status) end)) e d

-- words are given, and what they ask for is answered
pub words_answered : (before mid after : Option (List Dealing)) (given : Result (List (List ℕ)) WordsFault) (words : List (List ℕ)) (request : RequestWords) (end : Result ℕ Cause) → Adds before mid (Words given ∷ []) → given ≡ Ok words → request_of words ≡ Some request → Deals mid after (AnswersRequest request end) → Deals before after (IsRun end)
words_answered before mid after given words request end h e form d = record {
  dealings = Words given ∷ d.dealings;
  added = adds_more before mid after (Words given ∷ []) d.dealings h d.added;
  fact = record {
    words = given;
    after = d.dealings;
    asked = refl;
    answers = subst (λ (w : Result (List (List ℕ)) WordsFault). AnswersWords w end d.dealings) (sym e) (inl (subst (λ (o : Option RequestWords). AnswersForm words o end d.dealings) (sym form) d.fact));
  };
}
