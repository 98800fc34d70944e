use Rattle.std.proofs.Common.{◌≡◌, sym, ◌∙◌, ap, map, ℕ, List, Vec, String, Global}
use Rattle.std.specs.Prelude.{string_bytes, Some}
use Rattle.tg_inputs.specs.Calls.{Help, Version, Report, request_of, call_words}
use Rattle.officer.specs.Dealings.{seen}
use Rattle.officer.proofs.DealingLemmas.{bytes_printed, words_answered}
use Rattle.officer.proofs.call.run.Goals as goal

abbrev bytes_of_words : Vec (String Global) Global → List (List ℕ)
bytes_of_words words = map string_bytes words.items

pub returns-in-Some-Help : goal.returns-in-Some-Help
returns-in-Some-Help g c =
    let given : map (λ word. word.now) c.deref-2.result.now ≡ bytes_of_words c.in-Ok.words =
    ap (λ words. map (λ word. word.now) words) c.deref-2.ensures.value ∙ (c.in-Ok-slices.ensures ∙ ap (λ words. map string_bytes words) c.deref.ensures.value) in
    let asked = rw c.in-Some-Help.field-0-is at c.in-Some-Help.ensures in
    let form : request_of (bytes_of_words c.in-Ok.words) ≡ Some Help = sym (asked ∙ ap request_of given) in
    words_answered _ _ _ _ (bytes_of_words c.in-Ok.words) Help _ c.words.ensures (ap (seen bytes_of_words) c.in-Ok.is) form (bytes_printed _ _ _ _ _ _ c.as_bytes.ensures.value c.print.ensures)

pub returns-in-Some-Version : goal.returns-in-Some-Version
returns-in-Some-Version g c =
    let given : map (λ word. word.now) c.deref-2.result.now ≡ bytes_of_words c.in-Ok.words =
    ap (λ words. map (λ word. word.now) words) c.deref-2.ensures.value ∙ (c.in-Ok-slices.ensures ∙ ap (λ words. map string_bytes words) c.deref.ensures.value) in
    let asked = rw c.in-Some-Version.field-0-is at c.in-Some-Version.ensures in
    let form : request_of (bytes_of_words c.in-Ok.words) ≡ Some Version = sym (asked ∙ ap request_of given) in
    words_answered _ _ _ _ (bytes_of_words c.in-Ok.words) Version _ c.words.ensures (ap (seen bytes_of_words) c.in-Ok.is) form (bytes_printed _ _ _ _ _ _ c.as_bytes-in-Some-Version.ensures.value c.print-in-Some-Version.ensures)

pub returns-in-Some-Report : goal.returns-in-Some-Report
returns-in-Some-Report g c =
    let given : map (λ word. word.now) c.deref-2.result.now ≡ bytes_of_words c.in-Ok.words =
    ap (λ words. map (λ word. word.now) words) c.deref-2.ensures.value ∙ (c.in-Ok-slices.ensures ∙ ap (λ words. map string_bytes words) c.deref.ensures.value) in
    let asked = rw c.in-Some-Report.field-0-is at c.in-Some-Report.ensures in
    let form : request_of (bytes_of_words c.in-Ok.words) ≡ Some (Report (call_words c.in-Some-Report.call)) = sym (asked ∙ ap request_of given) in
    words_answered _ _ _ _ (bytes_of_words c.in-Ok.words) (Report (call_words c.in-Some-Report.call)) _ c.words.ensures (ap (seen bytes_of_words) c.in-Ok.is) form c.answer.ensures
