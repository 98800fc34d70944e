-- Events of a script, played one after another.
use Rattle.std.proofs.Common.{◌≡◌, ℕ, ◌+◌, ◌<◌, List, [], ◌∷◌, ◌++◌, length, take, get_or, refl, sym, ap, subst, ◌∙◌, append_assoc}
use Rattle.std.proofs.lemmas.List.{append-nil, take_more}
use Rattle.tg_text.specs.declared.script_text.ScriptLine.{ScriptLine}
use Rattle.tg_hall.specs.Worlds.{World}
use Rattle.tg_plays.specs.Runs.{IsOutcome, Plays}
use Rattle.tg_plays.proofs.ActLemmas.{acts_keep}

-- one event more is played
plays_push : (w mid v : World) (events : List ScriptLine) (text : List ℕ) (event : ScriptLine) (line : List ℕ) → Plays w events text mid → IsOutcome mid event line v → Plays w (events ++ event ∷ []) (text ++ line) v
plays_push w mid v [] text event line p o =
    (v, line, [], subst (λ u. IsOutcome u event line v) p.1 o, (refl, refl), ap (λ t. t ++ line) p.0 ∙ sym (append-nil line))
plays_push w mid v (e ∷ events) text event line p o =
    (p.0, p.1, p.2 ++ line, p.3, plays_push p.0 mid v events p.2 event line p.4 o, ap (λ t. t ++ line) p.5 ∙ append_assoc p.1 p.2 line)

pub plays_more : (w mid v : World) (events : List ScriptLine) (text : List ℕ) (i : ℕ) (event : ScriptLine) (line : List ℕ) → i < length events → event ≡ get_or events i event → Plays w (take i events) text mid → IsOutcome mid event line v → Plays w (take (i + 1) events) (text ++ line) v
plays_more w mid v events text i event line lt is p o =
    subst (λ es. Plays w es (text ++ line) v) (sym (take_more events i event lt ∙ ap (λ e. take i events ++ e ∷ []) (sym is)))
    (plays_push w mid v (take i events) text event line p o)

-- the opening graph stays
pub plays_keep : (w v : World) (events : List ScriptLine) (text : List ℕ) → Plays w events text v → v.opening ≡ w.opening
plays_keep w v [] text p = ap (λ (u : World). u.opening) p.1
plays_keep w v (e ∷ events) text p = plays_keep p.0 v events p.2 p.4 ∙ (acts_keep w p.0 e.seat e.act p.3.answer p.3.act).opening
