-- Rules that are played as they are read, and those that are listed first.
use Rattle.std.proofs.Common.{◌≡◌, ℕ, Bool, true, false, nat_eq, if◌then◌else◌, List, [], ◌∷◌, ◌++◌, Option, None, Some, Result, Ok, Err, refl, sym, ap, ◌∙◌, append_assoc}
use Rattle.std.specs.Prelude.{codes}
use Rattle.std.specs.List.{fold}
use Rattle.std.proofs.lemmas.Bool.Decides.{Decides-eqb}
use Rattle.std.proofs.lemmas.List.{append-nil}
use Rattle.tg_graph.specs.declared.rules.Refusal.{Refusal}
use Rattle.tg_graph.specs.declared.session.Reply.TheVariants.{Done}
use Rattle.tg_graph.specs.Graphs.{ProtectionGraph}
use Rattle.tg_graph.specs.Rules.{refusal_of, after}
use Rattle.tg_words.specs.declared.faults.TextKind.{TextKind}
use Rattle.tg_text.specs.declared.rule_text.RuleLine.{RuleLine}
use Rattle.tg_words.specs.Reading.{◌>>=◌}
use Rattle.tg_text.specs.RuleText.{rules_text, rules_make}
use Rattle.tg_inputs.specs.Readings.{from_text}
use Rattle.tg_inputs.specs.Replies.{Played, played, played_first, reply_line}
use Rattle.tg_inputs.specs.Outcomes.{nothing_played, and_played, played_on, played_in}

-- rules go on from what earlier ones did
abbrev goes_on : Played → List RuleLine → Played
goes_on p rules = if nat_eq p.status 0 then and_played p (played p.end rules) else p

stays : (p : Played) → goes_on p [] ≡ p
stays p = by (nat_eq p.status 0) refl
  where
    by : (b : Bool) → nat_eq p.status 0 ≡ b → (if b then and_played p (nothing_played p.end) else p) ≡ p
    by true e = λ i. record { replies = append-nil p.replies i; end = p.end; status = sym ((Decides-eqb p.status 0).0 e) i }
    by false e = refl

one-further : (p : Played) (r : RuleLine) (rules : List RuleLine) → goes_on (played_on p r) rules ≡ goes_on p (r ∷ rules)
one-further p r rules = by (nat_eq p.status 0) refl (refusal_of p.end r.rule)
  where
    by : (b : Bool) → nat_eq p.status 0 ≡ b → (o : Option Refusal)
        → goes_on (if b then and_played p (played_first p.end r.line o (nothing_played (after p.end r.rule))) else p) rules ≡ (if b then and_played p (played_first p.end r.line o (played (after p.end r.rule) rules)) else p)
    by true e None =
        let rest = played (after p.end r.rule) rules in
        let line = reply_line r.line Done in
        let replies : (p.replies ++ (line ++ [])) ++ rest.replies ≡ p.replies ++ (line ++ rest.replies) =
        append_assoc p.replies (line ++ []) rest.replies ∙ ap (λ l. p.replies ++ l) (append_assoc line [] rest.replies) in
        λ i. record { replies = replies i; end = rest.end; status = rest.status }
    by true e (Some refusal) = refl
    by false e o = ap (λ b. if b then and_played p (played p.end rules) else p) e

fold-played : (rules : List RuleLine) (p : Played) → fold played_on p rules ≡ goes_on p rules
fold-played [] p = sym (stays p)
fold-played (r ∷ rules) p = fold-played rules (played_on p r) ∙ one-further p r rules

pub rules-played : (g : ProtectionGraph) (text : List ℕ) → from_text (codes "rules") (rules_make played_on (nothing_played g) text) ≡ played_in g text
rules-played g text = by (rules_text text)
  where
    by : (r : Result (List RuleLine) (ℕ × TextKind)) → from_text (codes "rules") (r >>= λ rules. Ok (fold played_on (nothing_played g) rules)) ≡ (from_text (codes "rules") r >>= λ rules. Ok (played g rules))
    by (Ok rules) = ap Ok (fold-played rules (nothing_played g))
    by (Err fault) = refl
