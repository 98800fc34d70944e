-- Rules that are accepted in turn are carried out whole.
use Rattle.std.proofs.Common.{◌≡◌, ℕ, zero, suc, List, [], ◌∷◌, take, slice_get, None, Some, Ok, Err, refl, sym, ap, ◌∙◌}
use Rattle.std.specs.Option.{unwrap_or}
use Rattle.std.proofs.lemmas.List.Elements.{All-nil, All-cons}
use Rattle.std.proofs.lemmas.Option.{none-some}
use Rattle.tg_graph.specs.declared.rules.Rule.{Rule}
use Rattle.tg_graph.specs.declared.rules.Rule.TheVariants.{Take, Grant, Create, Remove}
use Rattle.tg_graph.specs.declared.rules.RuleFault.TheVariants.{Refused, Memory}
use Rattle.tg_names.specs.Sets.{IsNamed}
use Rattle.tg_graph.specs.Graphs.{ProtectionGraph}
use Rattle.tg_graph.specs.Rules.{refusal_of, after, rights_of}
use Rattle.tg_graph.specs.RuleWords.{IsRule}
use Rattle.tg_graph.specs.RuleLists.{AllAccepted, after_all}
use Rattle.tg_graph.specs.Additions.{Leads}
use Rattle.tg_graph_laws.specs.Laws.{SameRefusal, SameAfter, AcceptedLead, AcceptedAreNamed, AcceptedRun}
use Rattle.tg_graph.proofs.Same.{refusal-same, after-same}

pub same_refusal : SameRefusal
same_refusal = refusal-same

pub same_after : SameAfter
same_after = after-same

pub accepted_lead : AcceptedLead
accepted_lead g [] a = refl
accepted_lead g (rule ∷ rules) a = (a.1, accepted_lead (after g rule) rules a.2)

rights_named : (rule : Rule) → IsRule rule → IsNamed (rights_of rule)
rights_named (Take x y z s) r = r.3
rights_named (Grant x y z s) r = r.3
rights_named (Create x n s) r = r.2
rights_named (Remove x y s) r = r.2

pub accepted_are_named : AcceptedAreNamed
accepted_are_named g [] a = All-nil (λ rule. IsNamed (rights_of rule))
accepted_are_named g (rule ∷ rules) a = All-cons (λ rule. IsNamed (rights_of rule)) rule rules (rights_named rule a.0) (accepted_are_named (after g rule) rules a.2)

same_end : (g h : ProtectionGraph) (rules : List Rule) → Leads g rules h → h ≡ after_all g rules
same_end g h [] l = l
same_end g h (rule ∷ rules) l = same_end (after g rule) h rules l.1

-- the rule at a place is accepted by the graph after those before it
accepted_at : (g h : ProtectionGraph) (rules : List Rule) (i : ℕ) (rule : Rule) → AllAccepted g rules → Leads g (take i rules) h → slice_get rules i ≡ Some rule → refusal_of h rule ≡ None
accepted_at g h [] i rule a l e = absurd (none-some rule e)
accepted_at g h (first ∷ rules) zero rule a l e = ap (λ k. refusal_of k rule) l ∙ ap (refusal_of g) (sym (ap (λ o. unwrap_or o first) e)) ∙ a.1
accepted_at g h (first ∷ rules) (suc i) rule a l e = accepted_at (after g first) h rules i rule a.2 l.1 e

pub accepted_run : AcceptedRun
accepted_run g rules (Ok u) h a r = same_end g h rules r
accepted_run g rules (Err (i, Memory)) h a r = refl
accepted_run g rules (Err (i, Refused refusal)) h a r = absurd (none-some refusal (sym (accepted_at g h rules i r.1.0 a r.0 r.1.1) ∙ r.1.2.0))
