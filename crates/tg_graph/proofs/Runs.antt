-- Lists of rules.
use Rattle.std.proofs.Common.{◌≡◌, ℕ, ◌+◌, ◌<◌, List, [], ◌∷◌, ◌++◌, take, length, get_or, None, sym, ap, subst, ◌∙◌}
use Rattle.std.proofs.lemmas.List.{take_more}
use Rattle.tg_graph.specs.declared.rules.Rule.{Rule}
use Rattle.tg_graph.specs.Graphs.{ProtectionGraph}
use Rattle.tg_graph.specs.Rules.{refusal_of, after}
use Rattle.tg_graph.specs.Additions.{Leads}

pub leads-push : (g h : ProtectionGraph) (rules : List Rule) (rule : Rule) → Leads g rules h → refusal_of h rule ≡ None → Leads g (rules ++ rule ∷ []) (after h rule)
leads-push g h [] rule e r = (ap (λ k. refusal_of k rule) (sym e) ∙ r, ap (λ k. after k rule) e)
leads-push g h (x ∷ xs) rule l r = (l.0, leads-push (after g x) h xs rule l.1 r)

pub leads-more : (g h k : ProtectionGraph) (rules : List Rule) (i : ℕ) (rule : Rule) → i < length rules → rule ≡ get_or rules i rule → Leads g (take i rules) h → (refusal_of h rule ≡ None) × (k ≡ after h rule) → Leads g (take (i + 1) rules) k
leads-more g h k rules i rule lt is l a =
    subst (Leads g (take (i + 1) rules)) (sym a.1)
    (subst (λ rs. Leads g rs (after h rule)) (sym (take_more rules i rule lt ∙ ap (λ r. take i rules ++ r ∷ []) (sym is))) (leads-push g h (take i rules) rule l a.0))
