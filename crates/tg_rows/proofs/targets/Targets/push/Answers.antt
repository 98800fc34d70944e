use Rattle.std.proofs.Common.{[], ◌∷◌, ◌++◌, unwrap_or, ap, sym, ◌∙◌}
use Rattle.std.proofs.lemmas.List.{append_assoc}
use Rattle.tg_rows.proofs.targets.Targets.push.Goals as goal

pub returns-clause-kept : goal.returns-clause-kept
returns-clause-kept c =
    let shared = unwrap_or c.args.self.now.shared [] in
    record { more = c.args.name ∷ []; behind = ap (λ own. shared ++ own) c.in_ok-push.ensures.items ∙ sym (append_assoc shared c.args.self.now.own.items (c.args.name ∷ [])) }
