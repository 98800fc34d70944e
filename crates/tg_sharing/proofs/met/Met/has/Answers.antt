use Rattle.std.proofs.Common.{◌∙◌, ap, is_some, bytes_eq}
use Rattle.std.specs.Map.{lookup}
use Rattle.std.proofs.lemmas.Map.Made.{is_some-lookup}
use Rattle.tg_sharing.proofs.met.Met.has.Goals as goal

pub returns : goal.returns
returns c = c.contains_key.ensures ∙ ap (λ es. is_some (lookup (bytes_eq c.args.name) es)) c.self.view_is ∙ is_some-lookup (bytes_eq c.args.name) c.args.self.now
