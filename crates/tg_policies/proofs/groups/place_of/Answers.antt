use Rattle.std.proofs.Common.{ap, ◌∙◌}
use Rattle.std.specs.Result.{result_ok}
use Rattle.tg_policies.proofs.GroupLaws.{searched-place}
use Rattle.tg_policies.proofs.groups.place_of.Goals as goal

pub returns : goal.returns
returns c = searched-place c.args.names.now c.requires c.args.name c.binary_search.result c.binary_search.ensures.bound c.binary_search.ensures.position c.ok.result (λ p e. c.ok.ensures.value ∙ ap result_ok e) (λ p e. c.ok.ensures.value ∙ ap result_ok e)
