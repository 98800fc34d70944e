use Rattle.std.proofs.Common.{◌∙◌, sym}
use Rattle.tg_text.specs.Canonical.{in_name_order}
use Rattle.tg_text.proofs.NameOrder.{among-in_order, strict-in_order, strict_same}
use Rattle.tg_text_laws.proofs.names_have_one_order.Goals as goal

pub returns : goal.returns
returns c = λ vs ordered. (
  record { members = λ v. among-in_order v vs; ascending = strict-in_order vs },
  λ h. strict_same ordered (in_name_order vs) h.ascending (strict-in_order vs) (λ v. h.members v ∙ sym (among-in_order v vs)),
)
