use Rattle.std.proofs.Common.{length, Some, refl, sym, ap, ◌∙◌}
use Rattle.std.proofs.lemmas.Option.{slice_get_read}
use Rattle.tg_analysis.proofs.case_index.entries_at.Goals as goal

pub returns : goal.returns
returns c = slice_get_read c.args.held.now (length c.args.held.now) c.args.place c.index-held-place.result refl c.requires c.index-held-place.is ∙ ap Some (sym c.as_slice.ensures)
