-- What a session knows of the graph that it asks.
use Rattle.std.specs.Prelude.{◌≡◌, [], Bool}
use Rattle.tg_rows.specs.Rows.{Entries}
use Rattle.tg_graph.specs.Drafts.{Changes, laid_over}
use Rattle.tg_index.specs.ByTarget.{IsIndexOf, has_found, unasked}
use Rattle.tg_hall.specs.declared.knowing.Known.{Known}
use Rattle.tg_hall.specs.declared.knowing.Known.TheVariants.{OfBase, OfWhole}

-- what is known of a draft that changes nothing is of the base; of another, of what it stands for
abbrev pub IsKnown : Entries → Changes → Known → Type 0
IsKnown base draft (OfBase index) = (draft ≡ ([], [])) × IsIndexOf base index
IsKnown base draft (OfWhole index) = IsIndexOf (laid_over base draft) index

-- something is known that takes memory
abbrev pub knows_any : Known → Bool
knows_any (OfBase index) = has_found index
knows_any (OfWhole index) = has_found index

-- what is still known where the base is another: whether the draft changes nothing
abbrev pub forgotten : Known → Known
forgotten (OfBase _) = OfBase unasked
forgotten (OfWhole _) = OfWhole unasked
