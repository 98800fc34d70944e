-- Laws of the canonical text.
use Rattle.std.specs.Prelude.{◌≡◌, List, bytes_eq}
use Rattle.std.specs.List.{list_any}
use Rattle.std.specs.List.Sorted.{IsStrictlySortedBy}
use Rattle.tg_names.specs.Names.{Name}
use Rattle.tg_graph.specs.Graphs.{ProtectionGraph, SameGraph}
use Rattle.tg_text.specs.Canonical.{canonical_text, in_name_order, name_cmp}

-- the same names, each before those that are greater
pub record IsInNameOrder (vs ordered : List Name) : Type 0 where
  pub members : (v : Name) → list_any (bytes_eq v) ordered ≡ list_any (bytes_eq v) vs
  pub ascending : IsStrictlySortedBy name_cmp ordered

-- `in_name_order` is the one list of that kind
abbrev pub NamesHaveOneOrder : Type 0
NamesHaveOneOrder = (vs ordered : List Name) → IsInNameOrder vs (in_name_order vs) × (IsInNameOrder vs ordered → ordered ≡ in_name_order vs)

-- equal graphs have one canonical text, however their vertices were inserted
abbrev pub EqualGraphsHaveOneText : Type 0
EqualGraphsHaveOneText = (g h : ProtectionGraph) → SameGraph g h → canonical_text g ≡ canonical_text h
