-- A version has letters for all labels of a graph exactly where it has them for those of each row.
use Rattle.std.proofs.Common.{◌≡◌, ℕ, zero, suc, ◌+◌, ◌<◌, ◌&&◌, ◌||◌, take, length, true≢false, is_some, Bool, true, false, cond, unwrap_or, List, [], ◌∷◌, Option, None, Some, refl, sym, ap, ◌∙◌, bytes_eq, IfSome}
use Rattle.std.specs.Cmp.Lexicographic.{nat_list_eq_equiv}
use Rattle.std.specs.Option.{option_map_or}
use Rattle.std.specs.List.{list_all, slice_get}
use Rattle.std.specs.Map.{keys_of, lookup}
use Rattle.std.proofs.lemmas.Bool.{and_parts, and_from, false≢true}
use Rattle.std.proofs.lemmas.List.Folds.{list_all-append, list_all_at}
use Rattle.std.proofs.lemmas.Option.{slice_get_within, get_or_from_slice_get}
use Rattle.std.proofs.lemmas.Slice.Eq.{bytes_eq-Decides}
use Rattle.std.proofs.lemmas.Map.Entries.{lookup_from_place}
use Rattle.std.proofs.lemmas.Map.Made.{is_some-lookup}
use Rattle.tg_names.specs.declared.right_sets.Rights.{Rights}
use Rattle.tg_names.specs.Names.{Name}
use Rattle.tg_graph.specs.GraphOf.{graph_of}
use Rattle.tg_graph.specs.Additions.{label_between}
use Rattle.tg_names.specs.Sets.{nothing}
use Rattle.tg_rows.specs.Rows.{Edges, Entries, IsGraph, label_in, label_of, is_target, row_number}
use Rattle.tg_rows.proofs.Places.{distinct_from_up}
use Rattle.tg_words.specs.declared.versions.Version.{Version}
use Rattle.tg_words.specs.declared.versions.Version.TheVariants.{One, Two}
use Rattle.tg_words.specs.Versions.{has_letters}
use Rattle.tg_text.specs.Canonical.{in_name_order, letters_suffice}
use Rattle.tg_text.proofs.NameOrder.{among, among-in_order}
use Rattle.tg_text.proofs.GraphLines.{between, is-row}
use Rattle.tg_text.proofs.RowLines.{take_one, past_end}

-- ---- all elements
all_from : {X : Type 0} (f : X → Bool) (xs : List X) → ((i : ℕ) (x : X) → slice_get xs i ≡ Some x → f x ≡ true) → list_all f xs ≡ true
all_from f [] h = refl
all_from f (x ∷ xs) h = and_from (f x) (list_all f xs) (h zero x refl) (all_from f xs (λ i y e. h (suc i) y e))

pub all_among : (f : Name → Bool) (vs : List Name) (v : Name) → list_all f vs ≡ true → among v vs ≡ true → f v ≡ true
all_among f [] v h m = absurd (false≢true m)
all_among f (u ∷ us) v h m = by (bytes_eq v u) refl m (all_among f us v (and_parts (f u) (list_all f us) h).1)
  where
    by : (b : Bool) → bytes_eq v u ≡ b → (b || among v us) ≡ true → (among v us ≡ true → f v ≡ true) → f v ≡ true
    by true e k further = ap f ((bytes_eq-Decides v u).0 e) ∙ (and_parts (f u) (list_all f us) h).0
    by false e k further = further k

-- one of them fails
one_fails : {X : Type 0} (f : X → Bool) (xs : List X) (i : ℕ) (x : X) → slice_get xs i ≡ Some x → f x ≡ false → list_all f xs ≡ false
one_fails f xs i x e h = list_all_at f xs i x (slice_get_within xs i x e) (ap f (get_or_from_slice_get xs i x x e) ∙ h)

-- and one more passes
one_more : {X : Type 0} (f : X → Bool) (xs : List X) (i : ℕ) (x : X) → slice_get xs i ≡ Some x → list_all f (take i xs) ≡ true → f x ≡ true → list_all f (take (i + 1) xs) ≡ true
one_more f xs i x e front h =
    ap (list_all f) (take_one xs i x e) ∙ (list_all-append f (take i xs) (x ∷ []) ∙ and_from (list_all f (take i xs)) (f x && true) front (and_from (f x) true h refl))

found : {X : Type 0} (f : X → Bool) (test : Name → Bool) (entries : List (Name × X)) → list_all (λ e. f e.1) entries ≡ true → IfSome (lookup test entries) (λ x. f x ≡ true)
found f test [] h = tt
found {X} f test (e ∷ entries) h = by (test e.0) (found f test entries (and_parts (f e.1) (list_all (λ e. f e.1) entries) h).1)
  where
    by : (b : Bool) → IfSome (lookup test entries) (λ x. f x ≡ true) → IfSome (cond b (Some e.1) (lookup test entries)) (λ x. f x ≡ true)
    by true rest = (and_parts (f e.1) (list_all (λ e. f e.1) entries) h).0
    by false rest = rest

same_truth : (a b : Bool) → (a ≡ true → b ≡ true) → (b ≡ true → a ≡ true) → a ≡ b
same_truth true b to from = sym (to refl)
same_truth false true to from = from refl
same_truth false false to from = refl

-- ---- letters for rows
abbrev pub row_suffices : Version → Edges → Bool
row_suffices version row = list_all (λ (e : Name × Rights). has_letters version e.1) row

abbrev pub rows_suffice : Version → Entries → Bool
rows_suffice version es = list_all (λ (e : Name × Edges). row_suffices version e.1) es

-- at one row
pub row-fails : (version : Version) (row : Edges) (k : ℕ) (d : Name × Rights) → slice_get row k ≡ Some d → has_letters version d.1 ≡ false → row_suffices version row ≡ false
row-fails version row k d e h = one_fails (λ (e : Name × Rights). has_letters version e.1) row k d e h

pub row-more : (version : Version) (row : Edges) (k : ℕ) (d : Name × Rights) → slice_get row k ≡ Some d → row_suffices version (take k row) ≡ true → has_letters version d.1 ≡ true → row_suffices version (take (k + 1) row) ≡ true
row-more version row k d e front h = one_more (λ (e : Name × Rights). has_letters version e.1) row k d e front h

-- at the row of a position
pub rows-fail : (version : Version) (es : Entries) (i : ℕ) → row_suffices version (row_number es i) ≡ false → rows_suffice version es ≡ false
rows-fail version es i h = by (slice_get es i) refl h
  where
    by : (o : Option (Name × Edges)) → slice_get es i ≡ o → row_suffices version (option_map_or (λ e. e.1) o []) ≡ false → rows_suffice version es ≡ false
    by None e h = absurd (true≢false h)
    by (Some x) e h = one_fails (λ (e : Name × Edges). row_suffices version e.1) es i x e h

pub rows-more : (version : Version) (es : Entries) (i : ℕ) → i < length es → rows_suffice version (take i es) ≡ true → row_suffices version (row_number es i) ≡ true → rows_suffice version (take (i + 1) es) ≡ true
rows-more version es i within front h = by (slice_get es i) refl h
  where
    by : (o : Option (Name × Edges)) → slice_get es i ≡ o → row_suffices version (option_map_or (λ e. e.1) o []) ≡ true → rows_suffice version (take (i + 1) es) ≡ true
    by None e h = absurd (past_end es i within e)
    by (Some x) e h = one_more (λ (e : Name × Edges). row_suffices version e.1) es i x e front h

no_right : (version : Version) → has_letters version nothing ≡ true
no_right One = refl
no_right Two = refl

module _ (version : Version) (es : Entries) (g : IsGraph es) where
  of_rows : rows_suffice version es ≡ true → (u v : Name) → has_letters version (label_of es u v) ≡ true
  of_rows h u v = by (lookup (bytes_eq u) es) (found (row_suffices version) (bytes_eq u) es h)
    where
      in_row : (o : Option Rights) → IfSome o (λ s. has_letters version s ≡ true) → has_letters version (unwrap_or o nothing) ≡ true
      in_row None h = no_right version
      in_row (Some s) h = h

      by : (o : Option Edges) → IfSome o (λ row. row_suffices version row ≡ true) → has_letters version (option_map_or (λ row. label_in row v) o nothing) ≡ true
      by None h = no_right version
      by (Some row) h = in_row (lookup (bytes_eq v) row) (found (has_letters version) (bytes_eq v) row h)

  abbrev names : List Name
  names = in_name_order (keys_of es)

  of_all : letters_suffice version (graph_of es) names ≡ true → rows_suffice version es ≡ true
  of_all h = all_from (λ (e : Name × Edges). row_suffices version e.1) es (λ i e at. all_from (λ (d : Name × Rights). has_letters version d.1) e.1 (label e.0 e.1 (lookup_from_place nat_list_eq_equiv es i e.0 e.1 g.apart at)))
    where
      label : (u : Name) (row : Edges) → lookup (bytes_eq u) es ≡ Some row → (k : ℕ) (d : Name × Rights) → slice_get row k ≡ Some d → has_letters version d.1 ≡ true
      label u row here k d at =
          let there : lookup (bytes_eq d.0) row ≡ Some d.1 = lookup_from_place nat_list_eq_equiv row k d.0 d.1 (distinct_from_up row (is-row es g u row here).sorted) at in
          let source : among u names ≡ true = among-in_order u (keys_of es) ∙ (sym (is_some-lookup (bytes_eq u) es) ∙ ap is_some here) in
          let target : among d.0 names ≡ true = among-in_order d.0 (keys_of es) ∙ g.known u d.0 (ap (λ o. option_map_or (λ row. is_target row d.0) o false) here ∙ ap is_some there) in
          let written = all_among (λ v. has_letters version (label_between (graph_of es) u v)) names d.0 (all_among (λ u. list_all (λ v. has_letters version (label_between (graph_of es) u v)) names) names u h source) target in
          let same : label_between (graph_of es) u d.0 ≡ d.1 = between es g u d.0 ∙ (ap (λ o. option_map_or (λ row. label_in row d.0) o nothing) here ∙ ap (λ o. unwrap_or o nothing) there) in
          ap (has_letters version) (sym same) ∙ written

  pub rows-suffice : rows_suffice version es ≡ letters_suffice version (graph_of es) names
  rows-suffice = same_truth (rows_suffice version es) (letters_suffice version (graph_of es) names) (λ h. every h names) of_all
    where
      inner : rows_suffice version es ≡ true → (u : Name) (vs : List Name) → list_all (λ v. has_letters version (label_between (graph_of es) u v)) vs ≡ true
      inner h u vs = all_from (λ v. has_letters version (label_between (graph_of es) u v)) vs (λ i v _. ap (has_letters version) (between es g u v) ∙ of_rows h u v)

      every : rows_suffice version es ≡ true → (us : List Name) → list_all (λ u. list_all (λ v. has_letters version (label_between (graph_of es) u v)) names) us ≡ true
      every h us = all_from (λ u. list_all (λ v. has_letters version (label_between (graph_of es) u v)) names) us (λ i u _. inner h u names)
