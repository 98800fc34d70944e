-- The canonical text of a graph is read as the graph.
use Rattle.std.proofs.Common.{◌≡◌, ℕ, ◌+◌, ◌≤◌, ◌<◌, Bool, true, false, ◌&&◌, ◌||◌, not, nat_le, if◌then◌else◌, List, [], ◌∷◌, ◌++◌, length, codes, Option, None, Some, Result, Ok, Err, refl, sym, ap, subst, ◌∙◌, arith, bytes_eq, nat_cmp}
use Rattle.std.specs.List.{AllByRecursion, flat_map, list_all}
use Rattle.std.specs.List.Sorted.{IsStrictlySortedBy}
use Rattle.std.specs.BTreeSet.{insert_key}
use Rattle.std.specs.Ordering.{is_eq, match_ordering, ordering_reverse}
use Rattle.std.specs.declared.cmp.Ordering.TheVariants.{Less, Equal, Greater}
use Rattle.std.specs.Cmp.Lexicographic.{slice_cmp, nat_list_cmp_total, texts_ties}
use Rattle.std.proofs.lemmas.Bool.Decides.{nat_tests, Decides-eqb}
use Rattle.std.proofs.lemmas.Bool.{and_parts, or_right}
use Rattle.std.proofs.Math.Bool.{and-false, or-false, or_assoc}
use Rattle.std.proofs.lemmas.List.{append-nil, append_assoc, length-append}
use Rattle.std.proofs.lemmas.List.Folds.{list_any-append}
use Rattle.std.proofs.lemmas.Slice.Eq.{bytes_eq-Decides}
use Rattle.tg_names.specs.declared.right_sets.Right.{Right}
use Rattle.tg_names.specs.declared.right_sets.Rights.{Rights}
use Rattle.tg_names.specs.Names.{Name, IsName}
use Rattle.tg_graph.specs.Graphs.{ProtectionGraph, WellFormed, has_vertex}
use Rattle.tg_names.specs.Sets.{IsNamed, member, rights_where, is_empty_set}
use Rattle.tg_graph.specs.Rules.{with_vertex, with_rights, with_edge}
use Rattle.tg_graph.specs.Additions.{label_between}
use Rattle.tg_graph.proofs.Graphs.{with_edge-nothing}
use Rattle.tg_names.proofs.Sets.{member-where, named-where}
use Rattle.tg_words.specs.declared.faults.TextKind.{TextKind}
use Rattle.tg_words.specs.declared.versions.Version.{Version}
use Rattle.tg_words.specs.declared.versions.Version.TheVariants.{One, Two}
use Rattle.tg_words.specs.declared.faults.TextKind.TheVariants.{BadRights, DuplicateVertex, TooManyVertices, UnknownVertex, DuplicateEdge}
use Rattle.tg_words.specs.Lines.{lines_of, is_skipped}
use Rattle.tg_words.specs.Reading.{◌>>=◌, after_lines, on_line}
use Rattle.tg_words.specs.Words.{Word, name_at, header_number}
use Rattle.tg_words.specs.Versions.{has_letters, limit_of, version_of, version_word, edge_rights_at}
use Rattle.tg_text.specs.GraphText.{GraphSoFar, graph_item, vertex_item, edge_item, graph_text, empty_graph, with_new_vertex, with_new_edge}
use Rattle.tg_words.specs.Spelling.{spaced, rights_text, line_of}
use Rattle.tg_text.specs.Canonical.{canonical_text, can_write, edge_line, in_name_order, letters_suffice, name_cmp, row_text, version_line, vertex_line}
use Rattle.tg_text.specs.RoundTrips.{in_order}
use Rattle.tg_text.proofs.NameOrder.{Above, Strict, among, among-in_order, first, strict-in_order}
use Rattle.tg_text.proofs.PlainWords.{IsPlainWord, lines-spaced, line-is, name_word, word_from_test}
use Rattle.tg_text_laws.proofs.PlainRights.{rights_word}
use Rattle.tg_text.proofs.Labels.{all_among}
use Rattle.tg_text.proofs.Steps.{name_from}
use Rattle.tg_text_laws.proofs.RuleBack.{rights_at-is, length-two}
use Rattle.tg_text.proofs.PlainRules.{length-more}
use Rattle.tg_graph.specs.Limits.{most_vertices}
use Rattle.tg_words.specs.Limits.{most_line_bytes}

-- ---- one line
-- the graph alone
abbrev graph_only : Result GraphSoFar (ℕ × TextKind) → Result ProtectionGraph (ℕ × TextKind)
graph_only read = read >>= λ made. Ok made.1

-- reading the bytes as the lines that follow those that made a, in a text of the version, gives h
abbrev Reads : Version → ProtectionGraph → List ℕ → ProtectionGraph → Type 0
Reads version a bytes h = (begun : Option Version) → version_of begun ≡ version → (n : ℕ) → graph_only (after_lines (λ n. graph_item) n (begun, a) (lines_of bytes)) ≡ Ok h

abbrev further : Version → ProtectionGraph → Result GraphSoFar TextKind
further version g = Ok (Some version, g)

-- the words of a line lead from a to b, in a text of the version
abbrev Leads : Version → ProtectionGraph → List Word → ProtectionGraph → Type 0
Leads version a words b = (begun : Option Version) → version_of begun ≡ version → graph_item (begun, a) words ≡ further version b

abbrev goes_on : ℕ → List ℕ → Result GraphSoFar TextKind → Result ProtectionGraph (ℕ × TextKind)
goes_on n rest read = graph_only (on_line n read >>= λ made. after_lines (λ n. graph_item) (n + 1) made (lines_of rest))

line-read : (words : List Word) (made : GraphSoFar) (rest : List ℕ) (n : ℕ) → AllByRecursion IsPlainWord words → length (spaced words) ≤ most_line_bytes → is_skipped words ≡ false
    → graph_only (after_lines (λ n. graph_item) n made (lines_of (line_of words ++ rest))) ≡ goes_on n rest (graph_item made words)
line-read words made rest n p l s =
    ap (λ lines. graph_only (after_lines (λ n. graph_item) n made lines)) (lines-spaced words rest p) ∙ ap (goes_on n rest) (line-is graph_item made words p l s)

read-line : (version : Version) (words : List Word) (a b h : ProtectionGraph) (rest : List ℕ) → AllByRecursion IsPlainWord words → length (spaced words) ≤ most_line_bytes → is_skipped words ≡ false
    → Leads version a words b → Reads version b rest h → Reads version a (line_of words ++ rest) h
read-line version words a b h rest p l s e r begun v n = line-read words (begun, a) rest n p l s ∙ (ap (goes_on n rest) (e begun v) ∙ r (Some version) refl (n + 1))

-- ---- the line of a vertex
short-vertex : (v : Name) → IsName v → length (spaced (codes "vertex" ∷ v ∷ [])) ≤ most_line_bytes
short-vertex v n = omega (arith, length-append (codes "vertex") (32 ∷ v), n.within)

vertex-item : (version : Version) (a : ProtectionGraph) (v : Name) → IsName v → has_vertex a v ≡ false → length a.vertices < limit_of version → Leads version a (codes "vertex" ∷ v ∷ []) (with_vertex a v)
unfolding graph_item vertex_item
vertex-item version a v n e l begun same =
    let most = limit_of version in
    let room : nat_le most (length a.vertices) ≡ false = grind (arith, nat_tests) in
    ap (λ (w : Version). (name_at v >>= λ v. with_new_vertex w a v) >>= further w) same
    ∙ ap (λ r. (r >>= λ v. with_new_vertex version a v) >>= further version) (name_from v n)
    ∙ ap (λ b. (if b then Err DuplicateVertex else (if nat_le most (length a.vertices) then Err TooManyVertices else Ok (with_vertex a v))) >>= further version) e
    ∙ ap (λ b. (if b then Err TooManyVertices else Ok (with_vertex a v)) >>= further version) room

-- ---- the lines of vertices
abbrev bare : List Name → ProtectionGraph
bare vs = record { vertices = vs; holds = λ u right v. false }

apart : (u v : Name) → slice_cmp nat_cmp u v ≡ Less → bytes_eq v u ≡ false
apart u v l = texts_ties v u ∙ ap is_eq (nat_list_cmp_total.antisymm v u ∙ ap ordering_reverse l)

above_last : (u v : Name) (us vs : List Name) → Above u (us ++ v ∷ vs) → bytes_eq v u ≡ false
above_last u v [] vs a = apart u v a.0
above_last u v (x ∷ us) vs a = above_last u v us vs a.1

not_among : (v : Name) (us vs : List Name) → Strict (us ++ v ∷ vs) → among v us ≡ false
unfolding IsStrictlySortedBy
not_among v [] vs s = refl
not_among v (u ∷ us) vs s = ap (λ b. b || among v us) (above_last u v us vs s.0) ∙ not_among v us vs s.1

-- one more from the front of the second list to the end of the first
shift : (us : List Name) (v : Name) (vs : List Name) → (us ++ v ∷ []) ++ vs ≡ us ++ v ∷ vs
shift us v vs = append_assoc us (v ∷ []) vs

vertices-read : (version : Version) (us vs : List Name) (rest : List ℕ) (h : ProtectionGraph) → Strict (us ++ vs) → AllByRecursion IsName vs → length (us ++ vs) ≤ limit_of version
    → Reads version (bare (us ++ vs)) rest h → Reads version (bare us) (flat_map vertex_line vs ++ rest) h
vertices-read version us [] rest h s a l r = subst (λ ws. Reads version (bare ws) rest h) (append-nil us) r
vertices-read version us (v ∷ vs) rest h s a l r =
    let room : length us < limit_of version = omega (arith, l, length-append us (v ∷ vs)) in
    let next : Reads version (bare (us ++ v ∷ [])) (flat_map vertex_line vs ++ rest) h = vertices-read version (us ++ v ∷ []) vs rest h
    (subst Strict (sym (shift us v vs)) s) a.1 (subst (λ ws. length ws ≤ limit_of version) (sym (shift us v vs)) l)
    (subst (λ ws. Reads version (bare ws) rest h) (sym (shift us v vs)) r) in
    let words : List Word = codes "vertex" ∷ v ∷ [] in
    subst (λ bs. Reads version (bare us) bs h) (sym (append_assoc (vertex_line v) (flat_map vertex_line vs) rest))
    (read-line version words (bare us) (bare (us ++ v ∷ [])) h (flat_map vertex_line vs ++ rest) (word_from_test (codes "vertex") refl refl, (name_word v a.0, tt)) (short-vertex v a.0) refl
    (vertex-item version (bare us) v a.0 (not_among v us vs s) room) next)

-- ---- the line of an edge
short-edge : (x y : Name) (s : Rights) → IsName x → IsName y → length (spaced (codes "edge" ∷ x ∷ y ∷ rights_text s ∷ [])) ≤ most_line_bytes
short-edge x y s p q = omega (arith, length-more (codes "edge") x (y ∷ rights_text s ∷ []), length-two x y s, p.within, q.within)

edge-item : (version : Version) (a : ProtectionGraph) (x y : Name) (s : Rights) → IsName x → IsName y → IsNamed s → is_empty_set s ≡ false → has_letters version s ≡ true → has_vertex a x ≡ true → has_vertex a y ≡ true → is_empty_set (label_between a x y) ≡ true
    → Leads version a (codes "edge" ∷ x ∷ y ∷ rights_text s ∷ []) (with_rights a x y s)
unfolding graph_item edge_item
edge-item version a x y s p q n e letters k m f begun same =
    ap (λ (w : Version). (name_at x >>= λ x. name_at y >>= λ y. edge_rights_at w (rights_text s) >>= λ s. with_new_edge a x y s) >>= further w) same
    ∙ ap (λ r. (r >>= λ x. name_at y >>= λ y. edge_rights_at version (rights_text s) >>= λ s. with_new_edge a x y s) >>= further version) (name_from x p)
    ∙ ap (λ r. (r >>= λ y. edge_rights_at version (rights_text s) >>= λ s. with_new_edge a x y s) >>= further version) (name_from y q)
    ∙ ap (λ r. ((r >>= λ s. if is_empty_set s || not (has_letters version s) then Err BadRights else Ok s) >>= λ s. with_new_edge a x y s) >>= further version) (rights_at-is s n)
    ∙ (λ i. ((if e i || not (letters i) then Err BadRights else Ok s) >>= λ s. with_new_edge a x y s) >>= further version)
    ∙ (λ i. (if not (k i && m i) then Err UnknownVertex else (if not (f i) then Err DuplicateEdge else Ok (with_rights a x y s))) >>= further version)

-- ---- the lines of edges
one_more : (g a c m e f : Bool) → ((e && f) ≡ true → m ≡ g) → ((g && (a || (e && c))) || (e && f && m)) ≡ (g && (a || (e && (c || (f || false)))))
one_more g a c m false f h = or-false (g && (a || false))
one_more g a c m true false h = or-false (g && (a || c)) ∙ ap (λ b. g && (a || b)) (sym (or-false c))
one_more true a c m true true h = ap (λ b. (a || c) || b) (h refl) ∙ or_assoc a c true
one_more false a c m true true h = h refl

-- g is read as far as all rows of us, and of the row of x the edges to ys
module _ (version : Version) (g : ProtectionGraph) (w : WellFormed g) (vs : List Name) (known : (v : Name) → among v vs ≡ has_vertex g v) (strict : Strict vs) (letters : letters_suffice version g vs ≡ true) where
  abbrev in_row : List Name → Name → List Name → ProtectionGraph
  in_row us x ys = record { vertices = vs; holds = λ u right v. g.holds u right v && (among u us || (bytes_eq u x && among v ys)) }

  abbrev after_rows : List Name → ProtectionGraph
  after_rows us = record { vertices = vs; holds = λ u right v. g.holds u right v && among u us }

  with_next : (us : List Name) (x : Name) (ys : List Name) (y : Name) → with_rights (in_row us x ys) x y (label_between g x y) ≡ in_row us x (ys ++ y ∷ [])
  with_next us x ys y = λ i. record { vertices = vs; holds = λ u right v. at u right v i }
    where
      at : (u : Name) (right : Right) (v : Name) → with_edge (in_row us x ys).holds x y (label_between g x y) u right v ≡ (in_row us x (ys ++ y ∷ [])).holds u right v
      at u right v =
          one_more (g.holds u right v) (among u us) (among v ys) (member (label_between g x y) right) (bytes_eq u x) (bytes_eq v y)
          (λ both. member-where (λ right. g.holds x right y) right ∙ (λ i. g.holds (sym ((bytes_eq-Decides u x).0 (and_parts (bytes_eq u x) (bytes_eq v y) both).0) i) right (sym ((bytes_eq-Decides v y).0 (and_parts (bytes_eq u x) (bytes_eq v y) both).1) i)))
          ∙ ap (λ b. g.holds u right v && (among u us || (bytes_eq u x && b))) (sym (list_any-append (bytes_eq v) ys (y ∷ [])))

  no_edge : (us : List Name) (x : Name) (ys : List Name) (y : Name) → is_empty_set (label_between g x y) ≡ true → in_row us x ys ≡ in_row us x (ys ++ y ∷ [])
  no_edge us x ys y e =
      (λ i. record { vertices = vs; holds = sym (with_edge-nothing (in_row us x ys).holds x y (label_between g x y) ((Decides-eqb (label_between g x y).0 0).0 e)) i })
      ∙ with_next us x ys y

  -- no right is read yet from x over y
  fresh : (us : List Name) (x : Name) (ys : List Name) (y : Name) → among x us ≡ false → among y ys ≡ false → is_empty_set (label_between (in_row us x ys) x y) ≡ true
  fresh us x ys y p q = λ i. is_empty_set (rights_where (λ right. none right i))
    where
      none : (right : Right) → (in_row us x ys).holds x right y ≡ false
      none right =
          (λ i. g.holds x right y && (p i || (bytes_eq x x && q i))) ∙ ap (λ b. g.holds x right y && b) (and-false (bytes_eq x x)) ∙ and-false (g.holds x right y)

  name_of : (v : Name) → among v vs ≡ true → IsName v
  name_of v m = w.names v (sym (known v) ∙ m)

  lettered : (x y : Name) → among x vs ≡ true → among y vs ≡ true → has_letters version (label_between g x y) ≡ true
  lettered x y m k = all_among (λ v. has_letters version (label_between g x v)) vs y (all_among (λ u. list_all (λ v. has_letters version (label_between g u v)) vs) vs x letters m) k

  edge-read : (us : List Name) (x : Name) (ys : List Name) (y : Name) (rest : List ℕ) (h : ProtectionGraph) → among x us ≡ false → among y ys ≡ false → among x vs ≡ true → among y vs ≡ true
      → Reads version (in_row us x (ys ++ y ∷ [])) rest h → Reads version (in_row us x ys) (edge_line x y (label_between g x y) ++ rest) h
  edge-read us x ys y rest h p q m k r = by (is_empty_set (label_between g x y)) refl
    where
      by : (b : Bool) → is_empty_set (label_between g x y) ≡ b → Reads version (in_row us x ys) ((if b then [] else line_of (codes "edge" ∷ x ∷ y ∷ rights_text (label_between g x y) ∷ [])) ++ rest) h
      by true e = subst (λ a. Reads version a rest h) (sym (no_edge us x ys y e)) r
      by false e =
          read-line version (codes "edge" ∷ x ∷ y ∷ rights_text (label_between g x y) ∷ []) (in_row us x ys) (in_row us x (ys ++ y ∷ [])) h rest
          (word_from_test (codes "edge") refl refl, (name_word x (name_of x m), (name_word y (name_of y k), (rights_word (label_between g x y), tt))))
          (short-edge x y (label_between g x y) (name_of x m) (name_of y k)) refl
          (λ begun same. edge-item version (in_row us x ys) x y (label_between g x y) (name_of x m) (name_of y k) (named-where (λ right. g.holds x right y)) e (lettered x y m k) m k (fresh us x ys y p q) begun same ∙ ap (further version) (with_next us x ys y)) r

  row-read : (us : List Name) (x : Name) (ys zs : List Name) (rest : List ℕ) (h : ProtectionGraph) → among x us ≡ false → among x vs ≡ true → Strict (ys ++ zs) → AllByRecursion (λ v. among v vs ≡ true) zs
      → Reads version (in_row us x (ys ++ zs)) rest h → Reads version (in_row us x ys) (row_text g zs x ++ rest) h
  row-read us x ys [] rest h p m s a r = subst (λ us'. Reads version (in_row us x us') rest h) (append-nil ys) r
  row-read us x ys (z ∷ zs) rest h p m s a r =
      subst (λ bs. Reads version (in_row us x ys) bs h) (sym (append_assoc (edge_line x z (label_between g x z)) (row_text g zs x) rest))
      (edge-read us x ys z (row_text g zs x ++ rest) h p (not_among z ys zs s) m a.0
      (row-read us x (ys ++ z ∷ []) zs rest h p m (subst Strict (sym (shift ys z zs)) s) a.1 (subst (λ us'. Reads version (in_row us x us') rest h) (sym (shift ys z zs)) r)))

  -- ---- rows begun and ended
  begun : (us : List Name) (x : Name) → in_row us x [] ≡ after_rows us
  begun us x = λ i. record { vertices = vs; holds = λ u right v. g.holds u right v && none u i }
    where
      none : (u : Name) → (among u us || (bytes_eq u x && false)) ≡ among u us
      none u = ap (λ b. among u us || b) (and-false (bytes_eq u x)) ∙ or-false (among u us)

  ended : (us : List Name) (x : Name) → in_row us x vs ≡ after_rows (us ++ x ∷ [])
  ended us x = λ i. record { vertices = vs; holds = λ u right v. at u right v i }
    where
      by : (b a e m : Bool) → (b ≡ true → m ≡ true) → (b && (a || (e && m))) ≡ (b && (a || (e || false)))
      by true a true m h = ap (λ c. a || c) (h refl)
      by true a false m h = refl
      by false a e m h = refl

      at : (u : Name) (right : Right) (v : Name) → (in_row us x vs).holds u right v ≡ (after_rows (us ++ x ∷ [])).holds u right v
      at u right v =
          by (g.holds u right v) (among u us) (bytes_eq u x) (among v vs) (λ e. known v ∙ (w.ends u right v e).1)
          ∙ ap (λ b. g.holds u right v && b) (sym (list_any-append (bytes_eq u) us (x ∷ [])))

  rows-read : (us xs : List Name) (rest : List ℕ) (h : ProtectionGraph) → Strict (us ++ xs) → AllByRecursion (λ v. among v vs ≡ true) xs → AllByRecursion (λ v. among v vs ≡ true) vs
      → Reads version (after_rows (us ++ xs)) rest h → Reads version (after_rows us) (flat_map (row_text g vs) xs ++ rest) h
  rows-read us [] rest h s a all r = subst (λ ws. Reads version (after_rows ws) rest h) (append-nil us) r
  rows-read us (x ∷ xs) rest h s a all r =
      subst (λ bs. Reads version (after_rows us) bs h) (sym (append_assoc (row_text g vs x) (flat_map (row_text g vs) xs) rest))
      (subst (λ b. Reads version b (row_text g vs x ++ (flat_map (row_text g vs) xs ++ rest)) h) (begun us x)
      (row-read us x [] vs (flat_map (row_text g vs) xs ++ rest) h (not_among x us xs s) a.0 strict all
      (subst (λ b. Reads version b (flat_map (row_text g vs) xs ++ rest) h) (sym (ended us x))
      (rows-read (us ++ x ∷ []) xs rest h (subst Strict (sym (shift us x xs)) s) a.1 all (subst (λ ws. Reads version (after_rows ws) rest h) (sym (shift us x xs)) r)))))

  whole : after_rows vs ≡ record { vertices = vs; holds = g.holds }
  whole = λ i. record { vertices = vs; holds = λ u right v. at u right v i }
    where
      by : (b m : Bool) → (b ≡ true → m ≡ true) → (b && m) ≡ b
      by true m h = h refl
      by false m h = refl

      at : (u : Name) (right : Right) (v : Name) → (g.holds u right v && among u vs) ≡ g.holds u right v
      at u right v = by (g.holds u right v) (among u vs) (λ e. known u ∙ (w.ends u right v e).0)

  none_yet : bare vs ≡ after_rows []
  none_yet = λ i. record { vertices = vs; holds = λ u right v. sym (and-false (g.holds u right v)) i }

  each_among : (ws : List Name) → ((v : Name) → among v ws ≡ true → among v vs ≡ true) → AllByRecursion (λ v. among v vs ≡ true) ws
  each_among [] h = tt
  each_among (v ∷ ws) h = (h v (first v ws), each_among ws (λ u m. h u (or_right (bytes_eq u v) (among u ws) m)))

  names_of : (ws : List Name) → AllByRecursion (λ v. among v vs ≡ true) ws → AllByRecursion IsName ws
  names_of [] a = tt
  names_of (v ∷ ws) a = (name_of v a.0, names_of ws a.1)

  pub all-read : length vs ≤ limit_of version → Reads version empty_graph (flat_map vertex_line vs ++ flat_map (row_text g vs) vs) (record { vertices = vs; holds = g.holds })
  all-read l =
      let all = each_among vs (λ v m. m) in
      let last : Reads version (after_rows vs) [] (record { vertices = vs; holds = g.holds }) = λ begun same n. ap (λ a. Ok a) whole in
      vertices-read version [] vs (flat_map (row_text g vs) vs) (record { vertices = vs; holds = g.holds }) strict (names_of vs all) l
      (subst (λ a. Reads version a (flat_map (row_text g vs) vs) (record { vertices = vs; holds = g.holds })) (sym none_yet)
      (subst (λ bs. Reads version (after_rows []) bs (record { vertices = vs; holds = g.holds })) (append-nil (flat_map (row_text g vs) vs))
      (rows-read [] vs [] (record { vertices = vs; holds = g.holds }) strict all all last)))

-- ---- no more names than there were
length-insert : (ks : List Name) (k : Name) → length (insert_key name_cmp ks k) ≤ length ks + 1
length-insert [] k = omega arith
length-insert (x ∷ xs) k =
    elim (slice_cmp nat_cmp k x) as (λ r. length (match_ordering r (k ∷ x ∷ xs) (x ∷ xs) (x ∷ insert_key name_cmp xs k)) ≤ length (x ∷ xs) + 1) [
      | Less ↦ omega arith
      | Equal ↦ omega arith
      | Greater ↦ omega (arith, length-insert xs k)
    ]

length-in_order : (vs : List Name) → length (in_name_order vs) ≤ length vs
length-in_order [] = omega arith
length-in_order (v ∷ vs) = omega (arith, length-insert (in_name_order vs) v, length-in_order vs)

-- ---- the whole
two-suffices : (g : ProtectionGraph) (us vs : List Name) → list_all (λ u. list_all (λ v. has_letters Two (label_between g u v)) vs) us ≡ true
two-suffices g us vs = every us
  where
    inner : (u : Name) (vs : List Name) → list_all (λ v. has_letters Two (label_between g u v)) vs ≡ true
    inner u [] = refl
    inner u (v ∷ vs) = inner u vs

    every : (us : List Name) → list_all (λ u. list_all (λ v. has_letters Two (label_between g u v)) vs) us ≡ true
    every [] = refl
    every (u ∷ us) = ap (λ b. b && list_all (λ u. list_all (λ v. has_letters Two (label_between g u v)) vs) us) (inner u vs) ∙ every us

version-item : graph_item (None, empty_graph) (codes "version" ∷ version_word Two ∷ []) ≡ further Two empty_graph
unfolding graph_item header_number
version-item = refl

abbrev body : ProtectionGraph → List ℕ
body g = let vs = in_name_order g.vertices in flat_map vertex_line vs ++ flat_map (row_text g vs) vs

body-read : (version : Version) (g : ProtectionGraph) → WellFormed g → letters_suffice version g (in_name_order g.vertices) ≡ true → length (in_name_order g.vertices) ≤ limit_of version → Reads version empty_graph (body g) (in_order g)
body-read version g w letters few = all-read version g w (in_name_order g.vertices) (λ v. among-in_order v g.vertices) (strict-in_order g.vertices) letters few

within : (n m : ℕ) → nat_le n m ≡ true → n ≤ m
within n m e = grind (arith, nat_tests)

pub graph-back : (g : ProtectionGraph) → WellFormed g → length g.vertices ≤ most_vertices → graph_text (canonical_text g) ≡ Ok (in_order g)
unfolding graph_text
graph-back g w l = by (can_write One g) refl
  where
    by : (b : Bool) → can_write One g ≡ b → graph_only (after_lines (λ n. graph_item) 1 (None, empty_graph) (lines_of (version_line (if b then One else Two) ++ body g))) ≡ Ok (in_order g)
    by true e =
        let few = length (in_name_order g.vertices) in
        let parts = and_parts (nat_le few (limit_of One)) (letters_suffice One g (in_name_order g.vertices)) e in
        body-read One g w parts.1 (within few (limit_of One) parts.0) None refl 1
    by false e =
        let words : List Word = codes "version" ∷ version_word Two ∷ [] in
        let few : length (in_name_order g.vertices) ≤ limit_of Two = omega (arith, l, length-in_order g.vertices) in
        line-read words (None, empty_graph) (body g) 1 (word_from_test (codes "version") refl refl, (word_from_test (version_word Two) refl refl, tt)) (omega arith) refl
        ∙ (ap (goes_on 1 (body g)) version-item ∙ body-read Two g w (two-suffices g (in_name_order g.vertices) (in_name_order g.vertices)) few (Some Two) refl 2)
