-- The graph that is read is the one that the lines make.
use Rattle.std.proofs.Common.{◌≡◌, refl, sym, ◌∙◌, ap, subst, inl, inr, ℕ, ◌<◌, ◌≤◌, Bool, false, true, zero, suc, cond, not, ◌&&◌, ◌||◌, leb, List, [], ◌∷◌, length, Option, None, Some, Result, Ok, Err, arith}
use Rattle.std.specs.Prelude.{codes, decimal}
use Rattle.std.proofs.lemmas.Bool.{leb-false, lt-leb, not-false, and_parts, and_from, not_from_true, or_parts}
use Rattle.std.proofs.lemmas.Fmt.{decimal_digit}
use Rattle.tg_names.specs.declared.right_sets.Rights.{Rights}
use Rattle.tg_names.specs.Sets.{is_empty_set}
use Rattle.tg_names.specs.Letters.{set_of_letters}
use Rattle.tg_names.specs.Names.{Name}
use Rattle.tg_graph.specs.Graphs.{ProtectionGraph, has_vertex}
use Rattle.tg_graph.specs.Rules.{with_vertex, with_rights}
use Rattle.tg_graph.specs.Additions.{label_between}
use Rattle.tg_words.specs.declared.faults.TextKind.{TextKind}
use Rattle.tg_words.specs.declared.versions.Version.{Version}
use Rattle.tg_words.specs.declared.versions.Version.TheVariants.{One, Two}
use Rattle.tg_words.specs.declared.faults.TextKind.TheVariants.{BadRights, DuplicateVertex, TooManyVertices, UnknownVertex, DuplicateEdge}
use Rattle.tg_words.specs.Lines.{lines_of}
use Rattle.tg_words.specs.Words.{Word, is_word, value_or, name_at, rights_at, one_word, three_words, number_of, header_number}
use Rattle.tg_words.specs.Versions.{has_letters, last_version, limit_of, version_numbered, version_of, version_word, edge_rights_at}
use Rattle.tg_words.specs.Reading.{◌>>=◌, after_lines}
use Rattle.tg_text.specs.Grammar.{AreLines}
use Rattle.tg_text.specs.GraphText.{GraphSoFar, nothing_read, with_new_vertex, with_new_edge, vertex_item, edge_item, version_item, graph_item, graph_text}
use Rattle.tg_text.specs.GraphGrammar.{IsVersionLine, IsVertexLine, IsEdgeLine, IsGraphItem, GraphTextsAreThose, GraphFaultsAreFirst}
use Rattle.tg_text.proofs.Steps.{ok_is, bind_ok, else_ok, chosen, value_ok, word_is, name_ok, name_from, one_word_is, three_words_are}
use Rattle.tg_text.proofs.GrammarLaws.{same_value, same_fault, lines_ok, lines_from, lines_fault}
use Rattle.tg_text.proofs.ScriptLaws.{header_ok}
use Rattle.tg_text.proofs.NumberLaws.{numbers_are_decimal}

abbrev further : Version → ProtectionGraph → Result GraphSoFar TextKind
further version g = Ok (Some version, g)

vertex_ok : (begun : Option Version) (g : ProtectionGraph) (words : List Word) (h : ProtectionGraph) → vertex_item (version_of begun) g words ≡ Ok h → IsVertexLine (begun, g) (codes "vertex" ∷ words) (Some (version_of begun), h)
unfolding vertex_item
vertex_ok begun g words h e =
    let most = limit_of (version_of begun) in
    let b = bind_ok (one_word words) (λ w. name_at w >>= λ n. with_new_vertex (version_of begun) g n) h e in
    let c = bind_ok (name_at b.0) (λ n. with_new_vertex (version_of begun) g n) h b.2 in
    let n = name_ok b.0 c.0 c.1 in
    let fresh = else_ok (has_vertex g c.0) DuplicateVertex (cond (leb most (length g.vertices)) (Err TooManyVertices) (Ok (with_vertex g c.0))) h c.2 in
    let room = else_ok (leb most (length g.vertices)) TooManyVertices (Ok (with_vertex g c.0)) h fresh.1 in
    record {
      name = c.0;
      spelled = ap (λ (ws : List Word). codes "vertex" ∷ ws) (one_word_is words b.0 b.1 ∙ ap (λ (w : Word). w ∷ []) n.0);
      is_name = n.1;
      fresh = fresh.0;
      room = leb-false most (length g.vertices) room.0;
      makes = ap (λ (k : ProtectionGraph). (Some (version_of begun), k)) (sym (ok_is (with_vertex g c.0) h room.1));
    }

label_ok : (version : Version) (word : Word) (s : Rights) → edge_rights_at version word ≡ Ok s → (set_of_letters word ≡ Some s) × (is_empty_set s ≡ false) × (has_letters version s ≡ true)
label_ok version word s e =
    let b = bind_ok (rights_at word) (λ r. cond (is_empty_set r || not (has_letters version r)) (Err BadRights) (Ok r)) s e in
    let g = else_ok (is_empty_set b.0 || not (has_letters version b.0)) BadRights (Ok b.0) s b.2 in
    let parts = or_parts (is_empty_set b.0) (not (has_letters version b.0)) g.0 in
    let same : b.0 ≡ s = ok_is b.0 s g.1 in
    (value_ok BadRights (set_of_letters word) b.0 b.1 ∙ ap Some same, ap is_empty_set (sym same) ∙ parts.0, ap (has_letters version) (sym same) ∙ not-false (has_letters version b.0) parts.1)

edge_ok : (begun : Option Version) (g : ProtectionGraph) (words : List Word) (h : ProtectionGraph) → edge_item (version_of begun) g words ≡ Ok h → IsEdgeLine (begun, g) (codes "edge" ∷ words) (Some (version_of begun), h)
unfolding edge_item
edge_ok begun g words h e =
    let version = version_of begun in
    let b = bind_ok (three_words words) (λ w. name_at w.0 >>= λ x. name_at w.1 >>= λ y. edge_rights_at version w.2 >>= λ s. with_new_edge g x y s) h e in
    let w = b.0 in
    let bx = bind_ok (name_at w.0) (λ x. name_at w.1 >>= λ y. edge_rights_at version w.2 >>= λ s. with_new_edge g x y s) h b.2 in
    let by_ = bind_ok (name_at w.1) (λ y. edge_rights_at version w.2 >>= λ s. with_new_edge g bx.0 y s) h bx.2 in
    let bs = bind_ok (edge_rights_at version w.2) (λ s. with_new_edge g bx.0 by_.0 s) h by_.2 in
    let x = name_ok w.0 bx.0 bx.1 in
    let y = name_ok w.1 by_.0 by_.1 in
    let s = label_ok version w.2 bs.0 bs.1 in
    let known = else_ok (not (has_vertex g bx.0 && has_vertex g by_.0)) UnknownVertex (cond (not (is_empty_set (label_between g bx.0 by_.0))) (Err DuplicateEdge) (Ok (with_rights g bx.0 by_.0 bs.0))) h bs.2 in
    let fresh = else_ok (not (is_empty_set (label_between g bx.0 by_.0))) DuplicateEdge (Ok (with_rights g bx.0 by_.0 bs.0)) h known.1 in
    let both = and_parts (has_vertex g bx.0) (has_vertex g by_.0) (not-false (has_vertex g bx.0 && has_vertex g by_.0) known.0) in
    record {
      source = bx.0;
      target = by_.0;
      letters = w.2;
      label = bs.0;
      spelled = ap (λ (ws : List Word). codes "edge" ∷ ws) (three_words_are words w b.1 ∙ (ap (λ (v : Word). v ∷ w.1 ∷ w.2 ∷ []) x.0 ∙ ap (λ (v : Word). bx.0 ∷ v ∷ w.2 ∷ []) y.0));
      source_is_name = x.1;
      target_is_name = y.1;
      rights = s.0;
      some = s.1;
      in_version = s.2;
      source_known = both.0;
      target_known = both.1;
      fresh = not-false (is_empty_set (label_between g bx.0 by_.0)) fresh.0;
      makes = ap (λ (k : ProtectionGraph). (Some version, k)) (sym (ok_is (with_rights g bx.0 by_.0 bs.0) h fresh.1));
    }

vertex_from : (begun : Option Version) (g : ProtectionGraph) (words : List Word) (next : GraphSoFar) → IsVertexLine (begun, g) words next → graph_item (begun, g) words ≡ Ok next
unfolding graph_item vertex_item
vertex_from begun g words next v =
    let version = version_of begun in
    let full : leb (limit_of version) (length g.vertices) ≡ false = lt-leb (limit_of version) (length g.vertices) v.room in
    let fresh = v.fresh in
    let added : with_new_vertex version g v.name ≡ Ok (with_vertex g v.name) = rw (fresh, full) refl in
    let read : graph_item (begun, g) (codes "vertex" ∷ v.name ∷ []) ≡ further version (with_vertex g v.name) =
    ap (λ (r : Result Name TextKind). (r >>= λ n. with_new_vertex version g n) >>= further version) (name_from v.name v.is_name) ∙ ap (λ (r : Result ProtectionGraph TextKind). r >>= further version) added in
    ap (graph_item (begun, g)) v.spelled ∙ (read ∙ ap Ok (sym v.makes))

label_from : (version : Version) (word : Word) (s : Rights) → set_of_letters word ≡ Some s → is_empty_set s ≡ false → has_letters version s ≡ true → edge_rights_at version word ≡ Ok s
label_from version word s e some letters =
    ap (λ (o : Option Rights). value_or BadRights o >>= λ r. cond (is_empty_set r || not (has_letters version r)) (Err BadRights) (Ok r)) e
    ∙ (λ i. cond (some i || not (letters i)) (Err BadRights) (Ok s))

edge_from : (begun : Option Version) (g : ProtectionGraph) (words : List Word) (next : GraphSoFar) → IsEdgeLine (begun, g) words next → graph_item (begun, g) words ≡ Ok next
unfolding graph_item edge_item
edge_from begun g words next v =
    let version = version_of begun in
    let x = v.source in
    let y = v.target in
    let both : not (has_vertex g x && has_vertex g y) ≡ false = not_from_true (has_vertex g x && has_vertex g y) (and_from (has_vertex g x) (has_vertex g y) v.source_known v.target_known) in
    let fresh : not (is_empty_set (label_between g x y)) ≡ false = not_from_true (is_empty_set (label_between g x y)) v.fresh in
    let added : with_new_edge g x y v.label ≡ Ok (with_rights g x y v.label) =
    ap (λ (t : Bool). cond t (Err UnknownVertex) (cond (not (is_empty_set (label_between g x y))) (Err DuplicateEdge) (Ok (with_rights g x y v.label)))) both
    ∙ ap (λ (t : Bool). cond t (Err DuplicateEdge) (Ok (with_rights g x y v.label))) fresh in
    let read : graph_item (begun, g) (codes "edge" ∷ x ∷ y ∷ v.letters ∷ []) ≡ further version (with_rights g x y v.label) =
    ap (λ (r : Result Name TextKind). (r >>= λ x. name_at y >>= λ y. edge_rights_at version v.letters >>= λ s. with_new_edge g x y s) >>= further version) (name_from x v.source_is_name)
    ∙ (ap (λ (r : Result Name TextKind). (r >>= λ y. edge_rights_at version v.letters >>= λ s. with_new_edge g x y s) >>= further version) (name_from y v.target_is_name)
    ∙ (ap (λ (r : Result Rights TextKind). (r >>= λ s. with_new_edge g x y s) >>= further version) (label_from version v.letters v.label v.rights v.some v.in_version)
    ∙ ap (λ (r : Result ProtectionGraph TextKind). r >>= further version) added)) in
    ap (graph_item (begun, g)) v.spelled ∙ (read ∙ ap Ok (sym v.makes))

-- ---- the line of a version

-- a number up to the last version is that of a version, which its word names
named : (n : ℕ) (word : Word) → number_of word ≡ Some n → n ≤ last_version → word ≡ version_word (version_numbered n)
named n word e h = let d = (numbers_are_decimal word n).0 e in by n word d.0 d.1 h
  where
    by : (n : ℕ) (word : Word) → word ≡ decimal n → 0 < n → n ≤ last_version → word ≡ version_word (version_numbered n)
    by zero word d some h = absurd (omega arith)
    by (suc zero) word d some h = d ∙ decimal_digit 1 (omega arith)
    by (suc (suc zero)) word d some h = d ∙ decimal_digit 2 (omega arith)
    by (suc (suc (suc n))) word d some h = absurd (omega arith)

version_ok : (begun : Option Version) (g : ProtectionGraph) (words : List Word) (version : Version) → version_item begun words ≡ Ok version → IsVersionLine (begun, g) words (Some version, g)
version_ok None g words version e =
    let b = bind_ok (header_number (codes "version") last_version words) (λ n. Ok (version_numbered n)) version e in
    let line = header_ok (codes "version") last_version words b.0 b.1 in
    let same : version_numbered b.0 ≡ version = ok_is (version_numbered b.0) version b.2 in
    record {
      version = version;
      spelled = line.spelled ∙ ap (λ (w : Word). codes "version" ∷ w ∷ []) (named b.0 line.word line.number.is_number line.number.within ∙ ap version_word same);
      first = refl;
      makes = refl;
    }
version_ok (Some before) g words version e = absurd cc

version_from : (begun : Option Version) (g : ProtectionGraph) (words : List Word) (next : GraphSoFar) → IsVersionLine (begun, g) words next → graph_item (begun, g) words ≡ Ok next
unfolding graph_item header_number
version_from begun g words next v = ap (graph_item (begun, g)) v.spelled ∙ (ap (λ (b : Option Version). graph_item (b, g) (codes "version" ∷ version_word v.version ∷ [])) v.first ∙ (by v.version ∙ ap Ok (sym v.makes)))
  where
    by : (version : Version) → graph_item (None, g) (codes "version" ∷ version_word version ∷ []) ≡ further version g
    by One = refl
    by Two = refl

-- ---- the whole

pub graph_item_ok : (n : ℕ) (made : GraphSoFar) (words : List Word) (next : GraphSoFar) → graph_item made words ≡ Ok next → IsGraphItem made words next
unfolding graph_item
graph_item_ok n made [] next e = absurd cc
graph_item_ok n (begun, g) (word ∷ words) next e =
    let version = version_of begun in
    let other : Result GraphSoFar TextKind = version_item begun (word ∷ words) >>= λ named. further named g in
    elim (chosen (is_word word (codes "vertex")) (vertex_item version g words >>= further version) (cond (is_word word (codes "edge")) (edge_item version g words >>= further version) other) (Ok next) e) [
      | inl p ↦ (
          let b = bind_ok (vertex_item version g words) (further version) next p.1 in
          let line = subst (λ (w : Word). IsVertexLine (begun, g) (w ∷ words) (Some version, b.0)) (sym (word_is word (codes "vertex") p.0)) (vertex_ok begun g words b.0 b.1) in
          inr (inl (subst (λ (made : GraphSoFar). IsVertexLine (begun, g) (word ∷ words) made) (ok_is (Some version, b.0) next b.2) line)))
      | inr p ↦ elim (chosen (is_word word (codes "edge")) (edge_item version g words >>= further version) other (Ok next) p.1) [
        | inl q ↦ (
            let b = bind_ok (edge_item version g words) (further version) next q.1 in
            let line = subst (λ (w : Word). IsEdgeLine (begun, g) (w ∷ words) (Some version, b.0)) (sym (word_is word (codes "edge") q.0)) (edge_ok begun g words b.0 b.1) in
            inr (inr (subst (λ (made : GraphSoFar). IsEdgeLine (begun, g) (word ∷ words) made) (ok_is (Some version, b.0) next b.2) line)))
        | inr q ↦ (
            let b = bind_ok (version_item begun (word ∷ words)) (λ named. further named g) next q.1 in
            inl (subst (λ (made : GraphSoFar). IsVersionLine (begun, g) (word ∷ words) made) (ok_is (Some b.0, g) next b.2) (version_ok begun g (word ∷ words) b.0 b.1)))
      ]
    ]

pub graph_item_from : (n : ℕ) (made : GraphSoFar) (words : List Word) (next : GraphSoFar) → IsGraphItem made words next → graph_item made words ≡ Ok next
graph_item_from n (begun, g) words next (inl v) = version_from begun g words next v
graph_item_from n (begun, g) words next (inr (inl v)) = vertex_from begun g words next v
graph_item_from n (begun, g) words next (inr (inr v)) = edge_from begun g words next v

abbrev graph_only : Result GraphSoFar (ℕ × TextKind) → Result ProtectionGraph (ℕ × TextKind)
graph_only read = read >>= λ made. Ok made.1

pub graph_texts_are_those : GraphTextsAreThose
unfolding graph_text
graph_texts_are_those text g = (
  λ e.
      let b = bind_ok (after_lines (λ n. graph_item) 1 nothing_read (lines_of text)) (λ made. Ok made.1) g e in
      let same : b.0.1 ≡ g = same_value b.0.1 g b.2 in
      (b.0.0, subst (λ (h : ProtectionGraph). AreLines (λ n. IsGraphItem) 1 nothing_read (lines_of text) (b.0.0, h)) same (lines_ok (λ n. graph_item) (λ n. IsGraphItem) graph_item_ok graph_item_from 1 nothing_read (lines_of text) b.0 b.1)),
  λ h. ap graph_only (lines_from (λ n. graph_item) (λ n. IsGraphItem) graph_item_ok graph_item_from 1 nothing_read (lines_of text) (h.0, g) h.1),
)

-- what is read of the lines, where the graph alone is refused
pub lines_refused : (read : Result GraphSoFar (ℕ × TextKind)) (fault : ℕ × TextKind) → graph_only read ≡ Err fault → read ≡ Err fault
lines_refused (Ok made) fault e = absurd cc
lines_refused (Err found) fault e = ap Err (same_fault ProtectionGraph found fault e)

pub graph_faults_are_first : GraphFaultsAreFirst
unfolding graph_text
graph_faults_are_first text m kind e =
    let refused = lines_refused (after_lines (λ n. graph_item) 1 nothing_read (lines_of text)) (m, kind) e in
    lines_fault (λ n. graph_item) (λ n. IsGraphItem) graph_item_ok graph_item_from 1 nothing_read (lines_of text) m kind refused
