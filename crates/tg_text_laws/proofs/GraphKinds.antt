-- What is wrong with the words of a line of a graph, in the order of the kinds, is what reading finds.
use Rattle.std.proofs.Common.{◌≡◌, refl, sym, ◌∙◌, subst, inl, inr, Bool, true, false, cond, leb, List, [], ◌∷◌, length, Option, None, Some, Result, Ok, Err, arith}
use Rattle.std.specs.Prelude.{codes, not, ◌&&◌, ◌||◌, is_ok}
use Rattle.std.specs.Option.{option_map_or}
use Rattle.std.proofs.lemmas.Bool.{cases_Bool, ne_eqb}
use Rattle.tg_names.specs.declared.right_sets.Rights.{Rights}
use Rattle.tg_names.specs.Names.{name_of, Name}
use Rattle.tg_names.specs.Sets.{is_empty_set}
use Rattle.tg_names.specs.Letters.{set_of_letters}
use Rattle.tg_graph.specs.Graphs.{ProtectionGraph, has_vertex}
use Rattle.tg_graph.specs.Rules.{with_vertex, with_rights}
use Rattle.tg_graph.specs.Additions.{label_between}
use Rattle.tg_words.specs.declared.faults.TextKind.{TextKind}
use Rattle.tg_words.specs.declared.versions.Version.{Version}
use Rattle.tg_words.specs.declared.faults.TextKind.TheVariants.{BadName, BadRights, DuplicateVertex, TooManyVertices, UnknownVertex, DuplicateEdge}
use Rattle.tg_words.specs.Words.{Word, is_word, value_or, header_number}
use Rattle.tg_words.specs.Reading.{◌>>=◌}
use Rattle.tg_words.specs.Versions.{has_letters, last_version, limit_of, version_numbered, version_of}
use Rattle.tg_text.specs.GraphText.{GraphSoFar, vertex_item, edge_item, graph_item}
use Rattle.tg_text_laws.specs.FaultKinds.{graph_condition}
use Rattle.tg_text.proofs.Steps.{word_is}
use Rattle.tg_text_laws.proofs.LeastKind.{word_kinds, first_kind, fault_of}
use Rattle.tg_text_laws.proofs.FormKinds.{same_fault, header_kinds}

abbrev Reading : Type 0 → Type 0
Reading A = Result A TextKind

abbrev named : Bool → Word → Reading Name
named n word = cond n (Ok word) (Err BadName)

room_plain : {A : Type 0} (d m : Bool) (x : A)
    → fault_of (cond d (Err DuplicateVertex) (cond m (Err TooManyVertices) (Ok x))) ≡ cond d (Some DuplicateVertex) (cond m (Some TooManyVertices) None)
room_plain true m x = refl
room_plain false true x = refl
room_plain false false x = refl

vertex_plain : {A : Type 0} (p : Bool) (d : Name → Bool) (m : Bool) (a : Word) (f : Name → A)
    → fault_of (named p a >>= λ n. cond (d n) (Err DuplicateVertex) (cond m (Err TooManyVertices) (Ok (f n))))
    ≡ cond (not p || false) (Some BadName) (cond (d a) (Some DuplicateVertex) (cond m (Some TooManyVertices) None))
vertex_plain false d m a f = refl
vertex_plain true d m a f = room_plain (d a) m (f a)

vertex_kinds : (begun : Option Version) (g : ProtectionGraph) (words : List Word) → fault_of (vertex_item (version_of begun) g words) ≡ first_kind (graph_condition (begun, g) (codes "vertex" ∷ words)) word_kinds
unfolding vertex_item
vertex_kinds begun g [] = refl
vertex_kinds begun g (a ∷ []) = vertex_plain (is_ok (name_of a)) (has_vertex g) (leb (limit_of (version_of begun)) (length g.vertices)) a (λ n. with_vertex g n)
vertex_kinds begun g (a ∷ b ∷ more) = rw (ne_eqb 2 (length (codes "vertex" ∷ a ∷ b ∷ more)) (λ e. omega arith)) refl

-- what comes after the rights of an edge
added_plain : {A : Type 0} (empty j k fresh : Bool) (s : Rights) (f : Rights → A)
    → fault_of (cond empty (Err BadRights) (Ok s) >>= λ s. cond (not (j && k)) (Err UnknownVertex) (cond (not fresh) (Err DuplicateEdge) (Ok (f s))))
    ≡ cond (empty || false) (Some BadRights) (cond (not j || not k) (Some UnknownVertex) (cond (not fresh) (Some DuplicateEdge) None))
added_plain true j k fresh s f = refl
added_plain false false k fresh s f = refl
added_plain false true false fresh s f = refl
added_plain false true true false s f = refl
added_plain false true true true s f = refl

edge_plain : {A : Type 0} (p q : Bool) (o : Option Rights) (bad : Rights → Bool) (known : Name → Bool) (fresh : Name → Name → Bool) (a b : Word) (f : Name → Name → Rights → A)
    → fault_of (named p a >>= λ x. named q b >>= λ y. (value_or BadRights o >>= λ s. cond (bad s) (Err BadRights) (Ok s)) >>= λ s. cond (not (known x && known y)) (Err UnknownVertex) (cond (not (fresh x y)) (Err DuplicateEdge) (Ok (f x y s))))
    ≡ cond (not p || (not q || false)) (Some BadName) (cond (option_map_or bad o true || false) (Some BadRights) (cond (not (known a) || not (known b)) (Some UnknownVertex) (cond (not (fresh a b)) (Some DuplicateEdge) None)))
edge_plain false q o bad known fresh a b f = refl
edge_plain true false o bad known fresh a b f = refl
edge_plain true true None bad known fresh a b f = refl
edge_plain true true (Some s) bad known fresh a b f = added_plain (bad s) (known a) (known b) (fresh a b) s (λ s. f a b s)

edge_kinds : (begun : Option Version) (g : ProtectionGraph) (words : List Word) → fault_of (edge_item (version_of begun) g words) ≡ first_kind (graph_condition (begun, g) (codes "edge" ∷ words)) word_kinds
unfolding edge_item
edge_kinds begun g [] = refl
edge_kinds begun g (a ∷ []) = refl
edge_kinds begun g (a ∷ b ∷ []) = refl
edge_kinds begun g (a ∷ b ∷ c ∷ []) =
    edge_plain (is_ok (name_of a)) (is_ok (name_of b)) (set_of_letters c) (λ s. is_empty_set s || not (has_letters (version_of begun) s)) (has_vertex g) (λ x y. is_empty_set (label_between g x y)) a b (λ x y s. with_rights g x y s)
edge_kinds begun g (a ∷ b ∷ c ∷ d ∷ more) = rw (ne_eqb 4 (length (codes "edge" ∷ a ∷ b ∷ c ∷ d ∷ more)) (λ e. omega arith)) refl

neither : (begun : Option Version) (g : ProtectionGraph) (word : Word) (words : List Word) → is_word word (codes "vertex") ≡ false → is_word word (codes "edge") ≡ false
    → fault_of (graph_item (begun, g) (word ∷ words)) ≡ first_kind (graph_condition (begun, g) (word ∷ words)) word_kinds
unfolding graph_item
neither None g word words v e =
    rw (v, e) (same_fault (header_number (codes "version") last_version (word ∷ words) >>= λ n. Ok (version_numbered n)) (λ version. (Some version, g)) ∙ header_kinds (codes "version") last_version (word ∷ words) version_numbered)
neither (Some version) g word words v e = rw (v, e) refl

pub graph_kinds : (made : GraphSoFar) (words : List Word) → fault_of (graph_item made words) ≡ first_kind (graph_condition made words) word_kinds
unfolding graph_item
graph_kinds (begun, g) [] = refl
graph_kinds (begun, g) (word ∷ words) =
    elim (cases_Bool (is_word word (codes "vertex"))) [
      | inl v ↦ subst (λ (w : Word). fault_of (graph_item (begun, g) (w ∷ words)) ≡ first_kind (graph_condition (begun, g) (w ∷ words)) word_kinds) (sym (word_is word (codes "vertex") v)) (same_fault (vertex_item (version_of begun) g words) (λ h. (Some (version_of begun), h)) ∙ vertex_kinds begun g words)
      | inr v ↦ elim (cases_Bool (is_word word (codes "edge"))) [
        | inl e ↦ subst (λ (w : Word). fault_of (graph_item (begun, g) (w ∷ words)) ≡ first_kind (graph_condition (begun, g) (w ∷ words)) word_kinds) (sym (word_is word (codes "edge") e)) (same_fault (edge_item (version_of begun) g words) (λ h. (Some (version_of begun), h)) ∙ edge_kinds begun g words)
        | inr e ↦ neither begun g word words v e
      ]
    ]
