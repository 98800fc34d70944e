-- The edges of a network: one by one, all of them, and by the names of their ends.
use Rattle.std.proofs.Common.{◌≡◌, ℕ, ◌+◌, ◌<◌, ◌≤◌, ◌⊎◌, inl, inr, Bool, true, false, not, ◌&&◌, ◌||◌, List, [], ◌∷◌, ◌++◌, length, slice_get, get_or, Option, Some, None, refl, sym, ap, subst, ◌∙◌, bytes_eq, IsTrue, arith}
use Rattle.std.specs.List.{position}
use Rattle.std.specs.Map.{keys_of}
use Rattle.std.specs.Option.{option_map, option_map_or}
use Rattle.std.proofs.lemmas.Bool.{cases_lt, or_cases, and_parts}
use Rattle.std.proofs.lemmas.Option.{none-some, same_Some, slice_get-map, slice_get-get_or, slice_get_within, get_or_from_slice_get}
use Rattle.std.proofs.lemmas.Map.Entries.{length-keys_of}
use Rattle.tg_flow.specs.declared.edges.FlowEdge.{FlowEdge}
use Rattle.tg_flow.specs.declared.edges.Role.{Role}
use Rattle.tg_flow.specs.Edges.{is_kept, is_kept_flow, flow_at_first}
use Rattle.tg_flow.specs.Flows.{IsSameEdge, SameBut}
use Rattle.tg_flow.specs.Courses.{is_in}
use Rattle.tg_names.specs.declared.right_sets.Right.{Right}
use Rattle.tg_names.specs.declared.right_sets.Right.TheVariants.{T, G}
use Rattle.tg_names.specs.declared.right_sets.Rights.{Rights}
use Rattle.tg_graph.specs.declared.ends.Wanted.TheVariants.{All}
use Rattle.tg_graph.specs.Ends.{end_of}
use Rattle.tg_names.specs.Names.{Name, same_name}
use Rattle.tg_graph.specs.Graphs.{ProtectionGraph, has_vertex, WellFormed}
use Rattle.tg_graph.specs.GraphOf.{graph_of}
use Rattle.tg_rows.specs.Rows.{Entries, IsGraph, IsRow, row_number}
use Rattle.tg_rows.proofs.Places.{distinct_from_up}
use Rattle.tg_graph.proofs.Positions.{at-position}
use Rattle.tg_cuts.specs.declared.kept.Ends.{Ends}
use Rattle.tg_islands.specs.Linked.{IsBefore}
use Rattle.tg_cuts.specs.Cuts.{is_one_of}
use Rattle.tg_cuts.specs.CutParts.{role_by, label_role, name_at, HasRole, IsListed, EdgesUpTo, AreFlowEdges, AreCarried, free_of}
use Rattle.tg_islands.proofs.Linked.{before, row_past}
use Rattle.tg_islands.proofs.Places.{position-at, place_of, place-known, row_of, holds-place, place-holds}
use Rattle.tg_islands.proofs.RowEnds.{behind-keeps, behind-last, behind-is, some-pair, is_read, end-there}

-- ---- rows
module _ (es : Entries) where
  -- a row with an edge is that of a vertex
  pub row-there : (a place : ℕ) (edge : Name × Rights) → slice_get (row_number es a) place ≡ Some edge → a < length (keys_of es)
  row-there a place edge read = by (cases_lt a (length (keys_of es)))
    where
      by : (a < length (keys_of es)) ⊎ (length (keys_of es) ≤ a) → a < length (keys_of es)
      by (inl low) = low
      by (inr past) =
          let within = slice_get_within (row_number es a) place edge read in
          let none : length (row_number es a) ≡ 0 = ap length (row_past es a (omega (arith, length-keys_of es))) in
          absurd (omega (arith, within, none))

  pub name-there : (a : ℕ) → a < length (keys_of es) → slice_get (keys_of es) a ≡ Some (name_at es a)
  name-there a low = slice_get-get_or (keys_of es) a [] low

  pub name-is : (a : ℕ) (v : Name) → slice_get (keys_of es) a ≡ Some v → name_at es a ≡ v
  name-is a v at = get_or_from_slice_get (keys_of es) a v [] at

  pub names-past : (a : ℕ) → a < length (keys_of es) → slice_get (keys_of es) a ≡ None → ⊥
  names-past a low none = none-some (name_at es a) (sym none ∙ name-there a low)

  module _ (ok : IsGraph es) where
    -- a name stands at one position
    pub one-position : (a b : ℕ) (v : Name) → slice_get (keys_of es) a ≡ Some v → slice_get (keys_of es) b ≡ Some v → a ≡ b
    one-position a b v p q = same_Some a b (sym (position-at (keys_of es) ok.apart a v p) ∙ position-at (keys_of es) ok.apart b v q)

    -- a target stands at one place of a row
    pub one-place : (a : ℕ) (u : Name) → slice_get (keys_of es) a ≡ Some u → (j k : ℕ) (n : Name) (l m : Rights) → slice_get (row_number es a) j ≡ Some (n, l) → slice_get (row_number es a) k ≡ Some (n, m) → j ≡ k
    one-place a u at j k n l m p q =
        let row = row_number es a in
        let r = row_of es ok a u at in
        let is_row : IsRow row = subst IsRow (sym r.number) r.sorted in
        let apart = distinct_from_up row is_row.sorted in
        let at_j : slice_get (keys_of row) j ≡ Some n = slice_get-map (λ (e : Name × Rights). e.0) row j ∙ ap (option_map (λ (e : Name × Rights). e.0)) p in
        let at_k : slice_get (keys_of row) k ≡ Some n = slice_get-map (λ (e : Name × Rights). e.0) row k ∙ ap (option_map (λ (e : Name × Rights). e.0)) q in
        same_Some j k (sym (position-at (keys_of row) apart j n at_j) ∙ position-at (keys_of row) apart k n at_k)

-- ---- the edges so far
nowhere : (a place : ℕ) → IsBefore a place 0 0 → ⊥
nowhere a place (inl h) = omega (arith, h)
nowhere a place (inr h) = omega (arith, h.1)

further : (a place i here : ℕ) → IsBefore a place i here → IsBefore a place i (here + 1)
further a place i here (inl h) = inl h
further a place i here (inr h) = inr (h.0, (let low = h.1 in omega arith))

onward : (a place i here : ℕ) → IsBefore a place i here → IsBefore a place (i + 1) 0
onward a place i here (inl h) = inl (omega (arith, h))
onward a place i here (inr h) = inl (omega (arith, h.0))

module _ (es : Entries) (right : Right) (y : Name) (kept : List Ends) where
  pub edges-none : EdgesUpTo es right y kept 0 0 []
  edges-none = record {
    from = λ k e at. absurd (none-some e at);
    there = λ a place b role h has. absurd (nowhere a place h);
    apart = λ j k e f p q s t. absurd (none-some e p);
  }

  -- the same edge, seen from farther on
  listed-on : (i here j next : ℕ) → ((a place : ℕ) → IsBefore a place i here → IsBefore a place j next) → (e : FlowEdge) → IsListed es right y kept i here e → IsListed es right y kept j next e
  listed-on i here j next on e l = record { place = l.place; before = on e.source l.place l.before; has_role = l.has_role; carries = l.carries }

  -- the next row
  pub edges-row : (i : ℕ) (edges : List FlowEdge) → EdgesUpTo es right y kept i (length (row_number es i)) edges → EdgesUpTo es right y kept (i + 1) 0 edges
  edges-row i edges s = record {
    from = λ k e at. listed-on i (length (row_number es i)) (i + 1) 0 (λ a place h. onward a place i (length (row_number es i)) h) e (s.from k e at);
    there = λ a place b role h has. s.there a place b role (back a place b role has h) has;
    apart = s.apart;
  }
    where
      back : (a place b : ℕ) (role : Role) → HasRole es right y a place b role → IsBefore a place (i + 1) 0 → IsBefore a place i (length (row_number es i))
      back a place b role has (inr h) = absurd (omega (arith, h.1))
      back a place b role has (inl h) = by (cases_lt a i)
        where
          by : (a < i) ⊎ (i ≤ a) → IsBefore a place i (length (row_number es i))
          by (inl low) = inl low
          by (inr high) =
              let is : a ≡ i = omega (arith, h, high) in
              let r = is_read es a place b has.label has.read in
              inr (is, subst (λ n. place < length (row_number es n)) is (slice_get_within (row_number es a) place (r.name, has.label) r.read))

  module _ (i here : ℕ) (old : List FlowEdge) (s : EdgesUpTo es right y kept i here old) where
    -- what stands there serves as nothing
    pub edges-other : ((b : ℕ) (role : Role) → HasRole es right y i here b role → ⊥) → EdgesUpTo es right y kept i (here + 1) old
    edges-other none = record {
      from = λ k e at. listed-on i here i (here + 1) (λ a place h. further a place i here h) e (s.from k e at);
      there = λ a place b role h has. by a place b role has (before es i here a place h);
      apart = s.apart;
    }
      where
        by : (a place b : ℕ) (role : Role) → HasRole es right y a place b role → IsBefore a place i here ⊎ ((a ≡ i) × (place ≡ here)) → (k : ℕ) × (e : FlowEdge) × (slice_get old k ≡ Some e) × (e.source ≡ a) × (e.target ≡ b)
        by a place b role has (inl h) = s.there a place b role h has
        by a place b role has (inr h) = absurd (none b role (record { label = has.label; read = (λ k. end_of es (sym h.0 k) (sym h.1 k) All) ∙ has.read; role = has.role }))

    module _ (ok : IsGraph es) (b : ℕ) (role : Role) (has : HasRole es right y i here b role) where
      -- no edge so far has the same ends
      fresh : (k : ℕ) (e : FlowEdge) → slice_get old k ≡ Some e → e.source ≡ i → e.target ≡ b → ⊥
      fresh k e at is_source is_target = by l.before
        where
          l : IsListed es right y kept i here e
          l = s.from k e at

          by : IsBefore e.source l.place i here → ⊥
          by (inl h) = omega (arith, h, is_source)
          by (inr h) =
              let mine = is_read es e.source l.place e.target l.has_role.label l.has_role.read in
              let theirs = is_read es i here b has.label has.read in
              let low = row-there es i here (theirs.name, has.label) theirs.read in
              let mine_at : slice_get (keys_of es) b ≡ Some mine.name = ap (slice_get (keys_of es)) (sym is_target) ∙ at-position (keys_of es) mine.name e.target mine.known in
              let same : mine.name ≡ theirs.name = same_Some mine.name theirs.name (sym mine_at ∙ at-position (keys_of es) theirs.name b theirs.known) in
              let mine_read : slice_get (row_number es i) l.place ≡ Some (theirs.name, l.has_role.label) = ap (λ n. slice_get (row_number es n) l.place) (sym is_source) ∙ mine.read ∙ ap (λ (n : Name). Some (n, l.has_role.label)) same in
              let one = one-place es ok i (name_at es i) (name-there es i low) l.place here theirs.name l.has_role.label has.label mine_read theirs.read in
              omega (arith, h.1, one)

      pub edges-put : (new : List FlowEdge) → new ≡ old ++ record { source = i; target = b; role = role; flow = flow_at_first (is_one_of kept (name_at es i) (name_at es b)) } ∷ [] → EdgesUpTo es right y kept i (here + 1) new
      edges-put new is = record {
        from = λ k e at. from k e (stands k e at);
        there = λ a place c serves h has'. there a place c serves has' (before es i here a place h);
        apart = λ j k e f p q s t. apart j k e f (stands j e p) (stands k f q) s t;
      }
        where
          stands : (k : ℕ) (e : FlowEdge) → slice_get new k ≡ Some e → (slice_get old k ≡ Some e) ⊎ ((k ≡ length old) × (e ≡ record { source = i; target = b; role = role; flow = flow_at_first (is_one_of kept (name_at es i) (name_at es b)) }))
          stands k e at = behind-is FlowEdge old _ k e (subst (λ (edges : List FlowEdge). slice_get edges k ≡ Some e) is at)

          from : (k : ℕ) (e : FlowEdge) → (slice_get old k ≡ Some e) ⊎ ((k ≡ length old) × (e ≡ record { source = i; target = b; role = role; flow = flow_at_first (is_one_of kept (name_at es i) (name_at es b)) })) → IsListed es right y kept i (here + 1) e
          from k e (inl o) = listed-on i here i (here + 1) (λ a place h. further a place i here h) e (s.from k e o)
          from k e (inr n) = subst (IsListed es right y kept i (here + 1)) (sym n.1) (record { place = here; before = inr (refl, omega arith); has_role = has; carries = refl })

          there : (a place c : ℕ) (serves : Role) → HasRole es right y a place c serves → IsBefore a place i here ⊎ ((a ≡ i) × (place ≡ here)) → (k : ℕ) × (e : FlowEdge) × (slice_get new k ≡ Some e) × (e.source ≡ a) × (e.target ≡ c)
          there a place c serves has' (inl h) =
              let o = s.there a place c serves h has' in
              (o.0, o.1, subst (λ (edges : List FlowEdge). slice_get edges o.0 ≡ Some o.1) (sym is) (behind-keeps FlowEdge old _ o.0 o.1 o.2), o.3, o.4)
          there a place c serves has' (inr h) =
              let read : end_of es i here All ≡ Some (c, has'.label) = (λ k. end_of es (sym h.0 k) (sym h.1 k) All) ∙ has'.read in
              let same = some-pair b c has.label has'.label (sym has.read ∙ read) in
              (length old, record { source = i; target = b; role = role; flow = flow_at_first (is_one_of kept (name_at es i) (name_at es b)) }, subst (λ (edges : List FlowEdge). slice_get edges (length old) ≡ Some (record { source = i; target = b; role = role; flow = flow_at_first (is_one_of kept (name_at es i) (name_at es b)) })) (sym is) (behind-last FlowEdge old _), sym h.0, same.0)

          apart : (j k : ℕ) (e f : FlowEdge) → (slice_get old j ≡ Some e) ⊎ ((j ≡ length old) × (e ≡ record { source = i; target = b; role = role; flow = flow_at_first (is_one_of kept (name_at es i) (name_at es b)) })) → (slice_get old k ≡ Some f) ⊎ ((k ≡ length old) × (f ≡ record { source = i; target = b; role = role; flow = flow_at_first (is_one_of kept (name_at es i) (name_at es b)) })) → e.source ≡ f.source → e.target ≡ f.target → j ≡ k
          apart j k e f (inl o) (inl p) source target = s.apart j k e f o p source target
          apart j k e f (inl o) (inr n) source target = absurd (fresh j e o (source ∙ ap (λ (x : FlowEdge). x.source) n.1) (target ∙ ap (λ (x : FlowEdge). x.target) n.1))
          apart j k e f (inr m) (inl p) source target = absurd (fresh k f p (sym source ∙ ap (λ (x : FlowEdge). x.source) m.1) (sym target ∙ ap (λ (x : FlowEdge). x.target) m.1))
          apart j k e f (inr m) (inr n) source target = m.0 ∙ sym n.0

    -- what is read there, by the names of the ends
    pub edges-past : end_of es i here All ≡ None → EdgesUpTo es right y kept i (here + 1) old
    edges-past none = edges-other (λ b role has. none-some (b, has.label) (sym none ∙ has.read))

    pub edges-idle : (b : ℕ) (label : Rights) (target : Name) → end_of es i here All ≡ Some (b, label) → target ≡ name_at es b → label_role right y target label ≡ None → EdgesUpTo es right y kept i (here + 1) old
    edges-idle b label target read is none = edges-other (λ c role has. idle c role has (some-pair b c label has.label (sym read ∙ has.read)))
      where
        idle : (c : ℕ) (role : Role) (has : HasRole es right y i here c role) → (b ≡ c) × (label ≡ has.label) → ⊥
        idle c role has same = none-some role (sym none ∙ (λ k. label_role right y (is k) (same.1 k)) ∙ ap (λ n. label_role right y (name_at es n) has.label) same.0 ∙ has.role)

    pub edges-next : IsGraph es → (b : ℕ) (label : Rights) (role : Role) (source target : Name) (is_kept : Bool) (new : List FlowEdge) → end_of es i here All ≡ Some (b, label) → source ≡ name_at es i → target ≡ name_at es b → label_role right y target label ≡ Some role → is_kept ≡ is_one_of kept source target → new ≡ old ++ record { source = i; target = b; role = role; flow = flow_at_first is_kept } ∷ [] → EdgesUpTo es right y kept i (here + 1) new
    edges-next ok b label role source target is_kept new read source_is target_is role_is kept_is put =
        let has : HasRole es right y i here b role = record { label = label; read = read; role = ap (λ (n : Name). label_role right y n label) (sym target_is) ∙ role_is } in
        let same : is_kept ≡ is_one_of kept (name_at es i) (name_at es b) = kept_is ∙ (λ k. is_one_of kept (source_is k) (target_is k)) in
        edges-put ok b role has new (put ∙ (λ k. old ++ record { source = i; target = b; role = role; flow = flow_at_first (same k) } ∷ []))

-- ---- by the names of their ends
-- what the edge from u to v can serve as
abbrev pub role_between : ProtectionGraph → Right → Name → Name → Name → Option Role
role_between g right y u v = role_by (g.holds u T v || g.holds u G v) (same_name v y && g.holds u right v)

-- an edge of a network stands for one of the graph
pub record IsEdgeOf (g : ProtectionGraph) (right : Right) (y : Name) (kept : List Ends) (name : ℕ → Name) (e : FlowEdge) : Type 0 where
  pub source_there : IsTrue (has_vertex g (name e.source))
  pub target_there : IsTrue (has_vertex g (name e.target))
  pub serves : role_between g right y (name e.source) (name e.target) ≡ Some e.role
  pub is_kept_as : is_kept e ≡ is_one_of kept (name e.source) (name e.target)

-- each of them does, and each edge of the graph with a role has one that stands for it
pub record AreEdgesOf (g : ProtectionGraph) (right : Right) (y : Name) (kept : List Ends) (name : ℕ → Name) (edges : List FlowEdge) : Type 0 where
  pub from : (k : ℕ) (e : FlowEdge) → slice_get edges k ≡ Some e → IsEdgeOf g right y kept name e
  pub there : (u v : Name) (role : Role) → role_between g right y u v ≡ Some role → (k : ℕ) × (e : FlowEdge) × (slice_get edges k ≡ Some e) × (name e.source ≡ u) × (name e.target ≡ v)
  pub apart : (j k : ℕ) (e f : FlowEdge) → slice_get edges j ≡ Some e → slice_get edges k ≡ Some f → name e.source ≡ name f.source → name e.target ≡ name f.target → j ≡ k

role-some : (l e : Bool) (role : Role) → role_by l e ≡ Some role → (l ≡ true) ⊎ (e ≡ true)
role-some true e role h = inl refl
role-some false true role h = inr refl
role-some false false role h = absurd (none-some role h)

kept-first : (b : Bool) → is_kept_flow (flow_at_first b) ≡ b
kept-first true = refl
kept-first false = refl

module _ (es : Entries) (ok : IsGraph es) (well : WellFormed (graph_of es)) (right : Right) (y : Name) (kept : List Ends) where
  -- the label of an edge says what it can serve as
  role-is : (a place : ℕ) (u v : Name) (label : Rights) → slice_get (keys_of es) a ≡ Some u → slice_get (row_number es a) place ≡ Some (v, label) → role_between (graph_of es) right y u v ≡ label_role right y v label
  role-is a place u v label at read =
      (λ i. role_by (holds-place es ok a u at place v label T read i || holds-place es ok a u at place v label G read i) (same_name v y && holds-place es ok a u at place v label right read i))

  module _ (edges : List FlowEdge) (are : AreFlowEdges es right y kept edges) where
    -- the names of an edge's ends, and its place
    record Seen (e : FlowEdge) : Type 0 where
      pub source_at : slice_get (keys_of es) e.source ≡ Some (name_at es e.source)
      pub target_at : slice_get (keys_of es) e.target ≡ Some (name_at es e.target)
      pub place : ℕ
      pub label : Rights
      pub read : slice_get (row_number es e.source) place ≡ Some (name_at es e.target, label)
      pub role : label_role right y (name_at es e.target) label ≡ Some e.role
      pub carries : e.flow ≡ flow_at_first (is_one_of kept (name_at es e.source) (name_at es e.target))

    seen : (k : ℕ) (e : FlowEdge) → slice_get edges k ≡ Some e → Seen e
    seen k e at =
        let l = are.from k e at in
        let r = is_read es e.source l.place e.target l.has_role.label l.has_role.read in
        let target = at-position (keys_of es) r.name e.target r.known in
        let same : r.name ≡ name_at es e.target = sym (name-is es e.target r.name target) in
        record {
          source_at = name-there es e.source (row-there es e.source l.place (r.name, l.has_role.label) r.read);
          target_at = target ∙ ap Some same;
          place = l.place;
          label = l.has_role.label;
          read = r.read ∙ ap (λ (n : Name). Some (n, l.has_role.label)) same;
          role = l.has_role.role;
          carries = l.carries;
        }

    -- an end of an edge is found by its name
    pub end-places : (k : ℕ) (e : FlowEdge) → slice_get edges k ≡ Some e → (position (bytes_eq (name_at es e.source)) (keys_of es) ≡ Some e.source) × (position (bytes_eq (name_at es e.target)) (keys_of es) ≡ Some e.target)
    end-places k e at = let n = seen k e at in (position-at (keys_of es) ok.apart e.source (name_at es e.source) n.source_at, position-at (keys_of es) ok.apart e.target (name_at es e.target) n.target_at)

    from : (k : ℕ) (e : FlowEdge) → slice_get edges k ≡ Some e → IsEdgeOf (graph_of es) right y kept (name_at es) e
    from k e at =
        let n = seen k e at in
        record {
          source_there = place-known (keys_of es) e.source (name_at es e.source) n.source_at;
          target_there = place-known (keys_of es) e.target (name_at es e.target) n.target_at;
          serves = role-is e.source n.place (name_at es e.source) (name_at es e.target) n.label n.source_at n.read ∙ n.role;
          is_kept_as = ap is_kept_flow n.carries ∙ kept-first (is_one_of kept (name_at es e.source) (name_at es e.target));
        }

    -- an edge with a right from u to v
    held-edge : (u v : Name) (role : Role) (held : Right) → (graph_of es).holds u held v ≡ true → role_between (graph_of es) right y u v ≡ Some role → (k : ℕ) × (e : FlowEdge) × (slice_get edges k ≡ Some e) × (name_at es e.source ≡ u) × (name_at es e.target ≡ v)
    held-edge u v role held has is =
        let ends = well.ends u held v has in
        let a = place_of (keys_of es) u ends.0 in
        let b = place_of (keys_of es) v ends.1 in
        let p = place-holds es ok a.0 u a.1 held v has in
        let read = end-there es held a.0 p.0 b.0 (record { name = v; label = p.1; read = p.2; held = p.3; known = position-at (keys_of es) ok.apart b.0 v b.1 }) in
        let role_is : label_role right y (name_at es b.0) p.1 ≡ Some role = ap (λ (n : Name). label_role right y n p.1) (name-is es b.0 v b.1) ∙ sym (role-is a.0 p.0 u v p.1 a.1 p.2) ∙ is in
        let o = are.there a.0 p.0 b.0 role (inl (slice_get_within (keys_of es) a.0 u a.1)) (record { label = p.1; read = read; role = role_is }) in
        (o.0, o.1, o.2, ap (name_at es) o.3 ∙ name-is es a.0 u a.1, ap (name_at es) o.4 ∙ name-is es b.0 v b.1)

    there : (u v : Name) (role : Role) → role_between (graph_of es) right y u v ≡ Some role → (k : ℕ) × (e : FlowEdge) × (slice_get edges k ≡ Some e) × (name_at es e.source ≡ u) × (name_at es e.target ≡ v)
    there u v role is = by (role-some ((graph_of es).holds u T v || (graph_of es).holds u G v) (same_name v y && (graph_of es).holds u right v) role is)
      where
        tie : ((graph_of es).holds u T v ≡ true) ⊎ ((graph_of es).holds u G v ≡ true) → (k : ℕ) × (e : FlowEdge) × (slice_get edges k ≡ Some e) × (name_at es e.source ≡ u) × (name_at es e.target ≡ v)
        tie (inl has) = held-edge u v role T has is
        tie (inr has) = held-edge u v role G has is

        by : (((graph_of es).holds u T v || (graph_of es).holds u G v) ≡ true) ⊎ ((same_name v y && (graph_of es).holds u right v) ≡ true) → (k : ℕ) × (e : FlowEdge) × (slice_get edges k ≡ Some e) × (name_at es e.source ≡ u) × (name_at es e.target ≡ v)
        by (inl l) = tie (or_cases ((graph_of es).holds u T v) ((graph_of es).holds u G v) l)
        by (inr e) = held-edge u v role right (and_parts (same_name v y) ((graph_of es).holds u right v) e).1 is

    pub edges-named : AreEdgesOf (graph_of es) right y kept (name_at es) edges
    edges-named = record {
      from = from;
      there = there;
      apart = λ j k e f p q s t. (
          let m = seen j e p in
          let n = seen k f q in
          are.apart j k e f p q (one-position es ok e.source f.source (name_at es f.source) (m.source_at ∙ ap Some s) n.source_at) (one-position es ok e.target f.target (name_at es f.target) (m.target_at ∙ ap Some t) n.target_at)
          );
    }

-- ---- after units have gone
-- which edge it was before
pub old-edge : (first edges : List FlowEdge) → SameBut first edges → (k : ℕ) (f : FlowEdge) → slice_get edges k ≡ Some f → (e : FlowEdge) × (slice_get first k ≡ Some e) × IsSameEdge e f
old-edge first edges same k f at =
    let within : k < length first = omega (arith, slice_get_within edges k f at, same.len) in
    by (get_or first k f) (slice_get-get_or first k f within) (same.same k (get_or first k f) (slice_get-get_or first k f within))
  where
    by : (e : FlowEdge) → slice_get first k ≡ Some e → (g : FlowEdge) × (slice_get edges k ≡ Some g) × IsSameEdge e g → (e : FlowEdge) × (slice_get first k ≡ Some e) × IsSameEdge e f
    by e here (g, there, one) = (e, here, subst (IsSameEdge e) (same_Some g f (sym there ∙ at)) one)

module _ (g : ProtectionGraph) (right : Right) (y : Name) (kept : List Ends) (name : ℕ → Name) (first edges : List FlowEdge) (same : SameBut first edges) where
  carried-from : (e f : FlowEdge) → IsSameEdge e f → IsEdgeOf g right y kept name e → IsEdgeOf g right y kept name f
  carried-from e f one x =
      let source : f.source ≡ e.source = ap (λ (o : FlowEdge). o.source) one.is in
      let target : f.target ≡ e.target = ap (λ (o : FlowEdge). o.target) one.is in
      let role : f.role ≡ e.role = ap (λ (o : FlowEdge). o.role) one.is in
      record {
        source_there = subst (λ n. IsTrue (has_vertex g (name n))) (sym source) x.source_there;
        target_there = subst (λ n. IsTrue (has_vertex g (name n))) (sym target) x.target_there;
        serves = (λ i. role_between g right y (name (source i)) (name (target i))) ∙ x.serves ∙ ap Some (sym role);
        is_kept_as = one.kept ∙ x.is_kept_as ∙ sym (λ i. is_one_of kept (name (source i)) (name (target i)));
      }

  pub edges-carried : AreEdgesOf g right y kept name first → AreEdgesOf g right y kept name edges
  edges-carried are = record {
    from = λ k f at. (let o = old-edge first edges same k f at in carried-from o.0 f o.2 (are.from k o.0 o.1));
    there = λ u v role is. (
        let o = are.there u v role is in
        let n = same.same o.0 o.1 o.2 in
        (o.0, n.0, n.1, ap (λ (x : FlowEdge). name x.source) n.2.is ∙ o.3, ap (λ (x : FlowEdge). name x.target) n.2.is ∙ o.4)
        );
    apart = λ j k e f p q s t. (
        let m = old-edge first edges same j e p in
        let n = old-edge first edges same k f q in
        are.apart j k m.0 n.0 m.1 n.1
        (sym (ap (λ (x : FlowEdge). name x.source) m.2.is) ∙ s ∙ ap (λ (x : FlowEdge). name x.source) n.2.is)
        (sym (ap (λ (x : FlowEdge). name x.target) m.2.is) ∙ t ∙ ap (λ (x : FlowEdge). name x.target) n.2.is)
        );
  }

-- ---- the network that was filled
module _ (es : Entries) (ok : IsGraph es) (well : WellFormed (graph_of es)) (right : Right) (y : Name) (kept : List Ends) (edges : List FlowEdge) (carried : AreCarried es right y kept edges) where
  pub carried-edges : AreEdgesOf (graph_of es) right y kept (name_at es) edges
  carried-edges = edges-carried (graph_of es) right y kept (name_at es) carried.first edges carried.same (edges-named es ok well right y kept carried.first carried.listed)

  -- the position of an end's name
  pub carried-places : (k : ℕ) (f : FlowEdge) → slice_get edges k ≡ Some f → (position (bytes_eq (name_at es f.source)) (keys_of es) ≡ Some f.source) × (position (bytes_eq (name_at es f.target)) (keys_of es) ≡ Some f.target)
  carried-places k f at =
      let o = old-edge carried.first edges carried.same k f at in
      let p = end-places es ok well right y kept carried.first carried.listed k o.0 o.1 in
      let source : f.source ≡ o.0.source = ap (λ (x : FlowEdge). x.source) o.2.is in
      let target : f.target ≡ o.0.target = ap (λ (x : FlowEdge). x.target) o.2.is in (
        subst (λ n. position (bytes_eq (name_at es n)) (keys_of es) ≡ Some n) (sym source) p.0,
        subst (λ n. position (bytes_eq (name_at es n)) (keys_of es) ≡ Some n) (sym target) p.1,
      )

-- who is free by name is free by position
pub free-at : (es : Entries) (marks : List Bool) (v : Name) (p : ℕ) → position (bytes_eq v) (keys_of es) ≡ Some p → free_of es marks v ≡ not (is_in marks p)
free-at es marks v p at = ap (λ (o : Option ℕ). option_map_or (λ n. not (is_in marks n)) o true) at
