-- A command has one report for its texts.
use Rattle.std.proofs.Common.{◌≡◌, ◌⊎◌, ℕ, Bool, true, false, cond, ◌||◌, List, [], ◌∷◌, ◌++◌, refl, sym, ◌∙◌, ap, inl, inr, filter, map, subst}
use Rattle.std.specs.Prelude.{Result, Ok, Err}
use Rattle.std.specs.List.{flat_map}
use Rattle.tg_names.specs.declared.right_sets.Rights.{Rights}
use Rattle.tg_names.specs.Sets.{member}
use Rattle.tg_names.specs.Names.{Name}
use Rattle.tg_graph.specs.Graphs.{ProtectionGraph, has_vertex}
use Rattle.tg_names.proofs.Sets.{same_set}
use Rattle.tg_text.specs.Canonical.{in_name_order}
use Rattle.tg_text.proofs.NameOrder.{among, among-in_order, same_name-refl}
use Rattle.tg_inputs.specs.Calls.{Case, Check, Apply, Islands, Share, Derive, Table, Run, Who, Reach, Verify, Cut}
use Rattle.tg_inputs.specs.Readings.{ReportText, Question, TableQuestion, WhoQuestion, ReachQuestion, PolicyOver, graph_in, question_in, table_in, who_in, reach_in, policy_lines_in, policy_in, cut_in, IsFor, Is}
use Rattle.tg_reports.specs.Reports.{AreTableLines, digit_for, table_text, IsAnswer, IsDerived, TellsIslands, AreIslandLines, island_line, islands_text, AreWhoLines, name_line, who_text, AreReachLines, IsReached, reach_line, reach_text, check_report, apply_report}
use Rattle.tg_inputs.specs.Parts.{graph_part, rules_part}
use Rattle.tg_plays.specs.Runs.{playing_in, IsPlayed}
use Rattle.tg_policies.specs.Policies.{IsVerified}
use Rattle.tg_reports.specs.ReportLaws.{FindsRules, HasRules, ThereIsOneReport}
use Rattle.tg_words.specs.Reading.{◌>>=◌}
use Rattle.tg_text.proofs.Steps.{bind_ok}
use Rattle.tg_plays.proofs.OnePlay.{played_one}
use Rattle.tg_reports.proofs.CutReports.{asked_read, for_cut}
use Rattle.tg_policies.proofs.OneVerified.{verified_one, verified_same}

-- ---- tests that agree
pub same_truth : (b c : Bool) → (b ≡ true → c ≡ true) → (c ≡ true → b ≡ true) → b ≡ c
same_truth true c h k = sym (h refl)
same_truth false true h k = k refl
same_truth false false h k = refl

pub either_true : (a b : Bool) → b ≡ true → (a || b) ≡ true
either_true true b h = refl
either_true false b h = h

first_true : (a b : Bool) → a ≡ true → (a || b) ≡ true
first_true a b h = ap (λ t. t || b) h

pub filter_same : (p q : Name → Bool) (ws : List Name) → ((w : Name) → among w ws ≡ true → p w ≡ q w) → filter p ws ≡ filter q ws
filter_same p q [] h = refl
filter_same p q (w ∷ ws) h =
    ap (λ b. cond b (w ∷ filter p ws) (filter p ws)) (h w (first_true _ _ (same_name-refl w)))
    ∙ ap (λ (t : List Name). cond (q w) (w ∷ t) t) (filter_same p q ws (λ v k. h v (either_true _ _ k)))

lines_same : (p q : Name → Name → Bool) (all names : List Name) → ((v w : Name) → among v names ≡ true → among w all ≡ true → p v w ≡ q v w) → flat_map (λ v. island_line v (filter (p v) all)) names ≡ flat_map (λ v. island_line v (filter (q v) all)) names
lines_same p q all [] h = refl
lines_same p q all (v ∷ vs) h =
    ap (λ (ws : List Name). island_line v ws ++ flat_map (λ u. island_line u (filter (p u) all)) vs) (filter_same (p v) (q v) all (λ w k. h v w (first_true _ _ (same_name-refl v)) k))
    ∙ ap (λ (t : List ℕ). island_line v (filter (q v) all) ++ t) (lines_same p q all vs (λ u w k l. h u w (either_true _ _ k) l))

tests_agree : (g : ProtectionGraph) (p q : Name → Name → Bool) → TellsIslands g p → TellsIslands g q → (v w : Name) → has_vertex g v ≡ true → has_vertex g w ≡ true → p v w ≡ q v w
tests_agree g p q hp hq v w kv kw =
    same_truth (p v w) (q v w) (λ t. (hq v w kv kw).1 ((hp v w kv kw).0 t)) (λ t. (hp v w kv kw).1 ((hq v w kv kw).0 t))

islands_one : (g : ProtectionGraph) (a b : ReportText) → AreIslandLines g a → AreIslandLines g b → a ≡ b
islands_one g a b h k =
    let vs = in_name_order g.vertices in
    let same : islands_text h.0 vs ≡ islands_text k.0 vs =
    lines_same h.0 k.0 vs vs (λ v w i j. tests_agree g h.0 k.0 h.1 k.1 v w (sym (among-in_order v g.vertices) ∙ i) (sym (among-in_order w g.vertices) ∙ j)) in
    let F : List ℕ → ReportText = λ bytes. record { bytes = bytes; status = 0 } in
    h.2 ∙ (ap F same ∙ sym k.2)

-- ---- tables
digits_same : (p q : Name → Bool) (names : List Name) → ((v : Name) → among v names ≡ true → p v ≡ q v) → map (λ v. digit_for (p v)) names ≡ map (λ v. digit_for (q v)) names
digits_same p q [] h = refl
digits_same p q (v ∷ vs) h =
    ap (λ b. digit_for b ∷ map (λ u. digit_for (p u)) vs) (h v (first_true _ _ (same_name-refl v)))
    ∙ ap (λ (ds : List ℕ). digit_for (q v) ∷ ds) (digits_same p q vs (λ u k. h u (either_true _ _ k)))

rows_same : (p q : Name → Name → Bool) (all names : List Name) → ((v w : Name) → among v names ≡ true → among w all ≡ true → p v w ≡ q v w) → flat_map (λ u. u ++ 32 ∷ map (λ v. digit_for (p u v)) all ++ 10 ∷ []) names ≡ flat_map (λ u. u ++ 32 ∷ map (λ v. digit_for (q u v)) all ++ 10 ∷ []) names
rows_same p q all [] h = refl
rows_same p q all (v ∷ vs) h =
    ap (λ (ds : List ℕ). (v ++ 32 ∷ ds ++ 10 ∷ []) ++ flat_map (λ u. u ++ 32 ∷ map (λ w. digit_for (p u w)) all ++ 10 ∷ []) vs) (digits_same (p v) (q v) all (λ w k. h v w (first_true _ _ (same_name-refl v)) k))
    ∙ ap (λ (t : List ℕ). (v ++ 32 ∷ map (λ w. digit_for (q v w)) all ++ 10 ∷ []) ++ t) (rows_same p q all vs (λ u w k l. h u w (either_true _ _ k) l))

table_one : (q : TableQuestion) (a b : ReportText) → AreTableLines q a → AreTableLines q b → a ≡ b
table_one q a b h k =
    let vs = in_name_order q.graph.vertices in
    let one : (v w : Name) → has_vertex q.graph v ≡ true → has_vertex q.graph w ≡ true → h.0 v w ≡ k.0 v w = λ v w kv kw. same_truth (h.0 v w) (k.0 v w) (λ t. (k.1 v w kv kw).1 ((h.1 v w kv kw).0 t)) (λ t. (h.1 v w kv kw).1 ((k.1 v w kv kw).0 t)) in
    let same : table_text h.0 vs ≡ table_text k.0 vs =
    rows_same h.0 k.0 vs vs (λ v w i j. one v w (sym (among-in_order v q.graph.vertices) ∙ i) (sym (among-in_order w q.graph.vertices) ∙ j)) in
    let F : List ℕ → ReportText = λ bytes. record { bytes = bytes; status = 0 } in
    h.2 ∙ (ap F same ∙ sym k.2)

-- ---- who can come to have rights, and which
pub names_same : (p q : Name → Bool) (names : List Name) → ((v : Name) → among v names ≡ true → p v ≡ q v) → who_text p names ≡ who_text q names
names_same p q [] h = refl
names_same p q (v ∷ vs) h =
    ap (λ b. name_line b v ++ who_text p vs) (h v (first_true _ _ (same_name-refl v)))
    ∙ ap (λ (t : List ℕ). name_line (q v) v ++ t) (names_same p q vs (λ u k. h u (either_true _ _ k)))

who_one : (q : WhoQuestion) (a b : ReportText) → AreWhoLines q a → AreWhoLines q b → a ≡ b
who_one q a b h k =
    let vs = in_name_order q.graph.vertices in
    let one : (v : Name) → has_vertex q.graph v ≡ true → h.0 v ≡ k.0 v = λ v kv. same_truth (h.0 v) (k.0 v) (λ t. (k.1 v kv).1 ((h.1 v kv).0 t)) (λ t. (h.1 v kv).1 ((k.1 v kv).0 t)) in
    let same : who_text h.0 vs ≡ who_text k.0 vs = names_same h.0 k.0 vs (λ v i. one v (sym (among-in_order v q.graph.vertices) ∙ i)) in
    let F : List ℕ → ReportText = λ bytes. record { bytes = bytes; status = 0 } in
    h.2 ∙ (ap F same ∙ sym k.2)

pub sets_same : (p q : Name → Rights) (names : List Name) → ((v : Name) → among v names ≡ true → p v ≡ q v) → reach_text p names ≡ reach_text q names
sets_same p q [] h = refl
sets_same p q (v ∷ vs) h =
    ap (λ s. reach_line s v ++ reach_text p vs) (h v (first_true _ _ (same_name-refl v)))
    ∙ ap (λ (t : List ℕ). reach_line (q v) v ++ t) (sets_same p q vs (λ u k. h u (either_true _ _ k)))

pub one_set : (g : ProtectionGraph) (x y : Name) (s t : Rights) → IsReached g x y s → IsReached g x y t → s ≡ t
one_set g x y s t h k = same_set s t (λ right. same_truth (member s right) (member t right) (λ e. (k.exact right).1 ((h.exact right).0 e)) (λ e. (h.exact right).1 ((k.exact right).0 e))) h.named k.named

reach_one : (q : ReachQuestion) (a b : ReportText) → AreReachLines q a → AreReachLines q b → a ≡ b
reach_one q a b h k =
    let vs = in_name_order q.graph.vertices in
    let same : reach_text h.0 vs ≡ reach_text k.0 vs = sets_same h.0 k.0 vs (λ v i. let kv = sym (among-in_order v q.graph.vertices) ∙ i in one_set q.graph q.x v (h.0 v) (k.0 v) (h.1 v kv) (k.1 v kv)) in
    let F : List ℕ → ReportText = λ bytes. record { bytes = bytes; status = 0 } in
    h.2 ∙ (ap F same ∙ sym k.2)

-- ---- answers
answer_one : (q : Question) (a b : ReportText) → IsAnswer q a → IsAnswer q b → a ≡ b
answer_one q a b (inl h) (inl k) = h.1 ∙ sym k.1
answer_one q a b (inl h) (inr k) = absurd (k.0 h.0)
answer_one q a b (inr h) (inl k) = absurd (h.0 k.0)
answer_one q a b (inr h) (inr k) = h.1 ∙ sym k.1

derived_one : (q : Question) (a b : ReportText) → IsDerived q a → IsDerived q b → (a ≡ b) ⊎ (FindsRules (Ok q) a × FindsRules (Ok q) b)
derived_one q a b (inl h) (inl k) = inr (h, k)
derived_one q a b (inl h) (inr k) = absurd (k.0 (h.0, h.1.accepted, h.1.gives))
derived_one q a b (inr h) (inl k) = absurd (h.0 (k.0, k.1.accepted, k.1.gives))
derived_one q a b (inr h) (inr k) = inl (h.1 ∙ sym k.1)

-- ---- reports
for_one : {A : Type 0} (P : A → ReportText → Type 0) (x : Result A ReportText) (a b : ReportText) → ((y : A) → P y a → P y b → a ≡ b) → IsFor P x a → IsFor P x b → a ≡ b
for_one P (Ok y) a b h i j = h y i j
for_one P (Err fault) a b h i j = i ∙ sym j

is_one : (x : Result ReportText ReportText) (a b : ReportText) → IsFor Is x a → IsFor Is x b → a ≡ b
is_one x a b = for_one Is x a b (λ y i j. i ∙ sym j)

for_derived : (x : Result Question ReportText) (a b : ReportText) → IsFor IsDerived x a → IsFor IsDerived x b → (a ≡ b) ⊎ (FindsRules x a × FindsRules x b)
for_derived (Ok q) a b i j = derived_one q a b i j
for_derived (Err fault) a b i j = inl (i ∙ sym j)

for_verified : (why : Bool) (x : Result PolicyOver ReportText) (first : List ℕ) (a b : ReportText) → ((p : PolicyOver) → x ≡ Ok p → graph_in first ≡ Ok p.graph) → IsFor (λ p. IsVerified why p.graph p.lines) x a → IsFor (λ p. IsVerified why p.graph p.lines) x b → (a ≡ b) ⊎ (HasRules (graph_in first) a × HasRules (graph_in first) b)
for_verified why (Err fault) first a b of i j = inl (i ∙ sym j)
for_verified why (Ok p) first a b of i j = by (verified_one why p.graph p.lines a b i j)
  where
    by : (a ≡ b) ⊎ (HasRules (Ok p.graph) a × HasRules (Ok p.graph) b) → (a ≡ b) ⊎ (HasRules (graph_in first) a × HasRules (graph_in first) b)
    by (inl e) = inl e
    by (inr h) = inr (subst (λ r. HasRules r a) (sym (of p refl)) h.0, subst (λ r. HasRules r b) (sym (of p refl)) h.1)

-- the graph of a policy is that of the first text
graph_of_policy : (first second : List ℕ) (p : PolicyOver) → policy_in first second ≡ Ok p → graph_in first ≡ Ok p.graph
graph_of_policy first second p e =
    let g = bind_ok (graph_in first) (λ g. policy_lines_in g second >>= λ lines. Ok (record { graph = g; lines = lines })) p e in
    let lines = bind_ok (policy_lines_in g.0 second) (λ lines. Ok (record { graph = g.0; lines = lines })) p g.2 in
    let same : record { graph = g.0; lines = lines.0 } ≡ p = (let both = lines.2 in cc) in
    g.1 ∙ ap (λ (q : PolicyOver). Ok q.graph) same

pub one_report : ThereIsOneReport
one_report Case first second a b i j = inl (is_one (apply_report (graph_part first) (rules_part first)) a b i j)
one_report Check first second a b i j = inl (is_one (check_report first) a b i j)
one_report Apply first second a b i j = inl (is_one (apply_report first second) a b i j)
one_report Islands first second a b i j = inl (for_one AreIslandLines (graph_in first) a b (λ g h k. islands_one g a b h k) i j)
one_report (Share rights x y) first second a b i j = inl (for_one IsAnswer (question_in first rights x y) a b (λ q h k. answer_one q a b h k) i j)
one_report (Derive rights x y) first second a b i j = for_derived (question_in first rights x y) a b i j
one_report (Table right workers) first second a b i j = inl (for_one AreTableLines (table_in first right workers) a b (λ q h k. table_one q a b h k) i j)
one_report Run first second a b i j = inl (for_one (λ p. IsPlayed p.graph p.script) (playing_in first second) a b (λ p h k. played_one p.graph p.script a b h k) i j)
one_report (Who rights y) first second a b i j = inl (for_one AreWhoLines (who_in first rights y) a b (λ q h k. who_one q a b h k) i j)
one_report (Verify true) first second a b i j = for_verified true (policy_in first second) first a b (graph_of_policy first second) i j
one_report (Verify false) first second a b i j = inl (for_one (λ p. IsVerified false p.graph p.lines) (policy_in first second) a b (λ p h k. verified_same p.graph p.lines a b h k) i j)
one_report (Reach x) first second a b i j = inl (for_one AreReachLines (reach_in first x) a b (λ q h k. reach_one q a b h k) i j)
one_report (Cut right x y kept) first second a b i j = inl (for_cut (cut_in first right x y kept) a b (asked_read first right x y kept) i j)
