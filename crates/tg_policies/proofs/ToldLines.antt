-- One line of a policy more that is told.
use Rattle.std.proofs.Common.{◌≡◌, ℕ, zero, suc, ◌+◌, ◌≤◌, Bool, true, false, cond, ◌||◌, ◌&&◌, not, List, [], ◌∷◌, ◌++◌, Option, Some, None, length, length-append, take, get_or, slice_get, option_map, All, refl, sym, ap, subst, ◌∙◌, arith, true≢false, append_assoc}
use Rattle.std.specs.Prelude.{is_some, codes, decimal}
use Rattle.std.specs.List.{list_any}
use Rattle.std.proofs.lemmas.List.{append-nil, take_more, map-append}
use Rattle.std.proofs.lemmas.List.Folds.{list_any_none}
use Rattle.std.proofs.lemmas.Option.{slice_get_within, slice_get-map, get_or_from_slice_get}
use Rattle.tg_names.specs.Letters.{letter_of}
use Rattle.tg_names.specs.Names.{Name, same_name}
use Rattle.tg_graph.specs.Graphs.{ProtectionGraph}
use Rattle.tg_text.specs.declared.policy_text.Operand.{Operand}
use Rattle.tg_text.specs.declared.policy_text.Operand.TheVariants as operand
use Rattle.tg_text.specs.declared.policy_text.Claim.{Claim}
use Rattle.tg_text.specs.declared.policy_text.Claim.TheVariants as claim
use Rattle.tg_text.specs.declared.policy_text.PolicyLine.{PolicyLine}
use Rattle.tg_text.specs.PolicyText.{PolicyLineOf, line_of_policy, policy_of, lacks_vertex, IsKnown, ArePolicyLines}
use Rattle.tg_words.specs.Spelling.{line_of}
use Rattle.tg_analysis.specs.declared.cases.Case.{Case}
use Rattle.tg_policies.specs.declared.groups.Groups.{Groups}
use Rattle.tg_policies.specs.declared.verdicts.Verdicts.{Verdicts}
use Rattle.tg_policies.specs.Policies.{Membership, no_members, some_stands_for, members_after, members_behind, Finding, IsVerdict, IsFinding, IsWhy, verdict_line, told_of, told_of_all}
use Rattle.tg_policies.specs.PolicyParts.{HasTold, IsToldOf, members_in}
use Rattle.tg_policies.proofs.VerdictLaws.{behind-more, findings-more, told-more, count-more}

-- ---- whom operands stand for
pub or_neither : (a b : Bool) → (a || b) ≡ false → (a ≡ false) × (b ≡ false)
or_neither false false h = (refl, refl)
or_neither false true h = absurd (true≢false h)
or_neither true b h = absurd (true≢false h)

pub not_false : (b : Bool) → not b ≡ false → b ≡ true
not_false true h = refl
not_false false h = absurd (true≢false h)

-- what none passes none of them does
pub none-passes : {A : Type 0} (test : A → Bool) (xs : List A) → list_any test xs ≡ false → (i : ℕ) (x : A) → slice_get xs i ≡ Some x → test x ≡ false
none-passes test [] none i x at = absurd cc
none-passes test (y ∷ ys) none zero x at =
    let same : y ≡ x = cc in
    ap test (sym same) ∙ (or_neither (test y) (list_any test ys) none).0
none-passes test (y ∷ ys) none (suc i) x at = none-passes test ys (or_neither (test y) (list_any test ys) none).1 i x at

-- ---- a line that makes no group
abbrev pub IsNoGroup : Claim → Type 0
IsNoGroup says = (n : Name) → says ≡ claim.Group n → ⊥

members-stay : (in_group : Membership) (says : Claim) (operands : List Operand) → IsNoGroup says → members_after in_group says operands ≡ in_group
members-stay in_group (claim.Group n) operands other = absurd (other n refl)
members-stay in_group (claim.Never s) operands other = refl
members-stay in_group (claim.May s) operands other = refl
members-stay in_group (claim.Only s) operands other = refl

told-states : (line : PolicyLineOf) (says : Claim) (found : Finding) → IsNoGroup says → told_of line says found ≡ verdict_line line.line found.verdict ++ found.why
told-states line (claim.Group n) found other = absurd (other n refl)
told-states line (claim.Never s) found other = refl
told-states line (claim.May s) found other = refl
told-states line (claim.Only s) found other = refl

-- without a derivation nothing stands below a line
pub no-why : (g : ProtectionGraph) (says : Claim) (verdict : Option Case) → IsWhy false g says verdict []
no-why g (claim.Group n) None = refl
no-why g (claim.Group n) (Some b) = refl
no-why g (claim.Never s) None = refl
no-why g (claim.Never s) (Some b) = refl
no-why g (claim.May s) None = refl
no-why g (claim.May s) (Some b) = refl
no-why g (claim.Only s) None = refl
no-why g (claim.Only s) (Some b) = refl

-- a verdict, and what stands below it
pub told-why : (why : Bool) (g : ProtectionGraph) (line : PolicyLineOf) (old now : Verdicts) (verdict : Option Case) (text more : List ℕ) → IsVerdict g (members_in g old.groups) line.claim line.operands verdict → text ≡ old.text.items ++ verdict_line line.line verdict → IsWhy why g line.claim verdict more → now.text.items ≡ text ++ more → now.groups ≡ old.groups → now.broken ≡ old.broken + cond (is_some verdict) 1 0 → IsToldOf why g line old now
told-why why g line old now verdict text more is first below all groups broken = record {
  found = record { verdict = verdict; why = more };
  finding = record { verdict = is; why = below };
  text = all ∙ ap (λ (bs : List ℕ). bs ++ more) first ∙ append_assoc old.text.items (verdict_line line.line verdict) more;
  broken = broken;
  groups = groups;
}

-- the words of a verdict, put one behind the other
pub verdict-text : (old number x y : List ℕ) (letter : ℕ) → (((((((old ++ number) ++ codes " fails ") ++ letter ∷ []) ++ 32 ∷ []) ++ x) ++ 32 ∷ []) ++ y) ++ 10 ∷ [] ≡ old ++ line_of (number ∷ codes "fails" ∷ (letter ∷ []) ∷ x ∷ y ∷ [])
verdict-text old number x y letter = simp append_assoc

pub verdict-appended : (old t1 t2 t3 t4 t5 t6 t7 t8 x y : List ℕ) (n letter : ℕ) (b : Case) → t1 ≡ old ++ decimal n → t2 ≡ t1 ++ codes " fails " → letter ≡ letter_of b.right → t3 ≡ t2 ++ letter ∷ [] → t4 ≡ t3 ++ 32 ∷ [] → x ≡ b.x → t5 ≡ t4 ++ x → t6 ≡ t5 ++ 32 ∷ [] → y ≡ b.y → t7 ≡ t6 ++ y → t8 ≡ t7 ++ 10 ∷ [] → t8 ≡ old ++ verdict_line n (Some b)
verdict-appended old t1 t2 t3 t4 t5 t6 t7 t8 x y n letter b e1 e2 l e3 e4 ex e5 e6 ey e7 e8 =
    let all : t8 ≡ (((((((old ++ decimal n) ++ codes " fails ") ++ letter_of b.right ∷ []) ++ 32 ∷ []) ++ b.x) ++ 32 ∷ []) ++ b.y) ++ 10 ∷ [] = cc in
    all ∙ verdict-text old (decimal n) b.x b.y (letter_of b.right)

-- nothing is found of a line that makes a group
nothing_found : Finding
nothing_found = record { verdict = None; why = [] }

group-finding : (why : Bool) (g : ProtectionGraph) (in_group : Membership) (line : PolicyLineOf) (n : Name) → line.claim ≡ claim.Group n → IsFinding why g in_group line nothing_found
unfolding nothing_found
group-finding why g in_group line n is = subst (λ says. IsFinding why g in_group (record { line = line.line; claim = says; operands = line.operands }) (record { verdict = None; why = [] })) (sym is) (by why line.operands)
  where
    by : (why : Bool) (operands : List Operand) → IsFinding why g in_group (record { line = line.line; claim = claim.Group n; operands = operands }) (record { verdict = None; why = [] })
    by true operands = record { verdict = λ b h. h; why = refl }
    by false operands = record { verdict = λ b h. h; why = refl }

-- ---- one line more
module _ (why : Bool) (g : ProtectionGraph) (lines : List PolicyLineOf) (old new : Verdicts) (line : PolicyLineOf) (told : HasTold why g lines old) where
  -- the groups so far are those of the lines
  same : members_in g old.groups ≡ members_behind no_members lines
  same = λ i n v. told.groups n v i

  pub told-claim : IsNoGroup line.claim → IsToldOf why g line old new → HasTold why g (lines ++ line ∷ []) new
  told-claim other is =
      let last = is.found in
      let here : IsFinding why g (members_behind no_members lines) line last = subst (λ (m : Membership). IsFinding why g m line last) same is.finding in
      let texts = told-more why g line last no_members lines told.found told.are in
      let counts = count-more why g line last told.found in
      record {
        found = told.found ++ last ∷ [];
        are = findings-more why g line last no_members lines told.found told.are here;
        text =
            is.text
            ∙ ap (λ (bs : List ℕ). bs ++ (verdict_line line.line last.verdict ++ last.why)) told.text
            ∙ ap (λ (bs : List ℕ). told_of_all lines told.found ++ bs) (sym (told-states line line.claim last other))
            ∙ sym texts;
        broken = is.broken ∙ ap (λ n. n + cond (is_some last.verdict) 1 0) told.broken ∙ sym counts;
        few = few;
        groups = λ n v. ap (λ (m : Groups). members_in g m n v) is.groups ∙ told.groups n v ∙ ap (λ (m : Membership). m n v) (sym (members-stay (members_behind no_members lines) line.claim line.operands other) ∙ sym (behind-more no_members lines line));
      }
    where
      one_most : (b : Bool) → cond b 1 0 ≤ 1
      one_most true = omega arith
      one_most false = omega arith

      few : new.broken ≤ length (lines ++ line ∷ [])
      few = omega (arith, is.broken, told.few, one_most (is_some is.found.verdict), length-append lines (line ∷ []))

  -- a line that makes a group, which those who are marked join
  module _ (group : Name) (is_marked : Name → Bool) (makes : line.claim ≡ claim.Group group) (marked : (v : Name) → is_marked v ≡ some_stands_for (members_in g old.groups) line.operands v) (joined : (n v : Name) → members_in g new.groups n v ≡ (members_in g old.groups n v || (same_name n group && is_marked v))) (text : new.text.items ≡ old.text.items) (broken : new.broken ≡ old.broken) where
    groups : (n v : Name) → members_in g new.groups n v ≡ members_behind no_members (lines ++ line ∷ []) n v
    groups n v =
        joined n v
        ∙ ap (λ b. members_in g old.groups n v || (same_name n group && b)) (marked v)
        ∙ ap (λ (m : Membership). members_after m (claim.Group group) line.operands n v) same
        ∙ ap (λ (says : Claim). members_after (members_behind no_members lines) says line.operands n v) (sym makes)
        ∙ ap (λ (m : Membership). m n v) (sym (behind-more no_members lines line))

    nothing : told_of line line.claim nothing_found ≡ []
    unfolding nothing_found
    nothing = ap (λ (says : Claim). told_of line says (record { verdict = None; why = [] })) makes

    pub told-group : HasTold why g (lines ++ line ∷ []) new
    unfolding nothing_found
    told-group =
        let counts = count-more why g line nothing_found told.found in
        record {
          found = told.found ++ nothing_found ∷ [];
          are = findings-more why g line nothing_found no_members lines told.found told.are (group-finding why g (members_behind no_members lines) line group makes);
          text =
              text ∙ told.text
              ∙ sym (append-nil (told_of_all lines told.found))
              ∙ ap (λ (bs : List ℕ). told_of_all lines told.found ++ bs) (sym nothing)
              ∙ sym (told-more why g line nothing_found no_members lines told.found told.are);
          broken = omega (arith, broken, told.broken, counts);
          few = omega (arith, broken, told.few, length-append lines (line ∷ []));
          groups = groups;
        }

-- ---- lines of a policy
none-lacked : (g : ProtectionGraph) (earlier : List PolicyLineOf) (operands : List Operand) → All (IsKnown g earlier) operands → list_any (lacks_vertex g) operands ≡ false
none-lacked g earlier operands known = list_any_none (lacks_vertex g) operands (λ k d low. here_known (get_or operands k d) (known k d low))
  where
    here_known : (one : Operand) → IsKnown g earlier one → lacks_vertex g one ≡ false
    here_known (operand.Vertex v) h = ap not h.1
    here_known (operand.Group n) h = refl

module _ (lines : List PolicyLine) (place : ℕ) (line : PolicyLine) (at : slice_get lines place ≡ Some line) where
  -- the operands of a line are known
  pub known-at : (g : ProtectionGraph) → ArePolicyLines g (policy_of lines) → list_any (lacks_vertex g) line.operands.items ≡ false
  known-at g sound =
      let there : slice_get (policy_of lines) place ≡ Some (line_of_policy line) = slice_get-map line_of_policy lines place ∙ ap (option_map line_of_policy) at in
      none-lacked g (take place (policy_of lines)) line.operands.items (sound place (line_of_policy line) there).known

  pub policy-more : policy_of (take (place + 1) lines) ≡ policy_of (take place lines) ++ line_of_policy line ∷ []
  policy-more =
      let low = slice_get_within lines place line at in
      ap policy_of (take_more lines place line low ∙ ap (λ (last : PolicyLine). take place lines ++ last ∷ []) (get_or_from_slice_get lines place line line at))
      ∙ map-append line_of_policy (take place lines) (line ∷ [])
