-- The rules of a move are those of the first case that holds, and moves follow one another.
use Rattle.std.proofs.Common.{◌≡◌, ℕ, ◌+◌, ◌<◌, ◌≤◌, Bool, true, false, List, [], ◌∷◌, ◌++◌, Some, None, if◌then◌else◌, refl, sym, ap, ◌∙◌, subst, append_assoc, length-append, IsTrue, length, take, drop, drop-cons, suc, get_or, add-one, arith}
use Rattle.std.proofs.lemmas.Bool.{true≢false, both_ways}
use Rattle.std.proofs.lemmas.List.{append-nil, take_more, take_all}
use Rattle.tg_names.specs.declared.right_sets.Right.{Right}
use Rattle.tg_names.specs.declared.right_sets.Right.TheVariants.{T, G}
use Rattle.tg_graph.specs.declared.rules.Rule.{Rule}
use Rattle.tg_graph.specs.declared.rules.Rule.TheVariants.{Take, Grant, Create}
use Rattle.tg_names.specs.Names.{helper_name, Name}
use Rattle.tg_graph.specs.Graphs.{ProtectionGraph}
use Rattle.tg_graph.specs.RuleLists.{after_all}
use Rattle.tg_islands.specs.Sharing.{IsChain}
use Rattle.tg_islands.specs.Moves.{only, take_and_grant, IsLeastHelper, IsMove, AreMoves}
use Rattle.tg_sharing.specs.Derivations.{direct_rule, helper_rules, end_of, IsSoFar, IsUnderway, GoesOn, IsCarried}
use Rattle.tg_islands.proofs.OverLinks.{after_both}

module _ (g now : ProtectionGraph) (right : Right) (y p q : Name) where
  pub move_direct : (rule : Rule) → direct_rule g right y p q ≡ Some rule → IsMove g now right y p q (rule ∷ [])
  move_direct rule is = go (g.holds p T q) refl (g.holds q G p) refl is
    where
      go : (a : Bool) → g.holds p T q ≡ a → (b : Bool) → g.holds q G p ≡ b → (if a then Some (Take p q y (only right)) else (if b then Some (Grant q p y (only right)) else None)) ≡ Some rule → IsMove g now right y p q (rule ∷ [])
      go true e b f is =
          let same : Take p q y (only right) ≡ rule = cc in
          record {
            takes = λ _. ap (λ r. r ∷ []) (sym same);
            granted = λ not. absurd (both_ways _ not e);
            grants = λ not. absurd (both_ways _ not e);
            taken = λ not. absurd (both_ways _ not e);
          }
      go false e true f is =
          let same : Grant q p y (only right) ≡ rule = cc in
          record {
            takes = λ has. absurd (both_ways _ e has);
            granted = λ _ _. ap (λ r. r ∷ []) (sym same);
            grants = λ _ not. absurd (both_ways _ not f);
            taken = λ _ not. absurd (both_ways _ not f);
          }
      go false e false f is = absurd (cc)

  -- the rules with a helper, whether p grants it or q takes it
  abbrev rules_by : ℕ → Bool → List Rule
  rules_by k grants =
      Create p (helper_name k) take_and_grant
      ∷ (if grants then Grant p q (helper_name k) (only G) else Take q p (helper_name k) (only G))
      ∷ Grant q (helper_name k) y (only right)
      ∷ Take p (helper_name k) y (only right)
      ∷ []

  pub move_with_helper : (k : ℕ) → direct_rule g right y p q ≡ None → IsLeastHelper now k → IsMove g now right y p q (helper_rules g right y p q (helper_name k))
  move_with_helper k none least = go (g.holds p T q) refl (g.holds q G p) refl none
    where
      go : (a : Bool) → g.holds p T q ≡ a → (b : Bool) → g.holds q G p ≡ b → (if a then Some (Take p q y (only right)) else (if b then Some (Grant q p y (only right)) else None)) ≡ None → IsMove g now right y p q (helper_rules g right y p q (helper_name k))
      go true e b f is = absurd (cc)
      go false e true f is = absurd (cc)
      go false e false f is = record {
        takes = λ has. absurd (both_ways _ e has);
        granted = λ _ has. absurd (both_ways _ f has);
        grants = λ _ _ has. (k, least, ap (rules_by k) has);
        taken = λ _ _ not _. (k, least, ap (rules_by k) not);
      }

-- one more move at the end
pub moves_push : (g now : ProtectionGraph) (right : Right) (y q : Name) (ps : List Name) (p : Name) (rules move : List Rule) → AreMoves g now right y q ps rules → IsMove g (after_all now rules) right y p (end_of q ps) move → AreMoves g now right y q (ps ++ p ∷ []) (rules ++ move)
moves_push g now right y q [] p rules move are is =
    (move, [], subst (λ rs. IsMove g (after_all now rs) right y p q move) are is, refl, ap (λ rs. rs ++ move) are ∙ sym (append-nil move))
moves_push g now right y q (r ∷ rs) p rules move are is =
    (are.0, are.1 ++ move, are.2, moves_push g (after_all now are.0) right y r rs p are.1 move are.3 (subst (λ t. IsMove g t right y p (end_of r rs) move) (ap (after_all now) are.4 ∙ after_both now are.0 are.1) is), ap (λ t. t ++ move) are.4 ∙ append_assoc are.0 are.1 move)

-- ---- along the links
end_push : (q : Name) (ps : List Name) (p : Name) → p ≡ end_of q (ps ++ p ∷ [])
end_push q [] p = refl
end_push q (r ∷ rs) p = end_push r rs p

-- before the first rule
pub so_far_none : (g : ProtectionGraph) (rules : List Rule) → rules ≡ [] → IsSoFar g rules 0
so_far_none g rules none = subst (λ rs. IsSoFar g rs 0) (sym none) (record {
  made = [];
  extends = record { accepted = tt; vertices = sym (append-nil g.vertices); triples = λ u right v h. h };
  helpers = λ v h. absurd (true≢false (sym h));
  used = λ k l. absurd (omega arith);
})

-- what held in the opening graph holds after the rules so far
pub underway_from : (g : ProtectionGraph) (right : Right) (y q : Name) (rules : List Rule) (next : ℕ) → IsSoFar g rules next → IsTrue (g.holds q right y) → IsUnderway g right y q rules next
underway_from g right y q rules next so_far has = record { so_far = so_far; gives = so_far.extends.triples q right y has }

module _ (g : ProtectionGraph) (right : Right) (y holder : Name) (old : List Rule) (next : ℕ) where
  pub carried_first : IsSoFar g old next → IsTrue (g.holds holder right y) → IsCarried g right y holder [] old old next next
  carried_first so_far has = record {
    underway = underway_from g right y holder old next so_far has;
    kept = λ u other v h. h;
    part = [];
    moves = refl;
    is = sym (append-nil old);
    few = omega arith;
    low = omega arith;
  }

  -- over one link more
  carried_push : (links : List Name) (p : Name) (now new : List Rule) (number last : ℕ) → IsCarried g right y holder links old now next number → GoesOn g right y p (end_of holder links) now new number last → IsCarried g right y holder (links ++ p ∷ []) old new next last
  carried_push links p now new number last c on = record {
    underway = subst (λ u. IsUnderway g right y u new last) (end_push holder links p) on.underway;
    kept = λ u other v h. on.kept u other v (c.kept u other v h);
    part = c.part ++ on.move;
    moves = moves_push g (after_all g old) right y holder links p c.part on.move c.moves (subst (λ t. IsMove g t right y p (end_of holder links) on.move) (ap (after_all g) c.is ∙ after_both g old c.part) on.is_move);
    is = on.is ∙ ap (λ rs. rs ++ on.move) c.is ∙ append_assoc old c.part on.move;
    few = omega (arith, c.few, on.few, ap length on.is, length-append now on.move, length-append c.part on.move, length-append links (p ∷ []));
    low = omega (arith, c.low, on.low, length-append links (p ∷ []));
  }

  pub carried_next : (links : List Name) (i : ℕ) (p q : Name) (now new : List Rule) (number last : ℕ) → i < length links → p ≡ get_or links i p → q ≡ end_of holder (take i links) → IsCarried g right y holder (take i links) old now next number → GoesOn g right y p q now new number last → IsCarried g right y holder (take (i + 1) links) old new next last × (p ≡ end_of holder (take (i + 1) links))
  carried_next links i p q now new number last lt is here c on =
      (subst (λ ps. IsCarried g right y holder ps old new next last) (sym taken) (carried_push (take i links) p now new number last c (subst (λ u. GoesOn g right y p u now new number last) here on)), subst (λ ps. p ≡ end_of holder ps) (sym taken) (end_push holder (take i links) p))
    where
      taken : take (i + 1) links ≡ take i links ++ p ∷ []
      taken = take_more links i p lt ∙ ap (λ u. take i links ++ u ∷ []) (sym is)

  pub carried_whole : (links : List Name) (i : ℕ) (new : List Rule) (last : ℕ) → length links ≤ i → IsCarried g right y holder (take i links) old new next last → IsCarried g right y holder links old new next last
  carried_whole links i new last le c = subst (λ ps. IsCarried g right y holder ps old new next last) (take_all i links le) c

pub chain_next : (g : ProtectionGraph) (links : List Name) (i : ℕ) (p q v : Name) → i < length links → p ≡ get_or links i p → IsChain g q (drop i links) v → IsChain g p (drop (i + 1) links) v
chain_next g links i p q v lt is chain =
    subst (λ n. IsChain g p (drop n links) v) (sym (add-one i))
    (subst (λ u. IsChain g u (drop (suc i) links) v) (sym is) (subst (λ ws. IsChain g q ws v) (drop-cons links i p lt) chain).2)
