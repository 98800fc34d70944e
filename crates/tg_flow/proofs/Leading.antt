-- What leads to those who come to the end without the near ones.
use Rattle.std.proofs.Common.{◌≡◌, ◌⊎◌, inl, inr, Bool, true, false, not, ◌&&◌, ◌||◌, ap}
use Rattle.std.proofs.lemmas.Bool.{or_cases, or_left, or_right, and_parts, and_from}
use Rattle.tg_flow.specs.declared.edges.Role.{Role}
use Rattle.tg_flow.specs.declared.edges.Side.{Side}
use Rattle.tg_flow.specs.Courses.{is_holder, can_link, leads_beyond}

-- from more, more is led to
pub leads-more : (has_holders near other_near a b : Bool) (role : Role) (here : Side) → (a ≡ true → b ≡ true) → leads_beyond has_holders near other_near a role here ≡ true → leads_beyond has_holders near other_near b role here ≡ true
leads-more has_holders near other_near a b role here more h =
    let p = and_parts (not near) ((has_holders && is_holder role here) || (can_link role && (not other_near && a))) h in
    and_from (not near) ((has_holders && is_holder role here) || (can_link role && (not other_near && b))) p.0 (by (or_cases (has_holders && is_holder role here) (can_link role && (not other_near && a)) p.1))
  where
    by : ((has_holders && is_holder role here) ≡ true) ⊎ ((can_link role && (not other_near && a)) ≡ true) → ((has_holders && is_holder role here) || (can_link role && (not other_near && b))) ≡ true
    by (inl holds) = or_left (has_holders && is_holder role here) (can_link role && (not other_near && b)) holds
    by (inr links) =
        let p = and_parts (can_link role) (not other_near && a) links in
        let q = and_parts (not other_near) a p.1 in
        or_right (has_holders && is_holder role here) (can_link role && (not other_near && b)) (and_from (can_link role) (not other_near && b) p.0 (and_from (not other_near) b q.0 (more q.1)))

-- a holder that is not near is led to, where holders count
pub holder-leads : (has_holders near other_near other : Bool) (role : Role) (here : Side) → near ≡ false → has_holders ≡ true → is_holder role here ≡ true → leads_beyond has_holders near other_near other role here ≡ true
holder-leads has_holders near other_near other role here apart counts holds =
    and_from (not near) ((has_holders && is_holder role here) || (can_link role && (not other_near && other))) (ap not apart) (or_left (has_holders && is_holder role here) (can_link role && (not other_near && other)) (and_from has_holders (is_holder role here) counts holds))

-- and who is linked to one of the set, neither of them near
pub link-leads : (has_holders near other_near other : Bool) (role : Role) (here : Side) → near ≡ false → other_near ≡ false → can_link role ≡ true → other ≡ true → leads_beyond has_holders near other_near other role here ≡ true
link-leads has_holders near other_near other role here apart other_apart links is =
    and_from (not near) ((has_holders && is_holder role here) || (can_link role && (not other_near && other))) (ap not apart) (or_right (has_holders && is_holder role here) (can_link role && (not other_near && other)) (and_from (can_link role) (not other_near && other) links (and_from (not other_near) other (ap not other_apart) is)))
