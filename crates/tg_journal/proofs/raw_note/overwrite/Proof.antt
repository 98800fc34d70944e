-- What a note knows can be had twice, so it is read behind a `&`.
use Rattle.std.proofs.Common.{◌≡◌, ℕ, List, [], ◌∷◌, ◌++◌, refl, sym, subst}
use mir.Syntax.{a_type}
use mir.Val.{Val, vptr, vunit}
use mir.MapTy.{inst_fn}
use base.Logic.{SProp, ent, emp, id⊢, apply∗, all, all_e}
use base.Fml.{Lft, Share, ftrue, flft}
use prog.Wp.{WpFn}
use types.Logic.{sem}
use types.Kit.{‵, raw, ◌⊛◌, later, ◌$◌, ◌∵◌, !, qed, by, move, keep, split, join, fsplit, fsplit3, fjoin, split3, drop, suffices, use0, use1, use2, await, feq_i}
use types.Run.{of_opd, returns, enter, unit_lit}
use types.ByLocal.{alloc_all, pass_all, free_all, look_at, sets}
use contract.Monad.{fact, fact_i}
use contract.Running.{tables}
use denote.Opens.{unhide}
use Rattle.tg_journal.proofs.NoteShared.{peek}
use denote.Exit.{yes}
use denote.RattleType.{RattleType, owns}
use denote.Signature.{types_at, plain, shr_ref_to}
use denote.Steps.{nothing}
use denote.Param.{param, layouts}
use denote.Param.Laws.{param_laws}
use denote.Triple.Walked.{Stays, stay_dropped, walk_of, Goes-dropped, stay_ref, Goes-ref}
use Rattle.once_cell.specs.Once.{noted}
use Rattle.std.proofs.raw_atomic.Walks.{proved_at, leaves}
use Rattle.once_cell.proofs.Notes as notes
use Rattle.once_cell.proofs.Notes.{Note}
use Rattle.tg_journal.specs.contracts.raw_note.overwrite.{ended, clauses}
use Rattle.tg_journal.specs.contracts.raw_note.overwrite.Key.{name as #self}
use Rattle.tg_journal.proofs.raw_note.overwrite.Statement.{statement}
use Rattle.tg_journal.proofs.raw_note.overwrite.Code as code

pub overwrite_spec : {M : Type 1} → statement M
overwrite_spec 𝓤 𝓛 𝓜 𝓡 wired T L =
    let H = 𝓛.H in let 𝓣 = tables 𝓤 H 𝓜 𝓡 𝓡.env in let R : RattleType = param 0 T in let LR = param_laws 0 T L in let En = ended T in let c = clauses T 𝓛 𝓜.mem 𝓡.returns in
    let inst = layouts (a_type ∷ []) (T, tt) in let fn = inst_fn inst code.function in
    let hs : Stays En.signature.params En.kept = (stay_ref (0 ∷ []) tt (plain (λ _. Note 𝓛 R)), (stay_dropped (shr_ref_to (1 ∷ []) tt (plain (λ _. Note 𝓛 R))) yes, tt)) in
    proved_at 𝓛 En hs c 𝓜 𝓡 (Goes-ref 𝓛 3 0 tt (plain (λ _. Note 𝓛 R)), (Goes-dropped 𝓛 3 (shr_ref_to (1 ∷ []) tt (plain (λ _. Note 𝓛 R))) yes (λ κs x f. refl), tt)) (#self inst) fn (code.unfolded 𝓤 H 𝓜 𝓡 wired (T, tt)) (λ z are.
    let κs = z.0.0 in let qs = z.0.1 in let Post : Val → SProp 𝓤 = (walk_of 𝓛 En hs c).post z in let Run : List Val → SProp 𝓤 = λ ws. WpFn 𝓤 H 𝓣.C 𝓣.Λ fn ws Post in
    let κ' : Lft = κs.0 in let q' : Share = qs.0 in let m = z.0.3.0 in let nb₀ : ℕ = m.ref_ptr.0 in let no₀ : ℕ = m.ref_ptr.1 in let ν₀ : ℕ = m.ghost_name in let k = m.now.known in
    let κ : Lft = κs.1.0 in let q : Share = qs.1.0 in let x = z.0.3.1.0 in let b : ℕ = x.ref_ptr.0 in let o : ℕ = x.ref_ptr.1 in let n = x.now in let μ : Lft = κs.1.1.0 in let r : Share = qs.1.1.0 in
    let Shuts = notes.Shuts 𝓛 R κ' q' nb₀ no₀ ν₀ in let Vs : List Val = vptr nb₀ no₀ ∷ vptr b o ∷ [] in let Told : Type 0 = n ≡ n in
    qed 𝓛 (((‵ (flft κ' q') ⊛ ‵ (flft κ q) ⊛ ‵ (flft μ r) ⊛ ‵ ftrue) ⊛ ‵ (owns (types_at En.signature.params κs) z.0.3 z.0.4)) ∷ raw ((c κs z.0.3).requires z.1) ∷ []) ∵
    keep ! (0 ∷ []) $ split ! $ split3 ! $ move ! (2 ∷ []) $ split ! $ move ! (4 ∷ []) $ fsplit3 ! $ fsplit ! $ keep ! (1 ∷ 2 ∷ 6 ∷ 7 ∷ 4 ∷ []) $
    suffices ! (Run Vs) (subst (λ (us : List Val). ent 𝓤 (Run Vs) (Run us)) (sym (λ i. are.0.0 i ++ (are.1.0.0 i ++ []))) (id⊢ 𝓤 (Run Vs))) $
    enter ! 𝓣.C 𝓣.Λ fn Vs Post $ alloc_all ! (λ l. pass_all ! refl ((tt, tt), ((tt, tt), tt)) $
    move ! (0 ∷ 2 ∷ []) $ use2 𝓛 (later (‵ (noted R m.now.cell k) ⊛ raw (all 𝓤 Shuts))) (notes.note_opens 𝓛 R κ' q' nb₀ no₀ ν₀ m.now) $ await ! tt $ split ! $ drop ! $
    move ! (1 ∷ []) $ fsplit ! $ drop ! $ unhide ! $ move ! (0 ∷ 2 ∷ []) $ use2 𝓛 (later (‵ (noted R n.cell n.known) ⊛ ‵ (flft κ q))) (peek 𝓛 R n b o κ q) $ await ! tt $ split ! $
    move ! (2 ∷ []) $ use1 𝓛 (raw (Shuts n)) (all_e 𝓤 Shuts n) $ move ! (1 ∷ 0 ∷ []) $ use2 𝓛 (later (‵ (notes.lent 𝓛 R κ' q' nb₀ no₀ ν₀ n) ⊛ ‵ (flft κ' q'))) (apply∗ 𝓤 (sem 𝓛 (noted R n.cell n.known)) _) $ await ! tt $ split ! $
    feq_i ! (List Val) z.0.4.0 (vptr nb₀ no₀ ∷ []) are.0.0 $ fjoin ! $ nothing ! $ nothing ! $ fjoin ! $ move ! (1 ∷ 0 ∷ []) $ fjoin ! $
    nothing ! $ move ! (4 ∷ 0 ∷ []) $ join ! $ move ! (3 ∷ 0 ∷ []) $ join ! $ move ! (2 ∷ 0 ∷ []) $ join ! $
    sets ! (of_opd ! (unit_lit !)) refl (tt, tt) $ feq_i ! (List Val) (vunit ∷ []) (vunit ∷ []) refl $ use0 𝓛 (raw (fact 𝓤 Told)) (fact_i 𝓤 Told (emp 𝓤) refl) $
    returns ! (look_at ! 0 refl) $ free_all ! refl $ keep ! (2 ∷ 3 ∷ 1 ∷ 0 ∷ []) $ by ! (leaves 𝓛 En hs c z vunit tt (n, (tt, tt)) (tt, (tt, tt)))))
