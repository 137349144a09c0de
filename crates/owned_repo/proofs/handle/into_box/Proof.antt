-- `into_box` makes the box again whose pointer the handle holds.
use Rattle.std.proofs.Common.{◌≡◌, List, [], ◌∷◌, ◌++◌, refl, sym, ap, subst, ◌∙◌, T}
use mir.Syntax.{Dict, tnil, tcons, dnil, impl}
use mir.Val.{Val, vptr, vstruct, vcons, vnil, of_list, has_ty, WT}
use mir.Raw.{raw as bare}
use base.Fraction.{full_share}
use base.Logic.{SProp, ent, emp, id⊢, never, fst∗}
use base.Fml.{ftrue, fsep, flft}
use prog.Wp.{WpFn}
use types.Logic.{sem}
use types.Kit.{rewrite, Item, ‵, raw, ◌⊛◌, some, later, at_ret, ◌$◌, ◌∵◌, !, qed, move, drop, split, split3, join, fsplit, fjoin, fpick, pick, suffices, use0, use1, await, feq_i, feq_l, done}
use types.Run.{stop, fld, of_opd, no_more, and_then, first, blocks, exec, returns, enter}
use types.ByLocal.{alloc_all, pass_all, free_all, look_at, get, get_in, sets, lands_last, is, env}
use types.Part.{sub, whole}
use contract.Monad.{fact, fact_i}
use contract.BorrowLft.{◌⊑◌}
use contract.Running.{tables}
use denote.Exit.{yes, no}
use denote.RattleType.{RattleType, owns}
use denote.Signature.{types_at, plain}
use denote.RawPtr.{Ptr, block_ptr, null_ptr, ptr_val, in_a_block}
use denote.Steps.{nothing, only, heard}
use denote.Param.{arg, layout}
use denote.Param.Laws.{arg_laws}
use denote.Triple.Spec.{triple_of}
use denote.Triple.Call.{calls_at_last}
use denote.Triple.Walked.{Stays, stay_dropped, Goes-dropped, walk_of, says, ends_at}
use Rattle.std.proofs.alloc.Calls.{token, handle_tells, Goes-blank}
use Rattle.std.proofs.BoxSteps.Form as box
use Rattle.std.proofs.BoxSteps.Steps.{box_out, box_in}
use Rattle.std.proofs.raw_atomic.Walks.{proved_at}
use Rattle.std.proofs.raw_atomic.Calls.{fm}
use Rattle.std.specs.Box.Ownership.{box_owns}
use Rattle.std.specs.contracts.boxed.Box.from_raw as callee
use Rattle.std.proofs.boxed.Box.from_raw.Met.{met}
use Rattle.std.specs.contracts.alloc.Global as global
use Rattle.std.proofs.alloc.Global.TheLaws as global_laws
use Rattle.std.specs.contracts.impls.GlobalAllocator.TheImpl as heap
use Rattle.std.proofs.impls.GlobalAllocator.TheImpl.Met as heap_met
use denote.Param.NoDrop.{glues}
use Rattle.owned_repo.specs.Held.{held}
use Rattle.owned_repo.proofs.Found.{found}
use Rattle.std.specs.Prelude.{Option, Some, is_some, true}
use Rattle.owned_repo.specs.contracts.owning.OwnedRepo as inner
use Rattle.owned_repo.specs.Owning.{Owned}
use Rattle.owned_repo.proofs.owning.OwnedRepo.TheLaws as inner_laws
use Rattle.owned_repo.specs.contracts.handle.Handle as handle
use Rattle.owned_repo.specs.contracts.handle.into_box.{ended, clauses}
use Rattle.owned_repo.specs.contracts.handle.into_box.Key.{name as #self}
use Rattle.owned_repo.proofs.handle.into_box.Statement.{statement}
use Rattle.owned_repo.proofs.handle.into_box.Code as code

-- the two types as the call passes them
abbrev X : RattleType
X = arg (bare (layout inner.the_row)) no inner.the_row

abbrev A : RattleType
A = arg (bare (layout global.the_row)) no global.the_row

abbrev none : Dict
none = impl ("owned_repo::Destruct++none::drop" ∷ []) (tcons (bare (layout global.the_row)) tnil) dnil

pub into_box_spec : {M : Type 1} → statement M
unfolding Rattle.owned_repo.proofs.Destruct++none.drop.Code.code
into_box_spec 𝓤 𝓛 𝓜 𝓡 wired =
    let H = 𝓛.H in let 𝓣 = tables 𝓤 H 𝓜 𝓡 𝓡.env in let En = ended in let c = clauses 𝓛 𝓜.mem 𝓡.returns in let fn = code.function in
    let LX = arg_laws (bare (layout inner.the_row)) no inner.the_row inner_laws.the_row_laws refl in let LA = arg_laws (bare (layout global.the_row)) no global.the_row global_laws.the_row_laws refl in
    let E : box.Bx = record { row = X; laws = LX; al = record { row = A; laws = LA; g = heap.ghosts; d = heap.dict; drops = none } } in
    let k = triple_of 𝓛 (callee.signature X A heap.ghosts heap.dict none) (callee.spec X A heap.ghosts heap.dict none 𝓛 𝓜.mem 𝓡.returns) in
    let known = met 𝓤 𝓛 𝓜 𝓡 (code.calls-std_alloc::boxed::Box::from_raw 𝓡.env wired) X A LX LA heap.ghosts heap.dict none
    (heap_met.passed 𝓡.env (code.calls-std_heap::GlobalAllocator::allocate 𝓡.env wired) (code.calls-std_heap::GlobalAllocator::deallocate 𝓡.env wired) (code.calls-std_heap::GlobalAllocator::grow 𝓡.env wired) (code.calls-std_heap::GlobalAllocator::shrink 𝓡.env wired) _ 𝓤 𝓛 𝓜 𝓡)
    (glues "owned_repo::Destruct++none::drop" 𝓡.env (code.calls-owned_repo::Destruct++none::drop 𝓡.env wired) A LA _ 𝓤 𝓛 𝓜 𝓡) in
    let hs : Stays En.signature.params En.kept = (stay_dropped (plain (λ _. global.the_row)) yes, (stay_dropped (plain (λ _. handle.the_row)) yes, tt)) in
    proved_at 𝓛 En hs c 𝓜 𝓡 (Goes-dropped 𝓛 0 (plain (λ _. global.the_row)) yes (λ κs x f. refl), (Goes-blank 𝓛 0 (plain (λ _. handle.the_row)) yes (λ κs x f. tt), tt)) #self fn (code.unfolded 𝓤 H 𝓜 𝓡 wired) (λ z are.
    let a = z.0.3.0 in let v = z.0.3.1.0 in let Post : Val → SProp 𝓤 = (walk_of 𝓛 En hs c).post z in let Run : List Val → SProp 𝓤 = λ ws. WpFn 𝓤 H 𝓣.C 𝓣.Λ fn ws Post in
    let B : RattleType = box.B E in let toks : Item 𝓤 = ‵ (flft [] full_share) ⊛ ‵ (flft [] full_share) ⊛ ‵ ftrue in
    qed 𝓛 ((‵ ftrue ⊛ ‵ (owns (types_at En.signature.params tt) z.0.3 z.0.4)) ∷ raw (fact 𝓤 (is_some v.repo ≡ true)) ∷ []) ∵ move ! (1 ∷ []) $ heard ! (is_some v.repo ≡ true) (λ is_held. let there = found v.repo is_held in let x = there.value in split ! $ drop ! $ fsplit ! $
    handle_tells E.al ! a z.0.4.0 (λ hv eh fa. move ! (1 ∷ []) $ fsplit ! $ move ! (1 ∷ []) $ drop ! $ fsplit ! $
    fpick ! (λ vss. fsplit ! $ feq_l ! (λ ev. fsplit ! $ feq_l ! (λ ep. drop ! $ rewrite ! 0 (λ (q : Option Owned). ‵ (held v.at q)) there.is refl $
    in_a_block ! v.at (λ p. box_owns (token E.al a) (box.R E) p x) (fst∗ 𝓤 (never 𝓤) (sem 𝓛 (token E.al a (bare (box.τ E)) null_ptr))) (λ b o e.
    let w : Val = vstruct (vcons (vptr b o) vnil) in let us : List Val = hv ∷ w ∷ [] in
    let ew : z.0.4.1.0 ≡ w ∷ [] = ev ∙ (λ j. vstruct (of_list ((ep ∙ ap (λ (π : Ptr). ptr_val π ∷ []) e) j ++ [])) ∷ []) in
    suffices ! (Run us) (subst (λ (ws : List Val). ent 𝓤 (Run us) (Run ws)) (sym (λ i. eh i ++ (ew i ++ []))) (id⊢ 𝓤 (Run us))) $
    enter ! 𝓣.C 𝓣.Λ fn us Post $ alloc_all ! (λ l. pass_all ! refl (fa, ((tt, (tt, tt)), tt)) $ let Ev = env fn.locals l in
    sets ! (of_opd ! (get_in ! (fld ! refl (stop !)) (sub ! 0 refl (whole !)))) refl (tt, tt) $
    first ! $ blocks ! $ sets ! (of_opd ! (get ! refl)) refl (tt, tt) $
    -- [the box at the pointer; the allocator's handle]
    let y : k.Ghost = ((([], ([], tt)), (full_share, (full_share, tt)), tt, (a, (block_ptr b o, tt)), (hv ∷ [], (vptr b o ∷ [], tt))), x) in
    use0 𝓛 (raw (fact 𝓤 ([] ⊑ A.lives))) (fact_i 𝓤 ([] ⊑ A.lives) (emp 𝓤) (global_laws.the_within [])) $ join ! $
    use0 𝓛 (raw (fact 𝓤 ([] ⊑ X.lives))) (fact_i 𝓤 ([] ⊑ X.lives) (emp 𝓤) (inner_laws.the_within [])) $ join ! $
    nothing ! $ feq_i ! (List Val) (vptr b o ∷ []) (vptr b o ∷ []) refl $ fjoin ! $ move ! (2 ∷ 0 ∷ []) $ fjoin ! $
    nothing ! $ use0 𝓛 (‵ (flft [] full_share)) (𝓛.lfts.lft-nil full_share) $ join ! $ use0 𝓛 (‵ (flft [] full_share)) (𝓛.lfts.lft-nil full_share) $ join ! $
    join ! $ join ! $ use1 𝓛 (raw (k.pre y)) (id⊢ 𝓤 _) $
    calls_at_last ! (fm 𝓛 𝓜 𝓡) k known y (and_then ! (get ! refl) (and_then ! (get ! refl) (no_more !))) (λ u.
    use1 𝓛 (later (some (λ (r : B.Denot). (toks ⊛ ‵ (B.own_val r (u ∷ []))) ⊛ some (λ (_ : Unit {0} × (Unit {0} × Unit {0})). ‵ (fsep ftrue (fsep ftrue ftrue)) ⊛ (raw (fact 𝓤 (r.value ≡ x)) ⊛ raw (fact 𝓤 (r.alloc ≡ a))))))) (id⊢ 𝓤 _) $
    await ! tt $ pick ! (λ r. split ! $ move ! (1 ∷ []) $ pick ! (λ _. split3 ! $ drop ! $ heard ! (r.value ≡ x) (λ same. drop ! $ split ! $ drop ! $
    box_out E ! r (u ∷ []) (λ b' o' hw e' wu fw. box_in E ! r b' o' r.value e' refl $
    let w' : Val = box.word E hw b' o' in let typed = box.box_typed E hw b' o' fw in let is_word : u ≡ w' = ap only wu in
    lands_last ! refl (subst (λ (s : Val). T (has_ty (box.box_ty E) s) × WT s) (sym is_word) typed) $ exec ! 𝓣.C 𝓣.Λ Ev code.Mir.t-3 (at_ret Ev Post) $
    sets ! (is ! (of_opd ! (get ! refl)) is_word) refl typed $ returns ! (look_at ! 0 refl) $ free_all ! refl $
    suffices ! _ (ends_at 𝓛 En hs c z w' r (tt, (tt, tt)) (tt, (tt, tt))) $ says ! (there.is ∙ ap Some (sym same)) $
    nothing ! $ nothing ! $ join ! $ nothing ! $ join ! $ nothing ! $ done !)))))))))))))
