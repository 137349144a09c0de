-- `of_box` keeps the pointer of a box, with what the box owns.
use Rattle.std.proofs.Common.{List, [], ◌∷◌, ◌++◌, refl, sym, ap, subst, ◌∙◌}
use mir.Syntax.{Dict, tnil, tcons, dnil, impl, method}
use mir.Val.{Val, vptr, vstruct, vcons, vnil}
use mir.Raw.{raw as bare}
use base.Fraction.{full_share}
use base.Logic.{SProp, ent, emp, id⊢, never, fst∗}
use base.Fml.{ftrue, fsep, flft}
use prog.Wp.{WpFn}
use types.Logic.{sem}
use types.Kit.{Item, ‵, raw, ◌⊛◌, some, later, ◌$◌, ◌∵◌, !, qed, move, drop, split, join, fsplit, fjoin, fpack, pick, suffices, use0, use1, await, feq_i, feq_l, done}
use types.Run.{of_opd, no_more, and_then, returns, enter}
use types.ByLocal.{alloc_all, pass_all, free_all, look_at, get, sets, lands_as}
use types.Part.{agg}
use contract.Monad.{fact, fact_i}
use contract.BorrowLft.{◌⊑◌}
use contract.Running.{tables}
use denote.Exit.{yes, no}
use denote.RattleType.{RattleType, Valss, owns}
use denote.Signature.{types_at, plain}
use denote.RawPtr.{Ptr, RawPtr, block_ptr, null_ptr, ptr_val, in_a_block}
use denote.Steps.{nothing, only}
use denote.Param.{arg, layout, layouts}
use denote.Param.Laws.{Laws, arg_laws}
use denote.Param.NoDrop.{glues}
use denote.Struct.Struct.{within}
use denote.Struct.Owning.{shape}
use denote.Triple.Carry
use denote.Triple.Clauses
use denote.Triple.Spec.{triple_of}
use denote.Triple.Call.{calls_at}
use denote.Triple.Walked
use denote.Triple.Walked.{Stays, stay_dropped, walk_of, says, ends_at}
use borrow.Fn.Glue
use borrow.Fn.Impl
use borrow.Fn.Kinds as Kinds''
use borrow.Fn.Run
use borrow.Kind.Owned
use denote.Param.Mute
use Rattle.std.proofs.alloc.Calls.{token, Goes-blank}
use Rattle.std.proofs.BoxSteps.Form as box
use Rattle.std.proofs.BoxSteps.Steps.{box_out, box_in}
use Rattle.std.proofs.raw_atomic.Walks.{proved_at}
use Rattle.std.proofs.raw_atomic.Calls.{fm}
use Rattle.std.specs.Box.Ownership.{box_owns}
use Rattle.std.specs.Prelude.{Some}
use Rattle.std.specs.contracts.boxed.Box.into_raw as callee
use Rattle.std.proofs.boxed.Box.into_raw.Met.{met}
use Rattle.std.specs.contracts.alloc.Global as global
use Rattle.std.proofs.alloc.Global.TheLaws as global_laws
use Rattle.std.specs.contracts.boxed.Box as boxed
use Rattle.std.specs.contracts.impls.GlobalAllocator.TheImpl as heap
use Rattle.std.proofs.impls.GlobalAllocator.TheImpl.Met as heap_met
use Rattle.owned_repo.specs.contracts.owning.OwnedRepo as inner
use Rattle.owned_repo.proofs.owning.OwnedRepo.TheLaws as inner_laws
use Rattle.owned_repo.proofs.owning.OwnedRepo.drop.Kinds
use Rattle.owned_repo.proofs.owning.OwnedRepo.drop.Met
use Rattle.owned_repo.proofs.owning.OwnedRepo.drop.Reads
use Rattle.owned_repo.proofs.owning.OwnedRepo.drop.Symbol
use Rattle.owned_repo.specs.contracts.handle.Handle as handle
use Rattle.owned_repo.specs.contracts.handle.of_box.{ended, clauses}
use Rattle.owned_repo.specs.contracts.handle.of_box.Key.{name as #self}
use Rattle.owned_repo.proofs.handle.of_box.Statement.{statement}
use Rattle.owned_repo.proofs.handle.of_box.Code as code

-- the two types as the call passes them
abbrev X : RattleType
X = arg (bare (layout inner.the_row)) no inner.the_row

abbrev A : RattleType
A = arg (bare (layout global.the_row)) no global.the_row

abbrev LX : Laws X
LX = arg_laws (bare (layout inner.the_row)) no inner.the_row inner_laws.the_row_laws refl

abbrev LA : Laws A
LA = arg_laws (bare (layout global.the_row)) no global.the_row global_laws.the_row_laws refl

abbrev none : Dict
none = impl ("owned_repo::Destruct++none::drop" ∷ []) (tcons (bare (layout global.the_row)) tnil) dnil

-- how a tally is dropped
abbrev drops : Dict
drops = impl ("owned_repo::owning::OwnedRepo::drop" ∷ []) tnil dnil

abbrev E : box.Bx
E = record { row = X; laws = LX; al = record { row = A; laws = LA; g = heap.ghosts; d = heap.dict; drops = none } }

-- a parameter that is dropped, and what dropping gives
abbrev ps : List (Kinds''.ParamKind 1)
ps = Owned.p_owned (denote.Param.param 0 X) refl no (Mute.Mute-seen λ x. tt) (λ M 𝓤 𝓛. (denote.Param.Laws.param_laws 0 X LX).lawful 𝓛) ∷ []

abbrev r : Kinds''.ResultKind 1
r = Kinds''.r_unit

pub of_box_spec : {M : Type 1} → statement M
unfolding Rattle.owned_repo.proofs.Destruct++none.drop.Code.code
of_box_spec {M} 𝓤 𝓛 𝓜 𝓡 wired =
    let H = 𝓛.H in let 𝓣 = tables 𝓤 H 𝓜 𝓡 𝓡.env in let En = ended in let c = clauses 𝓛 𝓜.mem 𝓡.returns in let fn = code.function in
    let k = triple_of 𝓛 (callee.signature X A heap.ghosts heap.dict none drops) (callee.spec X A heap.ghosts heap.dict none drops 𝓛 𝓜.mem 𝓡.returns) in
    let glue = Glue.glue_by X LX record { M = M; 𝓤 = 𝓤; 𝓛 = 𝓛; 𝓜 = 𝓜; 𝓡 = 𝓡 } drops 𝓡.env
    (λ κs a. Clauses.Lasts (Kinds''.ended_of 0 Kinds.ps Kinds.r) tt a) (λ κs a. Clauses.lasts (Kinds''.ended_of 0 Kinds.ps Kinds.r) tt a)
    (λ κs a x ws. Walked.Fit (Kinds''.ended_of 0 Kinds.ps Kinds.r) (Kinds''.stays Kinds.ps) tt a ws × Reads.Learnt tt a x (Clauses.at_exit (Kinds''.ended_of 0 Kinds.ps Kinds.r) tt a ws))
    (λ κs a. Carry.AllWithin 1 (κs.0, tt) (X.lives, tt) × Unit {0}) 0 tt (λ κs a h. ((h, tt), tt))
    (Impl.via_longer 𝓛 (Run.Over 𝓛 𝓜 𝓡 𝓡.env) 1 ps r
    (λ κs a. Clauses.Lasts (Kinds''.ended_of 0 Kinds.ps Kinds.r) tt a) (λ κs a. Clauses.lasts (Kinds''.ended_of 0 Kinds.ps Kinds.r) tt a)
    (λ κs a x ws. Walked.Fit (Kinds''.ended_of 0 Kinds.ps Kinds.r) (Kinds''.stays Kinds.ps) tt a ws × Reads.Learnt tt a x (Clauses.at_exit (Kinds''.ended_of 0 Kinds.ps Kinds.r) tt a ws))
    (λ κs a. Carry.AllWithin 1 (κs.0, tt) (X.lives, tt) × Unit {0}) (method drops 0 (layouts [] tt)) 0 tt (λ κs. tt) (λ κs a. Reads.Asked tt a) (λ κs a p. (tt, tt))
    λ κs bd within a vss qs. Impl.method_Known 0 Kinds.ps Kinds.r Reads.requires Reads.ensures Reads.Asked Reads.Learnt Reads.known record { M = M; 𝓤 = 𝓤; 𝓛 = 𝓛; 𝓜 = 𝓜; 𝓡 = 𝓡 }
    Symbol.name (method drops 0 (layouts [] tt)) (Symbol.as_method 𝓡.env (code.calls-owned_repo::owning::OwnedRepo::drop 𝓡.env wired) (method drops 0 (layouts [] tt)) refl)
    (Met.met 𝓤 𝓛 𝓜 𝓡 (code.calls-owned_repo::owning::OwnedRepo::drop 𝓡.env wired)) ((tt, qs, tt, a, vss), tt)) in
    let known = met 𝓤 𝓛 𝓜 𝓡 (code.calls-std_alloc::boxed::Box::into_raw 𝓡.env wired) X A LX LA heap.ghosts heap.dict none drops
    (heap_met.passed 𝓡.env (code.calls-std_heap::GlobalAllocator::allocate 𝓡.env wired) (code.calls-std_heap::GlobalAllocator::deallocate 𝓡.env wired) (code.calls-std_heap::GlobalAllocator::grow 𝓡.env wired) (code.calls-std_heap::GlobalAllocator::shrink 𝓡.env wired) M 𝓤 𝓛 𝓜 𝓡)
    (glues "owned_repo::Destruct++none::drop" 𝓡.env (code.calls-owned_repo::Destruct++none::drop 𝓡.env wired) A LA M 𝓤 𝓛 𝓜 𝓡) glue in
    let B : RattleType = boxed.the_row inner.the_row global.the_row heap.ghosts in
    let hs : Stays En.signature.params En.kept = (stay_dropped (plain (λ _. B)) yes, tt) in
    proved_at 𝓛 En hs c 𝓜 𝓡 (Goes-blank 𝓛 0 (plain (λ _. B)) yes (λ κs x f. tt), tt) #self fn (code.unfolded 𝓤 H 𝓜 𝓡 wired) (λ z are.
    let v = z.0.3.0 in let Post : Val → SProp 𝓤 = (walk_of 𝓛 En hs c).post z in let Run : List Val → SProp 𝓤 = λ ws. WpFn 𝓤 H 𝓣.C 𝓣.Λ fn ws Post in
    let toks : Item 𝓤 = ‵ (flft [] full_share) ⊛ ‵ (flft [] full_share) ⊛ ‵ ftrue in
    qed 𝓛 ((‵ ftrue ⊛ ‵ (owns (types_at En.signature.params tt) z.0.3 z.0.4)) ∷ ‵ ftrue ∷ []) ∵ move ! (1 ∷ []) $ drop ! $ split ! $ drop ! $ fsplit ! $ move ! (1 ∷ []) $ drop ! $
    box_out E ! v z.0.4.0 (λ b o hv e ws fa. box_in E ! v b o v.value e refl $
    let w : Val = box.word E hv b o in let us : List Val = w ∷ [] in
    suffices ! (Run us) (subst (λ (vs : List Val). ent 𝓤 (Run us) (Run vs)) (sym (λ i. ws i ++ [])) (id⊢ 𝓤 (Run us))) $
    enter ! 𝓣.C 𝓣.Λ fn us Post $ alloc_all ! (λ l. pass_all ! refl (box.box_typed E hv b o fa, tt) $
    sets ! (of_opd ! (get ! refl)) refl (box.box_typed E hv b o fa) $
    -- [the box]
    let y : k.Ghost = ((([], ([], tt)), (full_share, (full_share, tt)), tt, (v, tt), (w ∷ [], tt)), tt) in
    nothing ! $ move ! (1 ∷ 0 ∷ []) $ fjoin ! $ nothing ! $ use0 𝓛 (raw (fact 𝓤 ([] ⊑ A.lives))) (fact_i 𝓤 ([] ⊑ A.lives) (emp 𝓤) (global_laws.the_within [])) $ join ! $
    use0 𝓛 (raw (fact 𝓤 ([] ⊑ X.lives))) (fact_i 𝓤 ([] ⊑ X.lives) (emp 𝓤) (inner_laws.the_within [])) $ join ! $ move ! (1 ∷ 0 ∷ []) $
    nothing ! $ use0 𝓛 (‵ (flft [] full_share)) (𝓛.lfts.lft-nil full_share) $ join ! $ use0 𝓛 (‵ (flft [] full_share)) (𝓛.lfts.lft-nil full_share) $ join ! $
    join ! $ join ! $ use1 𝓛 (raw (k.pre y)) (id⊢ 𝓤 _) $
    calls_at ! (fm 𝓛 𝓜 𝓡) k known y (and_then ! (get ! refl) (no_more !)) (λ u.
    use1 𝓛 (later (some (λ (p : Ptr). (toks ⊛ ‵ (RawPtr.own_val p (u ∷ []))) ⊛ some (λ (_ : (Unit {0} × (Unit {0} × Unit {0})) × Unit {0}). ‵ (fsep (fsep ftrue (fsep ftrue ftrue)) ftrue) ⊛ ‵ (box_owns (token E.al v.alloc) (box.R E) p v.value))))) (id⊢ 𝓤 _) $
    await ! tt $ pick ! (λ p. split ! $ move ! (1 ∷ []) $ pick ! (λ _. split ! $ drop ! $
    in_a_block ! p (λ q. box_owns (token E.al v.alloc) (box.R E) q v.value) (fst∗ 𝓤 (never 𝓤) (sem 𝓛 (token E.al v.alloc (bare (box.τ E)) null_ptr))) (λ b' o' e'.
    move ! (1 ∷ []) $ split ! $ drop ! $ feq_l ! (λ eu. lands_as ! (ap only eu ∙ ap ptr_val e') refl (tt, tt) $
    sets ! (of_opd ! (get ! refl)) refl (tt, tt) $ sets ! (agg ! (and_then ! (get ! refl) (no_more !))) refl (tt, (tt, tt)) $ returns ! (look_at ! 0 refl) $ free_all ! refl $
    -- [what the handle owns]
    let word : Val = vstruct (vcons (vptr b' o') vnil) in let out : handle.the_row.Denot = record { at = block_ptr b' o'; repo = Some v.value } in
    suffices ! _ (ends_at 𝓛 En hs c z word out (tt, tt) (tt, tt)) $ says ! refl $
    nothing ! $ feq_i ! (List Val) (vptr b' o' ∷ []) (vptr b' o' ∷ []) refl $ fjoin ! $ feq_i ! (List Val) (word ∷ []) (word ∷ []) refl $ fjoin ! $
    fpack ! (Valss (RawPtr ∷ [])) (within (shape handle.the_type) (block_ptr b' o', tt) (word ∷ [])) (vptr b' o' ∷ [], tt) $ fjoin ! $
    nothing ! $ nothing ! $ join ! $ nothing ! $ done !))))))))
