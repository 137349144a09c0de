-- `fits_in_memory` compares the size, which is its own cap where it is less than 2 ^ 63.
use Rattle.std.specs.Mem.{FitsInMemory}
use Rattle.std.proofs.Common.{◌≡◌, ℕ, ◌<◌, List, [], ◌∷◌, refl, lit<, w64}
use mir.Syntax.{a_type}
use mir.Val.{Val, vint}
use mir.MapTy.{inst_fn}
use base.Logic.{SProp, ent, sep, emp, via, all, id⊢}
use base.Fml.{ftrue}
use types.Kit.{‵, raw, ◌⊛◌, ◌$◌, ◌∵◌, !, qed, by, keep, use0, split, feq_i}
use types.Run.{size_word, bin, returns, enter}
use types.ByLocal.{alloc_all, pass_all, free_all, look_at, sets}
use contract.Running.{tables}
use contract.Monad.{fact, fact_i}
use denote.RattleType.{RattleType}
use denote.Steps.{nothing}
use denote.Param.{param}
use denote.Triple.Entry.{alive}
use denote.Triple.Walked.{walk_of}
use Rattle.atomic_table.proofs.Walks.{proved, leaves}
use denote.Param.{layouts, layout}
use Rattle.std.proofs.Common.{Bool, true, ltb, ltb-true}
use mir.Val.{vbool}
use prog.Memory.{size, capped}
use prog.Capped.{capped_small}
use Rattle.fitting.specs.contracts.fits_in_memory.{ended, clauses}
use Rattle.fitting.specs.contracts.fits_in_memory.Key.{name as #self}
use Rattle.fitting.proofs.fits_in_memory.Statement.{statement}
use Rattle.fitting.proofs.fits_in_memory.Code as code

pub fits_in_memory_spec : {M : Type 1} → statement M
fits_in_memory_spec 𝓤 𝓛 𝓜 𝓡 wired T L =
    let H = 𝓛.H in let 𝓣 = tables 𝓤 H 𝓜 𝓡 𝓡.env in let R : RattleType = param 0 T in let En = ended T in let c = clauses T 𝓛 𝓜.mem 𝓡.returns in let inst = layouts (a_type ∷ []) (T, tt) in let fn = inst_fn inst code.function in
    proved 𝓛 En tt c 𝓜 𝓡 tt (#self inst) fn (code.unfolded 𝓤 H 𝓜 𝓡 wired (T, tt)) (λ κs. tt) (λ κs. tt) (λ κs qs bounds a gh are.
    let y : (walk_of 𝓛 En tt c).Ghost = ((κs, qs, bounds, a, tt), gh) in let Post : Val → SProp 𝓤 = (walk_of 𝓛 En tt c).post y in
    qed 𝓛 ((raw (alive 𝓛 En.signature κs qs) ⊛ ‵ ftrue) ∷ raw ((c κs a).requires gh) ∷ []) ∵ split ! $ keep ! (0 ∷ []) $
    enter ! 𝓣.C 𝓣.Λ fn [] Post $ alloc_all ! (λ l. pass_all ! refl tt $
    let n : ℕ = size (layout T) in let r : Bool = ltb (capped n) 9223372036854775808 in let Told : Type 0 = r ≡ true → FitsInMemory R in
    sets ! (bin ! (size_word !) (record { go = λ Kt h. via 𝓤 _ h (base.Logic.guard_i 𝓤 _ (Kt (vint w64 9223372036854775808)) (record { fits = lit< tt })) }) tt) refl (tt, tt) $
    use0 𝓛 (raw (fact 𝓤 Told)) (fact_i 𝓤 Told (emp 𝓤) (λ e. let low : capped n < 9223372036854775808 = ltb-true _ _ e in capped_small n low)) $
    feq_i ! (List Val) (vbool r ∷ []) (vbool r ∷ []) refl $ nothing ! $
    returns ! (look_at ! 0 refl) $ free_all ! refl $ keep ! (3 ∷ 0 ∷ 1 ∷ 2 ∷ []) $ by ! (leaves 𝓛 En tt c y (vbool r) r tt tt)))
