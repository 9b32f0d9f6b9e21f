-- `none` makes a pointer that owns nothing. Assumes `Logic`.
use Rattle.std.proofs.Common.{◌≡◌, [], ◌∷◌, refl, lit<, None}
use mir.Syntax.{Fn}
use mir.Val.{Val}
use base.Logic.{SProp, emp}
use base.Fml.{ftrue}
use contract.Monad.{fact, fact_i}
use contract.Running.{tables}
use types.Kit.{‵, raw, ◌⊛◌, ◌$◌, ◌∵◌, !, qed, by, move, drop, split, use0}
use types.Part.{agg}
use types.Run.{lit, no_more, and_then, returns, enter}
use types.ByLocal.{alloc_all, pass_all, free_all, look_at, sets}
use denote.RattleType.{owns}
use denote.RawPtr.{null_ptr, ptr_val}
use denote.Signature.{types_at}
use denote.Steps.{nothing}
use denote.Triple.Entry.{alive}
use denote.Triple.Walked.{Stays, walk_of}
use Rattle.std.proofs.raw_atomic.Walks.{proved_at, leaves}
use Rattle.rbc_c.proofs.DeskPointers.{alone, slot_in}
use Rattle.rbc_c.specs.contracts.desk_pointer.DeskPointer.none.{ended, clauses}
use Rattle.rbc_c.specs.contracts.desk_pointer.DeskPointer.none.Key.{name as #self}
use Rattle.rbc_c.proofs.desk_pointer.DeskPointer.none.Statement.{statement}
use Rattle.rbc_c.proofs.desk_pointer.DeskPointer.none.Code as code

pub none_spec : {M : Type 1} → statement M
none_spec 𝓤 𝓛 𝓜 𝓡 wired =
    let H = 𝓛.H in let En = ended in let c = clauses 𝓛 𝓜.mem 𝓡.returns in let fn : Fn = code.function in let 𝓣 = tables 𝓤 H 𝓜 𝓡 𝓡.env in
    let hs : Stays En.signature.params En.kept = tt in
    proved_at 𝓛 En hs c 𝓜 𝓡 tt #self fn (code.unfolded 𝓤 H 𝓜 𝓡 wired) (λ z are.
    let Post : Val → SProp 𝓤 = (walk_of 𝓛 En hs c).post z in
    qed 𝓛 ((raw (alive 𝓛 En.signature z.0.0 z.0.1) ⊛ ‵ (owns (types_at En.signature.params z.0.0) z.0.3 z.0.4)) ∷ ‵ ftrue ∷ []) ∵ move ! (1 ∷ []) $ drop ! $ split ! $
    enter ! 𝓣.C 𝓣.Λ fn [] Post $ alloc_all ! (λ l. pass_all ! refl tt $
    sets ! (agg ! (and_then ! (lit ! tt) (no_more !))) refl (tt, (record { fits = lit< tt }, tt)) $
    returns ! (look_at ! 0 refl) $ free_all ! refl $
    use0 𝓛 (raw (fact 𝓤 (None ≡ None))) (fact_i 𝓤 (None ≡ None) (emp 𝓤) refl) $ nothing ! $ slot_in ! null_ptr None $ move ! (2 ∷ 3 ∷ 0 ∷ 1 ∷ []) $
    by ! (leaves 𝓛 En hs c z (alone (ptr_val null_ptr)) (record { at = null_ptr; live = None }) tt tt)))
