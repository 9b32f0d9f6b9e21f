-- `give` hands over what the pointer owns. Assumes `Logic`.
use Rattle.std.proofs.Common.{◌≡◌, List, [], ◌∷◌, ◌++◌, refl, sym, ap, ◌∙◌, subst, Option, Some, IsSome}
use mir.Syntax.{Fn}
use mir.Val.{Val, vptr}
use mir.Raw.{raw as bare}
use base.Logic.{SProp, ent, emp, id⊢, never, fst∗}
use prog.Wp.{WpFn}
use contract.Monad.{fact, fact_i}
use contract.Running.{tables}
use types.Logic.{sem}
use types.Kit.{‵, raw, ◌⊛◌, ◌$◌, ◌∵◌, !, qed, by, move, drop, split, fsplit, fjoin, rewrite, suffices, use0}
use types.Part.{agg, sub, whole}
use types.Run.{stop, fld, of_opd, no_more, and_then, returns, enter}
use types.ByLocal.{alloc_all, pass_all, free_all, look_at, get, get_in, sets}
use denote.RattleType.{RattleType, owns}
use denote.Memory.{lone}
use denote.RawPtr.{Ptr, block_ptr, null_ptr, ptr_val, in_a_block}
use denote.Exit.{yes}
use denote.Signature.{types_at, plain}
use denote.Steps.{nothing, heard}
use denote.Triple.Entry.{alive}
use denote.Triple.Walked.{Stays, stay_dropped, walk_of}
use Rattle.std.proofs.alloc.Calls.{Goes-blank, handle_tells}
use Rattle.std.proofs.raw_atomic.Walks.{proved_at, leaves}
use Rattle.std.specs.Box.Ownership.{box_owns}
use Rattle.std.specs.contracts.alloc.Global as heap
use Rattle.std.proofs.alloc.Global.TheLaws as heap_laws
use Rattle.std.specs.contracts.impls.GlobalAllocator.TheImpl.{ghosts}
use Rattle.rbc_c.proofs.RawBoxes.{both, al, raw_box_good, raw_box_in}
use Rattle.rbc_live.specs.contracts.desk.LiveDesk as row
use Rattle.rbc_live.specs.declared.desk.LiveDesk.{LiveDesk}
use Rattle.rbc_c.specs.DeskMemory.{chunk, live_at}
use Rattle.rbc_c.specs.contracts.desk_pointer.DeskPointer as slot
use Rattle.rbc_c.proofs.DeskPointers.{alone, which, slot_out}
use Rattle.rbc_c.specs.contracts.desk_pointer.DeskPointer.give.{ended, clauses}
use Rattle.rbc_c.specs.contracts.desk_pointer.DeskPointer.give.Key.{name as #self}
use Rattle.rbc_c.proofs.desk_pointer.DeskPointer.give.Statement.{statement}
use Rattle.rbc_c.proofs.desk_pointer.DeskPointer.give.Code as code

pub give_spec : {M : Type 1} → statement M
give_spec 𝓤 𝓛 𝓜 𝓡 wired =
    let H = 𝓛.H in let En = ended in let c = clauses 𝓛 𝓜.mem 𝓡.returns in let fn : Fn = code.function in let 𝓣 = tables 𝓤 H 𝓜 𝓡 𝓡.env in
    let R : RattleType = row.the_row in let Z : RattleType = heap.the_row in let LZ = heap_laws.the_row_laws in
    let hs : Stays En.signature.params En.kept = (stay_dropped (plain (λ _. slot.the_row)) yes, (stay_dropped (plain (λ _. Z)) yes, tt)) in
    proved_at 𝓛 En hs c 𝓜 𝓡 (Goes-blank 𝓛 0 (plain (λ _. slot.the_row)) yes (λ κs x f. tt), (Goes-blank 𝓛 0 (plain (λ _. Z)) yes (λ κs x f. tt), tt)) #self fn (code.unfolded 𝓤 H 𝓜 𝓡 wired) (λ z are.
    let Post : Val → SProp 𝓤 = (walk_of 𝓛 En hs c).post z in let Run : List Val → SProp 𝓤 = λ ws. WpFn 𝓤 H 𝓣.C 𝓣.Λ fn ws Post in
    let s = z.0.3.0 in let a = z.0.3.1.0 in
    qed 𝓛 ((raw (alive 𝓛 En.signature z.0.0 z.0.1) ⊛ ‵ (owns (types_at En.signature.params z.0.0) z.0.3 z.0.4)) ∷ raw (fact 𝓤 (IsSome s.live)) ∷ []) ∵ move ! (1 ∷ []) $ heard ! (IsSome s.live) (λ is. let inner : LiveDesk = (which s.live is).0 in let same : s.live ≡ Some inner = (which s.live is).1 in split ! $ move ! (1 ∷ []) $
    fsplit ! $ slot_out ! s z.0.4.0 (λ ws. rewrite ! 0 (λ (d : Option LiveDesk). ‵ (live_at s.at d)) same refl $
    in_a_block ! s.at (λ p. box_owns chunk R p inner) (fst∗ 𝓤 (never 𝓤) (sem 𝓛 (chunk (bare (lone R.mir)) null_ptr))) (λ b o e.
    move ! (1 ∷ []) $ fsplit ! $ handle_tells (al R Z LZ ghosts) ! a z.0.4.1.0 (λ h eh fits.
    -- [the handle; nothing; the memory; the tokens]
    move ! (1 ∷ []) $ drop ! $ move ! (1 ∷ 0 ∷ []) $
    let w : Val = alone (vptr b o) in let here : z.0.4.0 ≡ w ∷ [] = ws ∙ ap (λ (p : Ptr). alone (ptr_val p) ∷ []) e in
    suffices ! (Run (w ∷ h ∷ [])) (subst (λ (us : List Val). ent 𝓤 (Run (w ∷ h ∷ [])) (Run us)) (sym (λ i. here i ++ (eh i ++ []))) (id⊢ 𝓤 (Run (w ∷ h ∷ [])))) $
    enter ! 𝓣.C 𝓣.Λ fn (w ∷ h ∷ []) Post $ alloc_all ! (λ l. pass_all ! refl ((tt, (tt, tt)), (fits, tt)) $
    sets ! (of_opd ! (get_in ! (fld ! refl (stop !)) (sub ! 0 refl (whole !)))) refl (tt, tt) $ sets ! (of_opd ! (get ! refl)) refl (tt, tt) $
    sets ! (agg ! (and_then ! (get ! refl) (and_then ! (get ! refl) (no_more !)))) refl (raw_box_good R Z LZ ghosts b o h fits) $
    returns ! (look_at ! 0 refl) $ free_all ! refl $ raw_box_in R Z LZ ghosts ! b o h a inner $
    use0 𝓛 (raw (fact 𝓤 (s.live ≡ Some inner))) (fact_i 𝓤 (s.live ≡ Some inner) (emp 𝓤) same) $ nothing ! $ nothing ! $ fjoin ! $ nothing ! $ fjoin ! $ move ! (3 ∷ 0 ∷ 2 ∷ 1 ∷ []) $
    by ! (leaves 𝓛 En hs c z (both (vptr b o) h) (record { at = block_ptr b o; alloc = a; value = inner }) (tt, (tt, tt)) (tt, (tt, tt)))))))))
