-- A `DeskPointer` by value: its one machine value, and what it owns. Assumes `Logic`.
use Rattle.std.proofs.Common.{◌≡◌, List, [], ◌∷◌, ◌++◌, refl, sym, subst, Option, Some, None, IsSome}
use lib.Dec.{T}
use seplogic.Ra.Ura.{Ura}
use mir.Val.{Val, vstruct, vcons, vnil, of_list}
use types.Logic.{Logic}
use types.Kit.{Item, Goal, Seq, Step, step, ‵, ◌$◌, drop, fsplit, fjoin, fpick, fpack, feq_i, feq_l}
use denote.RattleType.{Valss}
use denote.Builtin.{RawPtr}
use denote.RawPtr.{Ptr, ptr_val}
use denote.Steps.{nothing}
use denote.Struct.Struct.{within}
use denote.Struct.Owning.{shape}
use Rattle.rbc_live.specs.declared.desk.LiveDesk.{LiveDesk}
use Rattle.rbc_c.specs.DeskMemory.{live_at}
use Rattle.rbc_c.specs.contracts.desk_pointer.DeskPointer as slot

abbrev pub alone : Val → Val
alone v = vstruct (vcons v vnil)

-- the desk that is there
pub which : (d : Option LiveDesk) → IsSome d → (x : LiveDesk) × (d ≡ Some x)
which (Some x) t = (x, refl)
which None t = absurd (subst T (sym t) tt)

module _ {M : Type 1} {𝓤 : Ura M} {𝓛 : Logic 𝓤} {K : Type 0} {Γ : List (Item 𝓤)} {G : Goal 𝓤 𝓛.H} where
  pub slot_in : K → (p : Ptr) (d : Option LiveDesk)
      → Step K 𝓛 (‵ ((slot.the_row).own_val (record { at = p; live = d }) (alone (ptr_val p) ∷ [])) ∷ Γ) G (‵ (live_at p d) ∷ Γ) G
  slot_in t p d = step (λ s. let v : Val = alone (ptr_val p) in
      nothing t $ feq_i t (List Val) (ptr_val p ∷ []) (ptr_val p ∷ []) refl $ fjoin t $ feq_i t (List Val) (v ∷ []) (v ∷ []) refl $ fjoin t $
      fpack t (Valss (RawPtr ∷ [])) (within (shape slot.the_type) (p, tt) (v ∷ [])) (ptr_val p ∷ [], tt) $ fjoin t $ s)

  pub slot_out : K → (s : (slot.the_row).Denot) (vs : List Val)
      → (vs ≡ alone (ptr_val s.at) ∷ [] → Seq K 𝓛 (‵ (live_at s.at s.live) ∷ Γ) G) → Seq K 𝓛 (‵ ((slot.the_row).own_val s vs) ∷ Γ) G
  slot_out t s vs k =
      fsplit t $ fpick t (λ vss. fsplit t $ feq_l t (λ ev. fsplit t $ feq_l t (λ ep. drop t $
      k (subst (λ (ps : List Val). vs ≡ vstruct (of_list (ps ++ [])) ∷ []) ep ev))))
