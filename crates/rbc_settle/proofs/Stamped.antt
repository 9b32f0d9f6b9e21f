-- The changes for which stamps are left.
use Rattle.std.proofs.Common.{◌≡◌, ℕ, ◌+◌, ◌-◌, ◌*◌, List, ◌++◌, length, map, take, sym, ap, ◌∙◌, arith, inl, inr}
use Rattle.std.proofs.lemmas.Bool.{cases_lt}
use Rattle.std.proofs.lemmas.List.{take-map, length-map, length-take-le, take_all, take-append-le, append-nil}
use Rattle.std.proofs.Math.Seq.{take-append-add}
use Rattle.rbc_settle.specs.declared.change.StopChange.{StopChange}
use Rattle.rbc_settle.specs.declared.change.LimitChange.{LimitChange}
use Rattle.rbc_settle.specs.Actions.{Action, ChangesStop, ChangesLimits, groups}
use Rattle.rbc_settle.specs.Settling.{in_messages}
use Rattle.rbc_settle.proofs.Groups.{take-groups}

-- as many messages as there are stamps: first those of stops, and of what is left those of restrictions
pub first_messages : (room : ℕ) (stops : List StopChange) (limits : List LimitChange)
    → in_messages (take room stops) (take ((room - length (take room stops)) * 100) limits) ≡ take room (in_messages stops limits)
first_messages room stops limits = elim (cases_lt room (length stops)) [
  | inl fewer ↦
      let counted : length (map ChangesStop stops) ≡ length stops = length-map stops ChangesStop in
      let taken : length (take room stops) ≡ room = length-take-le room stops (omega (arith, fewer)) in
      let none : (room - length (take room stops)) * 100 ≡ 0 = omega (arith, taken) in
      ap (λ n. in_messages (take room stops) (take n limits)) none
      ∙ append-nil (map ChangesStop (take room stops))
      ∙ sym (take-map ChangesStop room stops)
      ∙ sym (take-append-le room (map ChangesStop stops) (map ChangesLimits (groups limits)) (omega (arith, fewer, counted)))
  | inr enough ↦
      let counted : length (map ChangesStop stops) ≡ length stops = length-map stops ChangesStop in
      let left = room - length stops in
      let whole : take room stops ≡ stops = take_all room stops enough in
      let parts : room ≡ length (map ChangesStop stops) + left = omega (arith, counted, enough) in
      ap (λ (some : List StopChange). in_messages some (take ((room - length some) * 100) limits)) whole
      ∙ ap (λ (gs : List (List LimitChange)). map ChangesStop stops ++ map ChangesLimits gs) (take-groups left limits)
      ∙ ap (λ (acts : List Action). map ChangesStop stops ++ acts) (sym (take-map ChangesLimits left (groups limits)))
      ∙ sym (take-append-add (map ChangesStop stops) (map ChangesLimits (groups limits)) left)
      ∙ ap (λ n. take n (map ChangesStop stops ++ map ChangesLimits (groups limits))) (sym parts)
]

pub with_stamps : (room : ℕ) (stops first : List StopChange) (limits then : List LimitChange) → first ≡ take room stops → then ≡ take ((room - length (take room stops)) * 100) limits
    → in_messages first then ≡ take room (in_messages stops limits)
with_stamps room stops first limits then is_first is_then = (λ i. in_messages (is_first i) (is_then i)) ∙ first_messages room stops limits

-- a list of two parts, one behind the other, is cut
pub cut_of_both : {A : Type 0} (n room : ℕ) (one other first then both cut : List A) → one ≡ first → other ≡ then → both ≡ one ++ other → cut ≡ take n both → n ≡ room
    → cut ≡ take room (first ++ then)
cut_of_both n room one other first then both cut one_is other_is both_is cut_is n_is =
    cut_is ∙ ap (take n) (both_is ∙ (λ i. one_is i ++ other_is i)) ∙ ap (λ k. take k (first ++ then)) n_is
