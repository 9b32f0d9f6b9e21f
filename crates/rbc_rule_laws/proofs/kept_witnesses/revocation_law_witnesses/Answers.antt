use Rattle.std.proofs.Common.{◌≡◌, ℕ, ◌<◌, Bool, true, false, [], ◌∷◌, Some, None, inl, inr, refl, sym, ap, ◌∙◌, subst, arith}
use Rattle.std.proofs.lemmas.List.Elements.{All-nil, All-cons, All-head}
use Rattle.std.proofs.lemmas.Option.{same_Some}
use Rattle.ertms_codec.specs.declared.packets.Part.{Part as Packet}
use Rattle.ertms_codec.specs.declared.packets.Part.TheVariants as packet
use Rattle.rbc_maps.specs.Maps.{value_of}
use Rattle.rbc_ids.specs.declared.slot.Slot.TheVariants.{Used, Revoking}
use Rattle.rbc_ids.specs.declared.slot.UsedSlot.{UsedSlot}
use Rattle.rbc_ids.specs.declared.slot.Kind.{Kind}
use Rattle.rbc_ids.specs.declared.slot.Kind.TheVariants.{Conditional, Unconditional, Restriction}
use Rattle.rbc_zones.specs.Limits.{is_clear}
use Rattle.rbc_rule.specs.Saying.{both_ways}
use Rattle.rbc_rule.specs.Told.{IsLeftUnanswered, MayRevokeLimit, PacketRevokesRightly}
use Rattle.rbc_rule_laws.specs.Witnesses.{facing_up, on_line_0, train_7, stop_1, restriction_1, limit_80, slot_of, MayRevokeActive}
use Rattle.rbc_rule_laws.proofs.WitnessSays.{differ}
use Rattle.rbc_rule_laws.proofs.kept_witnesses.revocation_law_witnesses.Goals as goal

-- the number 1 in use, told in such a way
abbrev used_as : Kind → Bool → ℕ → UsedSlot
used_as kind acked reports = record { number = 1; stamp = 1001; kind = kind; acked = acked; count = reports }

pub returns-clause-released : goal.returns-clause-released
returns-clause-released c = record { used = used_as Conditional true 0; held = refl; why = inl refl }

pub returns-clause-left_unanswered : goal.returns-clause-left_unanswered
returns-clause-left_unanswered c = record { used = used_as Conditional false 3; held = refl; why = inr (record { conditional = refl; unanswered = refl; three_reports = refl }, omega arith) }

pub returns-clause-behind : goal.returns-clause-behind
returns-clause-behind c =
    let train = record (train_7 (Some facing_up) 1001 []) { limits = (0, slot_of Restriction true 0) ∷ [] } in
    let P : Packet → Type 0 = PacketRevokesRightly (restriction_1 (on_line_0 1000 9000)) train in
    All-cons P (packet.Lift both_ways 0) []
    (record { used = used_as Restriction true 0; held = refl; why = inr (record { limit = limit_80 (on_line_0 1000 9000); active = refl; p = facing_up; placed = refl; clear = refl }) })
    (All-nil P)

-- a number that is active is not absent
there : {A : Type 0} (x : A) → Some x ≡ None → ⊥
there x is = cc

module _ (kind : Kind) (acked : Bool) (reports : ℕ) where
  -- what holds where the active stop may be revoked all the same
  unanswered_then : MayRevokeActive ((0, slot_of kind acked reports) ∷ []) → IsLeftUnanswered (used_as kind acked reports)
  unanswered_then h =
      let slot : Used (used_as kind acked reports) ≡ Used h.used = same_Some _ _ h.held in
      let same : used_as kind acked reports ≡ h.used = cc in
      elim h.why [
        | inl none ↦ absurd (there _ (ap (λ (u : UsedSlot). value_of (stop_1 (on_line_0 20000 21000)).active u.number) same ∙ none))
        | inr both ↦ subst (λ (u : UsedSlot). IsLeftUnanswered u) (sym same) both.0
      ]

pub returns-clause-too_soon : goal.returns-clause-too_soon
returns-clause-too_soon c h = differ 2 3 refl (unanswered_then Conditional false 2 h).three_reports

pub returns-clause-answered : goal.returns-clause-answered
returns-clause-answered c h = let bad : true ≡ false = (unanswered_then Conditional true 3 h).unanswered in absurd (cc bad)

pub returns-clause-told_at_once : goal.returns-clause-told_at_once
returns-clause-told_at_once c h = let bad : Unconditional ≡ Conditional = (unanswered_then Unconditional false 3 h).conditional in absurd (cc bad)

pub returns-clause-none_to_spare : goal.returns-clause-none_to_spare
returns-clause-none_to_spare c h =
    let slot : Used (used_as Conditional false 3) ≡ Used h.used = same_Some _ _ h.held in
    let same : used_as Conditional false 3 ≡ h.used = cc in
    elim h.why [
      | inl none ↦ absurd (there _ (ap (λ (u : UsedSlot). value_of (stop_1 (on_line_0 20000 21000)).active u.number) same ∙ none))
      | inr both ↦ let spare : 0 < 0 = both.1 in absurd (omega (arith, spare))
    ]

pub returns-clause-not_held : goal.returns-clause-not_held
returns-clause-not_held c h = there (Used h.used) (sym h.held)

pub returns-clause-revoked_already : goal.returns-clause-revoked_already
returns-clause-revoked_already c h = let bad : Revoking 1001 ≡ Used h.used = same_Some _ _ h.held in absurd (cc bad)

pub returns-clause-not_behind : goal.returns-clause-not_behind
returns-clause-not_behind c h =
    let limits = restriction_1 (on_line_0 11050 12050) in
    let train = record (train_7 (Some facing_up) 1001 []) { limits = (0, slot_of Restriction true 0) ∷ [] } in
    let P : Packet → Type 0 = PacketRevokesRightly limits train in
    let may : MayRevokeLimit limits train 0 = All-head P (packet.Lift both_ways 0) [] h in
    let slot : Used (used_as Restriction true 0) ≡ Used may.used = same_Some _ _ may.held in
    let same : used_as Restriction true 0 ≡ may.used = cc in
    elim may.why [
      | inl none ↦ absurd (there _ (ap (λ (u : UsedSlot). value_of limits.active u.number) same ∙ none))
      | inr clear ↦
          let limit : limit_80 (on_line_0 11050 12050) ≡ clear.limit = same_Some _ _ (ap (λ (u : UsedSlot). value_of limits.active u.number) same ∙ clear.active) in
          let place : facing_up ≡ clear.p = same_Some _ _ clear.placed in
          let bad : false ≡ true = (λ i. is_clear (limit i) (place i)) ∙ clear.clear in
          absurd (cc bad)
    ]
