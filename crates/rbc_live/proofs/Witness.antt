-- Worked lines, taken and not taken.
use Rattle.std.proofs.Common.{◌≡◌, List, [], ◌∷◌, None, refl, ap, ◌∙◌}
use Rattle.rbc_track.specs.Plan.{Plan}
use Rattle.rbc_maps.specs.Maps.{value_or}
use Rattle.rbc_records.specs.declared.record.Key.{Key}
use Rattle.rbc_records.specs.declared.record.Key.TheVariants as key
use Rattle.rbc_records.specs.declared.record.Rec.{Rec}
use Rattle.rbc_records.specs.Notes.{record_in}
use Rattle.rbc_rule.specs.declared.input.Input.{Input}
use Rattle.rbc_rule.specs.declared.input.Input.TheVariants.{Bad}
use Rattle.rbc_rule.specs.World.{new_world}
use Rattle.rbc_rule.specs.Records.{record_of}
use Rattle.rbc_rule.specs.Right.{messages_to}
use Rattle.rbc_rule.specs.Step.{step}
use Rattle.rbc_text.specs.Held.{AreRecordsOf}
use Rattle.rbc_live.specs.History.{AreSame, IsStepOf, IsFed, IsHistory, IsSerialRunOf}
use Rattle.rbc_live.specs.Witnesses.{refused, accepted, sending, engines_there}
use Rattle.rbc_live.proofs.Runs.{no_records, each_history_is_serial}
use Rattle.rbc_live.proofs.Steps.{same_world}

module _ (plan : Plan) where
  -- a line that is no input leaves what there was
  leaves : IsStepOf plan (Bad 1) [] [] refused.reply refused.messages
  leaves w are = (are, refl, λ engine. refl)

  fed : IsFed plan refused.line [] [] refused.reply refused.messages
  fed = (Bad 1, refl, leaves)

  pub is_taken : IsHistory plan [] (refused ∷ []) []
  is_taken = ([], [], (λ k. refl), fed, λ k. refl)

  pub is_taken_twice : IsHistory plan [] (refused ∷ refused ∷ []) []
  is_taken_twice = ([], [], (λ k. refl), fed, is_taken)

  pub is_serial : IsSerialRunOf plan (refused ∷ []) []
  is_serial = each_history_is_serial plan (refused ∷ []) [] is_taken

  -- the world before the first line
  first : (before : List (Key × Rec)) → AreSame [] before → AreRecordsOf plan (record_in before) new_world
  first before same = same_world plan [] before new_world same (no_records plan)

  pub not_accepted : IsHistory plan [] (accepted ∷ []) [] → ⊥
  not_accepted (before, after, same, (input, is, one), rest) =
      let replied = (one new_world (first before same)).1 in
      let wrong : accepted.reply ≡ refused.reply = replied ∙ ap (λ (i : Input). (step plan new_world i).reply) is in cc

  pub not_sending : IsHistory plan [] (sending ∷ []) [] → ⊥
  not_sending (before, after, same, (input, is, one), rest) =
      let sent = (one new_world (first before same)).2 7 in
      let wrong : messages_to 7 sending.messages ≡ [] = sent ∙ ap (λ (i : Input). value_or [] (step plan new_world i).sent 7) is in cc

  pub not_left : IsHistory plan [] (refused ∷ []) engines_there → ⊥
  not_left (before, after, same, (input, is, one), rest) =
      let world = (one new_world (first before same)).0 in
      let none : record_in after key.Roster ≡ None = world.same key.Roster ∙ ap (λ (i : Input). record_of (step plan new_world i).world key.Roster) is in
      let wrong : record_in engines_there key.Roster ≡ None = rest key.Roster ∙ none in cc

  pub not_from_nothing : IsHistory plan [] [] engines_there → ⊥
  not_from_nothing same = let wrong : record_in engines_there key.Roster ≡ None = same key.Roster in cc
