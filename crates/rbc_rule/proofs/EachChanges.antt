-- Each write changes what stands under its key.
use Rattle.std.proofs.Common.{◌≡◌, ◌⊎◌, inl, inr, ℕ, Bool, true, false, cond, [], ◌∷◌, Option, Some, None, option_map, refl, sym, ap, subst, ◌∙◌}
use Rattle.std.specs.List.{All}
use Rattle.std.proofs.lemmas.List.Elements.{All-nil, All-cons, All-append}
use Rattle.ertms_codec.specs.declared.from_train.FromTrain.{FromTrain}
use Rattle.rbc_track.specs.Plan.{Plan}
use Rattle.rbc_place.specs.Placing.{Place}
use Rattle.std.specs.Option.{option_map_or}
use Rattle.rbc_maps.specs.Maps.{has, value_of, keys, IsMap}
use Rattle.rbc_maps.proofs.MapValues.{value_of-absent}
use Rattle.rbc_settle.specs.declared.train.TrainRec.{TrainRec}
use Rattle.rbc_settle.specs.Numbers.{has_number, with_number, without_number}
use Rattle.rbc_settle.specs.Trains.{new_train}
use Rattle.rbc_settle.specs.Settling.{settled}
use Rattle.rbc_settle.proofs.Concerned.{not_none}
use Rattle.rbc_records.specs.declared.record.Key.{Key}
use Rattle.rbc_records.specs.declared.record.Key.TheVariants as key
use Rattle.rbc_records.specs.declared.record.Rec.{Rec}
use Rattle.rbc_records.specs.declared.record.Rec.TheVariants as rec
use Rattle.rbc_records.specs.Notes.{Notes, same_key}
use Rattle.rbc_records.proofs.Keys.{same_key_own}
use Rattle.rbc_rule.specs.declared.input.Input.{Input}
use Rattle.rbc_rule.specs.declared.input.Input.TheVariants.{Enrol, Withdraw, Received}
use Rattle.rbc_rule.specs.declared.outcome.Outcome.{Outcome}
use Rattle.rbc_rule.specs.World.{World}
use Rattle.rbc_rule.specs.Effect.{engine_of}
use Rattle.rbc_rule.specs.Records.{engines_record, list_of}
use Rattle.rbc_rule.specs.declared.outcome.Reply.TheVariants.{Refused}
use Rattle.rbc_rule.specs.Right.{IsChange, IsOfSender, EachWriteChanges}
use Rattle.rbc_rule.specs.Lists.{engines_at, is_list, moves}
use Rattle.rbc_rule.specs.Gathered.{enrolled_outcome, withdrawn_outcome, heard_outcome}
use Rattle.rbc_rule.proofs.WorldMaps.{has_keys, has_value}
use Rattle.rbc_rule.proofs.Engines.{list_record, line_has, unplaced_has, stands_in}
use Rattle.rbc_rule.proofs.Differs.{record_with_differs, record_without_differs}

-- a list of a line, or of the trains without a place
is_train_list : (train : TrainRec) → is_list (list_of train) ≡ true
is_train_list train = elim train.place as (λ place. is_list (option_map_or (λ p. key.Line p.line) place key.Unplaced) ≡ true) [ None ↦ refl | Some place ↦ refl ]

-- a list with one engine more or less is another
with_changes : (w : World) (engine : ℕ) (list : Key) → is_list list ≡ true → IsChange w (list, engines_record (with_number engine (engines_at w list)))
with_changes w engine list is same = record_with_differs engine (engines_at w list) (sym (sym (list_record w list is) ∙ same))

without_changes : (w : World) (engine : ℕ) (list : Key) → is_list list ≡ true → has_number (engines_at w list) engine ≡ true → IsChange w (list, engines_record (without_number engine (engines_at w list)))
without_changes w engine list is there same = record_without_differs engine (engines_at w list) there (sym (sym (list_record w list is) ∙ same))

-- a train stands in its list
stands_there : (w : World) (engine : ℕ) (train : TrainRec) → IsMap w.trains → value_of w.trains engine ≡ Some train → has_number (engines_at w (list_of train)) engine ≡ true
stands_there w engine train rises found = by train.place refl
  where
    by : (place : Option Place) → train.place ≡ place → has_number (engines_at w (list_of train)) engine ≡ true
    by None is =
        let list : list_of train ≡ key.Unplaced = ap (λ p. option_map_or (λ (place : Place). key.Line place.line) p key.Unplaced) is in
        ap (λ k. has_number (engines_at w k) engine) list ∙ unplaced_has w rises engine ∙ ap (λ o. option_map_or (stands_in key.Unplaced) o false) found ∙ ap (same_key key.Unplaced) list
    by (Some place) is =
        let list : list_of train ≡ key.Line place.line = ap (λ p. option_map_or (λ (place : Place). key.Line place.line) p key.Unplaced) is in
        ap (λ k. has_number (engines_at w k) engine) list ∙ line_has w place.line rises engine ∙ ap (λ o. option_map_or (stands_in (key.Line place.line)) o false) found
        ∙ ap (same_key (key.Line place.line)) list ∙ same_key_own (key.Line place.line)

-- ---- one train

pub one_of : {X : Type 0} (P : X → Type 0) (a : X) → P a → All P (a ∷ [])
one_of P a p = All-cons P a [] p (All-nil P)

two_of : {X : Type 0} (P : X → Type 0) (a b : X) → P a → P b → All P (a ∷ b ∷ [])
two_of P a b p q = All-cons P a (b ∷ []) p (one_of P b q)

three_of : {X : Type 0} (P : X → Type 0) (a b c : X) → P a → P b → P c → All P (a ∷ b ∷ c ∷ [])
three_of P a b c p q r = All-cons P a (b ∷ c ∷ []) p (two_of P b c q r)

-- a write that changes, or of the train that sent the message
abbrev IsFit : World → Input → Key × Option Rec → Type 0
IsFit w input write = IsChange w write ⊎ IsOfSender input write.0

module _ (plan : Plan) (w : World) (engine : ℕ) where
  pub enrol_changes : (train_length : ℕ) → has w.trains engine ≡ false → (outcome : Outcome)
      → outcome ≡ enrolled_outcome plan w.stops w.limits engine train_length (keys w.trains) (engines_at w key.Unplaced)
      → All (λ write. IsChange w write ⊎ IsOfSender (Enrol engine train_length) write.0) outcome.writes
  enrol_changes train_length new outcome is =
      let input : Input = Enrol engine train_length in
      let after : TrainRec = settled plan w.stops w.limits (new_train engine train_length 0) in
      let roster : Key × Option Rec = (key.Roster, engines_record (with_number engine (keys w.trains))) in
      let train : Key × Option Rec = (key.Train engine, Some (rec.Train after)) in
      let unplaced : Key × Option Rec = (key.Unplaced, engines_record (with_number engine (engines_at w key.Unplaced))) in
      let in_roster : IsChange w roster = λ same. record_with_differs engine (keys w.trains) (sym same) in
      let in_train : IsChange w train = λ same. not_none (rec.Train after) (sym same ∙ ap (option_map rec.Train) (value_of-absent engine w.trains new)) in
      let in_unplaced : IsChange w unplaced = with_changes w engine key.Unplaced refl in
      subst (λ (o : Outcome). All (IsFit w input) o.writes) (sym is)
      (three_of (IsFit w input) roster train unplaced (inl in_roster) (inl in_train) (inl in_unplaced))

  pub withdraw_changes : (train : TrainRec) → IsMap w.trains → value_of w.trains engine ≡ Some train → (outcome : Outcome)
      → outcome ≡ withdrawn_outcome engine (keys w.trains) (list_of train) (engines_at w (list_of train))
      → All (λ write. IsChange w write ⊎ IsOfSender (Withdraw engine) write.0) outcome.writes
  withdraw_changes train rises found outcome is =
      let input : Input = Withdraw engine in
      let roster : Key × Option Rec = (key.Roster, engines_record (without_number engine (keys w.trains))) in
      let gone : Key × Option Rec = (key.Train engine, None) in
      let list : Key × Option Rec = (list_of train, engines_record (without_number engine (engines_at w (list_of train)))) in
      let in_roster : IsChange w roster = λ same. record_without_differs engine (keys w.trains) (has_keys w.trains engine ∙ has_value w.trains engine train found) (sym same) in
      let in_train : IsChange w gone = λ same. not_none (rec.Train train) (sym (ap (option_map rec.Train) found) ∙ same) in
      let in_list : IsChange w list = without_changes w engine (list_of train) (is_train_list train) (stands_there w engine train rises found) in
      subst (λ (o : Outcome). All (IsFit w input) o.writes) (sym is)
      (three_of (IsFit w input) roster gone list (inl in_roster) (inl in_train) (inl in_list))

module _ (plan : Plan) (message : FromTrain) (w : World) (old train : TrainRec) (rises : IsMap w.trains) (found : Some old ≡ value_of w.trains (engine_of message)) where
  abbrev left : Key × Option Rec
  left = (list_of old, engines_record (without_number (engine_of message) (engines_at w (list_of old))))

  abbrev entered : Key × Option Rec
  entered = (list_of train, engines_record (with_number (engine_of message) (engines_at w (list_of train))))

  moves_change : (b : Bool) → All (IsFit w (Received message)) (cond b [] (left ∷ entered ∷ []))
  moves_change true = All-nil (IsFit w (Received message))
  moves_change false =
      two_of (IsFit w (Received message)) left entered
      (inl (without_changes w (engine_of message) (list_of old) (is_train_list old) (stands_there w (engine_of message) old rises (sym found))))
      (inl (with_changes w (engine_of message) (list_of train) (is_train_list train)))

  pub heard_changes : (outcome : Outcome)
      → outcome ≡ heard_outcome plan w.stops w.limits (engine_of message) train (moves w (engine_of message) (list_of old) (list_of train))
      → All (λ write. IsChange w write ⊎ IsOfSender (Received message) write.0) outcome.writes
  heard_changes outcome is =
      let own : Key × Option Rec = (key.Train (engine_of message), Some (rec.Train (settled plan w.stops w.limits train))) in
      subst (λ (o : Outcome). All (IsFit w (Received message)) o.writes) (sym is)
      (All-append (IsFit w (Received message)) (moves w (engine_of message) (list_of old) (list_of train)) (own ∷ []) (moves_change (same_key (list_of old) (list_of train)))
      (one_of (IsFit w (Received message)) own (inr refl)))

-- an input that is refused writes nothing
pub refused_changes : (plan : Plan) (input : Input) (notes : Notes) (code : ℕ) (outcome : Outcome) → outcome ≡ record { result = Refused code; writes = []; messages = [] } → EachWriteChanges plan input notes outcome.writes
refused_changes plan input notes code outcome is w m = subst (λ (o : Outcome). All (λ write. IsChange w write ⊎ IsOfSender input write.0) o.writes) (sym is) (All-nil (λ write. IsChange w write ⊎ IsOfSender input write.0))
