-- What settling one train gathers.
use Rattle.std.proofs.Common.{◌≡◌, ℕ, suc, ◌≤◌, ◌&&◌, Bool, true, false, not, cond, eqb, List, [], ◌∷◌, ◌++◌, length, Option, Some, None, IfSome, subst, append-nil, refl, sym, ap, ◌∙◌}
use Rattle.std.specs.List.{fold, scan}
use Rattle.std.specs.Option.{IfNone}
use Rattle.std.proofs.lemmas.Bool.{or_parts, and_from, and_right}
use Rattle.ertms_codec.specs.declared.to_train.ToTrain.{ToTrain}
use Rattle.rbc_track.specs.Plan.{Plan}
use Rattle.rbc_maps.specs.Numbered.{AreNumbered}
use Rattle.rbc_settle.specs.declared.train.TrainRec.{TrainRec}
use Rattle.rbc_settle.specs.declared.sent.Sent.{Sent}
use Rattle.rbc_settle.specs.declared.single_change.Change.{Change}
use Rattle.rbc_settle.specs.Actions.{Action}
use Rattle.rbc_settle.specs.Numbers.{has_number, without_number}
use Rattle.rbc_settle.specs.Settling.{Stops, Limits, actions_with_stamp, carried_out, message_of, to_engine}
use Rattle.rbc_settle.specs.SingleChange.{actions_for}
use Rattle.rbc_settle.specs.UpToDate.{HasTables}
use Rattle.rbc_records.specs.declared.record.Key.{Key}
use Rattle.rbc_records.specs.declared.record.Key.TheVariants as key
use Rattle.rbc_records.specs.declared.record.Rec.{Rec}
use Rattle.rbc_records.specs.declared.record.Rec.TheVariants as rec
use Rattle.rbc_rule.specs.declared.outcome.Outcome.{Outcome}
use Rattle.rbc_rule.specs.declared.outcome.Reply.TheVariants.{Done}
use Rattle.rbc_rule.specs.World.{World}
use Rattle.rbc_rule.specs.Gathered.{forgotten, is_forced_by, is_same, write_of, sent_of, is_same_by, write_by, sent_by}
use Rattle.rbc_rule.specs.Touching.{HasChanged, released_by}
use Rattle.rbc_rule.proofs.OneAction.{one_action}
use Rattle.rbc_rule.proofs.AllTrains.{forgotten_same, one_or_more}

length-to_engine : (engine : ℕ) (messages : List ToTrain) → length (to_engine engine messages) ≡ length messages
length-to_engine engine [] = refl
length-to_engine engine (message ∷ messages) = ap suc (length-to_engine engine messages)

-- the outcome of messages to one engine
pub done_is : (engine : ℕ) (messages : List ToTrain) (sent : List Sent) (found writes : List (Key × Option Rec)) (outcome : Outcome)
    → outcome ≡ record { result = Done (length sent); writes = found; messages = sent } → found ≡ writes → sent ≡ to_engine engine messages
    → outcome ≡ record { result = Done (length messages); writes = writes; messages = to_engine engine messages }
done_is engine messages sent found writes outcome made same is =
    let count : length sent ≡ length messages = ap length is ∙ length-to_engine engine messages in
    made ∙ (λ i. record { result = Done (count i); writes = same i; messages = is i })

without-absent : (n : ℕ) (numbers : List ℕ) → has_number numbers n ≡ false → without_number n numbers ≡ numbers
without-absent n [] absent = refl
without-absent n (first ∷ rest) absent =
    let parts = or_parts (eqb first n) (has_number rest n) absent in
    ap (λ b. cond (not b) (first ∷ without_number n rest) (without_number n rest)) parts.0 ∙ ap (λ (ns : List ℕ). first ∷ ns) (without-absent n rest parts.1)

module _ (plan : Plan) (changed : Change) (train : TrainRec) where
  abbrev record_after : TrainRec → List (Key × Option Rec)
  record_after after = (key.Train train.engine, Some (rec.Train after)) ∷ []

  -- the train as it is settled
  abbrev start : TrainRec
  start = forgotten (released_by changed) train

  module _ (unforced : is_forced_by (released_by changed) train ≡ false) where
    same_start : start ≡ train
    same_start = forgotten_same (released_by changed) train unforced

    -- a train that changes is written
    pub changed_written : (found : Option TrainRec) (after : TrainRec) → found ≡ Some after
        → IfSome found (λ _. 1 ≤ length (actions_for plan changed train)) → IfSome found (λ t. t ≡ fold carried_out train (actions_for plan changed train))
        → record_after after ≡ write_by plan changed train
    changed_written found after is acts same =
        let some : 1 ≤ length (actions_for plan changed train) = subst (λ (o : Option TrainRec). IfSome o (λ _. 1 ≤ length (actions_for plan changed train))) is acts in
        let end : after ≡ fold carried_out train (actions_for plan changed train) = subst (λ (o : Option TrainRec). IfSome o (λ t. t ≡ fold carried_out train (actions_for plan changed train))) is same in
        let differs : is_same_by plan changed train ≡ false = and_right (not (is_forced_by (released_by changed) train)) (eqb (length (actions_for plan changed train)) 0) (one_or_more (length (actions_for plan changed train)) some) in
        ap record_after (end ∙ ap (λ (t : TrainRec). fold carried_out t (actions_for plan changed t)) (sym same_start))
        ∙ sym (ap (λ b. cond b [] (record_after (fold carried_out start (actions_for plan changed start)))) differs)

    -- a train that stays the same is not
    pub same_not_written : (found : Option TrainRec) (old : List (Key × Option Rec)) → found ≡ None
        → IfNone found (actions_for plan changed train ≡ []) → old ≡ old ++ write_by plan changed train
    same_not_written found old is same =
        let none : actions_for plan changed train ≡ [] = subst (λ (o : Option TrainRec). IfNone o (actions_for plan changed train ≡ [])) is same in
        let stays : is_same_by plan changed train ≡ true = and_from (not (is_forced_by (released_by changed) train)) (eqb (length (actions_for plan changed train)) 0) (ap not unforced) (ap (λ (acts : List Action). eqb (length acts) 0) none) in
        sym (append-nil old) ∙ sym (ap (λ b. old ++ cond b [] (record_after (fold carried_out start (actions_for plan changed start)))) stays)

    pub sent_as_it_is : to_engine train.engine (scan carried_out message_of train (actions_for plan changed train)) ≡ sent_by plan changed train
    sent_as_it_is = ap (λ (t : TrainRec). to_engine train.engine (scan carried_out message_of t (actions_for plan changed t))) (sym same_start)

  -- a train that stopped at once for the stop that ends is written
  pub forced_written : is_forced_by (released_by changed) train ≡ true → record_after (fold carried_out start (actions_for plan changed start)) ≡ write_by plan changed train
  forced_written forced = sym (ap (λ b. cond (not b && eqb (length (actions_for plan changed train)) 0) [] (record_after (fold carried_out start (actions_for plan changed start)))) forced)

  -- what one change does is what settling does, where the train was settled before
  module _ (w : World) (stops : Stops) (limits : Limits) (h : AreNumbered w.stops) (k : AreNumbered w.limits) (tables : HasTables train) (settled_before : actions_with_stamp plan w.stops w.limits train ≡ []) (is : HasChanged changed w stops limits) where
    same_actions : actions_with_stamp plan stops limits start ≡ actions_for plan changed start
    same_actions = one_action plan changed w stops limits train h k tables settled_before is

    same_flag : (forced : Bool) → is_forced_by (released_by changed) train ≡ forced → is_same_by plan changed train ≡ is_same plan stops limits (released_by changed) train
    same_flag true e = ap (λ b. not b && eqb (length (actions_for plan changed train)) 0) e ∙ sym (ap (λ b. not b && eqb (length (actions_with_stamp plan stops limits train)) 0) e)
    same_flag false e =
        let same = forgotten_same (released_by changed) train e in
        ap (λ (acts : List Action). not (is_forced_by (released_by changed) train) && eqb (length acts) 0)
        (ap (λ (t : TrainRec). actions_for plan changed t) (sym same) ∙ sym same_actions ∙ ap (λ (t : TrainRec). actions_with_stamp plan stops limits t) same)

    pub write_is : write_by plan changed train ≡ write_of plan stops limits (released_by changed) train
    write_is =
        let flag = same_flag (is_forced_by (released_by changed) train) refl in
        let acts = same_actions in
        λ i. cond (flag i) [] (record_after (fold carried_out start (sym acts i)))

    pub sent_is_of : sent_by plan changed train ≡ sent_of plan stops limits (released_by changed) train
    sent_is_of = ap (λ (acts : List Action). to_engine train.engine (scan carried_out message_of start acts)) (sym same_actions)
