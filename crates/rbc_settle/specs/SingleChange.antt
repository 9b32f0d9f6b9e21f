-- What one stop or restriction that begins or ends changes at a train that was settled before: its settling is at most one action (own rule).
use Rattle.std.specs.Prelude.{◌≡◌, ◌+◌, ◌-◌, ◌≤◌, List, [], ◌∷◌, ◌++◌, length, take, Option, Some, None, option_map, Result, IfOk, OnOk, OnErr, IfSome, IfNone}
use Rattle.std.specs.List.{All, fold, scan, cons_option}
use Rattle.std.specs.declared.alloc.AllocError.{AllocError}
use Rattle.ertms_codec.specs.ToTrain.{Fits}
use Rattle.rbc_track.specs.Plan.{Plan}
use Rattle.rbc_ids.specs.Table.{least_free, identifier_of}
use Rattle.rbc_settle.specs.declared.train.TrainRec.{TrainRec}
use Rattle.rbc_settle.specs.declared.change.StopChange.TheVariants as stop_change
use Rattle.rbc_settle.specs.declared.change.LimitChange.{LimitChange}
use Rattle.rbc_settle.specs.declared.change.LimitChange.TheVariants as limit_change
use Rattle.rbc_settle.specs.declared.single_change.Change.{Change}
use Rattle.rbc_settle.specs.declared.single_change.Change.TheVariants as change
use Rattle.rbc_settle.specs.declared.sent.Sent.{Sent}
use Rattle.rbc_settle.specs.Actions.{Action, ChangesStop, ChangesLimits}
use Rattle.rbc_settle.specs.Trains.{stop_identifiers, limit_identifiers}
use Rattle.rbc_settle.specs.Settling.{last_stamp, stop_to_tell, limit_to_tell, tell_stop, tell_limit, carried_out, message_of, to_engine}

-- both, if there are both
abbrev pub both_of : {A B : Type 0} → Option A → Option B → Option (A × B)
both_of (Some a) (Some b) = Some (a, b)
both_of (Some a) None = None
both_of None b = None

-- a change to the restrictions, in a message of its own
abbrev pub in_one_packet : LimitChange → Action
in_one_packet changed = ChangesLimits (changed ∷ [])

-- the action by which what begins is told, if it has to be told and an identifier is free, and by which what ends is revoked, if it is told
abbrev pub action_for : Plan → Change → TrainRec → Option Action
action_for plan (change.Stop number (Some area)) train =
    option_map ChangesStop (option_map tell_stop (both_of (stop_to_tell train (number, area.now)) (least_free stop_identifiers train.stops)))
action_for plan (change.Stop number None) train = option_map ChangesStop (option_map (λ id. stop_change.Revoke id None) (identifier_of train.stops number))
action_for plan (change.Limit number (Some limit)) train =
    option_map in_one_packet (option_map tell_limit (both_of (limit_to_tell plan.horizon train (number, limit.now)) (least_free limit_identifiers train.limits)))
action_for plan (change.Limit number None) train = option_map in_one_packet (option_map limit_change.Revoke (identifier_of train.limits number))

-- that action, if a stamp is left
abbrev pub actions_for : Plan → Change → TrainRec → List Action
actions_for plan changed train = take (last_stamp - train.stamp) (cons_option (action_for plan changed train) [])

-- A copy of a train took some actions, and their messages were sent to it after others. There is a copy exactly if there is an action. An
-- error leaves what was sent before.
pub record IsCarriedOut (train : TrainRec) (actions : List Action) (before : List Sent) (result : Result (Option TrainRec) AllocError) (sent : List Sent) : Type 0 where
  pub none : IfOk result (λ found. IfNone found (actions ≡ []))
  pub some : IfOk result (λ found. IfSome found (λ after. 1 ≤ length actions))
  pub after : IfOk result (λ found. IfSome found (λ it. it ≡ fold carried_out train actions))
  pub messages : OnOk result (sent ≡ before ++ to_engine train.engine (scan carried_out message_of train actions))
  pub err : OnErr result (sent ≡ before)
  pub fit : All (λ one. Fits one.message) before → OnOk result (All (λ one. Fits one.message) sent)
  pub few : OnOk result (length sent ≤ length before + 1)
