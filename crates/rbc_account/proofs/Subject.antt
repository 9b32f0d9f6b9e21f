-- Each message of settling a train is of a stop or restrictions that are found in the train as it is settled.
use Rattle.std.proofs.Common.{◌≡◌, ℕ, ◌-◌, Bool, true, false, not, ◌&&◌, cond, List, [], ◌∷◌, take, Option, Some, None, refl}
use Rattle.std.specs.List.{fold, scan, AllByRecursion}
use Rattle.rbc_track.specs.Plan.{Plan}
use Rattle.rbc_place.specs.Placing.{Place}
use Rattle.rbc_maps.specs.Numbered.{AreNumbered}
use Rattle.rbc_zones.specs.declared.segment.Segment.{Segment}
use Rattle.rbc_zones.specs.declared.stop_meaning.Concern.{Concern}
use Rattle.rbc_zones.specs.declared.stop_meaning.Concern.TheVariants as concern
use Rattle.rbc_zones.specs.Concerns.{concern_of}
use Rattle.rbc_zones.specs.Limits.{Limit, is_clear, ends_beyond_group, starts_within}
use Rattle.rbc_settle.specs.declared.train.TrainRec.{TrainRec}
use Rattle.rbc_settle.specs.declared.change.StopChange.TheVariants as stop_change
use Rattle.rbc_settle.specs.declared.change.LimitChange.{LimitChange}
use Rattle.rbc_settle.specs.declared.change.LimitChange.TheVariants as limit_change
use Rattle.rbc_settle.specs.declared.change.ToldStop.{ToldStop}
use Rattle.rbc_settle.specs.declared.change.ToldStop.TheVariants.{AtOnce, Before}
use Rattle.rbc_settle.specs.Told.{Edge, Part}
use Rattle.rbc_settle.specs.Numbers.{has_number}
use Rattle.rbc_settle.specs.Actions.{Action, ChangesStop, ChangesLimits}
use Rattle.rbc_settle.specs.Settling.{Stops, Limits, last_stamp, carried_out, message_of, packet_of, told_stop, told_at, told_limit, limit_told_to, is_limit_gone, escalated, is_stop_revoked, actions, settled, messages_of}
use Rattle.rbc_settle.specs.UpToDate.{HasTables}
use Rattle.rbc_live.specs.Known.{number_under}
use Rattle.rbc_account.specs.Found.{MeansNow, MeansBefore, IsNotClear, PacketHasSubject, HasSubject}
use Rattle.rbc_account.proofs.Elements.{each-map, each-weaker, each-both}
use Rattle.rbc_account.proofs.StaysTold.{IsChangeUnder, IsUnder, told_is_found}
use Rattle.rbc_account.proofs.Meant.{IsGoneUnder, IsChangeMeant, IsMeant, told_is_meant}
use Rattle.rbc_account.proofs.Heard.{not_some}

-- ---- what is told so means that

-- to stop at once, and before an edge
not_before : (edge : Edge) → Some (Before edge) ≡ Some AtOnce → ⊥
not_before edge e = cc

not_at_once : (edge : Edge) → Some AtOnce ≡ Some (Before edge) → ⊥
not_at_once edge e = cc

now_at : (p : Place) (c : Concern) → told_at p c ≡ Some AtOnce → MeansNow c
now_at p concern.None e = absurd (not_some AtOnce e)
now_at p concern.Now e = refl
now_at p (concern.Before edge) e = absurd (not_before _ e)

before_at : (p : Place) (c : Concern) (told : Edge) → told_at p c ≡ Some (Before told) → MeansBefore c
before_at p concern.None told e = absurd (not_some (Before told) e)
before_at p concern.Now told e = absurd (not_at_once told e)
before_at p (concern.Before edge) told e = (edge, refl)

means_now : (area : List Segment) (forced : Bool) (place : Option Place) → told_stop place (concern_of area forced place) ≡ Some AtOnce → MeansNow (concern_of area forced place)
means_now area forced None e = refl
means_now area forced (Some p) e = now_at p (concern_of area forced (Some p)) e

means_before : (area : List Segment) (forced : Bool) (place : Option Place) (told : Edge) → told_stop place (concern_of area forced place) ≡ Some (Before told) → MeansBefore (concern_of area forced place)
means_before area forced None told e = absurd (not_at_once told e)
means_before area forced (Some p) told e = before_at p (concern_of area forced (Some p)) told e

not_clear_at : (horizon : ℕ) (limit : Limit) (place : Option Place) (told : Part) → limit_told_to horizon place limit ≡ Some told → IsNotClear place limit
not_clear_at horizon limit None told e = absurd (not_some told e)
not_clear_at horizon limit (Some p) told e =
    (elim (is_clear limit p) as (λ b. is_clear limit p ≡ b
    → cond (not b && ends_beyond_group limit p && starts_within p.facing limit.segment p horizon) (Some (told_limit limit p)) None ≡ Some told → IsNotClear (Some p) limit) [
      | true ↦ λ is none. absurd (not_some told none)
      | false ↦ λ is some. (p, refl, is)
    ]) refl e

-- ---- the messages of actions

module _ (horizon : ℕ) (stops : Stops) (limits : Limits) (before after : TrainRec) where
  -- what is revoked was told under its identifier, and is gone
  abbrev Revoked : ℕ → Type 0
  Revoked id = IsGoneUnder (is_stop_revoked stops (escalated stops before)) before.stops id

  abbrev Lifted : ℕ → Type 0
  Lifted id = IsGoneUnder (is_limit_gone limits after.place) before.limits id

  packet_subject : (change : LimitChange) → IsChangeUnder after.limits change → IsChangeMeant horizon limits after.place before.limits change
      → PacketHasSubject limits.active after Lifted (packet_of change)
  packet_subject (limit_change.Revoke id) under meant = meant
  packet_subject (limit_change.Tell id number told) under meant = (number, under, (meant.0, meant.1, not_clear_at horizon meant.0 after.place told meant.2))

  told_subject : (train : TrainRec) (id number : ℕ) (told : ToldStop) → number_under after.stops id ≡ Some number
      → IsMeant horizon stops limits before after.place after.forced (ChangesStop (stop_change.Tell id number told))
      → HasSubject stops.active limits.active after Revoked Lifted (message_of train (ChangesStop (stop_change.Tell id number told)))
  told_subject train id number AtOnce under meant = (number, under, (meant.0, meant.1, means_now meant.0 (has_number after.forced number) after.place meant.2))
  told_subject train id number (Before edge) under meant =
      (number, under, (meant.0, meant.1, means_before meant.0 (has_number after.forced number) after.place edge meant.2))

  subject : (train : TrainRec) (action : Action) → IsUnder after action → IsMeant horizon stops limits before after.place after.forced action
      → HasSubject stops.active limits.active after Revoked Lifted (message_of train action)
  subject train (ChangesStop (stop_change.Revoke id number)) under meant = meant
  subject train (ChangesStop (stop_change.Tell id number told)) under meant = told_subject train id number told under meant
  subject train (ChangesLimits changes) under meant =
      each-map (PacketHasSubject limits.active after Lifted) packet_of changes
      (each-weaker (λ (change : LimitChange). IsChangeUnder after.limits change × IsChangeMeant horizon limits after.place before.limits change)
      (λ change. PacketHasSubject limits.active after Lifted (packet_of change)) (λ change both. packet_subject change both.0 both.1) changes
      (each-both (IsChangeUnder after.limits) (IsChangeMeant horizon limits after.place before.limits) changes under meant))

  subjects : (acts : List Action) (train : TrainRec) → AllByRecursion (IsUnder after) acts → AllByRecursion (IsMeant horizon stops limits before after.place after.forced) acts
      → AllByRecursion (HasSubject stops.active limits.active after Revoked Lifted) (scan carried_out message_of train acts)
  subjects [] train under meant = tt
  subjects (action ∷ acts) train under meant = (subject train action under.0 meant.0, subjects acts (carried_out train action) under.1 meant.1)

-- each message of settling a train
abbrev pub EachHasSubject : Plan → Stops → Limits → TrainRec → Type 0
EachHasSubject plan stops limits train =
    AllByRecursion (HasSubject stops.active limits.active (settled plan stops limits train) (IsGoneUnder (is_stop_revoked stops (escalated stops train)) train.stops)
    (IsGoneUnder (is_limit_gone limits (settled plan stops limits train).place) train.limits)) (messages_of plan stops limits train)

pub each_has_subject : (plan : Plan) (stops : Stops) (limits : Limits) (train : TrainRec) → HasTables train → AreNumbered stops → AreNumbered limits → EachHasSubject plan stops limits train
each_has_subject plan stops limits train tables h k =
    let n = last_stamp - train.stamp in
    let acts = take n (actions plan stops limits train) in
    subjects plan.horizon stops limits train (fold carried_out train acts) acts train (told_is_found plan stops limits train n tables h k) (told_is_meant plan stops limits train tables h k n)
