-- The train after each part of its actions.
use Rattle.std.proofs.Common.{◌≡◌, ℕ, ◌+◌, List, ◌++◌, length, map, sym, ap, ◌∙◌, subst}
use Rattle.std.proofs.lemmas.List.{map-append}
use Rattle.std.specs.List.{filter, filter_map, fold, zip}
use Rattle.std.proofs.lemmas.List.Sums.{fold-append}
use Rattle.rbc_track.specs.Plan.{Plan}
use Rattle.rbc_ids.specs.declared.slot.Kind.TheVariants.{Restriction}
use Rattle.rbc_ids.specs.Table.{Slots, free_identifiers}
use Rattle.rbc_settle.specs.declared.train.TrainRec.{TrainRec}
use Rattle.rbc_settle.specs.declared.change.LimitChange.TheVariants as limit_change
use Rattle.rbc_settle.specs.declared.change.ToldStop.{ToldStop}
use Rattle.rbc_settle.specs.Actions.{Action, ChangesStop, ChangesLimits, groups}
use Rattle.rbc_settle.specs.Told.{Part}
use Rattle.rbc_settle.specs.Settling.{Stops, Limits, carried_out, kind_of, limit_to_tell, to_revoke, is_used_by, is_limit_gone, escalated, is_stop_revoked, next_to_tell, stops_revoked, stops_told, limits_revoked, limits_told, limit_changes, actions}
use Rattle.rbc_settle.proofs.Forcing.{forced_all}
use Rattle.rbc_settle.proofs.Revoking.{Clock, by_one, revoked_all}
use Rattle.rbc_settle.proofs.AfterTelling.{told_all}
use Rattle.rbc_settle.proofs.Changed.{by_hundreds, changed_all, changed-revoked, changed-told, changed-append}
use Rattle.rbc_settle.proofs.Carried.{HasBecome, revoking_stops, telling_stops, changing_limits}

module _ (plan : Plan) (stops : Stops) (limits : Limits) (train : TrainRec) where
  -- the stops that are told, each beside its identifier, and the restrictions
  abbrev pub stop_pairs : List ((ℕ × ToldStop) × ℕ)
  stop_pairs = zip (filter_map (next_to_tell (escalated stops train) train) stops.active) (free_identifiers 15 train.stops)

  abbrev pub limit_pairs : List ((ℕ × Part) × ℕ)
  limit_pairs = zip (filter_map (limit_to_tell plan.horizon train) limits.active) (free_identifiers 255 train.limits)

  -- the revocations of stops, and the stops that are told then
  abbrev pub revoked_first : List Action
  revoked_first = map ChangesStop (stops_revoked (escalated stops train) stops train)

  abbrev pub told_then : List Action
  told_then = map ChangesStop (stops_told (escalated stops train) stops train)

  abbrev pub limits_last : List Action
  limits_last = map ChangesLimits (groups (limit_changes plan.horizon limits train))

  -- all actions are these three parts
  pub three_parts : actions plan stops limits train ≡ revoked_first ++ told_then ++ limits_last
  three_parts = ap (λ (first : List Action). first ++ limits_last) (map-append ChangesStop (stops_revoked (escalated stops train) stops train) (stops_told (escalated stops train) stops train))

  -- the slots that are revoked, and the stops that the train is told at once from then on
  abbrev pub slots_revoked : Slots
  slots_revoked = filter (λ held. is_used_by (is_stop_revoked stops (escalated stops train)) held.1) train.stops

  abbrev pub forced_then : List ℕ
  forced_then = forced_all (escalated stops train) slots_revoked train.forced

  -- the restrictions that are revoked
  abbrev pub limits_gone : List ℕ
  limits_gone = to_revoke (is_limit_gone limits train.place) train.limits

  -- after the revocations of stops, after stops are told, and after all
  abbrev pub after_first : TrainRec
  after_first = fold carried_out train revoked_first

  abbrev pub after_second : TrainRec
  after_second = fold carried_out train (revoked_first ++ told_then)

  abbrev pub after_all : TrainRec
  after_all = fold carried_out train (actions plan stops limits train)

  -- the stamps of the restrictions, and how many are revoked before the first is told
  abbrev pub clock : Clock
  clock = by_hundreds after_second.stamp

  abbrev pub revoked_before : ℕ
  revoked_before = 0 + length (map limit_change.Revoke limits_gone)

  -- what each part leaves of the train before it
  pub to_first : HasBecome train after_first forced_then (revoked_all by_one train.stamp (to_revoke (is_stop_revoked stops (escalated stops train)) train.stops) train.stops) train.limits
  to_first = revoking_stops (escalated stops train) slots_revoked train

  to_second : HasBecome after_first after_second after_first.forced (told_all by_one kind_of after_first.stamp stop_pairs after_first.stops) after_first.limits
  to_second = subst (λ (t : TrainRec). HasBecome after_first t after_first.forced (told_all by_one kind_of after_first.stamp stop_pairs after_first.stops) after_first.limits)
      (sym (fold-append carried_out train revoked_first told_then)) (telling_stops stop_pairs after_first)

  to_last : HasBecome after_second after_all after_second.forced after_second.stops (changed_all clock 0 (limit_changes plan.horizon limits train) after_second.limits)
  to_last = subst (λ (t : TrainRec). HasBecome after_second t after_second.forced after_second.stops (changed_all clock 0 (limit_changes plan.horizon limits train) after_second.limits))
      (sym (ap (fold carried_out train) three_parts ∙ fold-append carried_out train (revoked_first ++ told_then) limits_last))
      (changing_limits (limit_changes plan.horizon limits train) after_second)

  -- the restrictions stay until then
  pub limits_at_second : after_second.limits ≡ train.limits
  limits_at_second = to_second.limits ∙ to_first.limits

  -- both tables after all parts
  pub stops_at_last : after_all.stops ≡ told_all by_one kind_of after_first.stamp stop_pairs (revoked_all by_one train.stamp (to_revoke (is_stop_revoked stops (escalated stops train)) train.stops) train.stops)
  stops_at_last = to_last.stops ∙ to_second.stops ∙ ap (told_all by_one kind_of after_first.stamp stop_pairs) to_first.stops

  pub limits_at_last : after_all.limits ≡ told_all clock (λ told. Restriction) revoked_before limit_pairs (revoked_all clock 0 limits_gone train.limits)
  limits_at_last =
      to_last.limits
      ∙ ap (changed_all clock 0 (limit_changes plan.horizon limits train)) limits_at_second
      ∙ changed-append clock 0 (limits_revoked limits train) (limits_told plan.horizon limits train) train.limits
      ∙ changed-told clock revoked_before limit_pairs (changed_all clock 0 (limits_revoked limits train) train.limits)
      ∙ ap (told_all clock (λ told. Restriction) revoked_before limit_pairs) (changed-revoked clock 0 limits_gone train.limits)

  -- the place is as before, and so are the stops that the train is told at once, but for the escalated ones
  pub place_at_last : after_all.place ≡ train.place
  place_at_last = to_last.place ∙ to_second.place ∙ to_first.place

  pub forced_at_last : after_all.forced ≡ forced_then
  forced_at_last = to_last.forced ∙ to_second.forced ∙ to_first.forced
