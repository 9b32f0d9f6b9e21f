-- How many messages one settling sends at most.
use Rattle.std.proofs.Common.{◌≡◌, ℕ, ◌-◌, ◌≤◌, Bool, true, false, not, cond, List, [], ◌∷◌, length, map, refl, arith}
use Rattle.std.specs.List.{filter, filter_map, range_with_len, scan, zip}
use Rattle.std.proofs.lemmas.List.{length-append, length-map, length-take}
use Rattle.std.proofs.lemmas.List.FromFn.{length-range_with_len}
use Rattle.std.proofs.lemmas.Slice.Zip.{length-zip}
use Rattle.rbc_track.specs.Plan.{Plan}
use Rattle.rbc_maps.specs.Maps.{has}
use Rattle.rbc_ids.specs.Table.{Slots, IsTable, free_identifiers}
use Rattle.rbc_ids.proofs.Tables.{few}
use Rattle.rbc_settle.specs.declared.train.TrainRec.{TrainRec}
use Rattle.rbc_settle.specs.declared.change.LimitChange.TheVariants as limit_change
use Rattle.rbc_settle.specs.Actions.{ChangesStop, ChangesLimits, groups}
use Rattle.rbc_settle.specs.Settling.{Stops, Limits, last_stamp, carried_out, message_of, revoke_stop, tell_stop, tell_limit, limit_to_tell, is_used_by, to_revoke, is_limit_gone, escalated, is_stop_revoked, next_to_tell, stops_revoked, stops_told, limits_revoked, limits_told, stop_changes, limit_changes, actions, actions_with_stamp, messages_of}
use Rattle.rbc_settle.specs.UpToDate.{HasTables}
use Rattle.rbc_settle.proofs.Groups.{length-groups}

-- what passes a test is no longer than all
shorter : {X : Type 0} (test : X → Bool) (xs : List X) → length (filter test xs) ≤ length xs
shorter test [] = omega arith
shorter test (x ∷ xs) =
    let rest = shorter test xs in
    elim (test x) as (λ b. length (cond b (x ∷ filter test xs) (filter test xs)) ≤ length (x ∷ xs)) [ true ↦ omega (arith, rest) | false ↦ omega (arith, rest) ]

-- a message for each action
pub length-scan : {S X Y : Type 0} (next : S → X → S) (out : S → X → Y) (start : S) (xs : List X) → length (scan next out start xs) ≡ length xs
length-scan next out start [] = refl
length-scan next out start (x ∷ xs) = let rest = length-scan next out (next start x) xs in omega (arith, rest)

-- no more is revoked than there are identifiers
few_slots : (count : ℕ) (gone : ℕ → Bool) (slots : Slots) → IsTable count slots → length (filter (λ held. is_used_by gone held.1) slots) ≤ count
few_slots count gone slots table =
    let kept = shorter (λ held. is_used_by gone held.1) slots in
    let held = few count slots table in
    omega (arith, kept, held)

few_revoked : (count : ℕ) (gone : ℕ → Bool) (slots : Slots) → IsTable count slots → length (to_revoke gone slots) ≤ count
few_revoked count gone slots table =
    let passed = filter (λ held. is_used_by gone held.1) slots in
    let named : length (to_revoke gone slots) ≡ length passed = length-map passed (λ held. held.0) in
    let kept = shorter (λ held. is_used_by gone held.1) slots in
    let held = few count slots table in
    omega (arith, named, kept, held)

-- nor is more told
few_told : {K : Type 0} (count : ℕ) (slots : Slots) (wanted : List K) → length (zip wanted (free_identifiers count slots)) ≤ count
few_told count slots wanted =
    let both = length-zip wanted (free_identifiers count slots) in
    let free = shorter (λ id. not (has slots id)) (range_with_len 0 count) in
    let all = length-range_with_len 0 count in
    omega (arith, both, free, all)

module _ (plan : Plan) (stops : Stops) (limits : Limits) (train : TrainRec) (tables : HasTables train) where
  few_actions : length (actions plan stops limits train) ≤ 36
  few_actions =
      let forced_now = escalated stops train in
      let stop_slots = filter (λ held. is_used_by (is_stop_revoked stops forced_now) held.1) train.stops in
      let limit_ids = to_revoke (is_limit_gone limits train.place) train.limits in
      let stop_pairs = zip (filter_map (next_to_tell forced_now train) stops.active) (free_identifiers 15 train.stops) in
      let limit_pairs = zip (filter_map (limit_to_tell plan.horizon train) limits.active) (free_identifiers 255 train.limits) in
      let first = few_slots 15 (is_stop_revoked stops forced_now) train.stops tables.stops in
      let second = few_told 15 train.stops (filter_map (next_to_tell forced_now train) stops.active) in
      let third = few_revoked 255 (is_limit_gone limits train.place) train.limits tables.limits in
      let fourth = few_told 255 train.limits (filter_map (limit_to_tell plan.horizon train) limits.active) in
      let a = length-map stop_slots (revoke_stop forced_now) in
      let b = length-map stop_pairs tell_stop in
      let c = length-map limit_ids limit_change.Revoke in
      let d = length-map limit_pairs tell_limit in
      let by_stop = length-append (stops_revoked forced_now stops train) (stops_told forced_now stops train) in
      let by_limit = length-append (limits_revoked limits train) (limits_told plan.horizon limits train) in
      let one_each = length-map (stop_changes stops train) ChangesStop in
      let grouped = length-groups (limit_changes plan.horizon limits train) in
      let one_a_group = length-map (groups (limit_changes plan.horizon limits train)) ChangesLimits in
      let all = length-append (map ChangesStop (stop_changes stops train)) (map ChangesLimits (groups (limit_changes plan.horizon limits train))) in
      omega (arith, first, second, third, fourth, a, b, c, d, by_stop, by_limit, one_each, grouped, one_a_group, all)

  -- a message for each stop identifier that is revoked, and each that is told, and six for 510 changes of restrictions
  pub few_messages : length (messages_of plan stops limits train) ≤ 36
  few_messages =
      let room = last_stamp - train.stamp in
      let each = length-scan carried_out message_of train (actions_with_stamp plan stops limits train) in
      let taken = length-take room (actions plan stops limits train) in
      let most = few_actions in
      omega (arith, each, taken, most)
