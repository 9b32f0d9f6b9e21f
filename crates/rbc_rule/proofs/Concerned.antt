-- The engines that were read are enough for what begins or ends.
use Rattle.std.proofs.Common.{◌≡◌, inl, ℕ, ◌≤◌, ◌+◌, ◌*◌, true, false, leb, List, length, Option, Some, None, Bor, option_copied, refl, sym, ap, ◌∙◌, arith}
use Rattle.std.specs.List.{list_any, list_all}
use Rattle.std.specs.Option.{option_map_or}
use Rattle.std.proofs.lemmas.Bool.{or_parts, and_parts, leb-true}
use Rattle.rbc_track.specs.Plan.{Plan}
use Rattle.rbc_place.specs.Placing.{Place}
use Rattle.rbc_maps.specs.Maps.{value_of}
use Rattle.rbc_zones.specs.declared.area.Area.{Area}
use Rattle.rbc_zones.specs.declared.segment.Segment.{Segment}
use Rattle.rbc_zones.specs.Segments.{is_good_segment, is_good_area}
use Rattle.rbc_zones.specs.Limits.{Limit}
use Rattle.rbc_settle.specs.declared.train.TrainRec.{TrainRec}
use Rattle.rbc_settle.specs.Numbers.{AreNumbers, has_number}
use Rattle.rbc_settle.specs.Settling.{Stops, Limits}
use Rattle.rbc_records.specs.declared.record.Key.TheVariants as key
use Rattle.rbc_records.specs.declared.search.Sought.TheVariants as sought
use Rattle.rbc_records.specs.Notes.{same_key}
use Rattle.rbc_rule.specs.Bounds.{max_trains}
use Rattle.rbc_settle.specs.declared.single_change.Change.TheVariants as change
use Rattle.rbc_rule.specs.World.{World}
use Rattle.rbc_rule.specs.Effect.{with_less}
use Rattle.rbc_rule.specs.WellFormed.{IsGoodTrain, IsWellFormed}
use Rattle.rbc_rule.specs.Records.{list_of}
use Rattle.rbc_rule.specs.Touching.{HasBegun, is_stop_for, is_limit_for}
use Rattle.rbc_rule.specs.Lists.{AreEnginesOf, HaveSought, engines_at, may_stop}
use Rattle.rbc_rule.specs.Gathered.{IsEnough}
use Rattle.rbc_rule.proofs.KeepsLists.{All-value_of}
use Rattle.rbc_rule.proofs.Elsewhere.{stop_elsewhere, limit_elsewhere, limit_nowhere}
use Rattle.rbc_rule.proofs.Engines.{stands_in, enough, line_has}
use Rattle.rbc_rule.proofs.Begun.{stop_changed}
use Rattle.rbc_rule.proofs.Seeking.{sought_enough}

pub few_lines : (plan : Plan) (segments : List Segment) (engines : List ℕ) → is_good_area plan segments ≡ true → length engines ≤ (length segments + 1) * max_trains → length engines ≤ 9 * max_trains
few_lines plan segments engines good few =
    let lines : length segments ≤ 8 = leb-true (length segments) 8 (and_parts (leb (length segments) 8) (list_all (is_good_segment plan) segments) good).0 in
    omega (arith, lines, few)

module _ (plan : Plan) (w : World) (well : IsWellFormed plan w) where
  good_train : (n : ℕ) (train : TrainRec) → value_of w.trains n ≡ Some train → IsGoodTrain plan w.stops w.limits (n, train)
  good_train n train found = All-value_of (IsGoodTrain plan w.stops w.limits) n train w.trains well.trains found

  -- a stop that begins does not touch a train on another line
  stop_quiet : (stops : Stops) (number : ℕ) (segments : List Segment) (n : ℕ) (train : TrainRec) → HasBegun number segments w.stops stops → value_of w.trains n ≡ Some train → may_stop segments train ≡ false
      → is_stop_for train (number, segments) ≡ false
  stop_quiet stops number segments n train begun found other = by train.place refl
    where
      parts : (same_key key.Unplaced (list_of train) ≡ false) × (list_any (λ segment. same_key (key.Line segment.line) (list_of train)) segments ≡ false)
      parts = or_parts (same_key key.Unplaced (list_of train)) (list_any (λ segment. same_key (key.Line segment.line) (list_of train)) segments) other

      list_is : (place : Option Place) → train.place ≡ place → list_of train ≡ option_map_or (λ p. key.Line p.line) place key.Unplaced
      list_is place is = ap (λ found. option_map_or (λ (p : Place). key.Line p.line) found key.Unplaced) is

      by : (place : Option Place) → train.place ≡ place → is_stop_for train (number, segments) ≡ false
      by None is = let bad : true ≡ false = sym (ap (same_key key.Unplaced) (list_is None is)) ∙ parts.0 in absurd cc
      by (Some p) is =
          stop_elsewhere plan w stops number segments train p (good_train n train found).well_formed begun is
          (sym (ap (λ list. list_any (λ (segment : Segment). same_key (key.Line segment.line) list) segments) (list_is (Some p) is)) ∙ parts.1)

  pub stop_enough : (stops : Stops) (number : ℕ) (segments : List Segment) (engines : List ℕ) → HasBegun number segments w.stops stops → AreNumbers engines → AreEnginesOf (may_stop segments) w engines
      → IsEnough plan stops w.limits None w.trains engines
  stop_enough stops number segments engines begun numbers are =
      enough plan (change.Stop number (Some (record { ref_ptr = (0, 0); now = segments }))) w stops w.limits (may_stop segments) engines well (begun, refl) numbers are
      (λ n train found other. stop_quiet stops number segments n train begun found other)

  -- a restriction that begins does not touch a train on another line, or without a place
  limit_quiet : (limit : Limit) (train : TrainRec) → stands_in (key.Line limit.segment.line) train ≡ false → is_limit_for plan.horizon train limit ≡ false
  limit_quiet limit train other = by train.place refl
    where
      list_is : (place : Option Place) → train.place ≡ place → list_of train ≡ option_map_or (λ p. key.Line p.line) place key.Unplaced
      list_is place is = ap (λ found. option_map_or (λ (p : Place). key.Line p.line) found key.Unplaced) is

      by : (place : Option Place) → train.place ≡ place → is_limit_for plan.horizon train limit ≡ false
      by None is = limit_nowhere plan.horizon train limit is
      by (Some p) is = limit_elsewhere plan.horizon train limit p is (sym (ap (same_key (key.Line limit.segment.line)) (list_is (Some p) is)) ∙ other)

  pub limit_enough : (limits : Limits) (number : ℕ) (limit : Limit) (engines : List ℕ) → HasBegun number limit w.limits limits → AreNumbers engines
      → ((n : ℕ) → has_number engines n ≡ has_number (engines_at w (key.Line limit.segment.line)) n) → IsEnough plan w.stops limits None w.trains engines
  limit_enough limits number limit engines begun numbers same =
      enough plan (change.Limit number (Some (record { ref_ptr = (0, 0); now = limit }))) w w.stops limits (stands_in (key.Line limit.segment.line)) engines well (refl, begun) numbers
      (λ n. same n ∙ line_has w limit.segment.line well.ascending n)
      (λ n train found other. limit_quiet limit train other)

  -- a stop that begins touches those that are sought
  pub concerned_enough : (stops : Stops) (number : ℕ) (segments : List Segment) (area : Bor Area) (engines : List ℕ) → HasBegun number segments w.stops stops → option_copied (Some area) ≡ value_of stops.active number
      → AreNumbers engines → HaveSought (sought.Stoppable number area) w engines → IsEnough plan stops w.limits None w.trains engines
  concerned_enough stops number segments area engines begun is numbers have =
      sought_enough plan w (sought.Stoppable number area) engines well have (change.Stop number (Some area)) stops w.limits (stop_changed number (Some area) w stops w.limits is (inl (segments, begun)) refl) numbers (λ train. refl)

  -- what ends touches those that were told
  pub stop_end_enough : (stops : Stops) (number : ℕ) (engines : List ℕ) → stops ≡ with_less number w.stops → AreNumbers engines
      → HaveSought (sought.ToldOfStop number) w engines → IsEnough plan stops w.limits (Some number) w.trains engines
  stop_end_enough stops number engines ended numbers have =
      sought_enough plan w (sought.ToldOfStop number) engines well have (change.Stop number None) stops w.limits (ended, refl) numbers (λ train. refl)

  pub limit_end_enough : (limits : Limits) (number : ℕ) (engines : List ℕ) → limits ≡ with_less number w.limits → AreNumbers engines
      → HaveSought (sought.ToldOfLimit number) w engines → IsEnough plan w.stops limits None w.trains engines
  limit_end_enough limits number engines ended numbers have =
      sought_enough plan w (sought.ToldOfLimit number) engines well have (change.Limit number None) w.stops limits (refl, ended) numbers (λ train. refl)
