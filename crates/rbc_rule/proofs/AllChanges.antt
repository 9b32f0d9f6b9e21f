-- Each write of settling all trains changes what stands under its key.
use Rattle.std.proofs.Common.{◌≡◌, ◌⊎◌, inl, ℕ, Bool, true, false, cond, eqb, List, [], ◌∷◌, Option, Some, None, option_map, refl, sym, ap, subst, ◌∙◌}
use Rattle.std.specs.List.{All, AllByRecursion}
use Rattle.std.proofs.lemmas.List.Elements.{All-nil, All-cons, All-append, All-weaker}
use Rattle.rbc_track.specs.Plan.{Plan}
use Rattle.rbc_maps.specs.Maps.{value_of}
use Rattle.rbc_settle.specs.declared.train.TrainRec.{TrainRec}
use Rattle.rbc_settle.specs.Settling.{Stops, Limits}
use Rattle.rbc_records.specs.declared.record.Key.{Key}
use Rattle.rbc_records.specs.declared.record.Key.TheVariants as key
use Rattle.rbc_records.specs.declared.record.Rec.{Rec}
use Rattle.rbc_records.specs.declared.record.Rec.TheVariants as rec
use Rattle.rbc_rule.specs.declared.input.Input.{Input}
use Rattle.rbc_rule.specs.declared.outcome.Outcome.{Outcome}
use Rattle.rbc_rule.specs.World.{World}
use Rattle.rbc_rule.specs.WellFormed.{IsWellFormed}
use Rattle.rbc_rule.specs.Records.{record_of}
use Rattle.rbc_rule.specs.Right.{IsChange, IsOfSender}
use Rattle.rbc_rule.specs.Gathered.{is_same, settled_train, write_of, writes_of, settled_outcome}
use Rattle.rbc_rule.proofs.AllGathered.{own_all}
use Rattle.rbc_rule.proofs.AllTrains.{own_engines}
use Rattle.rbc_rule.proofs.Differs.{settled_differs}

-- what a record holds is what another one holds
same_train : (one other : TrainRec) → Some (rec.Train one) ≡ Some (rec.Train other) → one ≡ other
same_train one other e = cc

same_stops : (b : Bool) (one other : Stops) → cond b None (Some (rec.Stops one)) ≡ Some (rec.Stops other) → one ≡ other
same_stops true one other e = absurd cc
same_stops false one other e = cc

same_limits : (b : Bool) (one other : Limits) → cond b None (Some (rec.Limits one)) ≡ Some (rec.Limits other) → one ≡ other
same_limits true one other e = absurd cc
same_limits false one other e = cc

module _ (plan : Plan) (stops : Stops) (limits : Limits) (released : Option ℕ) (w : World) where
  only_change : (write : Key × Option Rec) → IsChange w write → All (IsChange w) (write ∷ [])
  only_change write change = All-cons (IsChange w) write [] change (All-nil (IsChange w))

  -- the write of a train that changes, as it stands in the map
  train_changes : (train : ℕ × TrainRec) → value_of w.trains train.0 ≡ Some train.1 → train.1.engine ≡ train.0 → All (IsChange w) (write_of plan stops limits released train.1)
  train_changes train there own = by (is_same plan stops limits released train.1) refl
    where
      stood : record_of w (key.Train train.1.engine) ≡ Some (rec.Train train.1)
      stood = ap (λ engine. option_map rec.Train (value_of w.trains engine)) own ∙ ap (option_map rec.Train) there

      by : (b : Bool) → is_same plan stops limits released train.1 ≡ b
          → All (IsChange w) (cond b [] ((key.Train train.1.engine, Some (rec.Train (settled_train plan stops limits released train.1))) ∷ []))
      by true e = All-nil (IsChange w)
      by false e = only_change (key.Train train.1.engine, Some (rec.Train (settled_train plan stops limits released train.1)))
          (λ same. settled_differs plan stops limits released train.1 e (sym (same_train train.1 (settled_train plan stops limits released train.1) (sym stood ∙ same))))

  each_changes : (trains : List (ℕ × TrainRec)) → AllByRecursion (λ train. value_of w.trains train.0 ≡ Some train.1) trains → AllByRecursion (λ train. train.1.engine ≡ train.0) trains
      → All (IsChange w) (writes_of plan stops limits released trains)
  each_changes [] there own = All-nil (IsChange w)
  each_changes (train ∷ trains) there own =
      All-append (IsChange w) (write_of plan stops limits released train.1) (writes_of plan stops limits released trains) (train_changes train there.0 own.0) (each_changes trains there.1 own.1)

  -- all of them, with one more that changes too
  pub settled_changes : (input : Input) (k : Key) (new : Rec) (outcome : Outcome) → IsWellFormed plan w → outcome ≡ settled_outcome plan stops limits released w.trains k new → IsChange w (k, Some new)
      → All (λ write. IsChange w write ⊎ IsOfSender input write.0) outcome.writes
  settled_changes input k new outcome well is changes =
      subst (λ (o : Outcome). All (λ write. IsChange w write ⊎ IsOfSender input write.0) o.writes) (sym is)
      (All-weaker (IsChange w) (λ write. IsChange w write ⊎ IsOfSender input write.0) (λ write change. inl change) _
      (All-append (IsChange w) (writes_of plan stops limits released w.trains) ((k, Some new) ∷ []) (each_changes w.trains (own_all (λ (train : TrainRec). train ∷ []) 0 w.trains well.ascending) (own_engines plan w well))
      (only_change (k, Some new) changes)))

-- other stops, or other restrictions, are another record
pub stops_change : (w : World) (stops : Stops) → (stops ≡ w.stops → ⊥) → IsChange w (key.Stops, Some (rec.Stops stops))
stops_change w stops other same = other (sym (same_stops (eqb w.stops.last 0) w.stops stops same))

pub limits_change : (w : World) (limits : Limits) → (limits ≡ w.limits → ⊥) → IsChange w (key.Limits, Some (rec.Limits limits))
limits_change w limits other same = other (sym (same_limits (eqb w.limits.last 0) w.limits limits same))
