-- What carrying out actions of one kind leaves of a train: the other table and the place stay.
use Rattle.std.proofs.Common.{◌≡◌, ℕ, ◌+◌, List, [], ◌∷◌, length, map, refl, arith}
use Rattle.std.specs.List.{fold}
use Rattle.rbc_maps.specs.Maps.{keys}
use Rattle.rbc_ids.specs.Table.{Slots}
use Rattle.rbc_settle.specs.declared.train.TrainRec.{TrainRec}
use Rattle.rbc_settle.specs.declared.change.StopChange.TheVariants as stop_change
use Rattle.rbc_settle.specs.declared.change.LimitChange.{LimitChange}
use Rattle.rbc_settle.specs.Actions.{Action, ChangesStop, ChangesLimits, groups}
use Rattle.rbc_settle.specs.declared.change.ToldStop.{ToldStop}
use Rattle.rbc_settle.specs.Settling.{carried_out, kind_of, number_forced, revoke_stop, tell_stop}
use Rattle.rbc_settle.proofs.Forcing.{forced_all}
use Rattle.rbc_settle.proofs.Revoking.{by_one, revoked_all}
use Rattle.rbc_settle.proofs.Changed.{by_hundreds, changed_all, changed_by_groups}
use Rattle.rbc_settle.proofs.AfterTelling.{told_all}

-- the train after it, with these stops that it is told at once, and these tables
pub record HasBecome (old new : TrainRec) (forced_then : List ℕ) (stops_then limits_then : Slots) : Type 0 where
  pub place : new.place ≡ old.place
  pub forced : new.forced ≡ forced_then
  pub stops : new.stops ≡ stops_then
  pub limits : new.limits ≡ limits_then

-- revoking stops changes the stops, and forces those that are escalated
pub revoking_stops : (forced_now : List ℕ) (slots : Slots) (train : TrainRec)
    → HasBecome train (fold carried_out train (map ChangesStop (map (revoke_stop forced_now) slots))) (forced_all forced_now slots train.forced) (revoked_all by_one train.stamp (keys slots) train.stops) train.limits
revoking_stops forced_now [] train = record { place = refl; forced = refl; stops = refl; limits = refl }
revoking_stops forced_now ((id, slot) ∷ slots) train =
    let rest = revoking_stops forced_now slots (carried_out train (ChangesStop (stop_change.Revoke id (number_forced forced_now slot)))) in
    record { place = rest.place; forced = rest.forced; stops = rest.stops; limits = rest.limits }

-- telling stops changes the stops alone
pub telling_stops : (pairs : List ((ℕ × ToldStop) × ℕ)) (train : TrainRec) → HasBecome train (fold carried_out train (map ChangesStop (map tell_stop pairs))) train.forced (told_all by_one kind_of train.stamp pairs train.stops) train.limits
telling_stops [] train = record { place = refl; forced = refl; stops = refl; limits = refl }
telling_stops (((number, told), id) ∷ pairs) train =
    let rest = telling_stops pairs (carried_out train (ChangesStop (stop_change.Tell id number told))) in
    record { place = rest.place; forced = rest.forced; stops = rest.stops; limits = rest.limits }

-- changing restrictions changes them alone
others_stay : (groups : List (List LimitChange)) (train : TrainRec) → HasBecome train (fold carried_out train (map ChangesLimits groups)) train.forced train.stops (fold carried_out train (map ChangesLimits groups)).limits
others_stay [] train = record { place = refl; forced = refl; stops = refl; limits = refl }
others_stay (changes ∷ groups) train =
    let rest = others_stay groups (carried_out train (ChangesLimits changes)) in
    record { place = rest.place; forced = rest.forced; stops = rest.stops; limits = refl }

pub changing_limits : (changes : List LimitChange) (train : TrainRec)
    → HasBecome train (fold carried_out train (map ChangesLimits (groups changes))) train.forced train.stops (changed_all (by_hundreds train.stamp) 0 changes train.limits)
changing_limits changes train =
    let others = others_stay (groups changes) train in
    record { place = others.place; forced = others.forced; stops = others.stops; limits = changed_by_groups changes train }

-- an action takes the next stamp
pub next_stamp : (train : TrainRec) (action : Action) → (carried_out train action).stamp ≡ train.stamp + 1
next_stamp train (ChangesStop (stop_change.Revoke id number)) = refl
next_stamp train (ChangesStop (stop_change.Tell id number told)) = refl
next_stamp train (ChangesLimits changes) = refl

-- some take as many as they are
pub stamp_after : (train : TrainRec) (acts : List Action) → (fold carried_out train acts).stamp ≡ train.stamp + length acts
stamp_after train [] = omega arith
stamp_after train (action ∷ acts) =
    let first : (carried_out train action).stamp ≡ train.stamp + 1 = next_stamp train action in
    let rest : (fold carried_out (carried_out train action) acts).stamp ≡ (carried_out train action).stamp + length acts = stamp_after (carried_out train action) acts in
    omega (arith, first, rest)
