-- Carrying out one action that is allowed: its identifier is one of the table's, and the tables stay sound.
use Rattle.std.proofs.Common.{◌≡◌, ℕ, ◌+◌, ◌<◌, true, List, [], ◌∷◌}
use Rattle.std.specs.List.{fold}
use Rattle.rbc_maps.specs.Maps.{with_value}
use Rattle.rbc_ids.specs.declared.slot.Slot.{Slot}
use Rattle.rbc_ids.specs.declared.slot.Slot.TheVariants.{Revoking}
use Rattle.rbc_ids.specs.declared.slot.Kind.TheVariants.{Restriction}
use Rattle.rbc_ids.specs.Table.{Slots, IsTable, is_used, is_used_at, told_now}
use Rattle.rbc_ids.proofs.Tables.{has-any, held_below, stays_with}
use Rattle.rbc_ids.proofs.Once.{apart-revoking, apart-told}
use Rattle.rbc_settle.specs.declared.train.TrainRec.{TrainRec}
use Rattle.rbc_settle.specs.declared.change.StopChange.TheVariants as stop_change
use Rattle.rbc_settle.specs.declared.change.LimitChange.{LimitChange}
use Rattle.rbc_settle.specs.declared.change.LimitChange.TheVariants as limit_change
use Rattle.rbc_settle.specs.Actions.{Action, ChangesStop, ChangesLimits}
use Rattle.rbc_settle.specs.Settling.{kind_of, limit_changed, carried_out}
use Rattle.rbc_settle.specs.Following.{CanChangeAll, Allows}
use Rattle.rbc_settle.specs.UpToDate.{HasTables}

module _ (count : ℕ) (slots : Slots) where
  -- an identifier that is used is one of the table's
  pub used_below : IsTable count slots → (id : ℕ) → is_used_at slots id ≡ true → id < count
  used_below table id used = held_below count slots table id (has-any id (λ (held : ℕ × Slot). is_used held.1) slots used)

-- a table of restrictions stays sound
keeps_table : (stamp : ℕ) (slots : Slots) (changes : List LimitChange) → IsTable 255 slots → CanChangeAll stamp slots changes → IsTable 255 (fold (limit_changed stamp) slots changes)
keeps_table stamp slots [] table can = table
keeps_table stamp slots (limit_change.Revoke id ∷ changes) table can =
    keeps_table stamp (with_value id (Revoking stamp) slots) changes
    (stays_with 255 slots table id (Revoking stamp) (used_below 255 slots table id can.0) (apart-revoking id stamp slots)) can.1
keeps_table stamp slots (limit_change.Tell id number told ∷ changes) table can =
    keeps_table stamp (with_value id (told_now number stamp Restriction) slots) changes
    (stays_with 255 slots table id (told_now number stamp Restriction) can.0.below (apart-told id number stamp Restriction slots can.0.untold)) can.1

-- the tables of a train stay sound
pub keeps_tables : (train : TrainRec) (action : Action) → HasTables train → Allows train action → HasTables (carried_out train action)
keeps_tables train (ChangesStop (stop_change.Revoke id number)) tables used = record {
  stops = stays_with 15 train.stops tables.stops id (Revoking (train.stamp + 1)) (used_below 15 train.stops tables.stops id used) (apart-revoking id (train.stamp + 1) train.stops);
  limits = tables.limits;
}
keeps_tables train (ChangesStop (stop_change.Tell id number told)) tables can = record {
  stops = stays_with 15 train.stops tables.stops id (told_now number (train.stamp + 1) (kind_of told)) can.below (apart-told id number (train.stamp + 1) (kind_of told) train.stops can.untold);
  limits = tables.limits;
}
keeps_tables train (ChangesLimits changes) tables can = record {
  stops = tables.stops;
  limits = keeps_table (train.stamp + 1) train.limits changes tables.limits can;
}
