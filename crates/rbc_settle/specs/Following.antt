-- When an action may be carried out, and when a list of them may be, one after another.
use Rattle.std.specs.Prelude.{◌≡◌, ℕ, ◌+◌, ◌<◌, false, List, [], ◌∷◌, IsTrue}
use Rattle.rbc_ids.specs.Maps.{has}
use Rattle.rbc_ids.specs.Table.{Slots, is_told, is_used_at}
use Rattle.rbc_settle.specs.declared.train.TrainRec.{TrainRec}
use Rattle.rbc_settle.specs.declared.change.StopChange.TheVariants as stop_change
use Rattle.rbc_settle.specs.declared.change.LimitChange.{LimitChange}
use Rattle.rbc_settle.specs.declared.change.LimitChange.TheVariants as limit_change
use Rattle.rbc_settle.specs.Actions.{Action, ChangesStop, ChangesLimits}
use Rattle.rbc_settle.specs.Trains.{stop_identifiers, limit_identifiers}
use Rattle.rbc_settle.specs.Settling.{limit_changed, carried_out}

-- A number may be told under an identifier: the identifier is free, and the number is not told.
pub record CanTell (count : ℕ) (slots : Slots) (id number : ℕ) : Type 0 where
  pub below : id < count
  pub free : has slots id ≡ false
  pub untold : is_told slots number ≡ false

-- An identifier that is used may be revoked.
abbrev pub CanChange : Slots → LimitChange → Type 0
CanChange slots (limit_change.Revoke id) = IsTrue (is_used_at slots id)
CanChange slots (limit_change.Tell id number told) = CanTell limit_identifiers slots id number

-- each change of a message may be made when its turn comes
abbrev pub CanChangeAll : ℕ → Slots → List LimitChange → Type 0
CanChangeAll stamp slots [] = Unit
CanChangeAll stamp slots (change ∷ changes) = CanChange slots change × CanChangeAll stamp (limit_changed stamp slots change) changes

-- an action may be carried out
abbrev pub Allows : TrainRec → Action → Type 0
Allows train (ChangesStop (stop_change.Revoke id number)) = IsTrue (is_used_at train.stops id)
Allows train (ChangesStop (stop_change.Tell id number told)) = CanTell stop_identifiers train.stops id number
Allows train (ChangesLimits changes) = CanChangeAll (train.stamp + 1) train.limits changes

-- each action may be carried out when its turn comes
abbrev pub CanFollow : TrainRec → List Action → Type 0
CanFollow train [] = Unit
CanFollow train (action ∷ actions) = Allows train action × CanFollow (carried_out train action) actions
