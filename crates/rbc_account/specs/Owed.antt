-- Which messages to a train wait for an answer or an acknowledgement (own rule).
use Rattle.std.specs.Prelude.{ℕ, ◌+◌, Bool, false, nat_eq, nat_lt, if◌then◌else◌, List, [], ◌∷◌, length, Option, Some, None}
use Rattle.std.specs.List.{filter_map, list_any}
use Rattle.std.specs.Option.{option_map_or}
use Rattle.rbc_ids.specs.declared.slot.Slot.{Slot}
use Rattle.rbc_ids.specs.declared.slot.Slot.TheVariants.{Used, Revoking}
use Rattle.rbc_ids.specs.Table.{Slots}
use Rattle.rbc_settle.specs.declared.train.TrainRec.{TrainRec}

-- the stamp of the message of a slot, if that message waits
abbrev pub owed_stamp : Slot → Option ℕ
owed_stamp (Used used) = if used.acked then None else Some used.stamp
owed_stamp (Revoking stamp) = Some stamp

-- whether a slot waits for the answer to the message with this stamp
abbrev pub is_owed_under : ℕ → Slot → Bool
is_owed_under stamp slot = option_map_or (nat_eq stamp) (owed_stamp slot) false

-- the stamps of the messages that wait, one for each slot that waits
abbrev pub stamps_owed : Slots → List ℕ
stamps_owed slots = filter_map (λ held. owed_stamp held.1) slots

-- the numbers of a list, each once
abbrev pub different : List ℕ → List ℕ
different [] = []
different (n ∷ more) = if list_any (nat_eq n) more then different more else n ∷ different more

-- How many messages to a train wait. A message has a stamp of its own, and counts once however many identifiers it tells.
abbrev pub messages_owed : TrainRec → ℕ
messages_owed train = length (different (stamps_owed train.stops)) + length (different (stamps_owed train.limits))

-- whether a train owes an answer or an acknowledgement
abbrev pub is_owing : TrainRec → Bool
is_owing train = nat_lt 0 (messages_owed train)
