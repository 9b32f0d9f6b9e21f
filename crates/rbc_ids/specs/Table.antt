-- A table of identifiers, as a map from those that are held to their slots (own rule).
use Rattle.std.specs.Prelude.{◌≡◌, ℕ, ◌+◌, ◌<◌, ◌≤◌, min, Bool, true, false, not, ◌==◌, ◌&&◌, nat_le, List, [], ◌∷◌, length, map, Option, Some, None, option_map, slice_get, if◌then◌else◌}
use Rattle.std.specs.Option.{option_map_or}
use Rattle.std.specs.List.{filter, filter_map, find, list_any, range_with_len, All}
use Rattle.rbc_maps.specs.Maps.{has, value_of, with_value, without, keys, IsMap}
use Rattle.rbc_ids.specs.declared.slot.Slot.{Slot}
use Rattle.rbc_ids.specs.declared.slot.Slot.TheVariants.{Used, Revoking}
use Rattle.rbc_ids.specs.declared.slot.UsedSlot.{UsedSlot}
use Rattle.rbc_ids.specs.declared.slot.Kind.{Kind}
use Rattle.rbc_ids.specs.declared.slot.Kind.TheVariants.{Conditional, Unconditional, Restriction}
use Rattle.rbc_ids.specs.declared.slot.StampAck.{StampAck}
use Rattle.rbc_ids.specs.declared.slot.StampAck.TheVariants as stamp_ack
use Rattle.rbc_ids.specs.declared.slot.IdAck.{IdAck}
use Rattle.rbc_ids.specs.declared.slot.IdAck.TheVariants as id_ack

-- R-IDENTIFIER-1: the held identifiers in ascending order, each with its slot
abbrev pub Slots : Type 0
Slots = List (ℕ × Slot)

-- R-IDENTIFIER-2. A slot tells this number. A slot that is being revoked tells none.
abbrev pub tells : ℕ → Slot → Bool
tells number (Used used) = used.number == number
tells number (Revoking stamp) = false

-- R-IDENTIFIER-2: a number is told if a slot tells it
abbrev pub is_told : Slots → ℕ → Bool
is_told slots number = list_any (λ held. tells number held.1) slots

-- each number is told by one slot at most
abbrev pub TellsOnce : Slots → Type 0
TellsOnce [] = Unit
TellsOnce (held ∷ slots) = ((n : ℕ) → tells n held.1 ≡ true → is_told slots n ≡ false) × TellsOnce slots

-- R-IDENTIFIER-1. A table is sound: it has at most 255 identifiers, those that are held ascend and are below `count`,
-- and no number is told under two of them.
pub record IsTable (count : ℕ) (slots : Slots) : Type 0 where
  pub small : count ≤ 255
  pub ascending : IsMap slots
  pub below : All (λ id. id < count) (keys slots)
  pub once : TellsOnce slots

-- the number of a slot is told under no other identifier
abbrev pub TellsApart : ℕ → Slot → Slots → Type 0
TellsApart id slot slots = (n : ℕ) → tells n slot ≡ true → is_told (without id slots) n ≡ false

-- a slot is used, and not being revoked
abbrev pub is_used : Slot → Bool
is_used (Used used) = true
is_used (Revoking stamp) = false

-- an identifier is held by a slot that is used
abbrev pub is_used_at : Slots → ℕ → Bool
is_used_at slots id = list_any (λ held. held.0 == id && is_used held.1) slots

-- R-IDENTIFIER-3: the free identifiers in ascending order
abbrev pub free_identifiers : ℕ → Slots → List ℕ
free_identifiers count slots = filter (λ id. not (has slots id)) (range_with_len 0 count)

-- the least free identifier
abbrev pub least_free : ℕ → Slots → Option ℕ
least_free count slots = slice_get (free_identifiers count slots) 0

-- the least identifier under which a number is told
abbrev pub identifier_of : Slots → ℕ → Option ℕ
identifier_of slots number = option_map (λ held. held.0) (find (λ held. tells number held.1) slots)

-- R-IDENTIFIER-4: the slot of a number that is told now, which the train has not acknowledged
abbrev pub told_now : ℕ → ℕ → Kind → Slot
told_now number stamp kind = Used (record { number = number; stamp = stamp; kind = kind; acked = false; count = 0 })

-- the slot once the train has acknowledged the message that told its number
abbrev pub marked : UsedSlot → Slot
marked used = Used (record used { acked = true })

-- R-ESCALATE-1, R-ESCALATE-2: how many reports without an answer are counted
abbrev pub most_reports : ℕ
most_reports = 3

abbrev pub is_conditional : Kind → Bool
is_conditional Conditional = true
is_conditional Unconditional = false
is_conditional Restriction = false

-- R-ESCALATE-1, R-ESCALATE-6: a stop was told conditionally, and the train has not acknowledged that
abbrev pub is_unanswered : UsedSlot → Bool
is_unanswered used = is_conditional used.kind && not used.acked

-- R-IDENTIFIER-4, R-ESCALATE-1. The slot after one more report of the train: a stop that is not answered counts it, to
-- at most 3.
abbrev pub reported_slot : Slot → Slot
reported_slot (Used used) = if is_unanswered used then Used (record used { count = min (used.count + 1) most_reports }) else Used used
reported_slot (Revoking stamp) = Revoking stamp

-- R-ESCALATE-1: all slots after one more report of the train
abbrev pub after_report : Slots → Slots
after_report slots = map (λ held. (held.0, reported_slot held.1)) slots

-- R-ESCALATE-2: a stop was told conditionally, and was left unanswered in three reports
abbrev pub is_ripe : Slot → Bool
is_ripe (Used used) = is_unanswered used && used.count == most_reports
is_ripe (Revoking stamp) = false

-- the same for the slot of an identifier
abbrev pub is_ripe_at : Slots → ℕ → Bool
is_ripe_at slots id = option_map_or is_ripe (value_of slots id) false

-- the table after the least free identifier was issued for a number
pub record IsIssued (count : ℕ) (old : Slots) (number stamp : ℕ) (kind : Kind) (id : ℕ) (new : Slots) : Type 0 where
  pub least : least_free count old ≡ Some id
  pub slots : new ≡ with_value id (told_now number stamp kind) old

-- the stamp of a slot
abbrev pub stamp_of : Slot → ℕ
stamp_of (Used used) = used.stamp
stamp_of (Revoking stamp) = stamp

abbrev pub is_of_restriction : Kind → Bool
is_of_restriction Conditional = false
is_of_restriction Unconditional = false
is_of_restriction Restriction = true

-- R-INPUT-7, R-REFUSE-16: the message with this stamp told the restriction of a slot, or revoked its identifier
abbrev pub is_answered_by : ℕ → Slot → Bool
is_answered_by stamp (Used used) = is_of_restriction used.kind && used.stamp == stamp
is_answered_by stamp (Revoking own) = own == stamp

-- R-INPUT-7. The slot once the train has acknowledged the message with this stamp, or none if its identifier is then
-- free: a restriction is marked, and a stop stays as it is.
abbrev pub acked_slot : ℕ → Slot → Option Slot
acked_slot stamp (Used used) = Some (if is_answered_by stamp (Used used) then marked used else Used used)
acked_slot stamp (Revoking own) = if own == stamp then None else Some (Revoking own)

-- the slots of the identifiers that are still held after that acknowledgement
abbrev pub acked_slots : ℕ → Slots → Slots
acked_slots stamp slots = filter_map (λ held. option_map (λ slot. (held.0, slot)) (acked_slot stamp held.1)) slots

-- R-INPUT-7, R-REFUSE-16: the table after the acknowledgement of the message with this stamp, unless that answers no
-- slot
abbrev pub after_stamp_ack : Slots → ℕ → Option Slots
after_stamp_ack slots stamp = if list_any (λ held. is_answered_by stamp held.1) slots then Some (acked_slots stamp slots) else None

-- the message with this stamp revoked the identifier of a slot
abbrev pub is_freed_by : ℕ → Slot → Bool
is_freed_by stamp (Used used) = false
is_freed_by stamp (Revoking own) = own == stamp

-- the message with this stamp told the restriction of a slot
abbrev pub is_marked_by : ℕ → Slot → Bool
is_marked_by stamp (Used used) = is_of_restriction used.kind && used.stamp == stamp
is_marked_by stamp (Revoking own) = false

-- how many identifiers the message revoked, and how many restrictions it told
abbrev pub freed_by : ℕ → Slots → ℕ
freed_by stamp slots = length (filter (λ held. is_freed_by stamp held.1) slots)

abbrev pub marked_by : ℕ → Slots → ℕ
marked_by stamp slots = length (filter (λ held. is_marked_by stamp held.1) slots)

-- what the acknowledgement of that message does
abbrev pub stamp_answer : Slots → ℕ → StampAck
stamp_answer slots stamp =
    if freed_by stamp slots == 0 && marked_by stamp slots == 0 then stamp_ack.Nothing
    else stamp_ack.Answered (freed_by stamp slots) (marked_by stamp slots)

-- a table, if the acknowledgement that led to it did anything
abbrev pub changed_by_stamp : StampAck → Slots → Option Slots
changed_by_stamp (stamp_ack.Answered freed marked) slots = Some slots
changed_by_stamp stamp_ack.Nothing slots = None

-- R-INPUT-8: Q_EMERGENCYSTOP accepts a stop: 0 and 1 a conditional one, 2 an unconditional one
abbrev pub is_acceptance : Kind → ℕ → Bool
is_acceptance Conditional answer = nat_le answer 1
is_acceptance Unconditional answer = answer == 2
is_acceptance Restriction answer = false

-- R-INPUT-8: Q_EMERGENCYSTOP rejects a stop: 3 a conditional one
abbrev pub is_rejection : Kind → ℕ → Bool
is_rejection Conditional answer = answer == 3
is_rejection Unconditional answer = false
is_rejection Restriction answer = false

-- R-INPUT-8, R-REFUSE-16. The table once the stop of a slot is answered, unless it waits for no such answer: the stop
-- is marked if it was accepted, and its identifier is free if it was rejected.
abbrev pub acked_by_id : Slots → ℕ → ℕ → Option Slot → Option Slots
acked_by_id slots id answer (Some (Used used)) =
    if is_acceptance used.kind answer then Some (with_value id (marked used) slots)
    else if is_rejection used.kind answer then Some (without id slots) else None
acked_by_id slots id answer (Some (Revoking stamp)) = None
acked_by_id slots id answer None = None

-- R-INPUT-8, R-REFUSE-16: the table after the train's answer to the stop under an identifier, unless nothing waits for
-- that answer
abbrev pub after_id_ack : Slots → ℕ → ℕ → Option Slots
after_id_ack slots id answer = acked_by_id slots id answer (value_of slots id)

-- the number of the stop of a slot, if the train rejects it
abbrev pub rejected : ℕ → Option Slot → Option ℕ
rejected answer (Some (Used used)) = if is_rejection used.kind answer then Some used.number else None
rejected answer (Some (Revoking stamp)) = None
rejected answer None = None

-- a table, if the answer that led to it did anything
abbrev pub changed_by_id : IdAck → Slots → Option Slots
changed_by_id id_ack.Marked slots = Some slots
changed_by_id (id_ack.Rejected number) slots = Some slots
changed_by_id id_ack.Nothing slots = None

-- the number that the answer rejected
abbrev pub number_rejected : IdAck → Option ℕ
number_rejected id_ack.Marked = None
number_rejected (id_ack.Rejected number) = Some number
number_rejected id_ack.Nothing = None
