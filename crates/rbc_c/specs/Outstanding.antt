-- The identifiers of trains whose messages wait for an answer or an acknowledgement, as C has them (own layout).
use Rattle.std.specs.Prelude.{◌≡◌, ℕ, if◌then◌else◌, List, [], ◌++◌, Option, Some, None}
use Rattle.std.specs.List.{filter_map, flat_map}
use Rattle.std.specs.Option.{option_map_or}
use Rattle.rbc_ids.specs.declared.slot.Kind.{Kind}
use Rattle.rbc_ids.specs.declared.slot.Kind.TheVariants.{Conditional, Unconditional, Restriction}
use Rattle.rbc_ids.specs.declared.slot.Slot.{Slot}
use Rattle.rbc_ids.specs.declared.slot.Slot.TheVariants.{Used, Revoking}
use Rattle.rbc_settle.specs.declared.train.TrainRec.{TrainRec}
use Rattle.rbc_live.specs.declared.desk.LiveDesk.{LiveDesk}
use Rattle.rbc_live.specs.Known.{engines_in, train_in}
use Rattle.rbc_c.specs.declared.outstanding.Outstanding.{Outstanding}

-- the kind of message that told a number: 0 message 15, 1 message 16, 2 message 24
abbrev pub code_of_kind : Kind → ℕ
code_of_kind Conditional = 0
code_of_kind Unconditional = 1
code_of_kind Restriction = 2

-- what waits at a train under an identifier, with the kind that a revocation has: nothing if it tells a number and that was answered
abbrev pub waits_under : ℕ → ℕ → ℕ × Slot → Option Outstanding
waits_under engine revocation (id, Used used) =
    if used.acked then None
    else Some (record { engine = engine; kind = code_of_kind used.kind; number = used.number; identifier = id; stamp = used.stamp })
waits_under engine revocation (id, Revoking stamp) =
    Some (record { engine = engine; kind = revocation; number = 0; identifier = id; stamp = stamp })

-- what waits at a train: under its stop identifiers, and then under its restriction identifiers, each ascending. The revocation of a stop is of
-- kind 3, that of a restriction of kind 4.
abbrev pub waits_at : ℕ → TrainRec → List Outstanding
waits_at engine train = filter_map (waits_under engine 3) train.stops ++ filter_map (waits_under engine 4) train.limits

-- what waits at the train with an engine number, if it is enrolled
abbrev pub waits_of : LiveDesk → ℕ → List Outstanding
waits_of desk engine = option_map_or (waits_at engine) (train_in desk.records engine) []

-- this is what waits at the trains of a desk, engines ascending
abbrev pub AreOutstanding : LiveDesk → List Outstanding → Type 0
AreOutstanding desk given = given ≡ flat_map (waits_of desk) (engines_in desk.records)
