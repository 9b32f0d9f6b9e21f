-- Worked cases of what settling promises: correct trains, and trains that are wrong in one point.
use Rattle.std.specs.Prelude.{ℕ, true, false, [], ◌∷◌, Some}
use Rattle.rbc_track.specs.Plan.{Plan}
use Rattle.rbc_track.specs.declared.group.Way.TheVariants.{Up, Down}
use Rattle.rbc_zones.specs.Placing.{Place}
use Rattle.rbc_ids.specs.declared.slot.Slot.TheVariants.{Used, Revoking}
use Rattle.rbc_ids.specs.declared.slot.Kind.TheVariants.{Conditional, Unconditional, Restriction}
use Rattle.rbc_ids.specs.Table.{Slots, told_now}
use Rattle.rbc_zones.specs.declared.limit.Dirs.TheVariants as dirs
use Rattle.rbc_settle.specs.declared.train.TrainRec.{TrainRec}
use Rattle.rbc_settle.specs.Trains.{new_train}
use Rattle.rbc_settle.specs.Settling.{Stops, Limits}

-- two lines, with balise groups 5 and 6 on the first and 7 on the second
abbrev pub track_a : Plan
track_a = record {
  horizon = 100000;
  lines = 300000 ∷ 3000000 ∷ [];
  groups =
      (5, record { line = 0; at = 10000; nominal = Up })
      ∷ (6, record { line = 0; at = 200000; nominal = Down })
      ∷ (7, record { line = 1; at = 0; nominal = Up })
      ∷ [];
}

-- stop 1 is active on the first metre of line 0
abbrev pub stop_1 : Stops
stop_1 = record { last = 1; active = (1, record { line = 0; from = 0; to = 10 } ∷ []) ∷ [] }

-- stop 1 was active, and no stop is now
abbrev pub no_stop : Stops
no_stop = record { last = 1; active = [] }

-- restriction 1 is active from 100.0 m to 989.9 m of line 0, for trains that face up, at 40 km/h
abbrev pub limit_1 : Limits
limit_1 = record {
  last = 1;
  active = (1, record { segment = record { line = 0; from = 1000; to = 9899 }; dirs = dirs.Up; speed = 40; front = true }) ∷ [];
}

-- there was never a restriction
abbrev pub no_limit : Limits
no_limit = record { last = 0; active = [] }

-- train 7 without a place, with these stop slots and this stamp
abbrev pub train_7 : ℕ → Slots → TrainRec
train_7 stamp slots = record (new_train 7 2000 stamp) { stops = slots }

-- stop 1 was told to train 7 under identifier 0 by the message with stamp 1
abbrev pub told : TrainRec
told = train_7 1 ((0, told_now 1 1 Unconditional) ∷ [])

-- nothing was told to train 7
abbrev pub untold : TrainRec
untold = train_7 0 []

-- stop 1 was told to train 7 twice, under identifiers 0 and 1
abbrev pub told_twice : TrainRec
told_twice = train_7 2 ((0, told_now 1 1 Unconditional) ∷ (1, told_now 1 2 Unconditional) ∷ [])

-- stop 1 was told and the revocation under identifier 1 was sent with one and the same stamp
abbrev pub one_stamp : TrainRec
one_stamp = train_7 1 ((0, told_now 1 1 Unconditional) ∷ (1, Revoking 1) ∷ [])

-- restriction 1 was told under identifier 0, and the one under identifier 1 was revoked, by one message with stamp 1
abbrev pub one_message : TrainRec
one_message = record (train_7 1 []) { limits = (0, told_now 1 1 Restriction) ∷ (1, Revoking 1) ∷ [] }

-- stop 1 and restriction 1 were told with one and the same stamp
abbrev pub shared_stamp : TrainRec
shared_stamp = record told { limits = (0, told_now 1 1 Restriction) ∷ [] }

-- stop 1 was told with stamp 2, which train 7 has not reached
abbrev pub stamp_ahead : TrainRec
stamp_ahead = train_7 1 ((0, told_now 1 2 Unconditional) ∷ [])

-- the slot of stop 1 says that a restriction was told
abbrev pub told_as_limit : TrainRec
told_as_limit = train_7 1 ((0, told_now 1 1 Restriction) ∷ [])

-- stop 1 was told under identifier 15, which no train has
abbrev pub sixteenth : TrainRec
sixteenth = train_7 1 ((15, told_now 1 1 Unconditional) ∷ [])

-- stop 2, which was never given, was told
abbrev pub never_given : TrainRec
never_given = train_7 1 ((0, told_now 2 1 Unconditional) ∷ [])

-- 200 m beyond balise group 5 on line 0, facing up
abbrev pub beyond_5 : Place
beyond_5 = record { line = 0; lrbg = 5; at = 10000; same = true; facing = Up; lo = 9900; hi = 12100 }

-- the same, but counted as if balise group 5 lay at the position of balise group 6
abbrev pub group_elsewhere : Place
group_elsewhere = record { line = 0; lrbg = 5; at = 200000; same = true; facing = Up; lo = 9900; hi = 12100 }

-- the same, but as if the nominal direction of balise group 5 were down
abbrev pub group_turned : Place
group_turned = record { line = 0; lrbg = 5; at = 10000; same = false; facing = Up; lo = 9900; hi = 12100 }

-- train 7 at a place, to which stop 1 was told under identifier 0 by the message with stamp 1
abbrev pub placed_at : Place → TrainRec
placed_at place = record (train_7 1 ((0, told_now 1 1 Conditional) ∷ [])) { place = Some place }

-- train 7 at that place, which was told stop 1 conditionally, and has reported this often without an answer
abbrev pub unanswered : ℕ → TrainRec
unanswered reports = record (train_7 1 ((0, Used (record { number = 1; stamp = 1; kind = Conditional; acked = false; count = reports })) ∷ [])) { place = Some beyond_5 }

-- a report is counted for a stop that was told at once
abbrev pub counted_unconditional : TrainRec
counted_unconditional = train_7 1 ((0, Used (record { number = 1; stamp = 1; kind = Unconditional; acked = false; count = 1 })) ∷ [])

-- train 7 beyond balise group 5, to which restriction 1 was told under identifier 0 by the message with stamp 1
abbrev pub limited : TrainRec
limited = record (train_7 1 []) { place = Some beyond_5; limits = (0, told_now 1 1 Restriction) ∷ [] }
