-- What is known of one train (own rule).
use Rattle.std.specs.Prelude.{ℕ, [], Option, Some, None, option_map}
use Rattle.std.specs.Option.{option_map_or}
use Rattle.rbc_ids.specs.Table.{after_stamp_ack}
use Rattle.rbc_settle.specs.declared.train.TrainRec.{TrainRec}

-- R-IDENTIFIER-1: how many stop identifiers a train has (NID_EM): 0 to 14
abbrev pub stop_identifiers : ℕ
stop_identifiers = 15

-- R-IDENTIFIER-1: how many restriction identifiers it has (NID_TSR): 0 to 254
abbrev pub limit_identifiers : ℕ
limit_identifiers = 255

-- the greatest number of an on-board equipment (NID_ENGINE, 24 bits)
abbrev pub max_engine : ℕ
max_engine = 16777215

-- the greatest length of a train: 4 km, in units of 10 cm
abbrev pub max_train_length : ℕ
max_train_length = 40000

-- R-INPUT-2: a train without a place, to which nothing was told
abbrev pub new_train : ℕ → ℕ → ℕ → TrainRec
new_train engine length stamp = record { engine = engine; length = length; stamp = stamp; place = None; forced = []; stops = []; limits = [] }

-- R-INPUT-7: a train after it has acknowledged the message with this stamp, which is looked up among its stops first, and then among its
-- restrictions
abbrev pub after_ack : ℕ → TrainRec → Option TrainRec
after_ack stamp train =
    option_map_or (λ slots. Some (record train { stops = slots })) (after_stamp_ack train.stops stamp) (option_map (λ slots. record train { limits = slots }) (after_stamp_ack train.limits stamp))
