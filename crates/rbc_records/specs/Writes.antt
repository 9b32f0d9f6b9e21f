-- What writes do to records (own rule).
use Rattle.std.specs.Prelude.{◌≡◌, ℕ, List, [], ◌∷◌, Option, Some, if◌then◌else◌}
use Rattle.rbc_settle.specs.declared.train.TrainRec.{TrainRec}
use Rattle.rbc_settle.specs.Trains.{after_ack}
use Rattle.rbc_records.specs.declared.record.Key.{Key}
use Rattle.rbc_records.specs.declared.record.Key.TheVariants as key
use Rattle.rbc_records.specs.declared.record.Rec.{Rec}
use Rattle.rbc_records.specs.declared.record.Rec.TheVariants as rec
use Rattle.rbc_records.specs.Notes.{record_in, same_key}

-- what stands under each key after one write, which puts a record there or removes it
abbrev pub write_over : Key × Option Rec → (Key → Option Rec) → Key → Option Rec
write_over write records k = if same_key k write.0 then write.1 else records k

-- what stands under each key after all writes in order, so that the last write to a key counts
abbrev pub written : List (Key × Option Rec) → (Key → Option Rec) → Key → Option Rec
written [] records k = records k
written (write ∷ writes) records k = written writes (write_over write records) k

-- under the key of each write, what stood there just before that write
abbrev pub replaced : List (Key × Option Rec) → (Key → Option Rec) → List (Key × Option Rec)
replaced [] records = []
replaced (write ∷ writes) records = (write.0, records write.0) ∷ replaced writes (write_over write records)

-- a train's acknowledgement of a message was taken into its record, with another stamp of its own, and no other record has changed
pub record IsAcknowledged (engine acked raised : ℕ) (train : TrainRec) (old new : List (Key × Rec)) : Type 0 where
  pub after : TrainRec
  pub after_is : after_ack acked train ≡ Some after
  pub records : (k : Key) → record_in new k ≡ write_over (key.Train engine, Some (rec.Train (record after { stamp = raised }))) (record_in old) k
