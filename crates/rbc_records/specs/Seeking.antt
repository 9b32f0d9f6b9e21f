-- What a search for the trains that a command seeks finds (own rule).
use Rattle.std.specs.Prelude.{◌≡◌, ℕ, true, List, Some, is_some, IsTrue}
use Rattle.rbc_settle.specs.declared.train.TrainRec.{TrainRec}
use Rattle.rbc_settle.specs.Numbers.{has_number}
use Rattle.rbc_records.specs.declared.search.Sought.{Sought}
use Rattle.rbc_records.specs.SoughtTrains.{is_sought}
use Rattle.rbc_records.specs.declared.record.Key.TheVariants as key
use Rattle.rbc_records.specs.declared.record.Key.{Key}
use Rattle.rbc_records.specs.declared.record.Rec.TheVariants as rec
use Rattle.rbc_records.specs.Notes.{Notes, knows, noted}

-- A search has found these engines: every key is known, each engine has a record, and no train that is sought is
-- missed. There may be others among them.
pub record AreFound (notes : Notes) (what : Sought) (engines : List ℕ) : Type 0 where
  pub all_known : (k : Key) → IsTrue (knows notes k)
  pub there : (engine : ℕ) → has_number engines engine ≡ true → IsTrue (is_some (noted notes (key.Train engine)))
  pub none_missed : (engine : ℕ) (train : TrainRec) → noted notes (key.Train engine) ≡ Some (rec.Train train) → is_sought what train ≡ true → has_number engines engine ≡ true
