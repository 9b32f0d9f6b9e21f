use Rattle.std.proofs.Common.{List, sym, subst}
use Rattle.rbc_records.specs.declared.record.Key.{Key}
use Rattle.rbc_records.specs.declared.record.Rec.{Rec}
use Rattle.rbc_live.specs.Serial.{IsSerial}
use Rattle.rbc_live.proofs.desk.LiveDesk.keep_spare.Goals as goal

pub invariant_of-self : goal.invariant_of-self
invariant_of-self c = record {
  serial = subst (λ (records : List (Key × Rec)). ∥ IsSerial c.args.self.now.track records ∥₁) (sym c.keep_spare.ensures) c.args.self.now.serial;
}
