use Rattle.std.proofs.Common.{sym, subst}
use Rattle.rbc_live.specs.Serial.{IsSerial}
use Rattle.rbc_live.proofs.Runs.{opens}
use Rattle.rbc_live.proofs.desk.LiveDesk.on.Goals as goal

pub invariant_of-result : goal.invariant_of-result
invariant_of-result c = record { serial = ∣ subst (IsSerial c.args.track) (sym c.new-records.ensures) (opens c.args.track) ∣₁ }
