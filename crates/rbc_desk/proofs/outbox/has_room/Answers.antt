use Rattle.std.proofs.Common.{sym, subst}
use Rattle.ertms_codec.specs.declared.to_train.ToTrain.{ToTrain}
use Rattle.ertms_codec.specs.declared.to_train.ToTrain.TheVariants.{General}
use Rattle.ertms_codec.specs.Layout.{HoldValues}
use Rattle.ertms_codec.specs.ToTrain.{Fits, fields_of}
use Rattle.rbc_rule_laws.proofs.Packets.{general_holds}
use Rattle.rbc_desk.proofs.outbox.has_room.Goals as goal

pub returns-in-General-clause-values : goal.returns-in-General-clause-values
returns-in-General-clause-values c =
    let head = c.in-General.head in
    let packets = c.in-General.packets in
    let fits : Fits (General head packets) = subst Fits c.in-General.is c.requires in
    subst (λ (m : ToTrain). HoldValues (fields_of m)) (sym c.in-General.is)
    (general_holds head packets c.head_has_room-in-General.ensures fits.lrbg fits.body.most c.packets_have_room.ensures)
