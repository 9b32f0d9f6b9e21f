use Rattle.std.proofs.Common.{◌≡◌, length, take, refl, rules}
use Rattle.ertms_codec.specs.PacketsToTrain.{most_packets}
use Rattle.ertms_codec.specs.declared.to_train.ToTrain.TheVariants.{General}
use Rattle.ertms_c.specs.ToTrainFields.{head_in}
use Rattle.ertms_c.proofs.Frames.{frame_is, frame_fits, front_are, message_has}
use Rattle.ertms_c.proofs.write_packets.Goals as goal

pub returns-then-not-is_frame-clause-none : goal.returns-then-not-is_frame-clause-none
returns-then-not-is_frame-clause-none c = λ _ m fits are.
    let has = message_has c.args.fields.now m c.requires fits are in
    let is = c.is_frame.ensures.1 has.frame in absurd cc

pub returns-then-not-packets_of-clause-none : goal.returns-then-not-packets_of-clause-none
returns-then-not-packets_of-clause-none c = λ _ m fits are.
    let has = message_has c.args.fields.now m c.requires fits are in
    c.if-not-packets_of.ensures.none refl has.packets has.are

pub write_general-requires : goal.write_general-requires
write_general-requires c =
    let frame = c.if-not-is_frame.ensures.0 refl in
    let long : length c.args.fields.now.packets ≡ most_packets = search rules in
    let are = front_are c.args.fields.now c.packets_of.new.packets frame long (c.if-not-packets_of.ensures.are refl) in
    rw c.head_in.ensures (frame_fits c.args.fields.now (take c.args.fields.now.count c.packets_of.new.packets) frame long are)

pub returns-clause-written : goal.returns-clause-written
returns-clause-written c = λ _.
    let frame = c.if-not-is_frame.ensures.0 refl in
    let long : length c.args.fields.now.packets ≡ most_packets = search rules in
    let packets = take c.args.fields.now.count c.packets_of.new.packets in
    let are = front_are c.args.fields.now c.packets_of.new.packets frame long (c.if-not-packets_of.ensures.are refl) in (
      General (head_in c.args.fields.now) packets,
      frame_fits c.args.fields.now packets frame long are,
      frame_is c.args.fields.now packets frame long are,
      rw c.head_in.ensures at c.write_general.ensures.written,
    )
