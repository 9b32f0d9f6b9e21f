use Rattle.std.proofs.Common.{string_bytes}
use Rattle.rbc_json.proofs.InObjects.{block_pushed}
use Rattle.rbc_json.proofs.form.ObjectsLogForm.push_block.Goals as goal

pub input_text-requires : goal.input_text-requires
input_text-requires c = record { sendable = c.requires.1.sendable; paired = c.requires.1.paired }

pub returns : goal.returns
returns c =
    block_pushed c.push_line.result c.track.result.now c.args.account.now.desk.track c.args.line.now c.args.block.now (string_bytes c.in_ok-object.object) c.as_bytes.result.now
    c.args.log.now.items c.push_line.new.log.items c.track.ensures c.as_bytes.ensures.value c.in_ok-object.ensures c.push_line.ensures
