use Rattle.std.proofs.Common.{List, take}
use Rattle.rbc_json.specs.Json.{Json}
use Rattle.rbc_json.specs.Lists.{IsListOf}
use Rattle.rbc_json.specs.Messages.{AreOfMessages}
use Rattle.rbc_json.proofs.input_object.messages_text.Given as goal

-- the values of the messages that were looked at are written
abbrev pub invariant-loop-index : goal.invariant-loop-index
invariant-loop-index l =
    (values : List Json) × IsListOf values l.list × AreOfMessages l.track l.block.number (take l.index l.block.messages) (take l.index l.block.told.items) values
