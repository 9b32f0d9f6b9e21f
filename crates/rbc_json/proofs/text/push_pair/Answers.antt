use Rattle.std.proofs.Common.{◌+◌, ◌/◌, ◌%◌, string_bytes}
use Rattle.rbc_json.specs.Json.{unit_text}
use Rattle.rbc_json.proofs.Quoting.{two_added}
use Rattle.rbc_json.proofs.text.push_pair.Goals as goal

pub returns : goal.returns
returns c =
    two_added c.push_unit-2.result (string_bytes c.args.text.now) (string_bytes c.push_unit.new.text) (string_bytes c.push_unit-2.new.text)
    (unit_text (55296 + c.args.beyond / 1024)) (unit_text (56320 + c.args.beyond % 1024)) c.in_ok-push_unit.ensures c.push_unit-2.ensures
