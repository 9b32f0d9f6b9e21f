use Rattle.std.proofs.Common.{◌≡◌, ◌++◌, ◌<◌, length, get_or, rules, string_bytes}
use Rattle.rbc_json.specs.Json.{character_text}
use Rattle.rbc_json.proofs.Quoting.{bytes_more}
use Rattle.rbc_json.proofs.text.quoted_bytes.Goals as goal

pub loop-byte-preserved : goal.loop-byte-preserved
loop-byte-preserved c =
    let more : string_bytes c.push_character.new.text ≡ string_bytes c.loop-byte.text ++ character_text (get_or c.args.bytes.now c.loop-byte.byte-index 0) = search rules in
    let within : c.loop-byte.byte-index < length c.args.bytes.now = search rules in
    bytes_more _ _ c.args.bytes.now c.loop-byte.byte-index within c.loop-byte.invariant more
