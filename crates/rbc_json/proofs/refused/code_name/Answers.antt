use Rattle.std.proofs.Common.{string_bytes}
use Rattle.std.specs.Str.{chars}
use Rattle.rbc_json.specs.Json.{Null, Text}
use Rattle.rbc_json.proofs.Refusing.{any_text}
use Rattle.rbc_json.proofs.refused.code_name.Goals as goal

pub returns-in-Some : goal.returns-in-Some
returns-in-Some c = any_text (λ text. string_bytes text) c.quoted.result (Text (chars c.in-Some.row.name.now)) c.quoted.ensures

pub returns-in-None : goal.returns-in-None
returns-in-None c = any_text (λ text. string_bytes text) c.null_text.result Null c.null_text.ensures
