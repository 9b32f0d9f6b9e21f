use Rattle.std.proofs.Common.{string_bytes}
use Rattle.rbc_json.specs.Json.{Null}
use Rattle.rbc_json.proofs.Refusing.{any_text}
use Rattle.rbc_json.proofs.refused.reason_text.Goals as goal

pub returns-in_default : goal.returns-in_default
returns-in_default c = any_text (λ text. string_bytes text) c.null_text.result Null c.null_text.ensures
