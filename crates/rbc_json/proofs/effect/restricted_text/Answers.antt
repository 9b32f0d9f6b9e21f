use Rattle.std.proofs.Common.{refl, string_bytes}
use Rattle.rbc_json.specs.Effects.{limit_fields, speed_fields}
use Rattle.rbc_json.proofs.Pieces.{joined}
use Rattle.rbc_json.proofs.effect.restricted_text.Goals as goal

pub returns : goal.returns
returns c =
    joined (λ text. string_bytes text) c.format.result (limit_fields c.args.number c.args.segment c.args.dirs) (speed_fields c.args.speed c.args.front c.args.counts) refl
    (string_bytes c.in_ok-limit.limit) (string_bytes c.in_ok-speed.speed) c.in_ok-limit.ensures c.in_ok-speed.ensures c.format.ensures.ok
