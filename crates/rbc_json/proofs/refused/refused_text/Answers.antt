use Rattle.std.proofs.Common.{string_bytes}
use Rattle.rbc_json.proofs.Refusing.{not_refused, refused_so}
use Rattle.rbc_json.proofs.refused.refused_text.Goals as goal

pub returns-in-Done : goal.returns-in-Done
returns-in-Done c = not_refused (λ text. string_bytes text) c.null_text.result c.args.block.now.reply _ c.in-Done.is c.null_text.ensures

pub returns-in_ok-why-in-Refused : goal.returns-in_ok-why-in-Refused
returns-in_ok-why-in-Refused c =
    refused_so (λ text. string_bytes text) c.format.result c.args.block.now.reply c.in-Refused.code (string_bytes c.in_ok-name-in-Refused.name) (string_bytes c.in_ok-why-in-Refused.why) c.in-Refused.is c.in_ok-name-in-Refused.ensures
    c.in_ok-why-in-Refused.ensures c.format.ensures.ok
