use Rattle.std.proofs.Common.{◌≡◌, IfOk, subst, sym, string_bytes}
use Rattle.rbc_account.specs.declared.deed.Deed.{Deed}
use Rattle.rbc_json.specs.Effects.{effect_object}
use Rattle.rbc_json.specs.Json.{json_text}
use Rattle.rbc_json.proofs.effect.effect_text.Goals as goal

pub returns-in-Answered : goal.returns-in-Answered
returns-in-Answered c =
    subst (λ (d : Deed). IfOk c.answered_text.result (λ text. string_bytes text ≡ json_text (effect_object c.args.counts d))) (sym c.in-Answered.is) c.answered_text.ensures
