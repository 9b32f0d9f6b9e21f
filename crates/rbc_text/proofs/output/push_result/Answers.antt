use Rattle.std.proofs.Common.{◌≡◌, ◌++◌, sym, ap, ◌∙◌, subst}
use Rattle.std.specs.Prelude.{OnOk, codes}
use Rattle.std.proofs.lemmas.Result.{on_ok_weaker}
use Rattle.rbc_rule.specs.declared.outcome.Reply.TheVariants.{Done}
use Rattle.rbc_text.specs.OutputText.{result_line}
use Rattle.rbc_text.proofs.ResultLines.{nothing_sent}
use Rattle.rbc_text.proofs.output.push_result.Goals as goal

pub returns-in-Done-eq0 : goal.returns-in-Done-eq0
returns-in-Done-eq0 c =
    let reply : c.args.reply ≡ Done 0 = c.in-Done-eq0.is ∙ sym (ap Done c.in-Done-eq0.field-0-is) ∙ ap Done c.in-Done-eq0.field-0-test in
    subst (λ r. OnOk c.push_nothing_sent.result (c.push_nothing_sent.new.text.items ≡ c.args.text.now.items ++ result_line (c.args.input, r))) (sym reply)
    (on_ok_weaker c.push_nothing_sent.result (λ e. e ∙ ap (λ all. all ++ codes " ok 0\n") c.in_ok-push_decimal.ensures ∙ nothing_sent c.args.text.now.items c.args.input) c.push_nothing_sent.ensures)
