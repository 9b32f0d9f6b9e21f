use Rattle.std.proofs.Common.{List, sym, subst}
use Rattle.rbc_records.specs.declared.record.Key.{Key}
use Rattle.rbc_records.specs.declared.record.Rec.{Rec}
use Rattle.rbc_live.specs.History.{IsFed}
use Rattle.rbc_live.proofs.desk.LiveDesk.feed.Goals as goal

pub returns-clause-step : goal.returns-clause-step
returns-clause-step c =
    subst (λ (records : List (Key × Rec)). IsFed c.args.self.now.track c.args.line.now c.args.self.now.records records c.in_ok-answer.answer.reply c.in_ok-answer.answer.messages)
    (sym c.keep_spare.ensures.records) c.in_ok-answer.ensures.step
