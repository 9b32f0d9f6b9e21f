use Rattle.std.proofs.Common.{Some, false}
use Rattle.rbc_core.specs.declared.stage.Stage.TheVariants.{Tried, Void}
use Rattle.rbc_core.proofs.Stages.{is_judged, not_judged, judged_by}
use Rattle.rbc_core.proofs.book.judge.Goals as goal

pub returns-in-Tried : goal.returns-in-Tried
returns-in-Tried g c =
    let tickets = c.args.present.now.tickets in
    let judged = judged_by tickets c.in-Tried.attempt c.is_fresh.result c.is_fresh.ensures.numbers c.is_fresh.ensures.records in
    is_judged c.args.stages.now.items c.args.front tickets (Some c.is_fresh.result) c.index.result.now (Tried c.in-Tried.attempt) c.requires.within c.index.ensures c.in-Tried.is judged

pub returns-in-Void : goal.returns-in-Void
returns-in-Void g c = is_judged c.args.stages.now.items c.args.front c.args.present.now.tickets (Some false) c.index.result.now Void c.requires.within c.index.ensures c.in-Void.is tt

pub returns-in-Free : goal.returns-in-Free
returns-in-Free g c = not_judged c.args.stages.now.items c.args.front c.args.present.now.tickets c.index.result.now c.requires.within c.index.ensures c.in-Free.is

pub returns-in-Free-2 : goal.returns-in-Free-2
returns-in-Free-2 g c = not_judged c.args.stages.now.items c.args.front c.args.present.now.tickets c.index.result.now c.requires.within c.index.ensures c.in-Free.is
