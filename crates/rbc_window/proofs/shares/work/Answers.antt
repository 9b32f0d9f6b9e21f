use Rattle.std.proofs.Common.{◌≡◌, ◌∙◌, List, ◌++◌, ◌∷◌, [], subst, sym}
use Rattle.std.proofs.lemmas.List.Elements.{All-push}
use Rattle.rbc_records.specs.Notes.{record_in}
use Rattle.rbc_window.specs.declared.share.Share.{Share}
use Rattle.rbc_window.specs.Hearing.{setting}
use Rattle.rbc_window.specs.Shares.{HasTakenIfDone, HaveTakenIfDone}
use Rattle.rbc_window.proofs.Pushed.{at_no_err}
use Rattle.rbc_window.proofs.shares.work.Goals as goal

-- one more share
pub loop-preserved : goal.loop-preserved
loop-preserved g c =
    let right = HasTakenIfDone (setting c.args.scene.now) (record_in c.args.store.now) c.args.inputs.now in
    let pushed : c.push.new.self.items ≡ c.loop.done.items ++ c.take_in-share.result ∷ [] = at_no_err {V = List Share} c.push.result _ _ _ c.push.ensures.items (sym c.is_err.ensures.value ∙ c.if-is_err.false) in
    subst (HaveTakenIfDone (setting c.args.scene.now) (record_in c.args.store.now) c.args.inputs.now) (sym pushed) (All-push right c.loop.done.items c.take_in-share.result c.loop.invariant c.take_in-share.ensures)
