use Rattle.std.proofs.Common.{rules, ◌≡◌, ◌∙◌, sym, arith, true≢false, false, OnOk, Result, Ok, Err, is_err}
use Rattle.rbc_engine.proofs.Stretches.{run_of}
use Rattle.rbc_engine.proofs.InWindows.{stretch_of_window}
use Rattle.rbc_engine.proofs.by_train.run_shared.Goals as goal

not_err : {X E P : Type 0} (r : Result X E) → OnOk r P → is_err r ≡ false → P
not_err (Ok x) p h = p
not_err (Err e) p h = absurd (true≢false h)

pub returns : goal.returns
returns g c =
    stretch_of_window (run_of c.args.track.now c.args.desk.now c.args.inputs.now) c.run_window.new.desk c.requires.good _
    (not_err c.run_window.result c.run_window.ensures.ok (sym c.is_err.ensures.value ∙ c.if-is_err.false)) (search rules) (omega arith)
