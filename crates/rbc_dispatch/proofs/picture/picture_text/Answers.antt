use Rattle.std.proofs.Common.{ℕ, List}
use Rattle.rbc_dispatch.proofs.NotTold.{kept_undrawn, not_drawn, untouched}
use Rattle.rbc_dispatch.proofs.picture.picture_text.Goals as goal

-- why there is no picture is handed on

pub returns-in_err-drawing-clause-draws : goal.returns-in_err-drawing-clause-draws
returns-in_err-drawing-clause-draws g c = not_drawn (List ℕ) c.args.text.now c.args.after c.args.selection.now _ _ _ _ _ c.in_err-drawing.field-0.0 c.from_residual.ensures.1 c.in_err-drawing.ensures.draws

pub returns-in_err-drawing-clause-keeps : goal.returns-in_err-drawing-clause-keeps
returns-in_err-drawing-clause-keeps g c = kept_undrawn (List ℕ) _ _ _ _ c.in_err-drawing.field-0.0 c.from_residual.ensures.1 c.in_err-drawing.ensures.unread

pub returns-in_err-drawing-clause-untouched : goal.returns-in_err-drawing-clause-untouched
returns-in_err-drawing-clause-untouched g c = untouched _ _ c.in_err-drawing.field-0.0 c.from_residual.ensures.1
