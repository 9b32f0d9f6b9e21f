use Rattle.std.proofs.Common.{◌≡◌, true, false, slice_get, inl}
use Rattle.ertms_codec.specs.Texts.{is_to_train}
use Rattle.ertms_codec.proofs.Faults.{line_is_no_fault, fault_of_line}
use Rattle.ertms_codec.proofs.text.describe.Goals.{then-is_to_train+in_ok-line, else-is_to_train+in_ok-line-2}
use Rattle.ertms_codec.proofs.text.describe.Goals as goal

pub returns-in_err-line-clause-refused : goal.returns-in_err-line-clause-refused
returns-in_err-line-clause-refused c = λ e refused.
    let chosen : is_to_train (slice_get c.args.bytes.now 0) ≡ true = cc in
    fault_of_line c.args.bytes.now e c.line_to_train.result _ c.from_residual.result c.in_err-line.was c.from_residual.ensures.1 (c.line_to_train.ensures.refused e (rw chosen at refused))

pub returns-in_err-line-2-clause-refused : goal.returns-in_err-line-2-clause-refused
returns-in_err-line-2-clause-refused c = λ e refused.
    let chosen : is_to_train (slice_get c.args.bytes.now 0) ≡ false = cc in
    fault_of_line c.args.bytes.now e c.line_from_train.result _ c.from_residual-in_err-line-2.result c.in_err-line-2.was c.from_residual-in_err-line-2.ensures.1 (inl (c.line_from_train.ensures.refused e (rw chosen at refused)))

-- a line that was made is of bytes that are not refused
pub returns-clause-refused : goal.returns-clause-refused
returns-clause-refused c = λ e refused.
    elim c.if-is_to_train.branch [
      | then-is_to_train+in_ok-line w ↦
          let chosen : is_to_train (slice_get c.args.bytes.now 0) ≡ true = cc in
          absurd (line_is_no_fault c.args.bytes.now e w.line_to_train.result _ w.in_ok-line.was (w.line_to_train.ensures.refused e (rw chosen at refused)))
      | else-is_to_train+in_ok-line-2 w ↦
          let chosen : is_to_train (slice_get c.args.bytes.now 0) ≡ false = cc in
          absurd (line_is_no_fault c.args.bytes.now e w.line_from_train.result _ w.in_ok-line-2.was (inl (w.line_from_train.ensures.refused e (rw chosen at refused))))
    ]
