use Rattle.ertms_codec.proofs.Faults.{read_is_no_fault, fault_of_read}
use Rattle.ertms_codec.proofs.text.line_to_train.Goals as goal

pub returns-in_err-read_to_train-clause-refused : goal.returns-in_err-read_to_train-clause-refused
returns-in_err-read_to_train-clause-refused c = λ e refused.
    fault_of_read c.args.bytes.now e c.read_to_train.result _ c.from_residual.result c.in_err-read_to_train.was c.from_residual.ensures.1 (c.read_to_train.ensures.exact e refused)

-- a message that was read is not refused
pub returns-in_err-format-clause-refused : goal.returns-in_err-format-clause-refused
returns-in_err-format-clause-refused c = λ e refused.
    absurd (read_is_no_fault c.args.bytes.now e c.read_to_train.result _ c.in_ok-read_to_train.was (c.read_to_train.ensures.exact e refused))

pub returns-clause-refused : goal.returns-clause-refused
returns-clause-refused c = λ e refused.
    absurd (read_is_no_fault c.args.bytes.now e c.read_to_train.result _ c.in_ok-read_to_train.was (c.read_to_train.ensures.exact e refused))
