use Rattle.std.proofs.Common.{[], sym, refl, append-nil}
use Rattle.rbc_json.proofs.form.ObjectsLogForm.push_head.Goals as goal

pub returns : goal.returns
returns c = ([], sym (append-nil c.args._log.now.items), refl)
