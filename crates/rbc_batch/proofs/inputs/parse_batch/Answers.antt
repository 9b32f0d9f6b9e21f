use Rattle.std.proofs.Common.{List, ℕ, subst, arith}
use Rattle.std.specs.Result.{IfOk}
use Rattle.rbc_text.specs.BatchText.{AreInputs}
use Rattle.rbc_batch.proofs.LineInputs.{as_few}
use Rattle.rbc_batch.proofs.inputs.parse_batch.Goals as goal

pub returns-clause-inputs : goal.returns-clause-inputs
returns-clause-inputs g c =
    subst (λ (lines : List (List ℕ)). IfOk c.parse_lines.result (λ inputs. AreInputs lines inputs.items)) (c.in_ok-lines.ensures.whole (omega arith)) (rw c.deref.ensures.value at c.parse_lines.ensures.inputs)

pub returns-clause-few : goal.returns-clause-few
returns-clause-few g c =
    as_few c.args.text.now c.in_ok-lines.lines.items c.parse_lines.result c.in_ok-lines.ensures.few (rw c.deref.ensures.value at c.parse_lines.ensures.inputs)
