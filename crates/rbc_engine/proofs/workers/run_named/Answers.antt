use Rattle.std.proofs.Common.{Err, sym, ◌∙◌, subst, arith}
use Rattle.rbc_core.specs.Held.{Held}
use Rattle.rbc_engine.specs.declared.workers.RunError.TheVariants.{OutOfMemory}
use Rattle.rbc_engine.specs.Answers.{IsStretch}
use Rattle.rbc_engine.proofs.Ends.{desk_before}
use Rattle.rbc_engine.proofs.workers.run_named.Goals as goal

-- no book was made: nothing was run
pub returns-in-Err : goal.returns-in-Err
returns-in-Err g c =
    let run = g.N.RunName.run in
    subst (λ (held : Held). IsStretch run (Err (OutOfMemory 0)) held) (sym (c.in-Err.ensures.err ∙ c.replace-opening.ensures.value ∙ c.requires.desk)) (desk_before run c.requires.good, omega arith)
