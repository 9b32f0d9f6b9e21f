use Rattle.std.proofs.Common.{ap}
use Rattle.std.proofs.lemmas.Result.{IfOk-weaker}
use Rattle.clap.specs.Simple.{App}
use Rattle.rbc_dispatch.proofs.Added.{app_with, local_with, shape_with}
use Rattle.rbc_dispatch.proofs.command_line.codes_command.Goals as goal

pub returns-clause-shape : goal.returns-clause-shape
returns-clause-shape c =
    let first = ap (λ (a : App). a.top) (app_with _ _ _ _ _ c.subcommand.ensures.app c.code_word.ensures.rule c.code_word.ensures.local c.in_ok-arg.ensures) in
    IfOk-weaker c.arg-2.result _ _ (λ command adds. shape_with _ _ _ command _ first c.flag_option.ensures.rule c.flag_option.ensures.local adds) c.arg-2.ensures

pub returns-clause-local : goal.returns-clause-local
returns-clause-local c =
    let first = local_with _ _ _ c.subcommand.ensures.local c.code_word.ensures.local c.in_ok-arg.ensures in
    IfOk-weaker c.arg-2.result _ _ (λ command adds. local_with _ command _ first c.flag_option.ensures.local adds) c.arg-2.ensures
