use Rattle.std.proofs.Common.{ap}
use Rattle.std.proofs.lemmas.Result.{IfOk-weaker}
use Rattle.clap.specs.Simple.{App}
use Rattle.rbc_dispatch.proofs.Added.{app_with, local_with, shape_with}
use Rattle.rbc_dispatch.proofs.command_line.explain_command.Goals as goal

pub returns-clause-shape : goal.returns-clause-shape
returns-clause-shape c =
    let first = ap (λ (a : App). a.top) (app_with _ _ _ _ _ c.subcommand.ensures.app c.track_option.ensures.rule c.track_option.ensures.local c.in_ok-arg.ensures) in
    let second = shape_with _ _ _ _ _ first c.number_option.ensures.rule c.number_option.ensures.local c.in_ok-arg-2.ensures in
    let third = shape_with _ _ _ _ _ second c.number_option-2.ensures.rule c.number_option-2.ensures.local c.in_ok-arg-3.ensures in
    let fourth = shape_with _ _ _ _ _ third c.flag_option.ensures.rule c.flag_option.ensures.local c.in_ok-arg-4.ensures in
    let fifth = shape_with _ _ _ _ _ fourth c.flag_option-2.ensures.rule c.flag_option-2.ensures.local c.in_ok-arg-5.ensures in
    IfOk-weaker c.arg-6.result _ _ (λ command adds. shape_with _ _ _ command _ fifth c.flag_option-3.ensures.rule c.flag_option-3.ensures.local adds) c.arg-6.ensures

pub returns-clause-local : goal.returns-clause-local
returns-clause-local c =
    let first = local_with _ _ _ c.subcommand.ensures.local c.track_option.ensures.local c.in_ok-arg.ensures in
    let second = local_with _ _ _ first c.number_option.ensures.local c.in_ok-arg-2.ensures in
    let third = local_with _ _ _ second c.number_option-2.ensures.local c.in_ok-arg-3.ensures in
    let fourth = local_with _ _ _ third c.flag_option.ensures.local c.in_ok-arg-4.ensures in
    let fifth = local_with _ _ _ fourth c.flag_option-2.ensures.local c.in_ok-arg-5.ensures in
    IfOk-weaker c.arg-6.result _ _ (λ command adds. local_with _ command _ fifth c.flag_option-3.ensures.local adds) c.arg-6.ensures
