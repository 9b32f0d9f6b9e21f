use Rattle.rbc_dispatch.specs.CommandLine.{check_shape, codes_shape, decode_shape, encode_shape, explain_shape, live_shape, picture_shape, run_shape}
use Rattle.rbc_dispatch.proofs.command_line.command.Goals as goal

pub returns : goal.returns
returns c =
    let with_run = c.with_subcommand-with_run.ensures _ run_shape c.bare_command.ensures c.run_command.ensures.shape c.run_command.ensures.local in
    let with_live = c.with_subcommand-with_live.ensures _ live_shape with_run c.live_command.ensures.shape c.live_command.ensures.local in
    let with_explain = c.with_subcommand-with_explain.ensures _ explain_shape with_live c.explain_command.ensures.shape c.explain_command.ensures.local in
    let with_picture = c.with_subcommand-with_picture.ensures _ picture_shape with_explain c.picture_command.ensures.shape c.picture_command.ensures.local in
    let with_check = c.with_subcommand-with_check.ensures _ check_shape with_picture c.check_command.ensures.shape c.check_command.ensures.local in
    let with_encode = c.with_subcommand-with_encode.ensures _ encode_shape with_check c.encode_command.ensures.shape c.encode_command.ensures.local in
    let with_decode = c.with_subcommand-with_decode.ensures _ decode_shape with_encode c.decode_command.ensures.shape c.decode_command.ensures.local in
    c.with_subcommand.ensures _ codes_shape with_decode c.codes_command.ensures.shape c.codes_command.ensures.local
