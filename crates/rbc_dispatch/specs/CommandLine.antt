-- The command line that the program takes.
use Rattle.std.specs.Prelude.{[], ◌∷◌, Some, pos, true, codes}
use Rattle.clap.specs.Lexer.{usize_max}
use Rattle.clap.specs.Simple.{App, Shape, new_app, new_rule, on_top, with_rule, with_subcommand}
use Rattle.clap.specs.Walk.{Rule, Text}
use Rattle.clap.specs.declared.builder.action.ArgAction.TheVariants.{Append, SetTrue}
use Rattle.clap.specs.declared.builder.value_parser.ValueParser.TheVariants as vp

-- a flag of this name
abbrev pub flag_rule : Text → Rule
flag_rule name = record (new_rule name) { long = Some name; action = Some SetTrue }

-- the option that names the track file
abbrev pub track_rule : Rule
track_rule = record (new_rule (codes "track")) { long = Some (codes "track"); value_names = 1; required = true }

-- the option for the number of workers: a number up to 255, 1 by default
abbrev pub workers_rule : Rule
workers_rule = record (new_rule (codes "workers")) {
  long = Some (codes "workers");
  value_names = 1;
  parser = Some (vp.Signed (pos 0) (pos 255));
  defaults = codes "1" ∷ [];
}

-- the flag that has workers share messages by train
abbrev pub by_train_rule : Rule
by_train_rule = flag_rule (codes "by-train")

-- the flag that reports what the workers did
abbrev pub stats_rule : Rule
stats_rule = flag_rule (codes "stats")

-- the flag that writes alarms
abbrev pub alarms_rule : Rule
alarms_rule = flag_rule (codes "alarms")

-- `run`, with its five options
abbrev pub run_shape : Shape
run_shape = (with_rule (with_rule (with_rule (with_rule (with_rule (new_app (codes "run")) track_rule) workers_rule) by_train_rule) stats_rule) alarms_rule).top

-- the option for the first answer that is written: a number from 1 on, 1 by default
abbrev pub from_rule : Rule
from_rule = record (new_rule (codes "from")) {
  long = Some (codes "from");
  value_names = 1;
  parser = Some (vp.Unsigned 1 18446744073709551615);
  defaults = codes "1" ∷ [];
}

-- `live`, with its three options
abbrev pub live_shape : Shape
live_shape = (with_rule (with_rule (with_rule (new_app (codes "live")) track_rule) from_rule) alarms_rule).top

-- the option that says at which input the log begins: a number from 1 on
abbrev pub begin_rule : Rule
begin_rule = record (new_rule (codes "from")) {
  long = Some (codes "from");
  value_names = 1;
  parser = Some (vp.Unsigned 1 18446744073709551615);
}

-- the option that says which input is the last one: a number from 1 on
abbrev pub last_rule : Rule
last_rule = record (new_rule (codes "to")) {
  long = Some (codes "to");
  value_names = 1;
  parser = Some (vp.Unsigned 1 18446744073709551615);
}

-- the flags that leave all but the refused inputs out, and all but the end
abbrev pub refused_rule : Rule
refused_rule = flag_rule (codes "refused")

abbrev pub end_rule : Rule
end_rule = flag_rule (codes "end")

-- the flag that writes objects for programs in place of words
abbrev pub json_rule : Rule
json_rule = flag_rule (codes "json")

-- `explain`, with its six options
abbrev pub explain_shape : Shape
explain_shape = (with_rule (with_rule (with_rule (with_rule (with_rule (with_rule (new_app (codes "explain")) track_rule) begin_rule) last_rule) refused_rule) end_rule) json_rule).top

-- the option that says after how many inputs the picture is drawn
abbrev pub after_rule : Rule
after_rule = record (new_rule (codes "after")) {
  long = Some (codes "after");
  value_names = 1;
  parser = Some (vp.Unsigned 0 18446744073709551615);
}

-- the option that names a line to draw, which may come several times
abbrev pub line_rule : Rule
line_rule = record (new_rule (codes "line")) {
  long = Some (codes "line");
  value_names = 1;
  action = Some Append;
  parser = Some (vp.Signed (pos 0) (pos 4294967295));
}

-- the option that names the part of the line
abbrev pub km_rule : Rule
km_rule = record (new_rule (codes "km")) { long = Some (codes "km"); value_names = 1 }

-- the option that names a train, whose part of its line is drawn
abbrev pub train_rule : Rule
train_rule = record (new_rule (codes "train")) {
  long = Some (codes "train");
  value_names = 1;
  parser = Some (vp.Signed (pos 0) (pos 16777215));
}

-- the flag that leaves lines out on which nothing is
abbrev pub busy_rule : Rule
busy_rule = flag_rule (codes "busy")

-- `picture`, with its six options
abbrev pub picture_shape : Shape
picture_shape = (with_rule (with_rule (with_rule (with_rule (with_rule (with_rule (new_app (codes "picture")) track_rule) after_rule) line_rule) km_rule) train_rule) busy_rule).top

-- the option by which unknown keys are notes
abbrev pub other_keys_rule : Rule
other_keys_rule = flag_rule (codes "other-keys")

-- `check`, with its three options
abbrev pub check_shape : Shape
check_shape = (with_rule (with_rule (with_rule (new_app (codes "check")) track_rule) other_keys_rule) json_rule).top

-- the word that names one code: a number from 1 to 16
abbrev pub code_rule : Rule
code_rule = record (new_rule (codes "CODE")) { parser = Some (vp.Signed (pos 1) (pos 16)) }

-- `codes`, with its word and its flag
abbrev pub codes_shape : Shape
codes_shape = (with_rule (with_rule (new_app (codes "codes")) code_rule) json_rule).top

-- the word that is a message
abbrev pub hex_rule : Rule
hex_rule = new_rule (codes "HEX")

-- the flag that writes a line for each variable
abbrev pub long_rule : Rule
long_rule = flag_rule (codes "long")

-- `decode`, with its word and its flag
abbrev pub decode_shape : Shape
decode_shape = (with_rule (with_rule (new_app (codes "decode")) hex_rule) long_rule).top

-- the option that may name a track file
abbrev pub known_track_rule : Rule
known_track_rule = record (new_rule (codes "track")) { long = Some (codes "track"); value_names = 1 }

-- the words of a text
abbrev pub text_rule : Rule
text_rule = record (new_rule (codes "TEXT")) { range = Some (record { start_inclusive = 1; end_inclusive = usize_max }) }

-- `encode`, with its option and its words
abbrev pub encode_shape : Shape
encode_shape = (with_rule (with_rule (new_app (codes "encode")) known_track_rule) text_rule).top

-- the command line without its subcommands, from the word after its name
abbrev pub bare_line : App
bare_line = on_top (λ top. record top { no_binary_name = true; subcommand_required = true; has_version = true }) (new_app (codes "dispatch"))

-- the command line with only the subcommands that take a track and inputs
abbrev pub input_line : App
input_line = with_subcommand (with_subcommand (with_subcommand (with_subcommand bare_line run_shape) live_shape) explain_shape) picture_shape

-- the command line with only the subcommands that take a track
abbrev pub track_line : App
track_line = with_subcommand input_line check_shape

-- the command line that the program takes: `run`, `live`, `explain`, `picture`, `check`, `encode`, `decode` or `codes`
abbrev pub command_line : App
command_line = with_subcommand (with_subcommand (with_subcommand track_line encode_shape) decode_shape) codes_shape
