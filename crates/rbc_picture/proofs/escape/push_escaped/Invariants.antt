use Rattle.std.proofs.Common.{◌≡◌, ◌++◌, string_bytes}
use Rattle.std.specs.Str.{chars}
use Rattle.rbc_picture.specs.Escape.{escaped}
use Rattle.rbc_picture.proofs.escape.push_escaped.Given as goal

abbrev pub invariant-loop-c : goal.invariant-loop-c
invariant-loop-c l = chars (string_bytes l.text) ≡ chars (string_bytes l.initial.text) ++ escaped l.yielded
