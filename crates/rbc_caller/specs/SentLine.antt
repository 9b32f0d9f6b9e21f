-- The line of a message that is sent (own rule).
use Rattle.std.specs.Prelude.{ℕ, List, ◌++◌, codes}
use Rattle.std.specs.Fmt.{decimal}
use Rattle.hex.specs.Hex.{encode_upper}
use Rattle.ertms_codec.specs.ToTrain.{spelling_of}
use Rattle.rbc_settle.specs.declared.sent.Sent.{Sent}

-- `ENGINE INPUT HEX`
abbrev pub sent_line : ℕ → Sent → List ℕ
sent_line number sent =
    decimal sent.engine ++ (codes " " ++ (decimal number ++ (codes " " ++ encode_upper (spelling_of sent.message))))
