-- The output text of a desk, and that of one input (own rule).
use Rattle.std.specs.Prelude.{ℕ, List, ◌++◌, codes}
use Rattle.std.specs.Fmt.{decimal}
use Rattle.std.specs.List.{flat_map, enumerate_from}
use Rattle.hex.specs.Hex.{encode_upper}
use Rattle.ertms_codec.specs.ToTrain.{spelling_of}
use Rattle.rbc_rule.specs.declared.outcome.Reply.{Reply}
use Rattle.rbc_rule.specs.declared.outcome.Reply.TheVariants.{Done, Refused}
use Rattle.rbc_settle.specs.declared.sent.Sent.{Sent}
use Rattle.rbc_desk.specs.declared.outbox.Mail.{Mail}

-- `ok COUNT` or `refused CODE`
abbrev pub reply_text : Reply → List ℕ
reply_text (Done sent) = codes "ok " ++ decimal sent
reply_text (Refused code) = codes "refused " ++ decimal code

-- `INPUT REPLY`
abbrev pub result_line : ℕ × Reply → List ℕ
result_line (input, reply) = decimal input ++ codes " " ++ reply_text reply ++ codes "\n"

-- `ENGINE INPUT HEX`
abbrev pub mail_line : ℕ → Mail → List ℕ
mail_line engine mail = decimal engine ++ codes " " ++ decimal mail.input ++ codes " " ++ encode_upper (spelling_of mail.message) ++ codes "\n"

-- a line for each mail of an engine
abbrev pub outbox_lines : ℕ × List Mail → List ℕ
outbox_lines (engine, mails) = flat_map (mail_line engine) mails

-- the results from 1 on, and then the outboxes by engine
abbrev pub output_of : List Reply → List (ℕ × List Mail) → List ℕ
output_of results outboxes = flat_map result_line (enumerate_from 1 results) ++ flat_map outbox_lines outboxes

-- the line of a message that an input sent
abbrev pub sent_line : ℕ → Sent → List ℕ
sent_line input sent = mail_line sent.engine (record { input = input; message = sent.message })

-- the answer to one input: its result, and then its messages in the order in which they are sent
abbrev pub answer_of : ℕ → Reply → List Sent → List ℕ
answer_of input reply messages = result_line (input, reply) ++ flat_map (sent_line input) messages
