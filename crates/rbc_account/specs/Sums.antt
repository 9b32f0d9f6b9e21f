-- How many inputs were taken, and how many messages they sent.
use Rattle.std.specs.Prelude.{ℕ, ◌+◌, ◌-◌, ◌^◌, min}
use Rattle.rbc_rule.specs.declared.outcome.Reply.{Reply}
use Rattle.rbc_rule.specs.declared.outcome.Reply.TheVariants.{Done, Refused}
use Rattle.rbc_account.specs.declared.account.Sums.{Sums}

-- the sums before any input
abbrev pub no_sums : Sums
no_sums = record { accepted = 0; refused = 0; messages = 0 }

-- a sum, which stays at 2 ^ 64 - 1 once it is there
abbrev pub added : ℕ → ℕ → ℕ
added sum more = min (sum + more) (2 ^ 64 - 1)

-- the sums after one more input with this reply
abbrev pub counted : Reply → Sums → Sums
counted (Done sent) sums = record sums { accepted = added sums.accepted 1; messages = added sums.messages sent }
counted (Refused code) sums = record sums { refused = added sums.refused 1 }

-- how many inputs there are
abbrev pub input_count : Sums → ℕ
input_count sums = added sums.accepted sums.refused
