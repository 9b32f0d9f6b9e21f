-- How inputs were answered.
use Rattle.std.specs.Prelude.{ℕ, Bool, true, false, nat_eq}
use Rattle.rbc_rule.specs.declared.outcome.Reply.{Reply}
use Rattle.rbc_rule.specs.declared.outcome.Reply.TheVariants.{Done, Refused}

-- it was accepted
abbrev pub is_accepted : Reply → Bool
is_accepted (Done sent) = true
is_accepted (Refused code) = false

-- it was refused with this code
abbrev pub is_refused_with : ℕ → Reply → Bool
is_refused_with wanted (Done sent) = false
is_refused_with wanted (Refused code) = nat_eq code wanted

-- how many messages it sent
abbrev pub messages_of : Reply → ℕ
messages_of (Done sent) = sent
messages_of (Refused code) = 0
