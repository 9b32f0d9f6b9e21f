-- Worked cases for the laws on accounts.
use Rattle.rbc_account.specs.declared.account.Sums.{Sums}

-- one input was accepted, and one was refused
abbrev pub one_accepted : Sums
one_accepted = record { accepted = 1; refused = 0; messages = 0 }

abbrev pub one_refused : Sums
one_refused = record { accepted = 0; refused = 1; messages = 0 }
