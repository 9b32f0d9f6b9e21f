use Rattle.rbc_live.proofs.Witness.{is_taken, is_taken_twice, is_serial, not_accepted, not_sending, not_left, not_from_nothing}
use Rattle.rbc_live.proofs.witnesses.history_law_witnesses.Goals as goal

pub returns-clause-taken : goal.returns-clause-taken
returns-clause-taken c = is_taken

pub returns-clause-taken_twice : goal.returns-clause-taken_twice
returns-clause-taken_twice c = is_taken_twice

pub returns-clause-serial : goal.returns-clause-serial
returns-clause-serial c = is_serial

pub returns-clause-accepted : goal.returns-clause-accepted
returns-clause-accepted c = not_accepted

pub returns-clause-sending : goal.returns-clause-sending
returns-clause-sending c = not_sending

pub returns-clause-left_behind : goal.returns-clause-left_behind
returns-clause-left_behind c = not_left

pub returns-clause-from_nothing : goal.returns-clause-from_nothing
returns-clause-from_nothing c = not_from_nothing
