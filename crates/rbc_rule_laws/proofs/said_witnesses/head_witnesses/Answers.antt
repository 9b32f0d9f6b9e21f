use Rattle.std.proofs.Common.{◌≡◌, ◌≤◌, true, false, refl, arith}
use Rattle.rbc_rule_laws.proofs.WitnessSays.{differ}
use Rattle.rbc_rule_laws.proofs.said_witnesses.head_witnesses.Goals as goal

pub returns-clause-unknown_time : goal.returns-clause-unknown_time
returns-clause-unknown_time c h = differ 4294967295 1001 refl h.1.0.0.next_stamp

pub returns-clause-no_time_left : goal.returns-clause-no_time_left
returns-clause-no_time_left c h = let known : 4294967295 ≤ 4294967294 = h.known_time in absurd (omega arith)

pub returns-clause-stamp_again : goal.returns-clause-stamp_again
returns-clause-stamp_again c h = differ 1000 1001 refl h.1.0.0.next_stamp

pub returns-clause-stamp_left_out : goal.returns-clause-stamp_left_out
returns-clause-stamp_left_out c h = differ 1002 1001 refl h.1.0.0.next_stamp

pub returns-clause-one_stamp_for_two : goal.returns-clause-one_stamp_for_two
returns-clause-one_stamp_for_two c h = differ 1 2 refl h.1.0.1.0.next_stamp

pub returns-clause-descending : goal.returns-clause-descending
returns-clause-descending c h = differ 2 1 refl h.1.0.0.next_stamp

pub returns-clause-edge_asks : goal.returns-clause-edge_asks
returns-clause-edge_asks c h = let asks : true ≡ false = h.1.0.0.by_its_kind in absurd (cc asks)

pub returns-clause-at_once_asks : goal.returns-clause-at_once_asks
returns-clause-at_once_asks c h = let asks : true ≡ false = h.1.0.0.by_its_kind in absurd (cc asks)

pub returns-clause-revocation_asks_not : goal.returns-clause-revocation_asks_not
returns-clause-revocation_asks_not c h = let asks : false ≡ true = h.1.0.0.by_its_kind in absurd (cc asks)

pub returns-clause-packets_ask_not : goal.returns-clause-packets_ask_not
returns-clause-packets_ask_not c h = let asks : false ≡ true = h.1.0.0.by_its_kind in absurd (cc asks)
