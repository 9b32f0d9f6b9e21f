use Rattle.std.proofs.Common.{option_copied, subst}
use Rattle.rbc_live.specs.Known.{active_stops, active_limits}
use Rattle.rbc_account.specs.Found.{PacketHasSubject, HasSubject, IsRevokedBy, IsLiftedBy, is_unknown_packet}
use Rattle.rbc_account.proofs.NeverUnknown.{none_unknown}
use Rattle.rbc_account.proofs.told.what_of.Goals as goal

pub returns-in-StopAt-clause-why : goal.returns-in-StopAt-clause-why
returns-in-StopAt-clause-why c = c.stop_before.ensures.why (option_copied c.args.before)

pub returns-in-Stop-clause-why : goal.returns-in-Stop-clause-why
returns-in-Stop-clause-why c = c.stop_at_once.ensures.why

pub returns-in-Revoke-clause-why : goal.returns-in-Revoke-clause-why
returns-in-Revoke-clause-why c = c.stop_revoked.ensures.why (option_copied c.args.before) c.args.train.now

pub returns-in_ok-all-in-General-clause-known : goal.returns-in_ok-all-in-General-clause-known
returns-in_ok-all-in-General-clause-known c =
    let records = c.args.desk.now.records in
    let before = option_copied c.args.before in
    let train = c.args.train.now in
    let Lifted = IsLiftedBy c.args.input.now before (active_limits records) train.place in
    λ has. none_unknown (PacketHasSubject (active_limits records) train Lifted) (λ one. is_unknown_packet one.what) c.in-General.packets c.in_ok-all-in-General.all.items c.in_ok-all-in-General.ensures.known
    (subst (HasSubject (active_stops records) (active_limits records) train (IsRevokedBy c.args.input.now before) Lifted) c.in-General.is has)
