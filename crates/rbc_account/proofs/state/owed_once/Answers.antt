use Rattle.std.proofs.Common.{sym, ◌∙◌}
use Rattle.rbc_account.specs.Owed.{stamps_owed}
use Rattle.rbc_account.proofs.Owing.{by_stamps, none_owed, owed_again, owed_last}
use Rattle.rbc_account.proofs.state.owed_once.Goals as goal

pub returns-in-None-clause-once : goal.returns-in-None-clause-once
returns-in-None-clause-once c = none_owed _ (stamps_owed c.args.behind.now) (sym c.owed_stamp.ensures ∙ c.in-None.is)

pub returns-in-Some-clause-once : goal.returns-in-Some-clause-once
returns-in-Some-clause-once c =
    owed_again _ c.in-Some.stamp (stamps_owed c.args.behind.now) (sym c.owed_stamp.ensures ∙ c.in-Some.is)
    (sym (by_stamps c.in-Some.stamp c.args.behind.now) ∙ sym c.is_owed_in.ensures ∙ c.if-is_owed_in.true)

pub returns-in-Some-2-clause-once : goal.returns-in-Some-2-clause-once
returns-in-Some-2-clause-once c =
    owed_last _ c.in-Some.stamp (stamps_owed c.args.behind.now) (sym c.owed_stamp.ensures ∙ c.in-Some.is)
    (sym (by_stamps c.in-Some.stamp c.args.behind.now) ∙ sym c.is_owed_in.ensures ∙ c.if-is_owed_in.false)
