use Rattle.std.proofs.Common.{rules}
use Rattle.rbc_core.proofs.Stages.{is_out_here, is_other_here, none_is_out, none_at_zero}
use Rattle.rbc_core.proofs.book.is_out.Goals as goal

pub returns-in-Some-Out : goal.returns-in-Some-Out
returns-in-Some-Out g c =
    let lookup = rw c.in-Some-Out.is at c.get.ensures.lookup in
    is_out_here _ _ c.args.number _ c.if-number-gt0.true c.deref.ensures.value lookup.0 lookup.1 c.in-Some-Out.field-0-is

pub returns-in_default : goal.returns-in_default
returns-in_default g c =
    let lookup = rw c.in_default.is at c.get.ensures.lookup in
    is_other_here _ _ c.args.number _ c.deref.ensures.value lookup.0 lookup.1 (search rules)

pub returns-in_default-2 : goal.returns-in_default-2
returns-in_default-2 g c =
    let lookup = rw c.in_default.is at c.get.ensures.lookup in
    none_is_out _ _ c.args.number c.deref.ensures.value lookup.0

pub returns-else-number-gt0 : goal.returns-else-number-gt0
returns-else-number-gt0 g c = none_at_zero _ c.args.number c.if-number-gt0.false
