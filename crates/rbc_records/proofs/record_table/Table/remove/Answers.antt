use Rattle.std.proofs.Common.{◌∙◌, ap, cond, None}
use Rattle.rbc_records.specs.Columns.{Kept}
use Rattle.rbc_records.specs.Notes.{record_in, same_key}
use Rattle.rbc_records.specs.contracts.record.KeyPartialEq.TheImpl.{eq-value}
use Rattle.rbc_records.proofs.Beside.{taken_out}
use Rattle.rbc_records.proofs.Keys.{record_in_written, lookup_is}
use Rattle.rbc_records.proofs.record_table.Table.remove.Goals as goal

pub invariant_of-self-2 : goal.invariant_of-self-2
invariant_of-self-2 c =
    let beside = taken_out _ _ (eq-value.it c.args.key) _ c.in_ok-index.ensures.index c.swap_remove_full.ensures.entries _ _ _ _ c.self.invariant
    c.swap_remove.result c.swap_remove-2.result c.swap_remove-3.result c.swap_remove-4.result in
    rw (c.swap_remove.ensures.items, c.swap_remove-2.ensures.items, c.swap_remove-3.ensures.items, c.swap_remove-4.ensures.items) beside

pub returns-in_err-index-clause-records : goal.returns-in_err-index-clause-records
returns-in_err-index-clause-records c = λ q.
    record_in_written c.self.inside.entries.entries c.swap_remove_full.new.self.entries c.args.key _ c.swap_remove_full.ensures.updates.0 q
    ∙ ap (λ (kept : Kept). cond (same_key q c.args.key) None (record_in kept.entries q)) c.self.view_is

pub returns-in_err-index-clause-removed : goal.returns-in_err-index-clause-removed
returns-in_err-index-clause-removed c =
    c.from_residual.ensures ∙ c.in_err-index.ensures.value ∙ lookup_is c.self.inside.entries.entries c.args.key ∙ ap (λ (kept : Kept). record_in kept.entries c.args.key) c.self.view_is

pub returns-clause-records : goal.returns-clause-records
returns-clause-records c = λ q.
    record_in_written c.self.inside.entries.entries c.swap_remove_full.new.self.entries c.args.key _ c.swap_remove_full.ensures.updates.0 q
    ∙ ap (λ (kept : Kept). cond (same_key q c.args.key) None (record_in kept.entries q)) c.self.view_is

pub returns-clause-removed : goal.returns-clause-removed
returns-clause-removed c =
    c.in_ok-index.ensures.value ∙ lookup_is c.self.inside.entries.entries c.args.key ∙ ap (λ (kept : Kept). record_in kept.entries c.args.key) c.self.view_is
