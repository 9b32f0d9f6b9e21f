use Rattle.std.proofs.Common.{◌≡◌, ◌∙◌, ap, sym, cond, is_some, position, Some}
use Rattle.std.specs.Map.{keys_of}
use Rattle.std.specs.Option.{option_copied_mut}
use Rattle.indexmap.specs.IndexMap.{set_value_at}
use Rattle.rbc_records.specs.declared.record.Rec.{Rec}
use Rattle.rbc_records.specs.contracts.record.KeyPartialEq.TheImpl.{eq-value}
use Rattle.rbc_records.specs.Columns.{Kept}
use Rattle.rbc_records.specs.Notes.{record_in, same_key}
use Rattle.rbc_records.proofs.Beside.{put_over}
use Rattle.rbc_records.proofs.Keys.{lookup_is}
use Rattle.rbc_records.proofs.Replacing.{exchanged_is_put, record_in_exchanged, stands_within, stands_first, stands_at}
use Rattle.rbc_records.proofs.record_table.Table.replace.Goals as goal

pub returns-in_default-clause-held : goal.returns-in_default-clause-held
returns-in_default-clause-held c =
    c.in_default.ensures.found ∙ ap is_some (lookup_is c.self.inside.entries.entries c.args.key)
    ∙ ap (λ (kept : Kept). is_some (record_in kept.entries c.args.key)) c.self.view_is

pub invariant_of-self : goal.invariant_of-self
invariant_of-self c =
    let entries = c.self.inside.entries.entries in
    let index = c.in-Some.index in
    let at : position (eq-value.it c.args.key) (keys_of entries) ≡ Some index = sym c.in-Some.ensures.index in
    let put = ap (λ (rec : Rec). set_value_at entries index rec) c.swap.ensures.x_after ∙ exchanged_is_put c.args.key c.args.rec.now entries index at in
    put_over entries _ c.args.key c.args.rec.now put index (stands_first c.args.key entries index at) _ _ _ _ c.self.invariant _ c.told_bits_of-told.ensures _ c.extent_of-extent.ensures
    (stands_within c.args.key entries index at)

pub returns-clause-held : goal.returns-clause-held
returns-clause-held c =
    c.in-Some.ensures.found ∙ ap is_some (lookup_is c.self.inside.entries.entries c.args.key)
    ∙ ap (λ (kept : Kept). is_some (record_in kept.entries c.args.key)) c.self.view_is

pub returns-clause-records : goal.returns-clause-records
returns-clause-records c held q =
    let entries = c.self.inside.entries.entries in
    ap (λ (rec : Rec). record_in (set_value_at entries c.in-Some.index rec) q) c.swap.ensures.x_after
    ∙ record_in_exchanged c.args.key c.args.rec.now entries c.in-Some.index (sym c.in-Some.ensures.index) q
    ∙ ap (λ (kept : Kept). cond (same_key q c.args.key) (Some c.args.rec.now) (record_in kept.entries q)) c.self.view_is

pub returns-clause-replaced : goal.returns-clause-replaced
returns-clause-replaced c held =
    ap (λ (kept : Kept). record_in kept.entries c.args.key) (sym c.self.view_is)
    ∙ sym (stands_at c.args.key c.self.inside.entries.entries c.in-Some.index (sym c.in-Some.ensures.index))
    ∙ sym c.get_index_mut.ensures.value
    ∙ ap (λ found. option_copied_mut found) c.unwrap.ensures
    ∙ ap (λ (rec : Rec). Some rec) (sym c.swap.ensures.y_after)
