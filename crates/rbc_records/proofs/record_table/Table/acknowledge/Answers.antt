use Rattle.std.proofs.Common.{rules, ◌≡◌, List, Some, position, cond, set, slice_get, sym, ap, subst, ◌∙◌}
use Rattle.std.specs.Map.{keys_of, values_of}
use Rattle.std.specs.Option.{option_copied_mut}
use Rattle.indexmap.specs.IndexMap.{set_value_at}
use Rattle.rbc_settle.specs.Trains.{after_ack}
use Rattle.rbc_settle.specs.declared.train.TrainRec.{TrainRec}
use Rattle.rbc_records.specs.declared.record.Key.{Key}
use Rattle.rbc_records.specs.declared.record.Key.TheVariants as key
use Rattle.rbc_records.specs.declared.record.Rec.{Rec}
use Rattle.rbc_records.specs.declared.record.Rec.TheVariants as rec
use Rattle.rbc_records.specs.contracts.record.KeyPartialEq.TheImpl.{eq-value}
use Rattle.rbc_records.specs.Columns.{Kept, AreBeside, told_bits_of, extent_of}
use Rattle.rbc_records.specs.Notes.{record_in, same_key}
use Rattle.rbc_records.proofs.InPlace.{column_set, set_same}
use Rattle.rbc_records.proofs.Replacing.{record_in_exchanged, stands_at}
use Rattle.rbc_records.proofs.record_table.Table.acknowledge.Goals as goal

-- another record than a train's is put back as it is
pub invariant_of-self : goal.invariant_of-self
invariant_of-self c =
    let entries = c.self.inside.entries.entries in
    let was : slice_get (values_of entries) c.in-Some.index ≡ Some c.unwrap.result.now = sym c.get_index_mut.ensures.value ∙ ap (λ found. option_copied_mut found) c.unwrap.ensures in
    subst (λ (all : List (Key × Rec)). AreBeside all c.self.inside.stops.items c.self.inside.limits.items c.self.inside.least.items c.self.inside.most.items)
    (sym (set_same entries c.in-Some.index c.unwrap.result.now was)) c.self.invariant

pub returns-in_default-unwrap : goal.returns-in_default-unwrap
returns-in_default-unwrap c =
    let entries = c.self.inside.entries.entries in
    let was : slice_get (values_of entries) c.in-Some.index ≡ Some c.unwrap.result.now = sym c.get_index_mut.ensures.value ∙ ap (λ found. option_copied_mut found) c.unwrap.ensures in
    record {
      acked = λ done. absurd cc;
      nothing = λ refused. set_same entries c.in-Some.index c.unwrap.result.now was ∙ ap (λ (kept : Kept). kept.entries) c.self.view_is;
      room = search rules;
    }

-- and so is a train that had nothing to acknowledge
module _ (c : goal.After-self-then-not-acknowledge-1) where
  same_train : set_value_at c.self.inside.entries.entries c.in-Some.index (rec.Train c.acknowledge.new.self) ≡ c.self.inside.entries.entries
  same_train =
      let entries = c.self.inside.entries.entries in
      let was : slice_get (values_of entries) c.in-Some.index ≡ Some (rec.Train c.in-Train.train) = sym c.get_index_mut.ensures.value ∙ ap (λ found. option_copied_mut found) c.unwrap.ensures ∙ ap Some c.in-Train.is in
      ap (λ (train : TrainRec). set_value_at entries c.in-Some.index (rec.Train train)) (c.acknowledge.ensures.nothing c.if-not-acknowledge.true) ∙ set_same entries c.in-Some.index (rec.Train c.in-Train.train) was

pub invariant_of-self-then-not-acknowledge : goal.invariant_of-self-then-not-acknowledge
invariant_of-self-then-not-acknowledge c =
    subst (λ (all : List (Key × Rec)). AreBeside all c.self.inside.stops.items c.self.inside.limits.items c.self.inside.least.items c.self.inside.most.items)
    (sym (same_train c)) c.self.invariant

pub returns-then-not-acknowledge-clause-nothing : goal.returns-then-not-acknowledge-clause-nothing
returns-then-not-acknowledge-clause-nothing c refused = same_train c ∙ ap (λ (kept : Kept). kept.entries) c.self.view_is

pub invariant_of-self-2 : goal.invariant_of-self-2
invariant_of-self-2 c =
    let entries = c.self.inside.entries.entries in
    let index = c.in-Some.index in
    let new = rec.Train (record c.acknowledge.new.self { stamp = c.args.raised }) in
    record {
      stops_are = (λ i. set (c.self.invariant.stops_are i) index (c.of-told.ensures i).stops) ∙ sym (column_set (λ (r : Rec). (told_bits_of r).stops) entries index new);
      limits_are = (λ i. set (c.self.invariant.limits_are i) index (c.of-told.ensures i).limits) ∙ sym (column_set (λ (r : Rec). (told_bits_of r).limits) entries index new);
      least_are = (λ i. set (c.self.invariant.least_are i) index (c.of_train-extent.ensures i).least) ∙ sym (column_set (λ (r : Rec). (extent_of r).least) entries index new);
      most_are = (λ i. set (c.self.invariant.most_are i) index (c.of_train-extent.ensures i).most) ∙ sym (column_set (λ (r : Rec). (extent_of r).most) entries index new);
    }

pub returns-clause-acked : goal.returns-clause-acked
returns-clause-acked c done train there =
    let entries = c.self.inside.entries.entries in
    let under = key.Train c.args.engine in
    let after = c.acknowledge.new.self in
    let at : position (eq-value.it under) (keys_of entries) ≡ Some c.in-Some.index = sym c.in-Some.ensures.index in
    let was : slice_get (values_of entries) c.in-Some.index ≡ Some (rec.Train c.in-Train.train) = sym c.get_index_mut.ensures.value ∙ ap (λ found. option_copied_mut found) c.unwrap.ensures ∙ ap Some c.in-Train.is in
    let both : Some (rec.Train c.in-Train.train) ≡ Some (rec.Train train) = sym was ∙ stands_at under entries c.in-Some.index at ∙ ap (λ (kept : Kept). record_in kept.entries under) c.self.view_is ∙ there in
    let same : c.in-Train.train ≡ train = cc in
    record {
      after = after;
      after_is = sym (ap (after_ack c.args.acked) same) ∙ c.acknowledge.ensures.acked c.if-not-acknowledge.false;
      records = λ k.
          record_in_exchanged under (rec.Train (record after { stamp = c.args.raised })) entries c.in-Some.index at k
          ∙ (λ i. cond (same_key k under) (Some (rec.Train (record after { stamp = c.args.raised }))) (record_in (c.self.view_is i).entries k));
    }
