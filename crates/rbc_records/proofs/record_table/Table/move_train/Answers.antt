use Rattle.std.proofs.Common.{rules, ◌≡◌, false, true, List, Some, is_some, position, cond, set, slice_get, refl, sym, ap, subst, ◌∙◌}
use Rattle.std.specs.Map.{keys_of, values_of}
use Rattle.std.specs.Option.{option_copied_mut}
use Rattle.rbc_records.specs.declared.record.Key.{Key}
use Rattle.rbc_records.specs.declared.record.Key.TheVariants as key
use Rattle.rbc_records.specs.declared.record.Rec.{Rec}
use Rattle.rbc_records.specs.declared.record.Rec.TheVariants as rec
use Rattle.rbc_records.specs.contracts.record.KeyPartialEq.TheImpl.{eq-value}
use Rattle.rbc_records.specs.Columns.{Kept, AreBeside, told_bits_of, extent_of}
use Rattle.rbc_records.specs.Notes.{record_in, same_key}
use Rattle.rbc_records.proofs.InPlace.{column_set, column_kept, set_same}
use Rattle.rbc_records.proofs.Keys.{lookup_is}
use Rattle.rbc_records.proofs.Replacing.{record_in_exchanged, stands_at}
use Rattle.rbc_records.proofs.record_table.Table.move_train.Goals as goal

pub returns-in_default-clause-moved : goal.returns-in_default-clause-moved
returns-in_default-clause-moved c train there k =
    let under = key.Train c.args.engine in
    let bad : false ≡ true = c.in_default.ensures.found ∙ ap is_some (lookup_is c.self.inside.entries.entries under) ∙ ap (λ (kept : Kept). is_some (record_in kept.entries under)) c.self.view_is ∙ ap is_some there in
    absurd cc

pub invariant_of-self : goal.invariant_of-self
invariant_of-self c =
    let entries = c.self.inside.entries.entries in
    let index = c.in-Some.index in
    let old = rec.Train c.in-Train.train in
    let new = rec.Train (record c.in-Train.train { place = c.args.place; stamp = c.args.stamp }) in
    let was : slice_get (values_of entries) index ≡ Some old = sym c.get_index_mut.ensures.value ∙ ap (λ found. option_copied_mut found) c.unwrap.ensures ∙ ap Some c.in-Train.is in
    record {
      stops_are = c.self.invariant.stops_are ∙ sym (column_kept (λ (r : Rec). (told_bits_of r).stops) entries index old new was refl);
      limits_are = c.self.invariant.limits_are ∙ sym (column_kept (λ (r : Rec). (told_bits_of r).limits) entries index old new was refl);
      least_are = (λ i. set (c.self.invariant.least_are i) index (c.of_train-extent.ensures i).least) ∙ sym (column_set (λ (r : Rec). (extent_of r).least) entries index new);
      most_are = (λ i. set (c.self.invariant.most_are i) index (c.of_train-extent.ensures i).most) ∙ sym (column_set (λ (r : Rec). (extent_of r).most) entries index new);
    }

pub invariant_of-self-in_default-unwrap : goal.invariant_of-self-in_default-unwrap
invariant_of-self-in_default-unwrap c =
    let entries = c.self.inside.entries.entries in
    let was : slice_get (values_of entries) c.in-Some.index ≡ Some c.unwrap.result.now = sym c.get_index_mut.ensures.value ∙ ap (λ found. option_copied_mut found) c.unwrap.ensures in
    subst (λ (all : List (Key × Rec)). AreBeside all c.self.inside.stops.items c.self.inside.limits.items c.self.inside.least.items c.self.inside.most.items)
    (sym (set_same entries c.in-Some.index c.unwrap.result.now was)) c.self.invariant

pub returns-in-Train-clause-moved : goal.returns-in-Train-clause-moved
returns-in-Train-clause-moved c train there k =
    let entries = c.self.inside.entries.entries in
    let under = key.Train c.args.engine in
    let at : position (eq-value.it under) (keys_of entries) ≡ Some c.in-Some.index = sym c.in-Some.ensures.index in
    let was : slice_get (values_of entries) c.in-Some.index ≡ Some (rec.Train c.in-Train.train) = sym c.get_index_mut.ensures.value ∙ ap (λ found. option_copied_mut found) c.unwrap.ensures ∙ ap Some c.in-Train.is in
    let both : Some (rec.Train c.in-Train.train) ≡ Some (rec.Train train) = sym was ∙ stands_at under entries c.in-Some.index at ∙ ap (λ (kept : Kept). record_in kept.entries under) c.self.view_is ∙ there in
    let same : c.in-Train.train ≡ train = cc in
    record_in_exchanged under (rec.Train (record c.in-Train.train { place = c.args.place; stamp = c.args.stamp })) entries c.in-Some.index at k
    ∙ (λ i. cond (same_key k under) (Some (rec.Train (record (same i) { place = c.args.place; stamp = c.args.stamp }))) (record_in (c.self.view_is i).entries k))

pub returns-in_default-unwrap : goal.returns-in_default-unwrap
returns-in_default-unwrap c =
    let entries = c.self.inside.entries.entries in
    let under = key.Train c.args.engine in
    let at : position (eq-value.it under) (keys_of entries) ≡ Some c.in-Some.index = sym c.in-Some.ensures.index in
    let was : slice_get (values_of entries) c.in-Some.index ≡ Some c.unwrap.result.now = sym c.get_index_mut.ensures.value ∙ ap (λ found. option_copied_mut found) c.unwrap.ensures in
    record {
      moved = λ train there k.
          let both : Some c.unwrap.result.now ≡ Some (rec.Train train) = sym was ∙ stands_at under entries c.in-Some.index at ∙ ap (λ (kept : Kept). record_in kept.entries under) c.self.view_is ∙ there in
          let is : c.unwrap.result.now ≡ rec.Train train = cc in
          absurd (c.in_default-unwrap.not-Train train is);
      room = search rules;
    }
