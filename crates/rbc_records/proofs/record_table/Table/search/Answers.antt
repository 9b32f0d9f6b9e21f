use Rattle.std.proofs.Common.{◌≡◌, ℕ, Bool, true, false, ◌&&◌, slice_get, Some, get_or, sym, ap, ◌∙◌, rules}
use Rattle.rbc_records.specs.ToldBits.{has_bit}
use Rattle.rbc_records.specs.Extents.{meet, is_one_met}
use Rattle.rbc_records.specs.Columns.{Kept, told_bits_of, extent_of}
use Rattle.rbc_records.specs.SoughtTrains.{is_sought}
use Rattle.rbc_records.specs.declared.extent.Extent.{Extent}
use Rattle.rbc_records.specs.declared.record.Key.{Key}
use Rattle.rbc_records.specs.declared.record.Rec.TheVariants as rec
use Rattle.rbc_records.specs.declared.search.Sought.TheVariants as sought
use Rattle.rbc_settle.specs.declared.train.TrainRec.{TrainRec}
use Rattle.rbc_records.specs.declared.record.Rec.{Rec}
use Rattle.rbc_records.proofs.Asked.{asked_by_stop, asked_by_limit, asked_by_place}
use Rattle.rbc_records.proofs.Beside.{told_there}
use Rattle.rbc_records.proofs.Finding.{found_those}
use Rattle.rbc_records.proofs.record_table.Table.search.Goals as goal

pub returns-in-ToldOfStop : goal.returns-in-ToldOfStop
returns-in-ToldOfStop c =
    let number = c.in-ToldOfStop.number in
    let test = λ (rec : Rec). has_bit (told_bits_of rec).stops number in
    let found = c.told.ensures (λ (rec : Rec). (told_bits_of rec).stops) (c.deref.ensures.value ∙ c.self.invariant.stops_are) in
    rw c.in-ToldOfStop.is (found_those test (sought.ToldOfStop number) (asked_by_stop number) _ _ (ap (λ (kept : Kept). kept.entries) c.self.view_is) _ found)

pub returns-in-ToldOfLimit : goal.returns-in-ToldOfLimit
returns-in-ToldOfLimit c =
    let number = c.in-ToldOfLimit.number in
    let test = λ (rec : Rec). has_bit (told_bits_of rec).limits number in
    let found = c.told-in-ToldOfLimit.ensures (λ (rec : Rec). (told_bits_of rec).limits) (c.deref-in-ToldOfLimit.ensures.value ∙ c.self.invariant.limits_are) in
    rw c.in-ToldOfLimit.is (found_those test (sought.ToldOfLimit number) (asked_by_limit number) _ _ (ap (λ (kept : Kept). kept.entries) c.self.view_is) _ found)

pub returns-in-Stoppable : goal.returns-in-Stoppable
returns-in-Stoppable c =
    let inside = c.self.inside in
    let entries = inside.entries.entries in
    let area = c.in-Stoppable.area in
    let of_area = c.of_area-of_area.result in
    let meets = λ (extent : Extent). meet of_area extent.least extent.most && is_one_met area.now extent.least extent.most in
    let test = λ (rec : Rec). meets (extent_of rec) in
    let asked : (train : TrainRec) → is_sought (sought.Stoppable c.in-Stoppable.field-0 area) train ≡ true → test (rec.Train train) ≡ true =
    λ train is. ap (λ (e : Extent). meet e (extent_of (rec.Train train)).least (extent_of (rec.Train train)).most && is_one_met area.now (extent_of (rec.Train train)).least (extent_of (rec.Train train)).most) c.of_area-of_area.ensures ∙ asked_by_place c.in-Stoppable.field-0 area.now train is in
    let least_at = λ (index : ℕ) (entry : Key × Rec) (at : slice_get entries index ≡ Some entry). told_there (λ (rec : Rec). (extent_of rec).least) entries inside.least.items c.self.invariant.least_are index entry at 0 in
    let most_at = λ (index : ℕ) (entry : Key × Rec) (at : slice_get entries index ≡ Some entry). told_there (λ (rec : Rec). (extent_of rec).most) entries inside.most.items c.self.invariant.most_are index entry at 0 in
    let found = c.passing.ensures test
    (λ begin end index entry says from below at. let none : meet of_area (get_or inside.least.items index 0) (get_or inside.most.items index 0) ≡ false = search rules in
    ap (λ (b : Bool). b && is_one_met area.now (extent_of entry.1).least (extent_of entry.1).most) (sym (λ i. meet of_area (least_at index entry at i) (most_at index entry at i)) ∙ none))
    (λ index answer entry says at.
    let answered : answer ≡ (meet of_area (get_or inside.least.items index 0) (get_or inside.most.items index 0) && is_one_met area.now (get_or inside.least.items index 0) (get_or inside.most.items index 0)) = search rules in
    answered ∙ (λ i. meet of_area (least_at index entry at i) (most_at index entry at i) && is_one_met area.now (least_at index entry at i) (most_at index entry at i))) in
    rw c.in-Stoppable.is (found_those test (sought.Stoppable c.in-Stoppable.field-0 area) asked _ _ (ap (λ (kept : Kept). kept.entries) c.self.view_is) _ found)
