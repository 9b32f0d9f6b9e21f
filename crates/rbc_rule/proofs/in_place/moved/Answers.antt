use Rattle.std.proofs.Common.{◌≡◌, ℕ, ◌+◌, Bool, true, false, cond, min, max, [], ◌∷◌, Ok, Err, refl, sym, ap, ◌∙◌}
use Rattle.std.proofs.lemmas.Bool.{or_parts}
use Rattle.std.specs.Prelude.{◌==◌, if◌then◌else◌}
use Rattle.std.specs.List.{list_any}
use Rattle.ertms_codec.specs.declared.from_train.Position.{Position}
use Rattle.ertms_codec.specs.declared.from_train.FromTrain.{FromTrain}
use Rattle.ertms_codec.specs.declared.from_train.FromTrain.TheVariants.{Report}
use Rattle.rbc_track.specs.Plan.{Plan}
use Rattle.rbc_place.specs.Placing.{place_of_report}
use Rattle.rbc_ids.specs.Table.{Slots, after_report, reported_slot, most_reports}
use Rattle.rbc_ids.specs.declared.slot.Slot.{Slot}
use Rattle.rbc_ids.specs.declared.slot.Slot.TheVariants.{Used, Revoking}
use Rattle.rbc_settle.specs.declared.train.TrainRec.{TrainRec}
use Rattle.rbc_rule.specs.declared.refuse.Refusal.TheVariants.{StampTooHigh}
use Rattle.rbc_rule.specs.Codes.{code_of}
use Rattle.rbc_rule.specs.Effect.{unknown_stamp, is_too_high, placed, counted, told_by, heard}
use Rattle.rbc_rule.specs.InPlace.{is_counted}
use Rattle.rbc_rule.proofs.in_place.moved.Goals as goal

-- a slot that counts no report stays as it is
slot_stays : (slot : Slot) → is_counted slot ≡ false → reported_slot slot ≡ slot
slot_stays (Used used) none = ap (λ (b : Bool). if b then Used (record used { count = min (used.count + 1) most_reports }) else Used used) none
slot_stays (Revoking stamp) none = refl

slots_stay : (slots : Slots) → list_any (λ held. is_counted held.1) slots ≡ false → after_report slots ≡ slots
slots_stay [] none = refl
slots_stay (held ∷ slots) none =
    let parts = or_parts (is_counted held.1) (list_any (λ (other : ℕ × Slot). is_counted other.1) slots) none in
    let rest = slots_stay slots parts.1 in
    λ i. (held.0, slot_stays held.1 parts.0 i) ∷ rest i

-- the place and the stamp alone change
moved_by : (plan : Plan) (position : Position) (train : TrainRec) (stamp : ℕ) (b : Bool) → after_report train.stops ≡ train.stops
    → counted (placed plan position (if b then train else record train { stamp = max train.stamp stamp }))
    ≡ record train { place = place_of_report plan position train.length; stamp = if b then train.stamp else max train.stamp stamp }
moved_by plan position train stamp true same = ap (λ (stops : Slots). record train { place = place_of_report plan position train.length; stops = stops }) same
moved_by plan position train stamp false same = ap (λ (stops : Slots). record train { place = place_of_report plan position train.length; stamp = max train.stamp stamp; stops = stops }) same

pub returns-clause-heard : goal.returns-clause-heard
returns-clause-heard c =
    let plan = c.args.track.now in
    let train = c.args.before.now in
    let stamp = c.in-Report.stamp in
    let position = c.in-Report.position in
    let same : after_report train.stops ≡ train.stops = slots_stay train.stops (sym c.counts_reports.ensures ∙ c.if-counts_reports.false) in
    let low : is_too_high stamp ≡ false = sym c.is_too_high.ensures ∙ c.if-is_too_high.false in
    ap (λ (m : FromTrain). heard plan m train) c.in-Report.is
    ∙ ap (λ b. cond b (Err (code_of StampTooHigh)) (told_by plan (Report stamp c.in-Report.engine position) train)) low
    ∙ ap Ok (moved_by plan position train stamp (stamp == unknown_stamp) same)
    ∙ (λ i. Ok (record train { place = sym c.place_of-place.ensures.place i; stamp = sym c.stamp_after.ensures i }))
