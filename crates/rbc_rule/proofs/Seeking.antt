-- The trains among which are all that a command seeks are enough for it.
use Rattle.std.proofs.Common.{◌≡◌, ℕ, Bool, true, false, List, Option, Some, None, is_some, option_map, refl, sym, ap, ◌∙◌}
use Rattle.std.specs.Option.{option_map_or}
use Rattle.rbc_track.specs.Plan.{Plan}
use Rattle.rbc_maps.specs.Maps.{value_of}
use Rattle.rbc_settle.specs.declared.train.TrainRec.{TrainRec}
use Rattle.rbc_settle.specs.Numbers.{AreNumbers, has_number}
use Rattle.rbc_settle.specs.Settling.{Stops, Limits}
use Rattle.rbc_records.specs.declared.record.Key.TheVariants as key
use Rattle.rbc_records.specs.declared.record.Rec.TheVariants as rec
use Rattle.rbc_records.specs.declared.search.Sought.{Sought}
use Rattle.rbc_records.specs.Notes.{Notes}
use Rattle.rbc_records.specs.SoughtTrains.{is_sought}
use Rattle.rbc_records.specs.Seeking.{AreFound}
use Rattle.rbc_settle.specs.declared.single_change.Change.{Change}
use Rattle.rbc_rule.specs.World.{World}
use Rattle.rbc_rule.specs.Right.{MayBe}
use Rattle.rbc_rule.specs.WellFormed.{IsGoodTrain, IsWellFormed}
use Rattle.rbc_rule.specs.Touching.{touches, HasChanged, released_by}
use Rattle.rbc_rule.specs.Lists.{HaveSought, engines_at}
use Rattle.rbc_rule.specs.Gathered.{IsEnough}
use Rattle.rbc_rule.proofs.KeepsLists.{All-value_of}
use Rattle.rbc_rule.proofs.GatherReading.{has_value}
use Rattle.rbc_rule.proofs.Engines.{enough, is_there, roster_has, roster_is}

-- ---- what was found

enrolled_record : (found : Option TrainRec) → is_some (option_map rec.Train found) ≡ true → option_map_or (λ (train : TrainRec). true) found false ≡ true
enrolled_record None bad = bad
enrolled_record (Some train) there = refl

pub found_sought : (plan : Plan) (notes : Notes) (what : Sought) (engines : List ℕ) (w : World) → MayBe plan notes w → AreFound notes what engines → HaveSought what w engines
found_sought plan notes what engines w may found = record {
  enrolled = λ engine there.
      is_there (λ train. true) w.trains engine
      (enrolled_record (value_of w.trains engine) (sym (ap is_some (may.agrees (key.Train engine) (found.all_known (key.Train engine)))) ∙ found.there engine there));
  none_missed = λ engine train is sought.
      found.none_missed engine train (may.agrees (key.Train engine) (found.all_known (key.Train engine)) ∙ ap (option_map rec.Train) is) sought;
}

-- all trains
pub all_sought : (what : Sought) (w : World) (engines : List ℕ) → ((n : ℕ) → has_number engines n ≡ has_number (engines_at w key.Roster) n) → HaveSought what w engines
all_sought what w engines same = record {
  enrolled = λ engine there. sym (ap (λ list. has_number list engine) (roster_is w)) ∙ sym (same engine) ∙ there;
  none_missed = λ engine train is sought. same engine ∙ roster_has w engine ∙ ap (λ found. option_map_or (λ (train : TrainRec). true) found false) is;
}

-- ---- they are enough

module _ (plan : Plan) (w : World) (what : Sought) (engines : List ℕ) (well : IsWellFormed plan w) (have : HaveSought what w engines) where
  own : (n : ℕ) (train : TrainRec) → value_of w.trains n ≡ Some train → train.engine ≡ n
  own n train found = (All-value_of (IsGoodTrain plan w.stops w.limits) n train w.trains well.trains found).engine

  nobody : (n : ℕ) (b : Bool) → has_number engines n ≡ b → value_of w.trains n ≡ None → b ≡ false
  nobody n true there none = absurd (has_value w.trains n (sym none) (have.enrolled n there))
  nobody n false there none = refl

  listed : (n : ℕ) (found : Option TrainRec) → value_of w.trains n ≡ found → has_number engines n ≡ option_map_or (λ (train : TrainRec). has_number engines train.engine) found false
  listed n None none = nobody n (has_number engines n) refl none
  listed n (Some train) found = sym (ap (has_number engines) (own n train found))

  not_sought : (n : ℕ) (train : TrainRec) (b : Bool) → value_of w.trains n ≡ Some train → has_number engines train.engine ≡ false → is_sought what train ≡ b → b ≡ false
  not_sought n train true found other sought =
      let bad : true ≡ false = sym (have.none_missed n train found sought) ∙ ap (has_number engines) (sym (own n train found)) ∙ other in cc
  not_sought n train false found other sought = refl

  pub sought_enough : (changed : Change) (stops : Stops) (limits : Limits) → HasChanged changed w stops limits → AreNumbers engines → ((train : TrainRec) → touches plan changed train ≡ is_sought what train)
      → IsEnough plan stops limits (released_by changed) w.trains engines
  sought_enough changed stops limits has_changed numbers same =
      enough plan changed w stops limits (λ train. has_number engines train.engine) engines well has_changed numbers (λ n. listed n (value_of w.trains n) refl)
      (λ n train found other. same train ∙ not_sought n train (is_sought what train) found other refl)
