-- The world at the beginning.
use Rattle.std.proofs.Common.{◌≡◌, [], None, refl, arith}
use Rattle.std.proofs.lemmas.List.Elements.{All-nil}
use Rattle.rbc_track.specs.Plan.{Plan}
use Rattle.rbc_records.specs.declared.record.Key.{Key}
use Rattle.rbc_records.specs.declared.record.Key.TheVariants.{Roster, Train, Stops, Limits, Line, Unplaced}
use Rattle.rbc_records.specs.Notes.{Whole}
use Rattle.rbc_rule.specs.World.{new_world}
use Rattle.rbc_rule.specs.Records.{record_of}
use Rattle.rbc_rule.specs.Right.{MayBe}
use Rattle.rbc_rule.specs.WellFormed.{IsWellFormed}

-- it is well-formed on each track
pub new_world_is_well_formed : (plan : Plan) → IsWellFormed plan new_world
new_world_is_well_formed plan = record {
  stops = record { numbered = record { ascending = refl; within = All-nil _ }; few = omega arith; good = All-nil _ };
  limits = record { numbered = record { ascending = refl; within = All-nil _ }; few = omega arith; good = All-nil _ };
  ascending = refl;
  few = omega arith;
  trains = All-nil _;
}

-- and has no records
no_records : (k : Key) → None ≡ record_of new_world k
no_records Roster = refl
no_records (Train engine) = refl
no_records Stops = refl
no_records Limits = refl
no_records (Line line) = refl
no_records Unplaced = refl

pub begins : (plan : Plan) → MayBe plan (Whole []) new_world
begins plan = record { well_formed = new_world_is_well_formed plan; agrees = λ k known. no_records k }
