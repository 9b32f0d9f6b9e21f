-- What is told already is not to be told, and anything else is told as it concerns the train.
use Rattle.std.proofs.Common.{◌≡◌, ℕ, true, false, if◌then◌else◌, List, None, option_map, ap}
use Rattle.rbc_ids.specs.Table.{is_told}
use Rattle.rbc_zones.specs.declared.segment.Segment.{Segment}
use Rattle.rbc_zones.specs.Limits.{Limit}
use Rattle.rbc_settle.specs.declared.train.TrainRec.{TrainRec}
use Rattle.rbc_settle.specs.declared.change.ToldStop.{ToldStop}
use Rattle.rbc_settle.specs.Told.{Part}
use Rattle.rbc_settle.specs.Settling.{told_stop, concern_to, stop_to_tell, limit_told_to, limit_to_tell}

-- what is told already is not to be told
pub stop_told_already : (train : TrainRec) (stop : ℕ × List Segment) → is_told train.stops stop.0 ≡ true → stop_to_tell train stop ≡ None
stop_told_already train stop e = ap (λ b. if b then None else option_map (λ (told : ToldStop). (stop.0, told)) (told_stop train.place (concern_to train stop))) e

pub stop_not_told : (train : TrainRec) (stop : ℕ × List Segment) → is_told train.stops stop.0 ≡ false
    → stop_to_tell train stop ≡ option_map (λ told. (stop.0, told)) (told_stop train.place (concern_to train stop))
stop_not_told train stop e = ap (λ b. if b then None else option_map (λ (told : ToldStop). (stop.0, told)) (told_stop train.place (concern_to train stop))) e

pub limit_told_already : (horizon : ℕ) (train : TrainRec) (limit : ℕ × Limit) → is_told train.limits limit.0 ≡ true → limit_to_tell horizon train limit ≡ None
limit_told_already horizon train limit e = ap (λ b. if b then None else option_map (λ (told : Part). (limit.0, told)) (limit_told_to horizon train.place limit.1)) e

pub limit_not_told : (horizon : ℕ) (train : TrainRec) (limit : ℕ × Limit) → is_told train.limits limit.0 ≡ false
    → limit_to_tell horizon train limit ≡ option_map (λ told. (limit.0, told)) (limit_told_to horizon train.place limit.1)
limit_not_told horizon train limit e = ap (λ b. if b then None else option_map (λ (told : Part). (limit.0, told)) (limit_told_to horizon train.place limit.1)) e
