use Rattle.std.proofs.Common.{◌≡◌, ◌+◌, ◌*◌, ◌≤◌, length, take}
use Rattle.rbc_track.specs.Plan.{Plan}
use Rattle.rbc_records.specs.Notes.{Extends}
use Rattle.rbc_rule.specs.Bounds.{max_trains}
use Rattle.rbc_rule.specs.World.{World}
use Rattle.rbc_rule.specs.Right.{MayBe}
use Rattle.rbc_rule.specs.Lists.{AreEnginesOf, may_stop}
use Rattle.rbc_rule.proofs.fetch.stop_lists.Given as goal

-- the engines of the trains that a stop on the segments so far can concern
abbrev pub invariant-loop-segment : goal.invariant-loop-segment
invariant-loop-segment g l =
    let notes = g.S.Reader.notes in
    let failed = g.S.Reader.failed in
    record {
      engines : (plan : Plan) (w : World) → MayBe plan (notes l.store) w → AreEnginesOf (may_stop (take l.segment-index l.segments)) w l.engines;
      few : length l.engines ≤ (l.segment-index + 1) * max_trains;
      extends : Extends (notes l.fn.store) (notes l.store);
      failed : failed l.store ≡ failed l.fn.store;
    }
