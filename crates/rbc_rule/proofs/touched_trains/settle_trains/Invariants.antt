use Rattle.std.proofs.Common.{◌≡◌, ◌*◌, ◌≤◌, length, flat_map, take}
use Rattle.rbc_settle.specs.Settling.{Stops, Limits}
use Rattle.rbc_rule.specs.World.{World}
use Rattle.rbc_rule.specs.Right.{MayBe}
use Rattle.rbc_rule.specs.Touching.{HasChanged, released_by}
use Rattle.rbc_rule.specs.Gathered.{write_at, sent_at, AreSendable}
use Rattle.rbc_rule.proofs.touched_trains.settle_trains.Given as goal

-- the trains of the engines so far are settled, in each world that may be the one that was read
abbrev pub invariant-loop-engine : goal.invariant-loop-engine
invariant-loop-engine g l =
    let notes = g.S.Reader.notes l.store in
    record {
      writes : (w : World) (stops : Stops) (limits : Limits) → MayBe l.track notes w → HasChanged l.change w stops limits → l.gathered.writes ≡ flat_map (write_at l.track stops limits (released_by l.change) w.trains) (take l.engine-index l.engine-items);
      messages : (w : World) (stops : Stops) (limits : Limits) → MayBe l.track notes w → HasChanged l.change w stops limits → l.gathered.messages.items ≡ flat_map (sent_at l.track stops limits (released_by l.change) w.trains) (take l.engine-index l.engine-items);
      few : length l.gathered.messages.items ≤ l.engine-index * 36;
      fit : AreSendable l.gathered.messages.items;
    }
