-- What one message to a train does to its identifiers (own rule).
use Rattle.std.specs.Prelude.{ℕ, ◌+◌, ◌-◌, ◌*◌, ◌/◌, List, map, take, drop, length}
use Rattle.std.specs.List.{range_with_len}
use Rattle.ertms_codec.specs.PacketsToTrain.{most_packets}
use Rattle.rbc_settle.specs.declared.change.StopChange.{StopChange}
use Rattle.rbc_settle.specs.declared.change.LimitChange.{LimitChange}

-- R-SETTLE-6. One message revokes or tells one stop. One message revokes and tells up to 100 restrictions, each by a
-- packet.
pub data Action : Type 0 where
  ChangesStop : StopChange → Action
  ChangesLimits : List LimitChange → Action

-- R-SETTLE-6: how many groups this many items make
abbrev pub groups_for : ℕ → ℕ
groups_for count = (count + (most_packets - 1)) / most_packets

-- R-SETTLE-6: items in their order, in groups of 100; the last group has the rest
abbrev pub groups : {X : Type 0} → List X → List (List X)
groups items = map (λ k. take most_packets (drop (most_packets * k) items)) (range_with_len 0 (groups_for (length items)))
