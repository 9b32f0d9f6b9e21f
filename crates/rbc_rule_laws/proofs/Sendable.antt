-- The message of each action can be sent: its variables are in their ranges, and wide enough for their values.
use Rattle.std.proofs.Common.{◌≡◌, ℕ, zero, suc, ◌+◌, ◌<◌, ◌≤◌, Bool, true, false, not, cond, List, [], ◌∷◌, length, Option, Some, None, subst, arith}
use Rattle.std.specs.List.{All, AllByRecursion, filter, range_with_len}
use Rattle.std.specs.Option.{option_map_or}
use Rattle.std.proofs.lemmas.List.Elements.{All-nil, All-cons, All-head, All-tail, All-filter}
use Rattle.ertms_codec.specs.declared.packets.Part.{Part as Packet}
use Rattle.ertms_codec.specs.declared.packets.Part.TheVariants.{Restrict, Lift}
use Rattle.ertms_codec.specs.declared.to_train.ToTrain.TheVariants as message
use Rattle.ertms_codec.specs.PacketsToTrain.{most_packets}
use Rattle.rbc_track.specs.Plan.{Plan, IsPlan}
use Rattle.rbc_place.specs.Placing.{Place}
use Rattle.rbc_maps.specs.Maps.{has, keys}
use Rattle.rbc_ids.specs.declared.slot.Slot.{Slot}
use Rattle.rbc_ids.specs.Table.{Slots, free_identifiers}
use Rattle.rbc_settle.specs.declared.train.TrainRec.{TrainRec}
use Rattle.rbc_settle.specs.declared.change.StopChange.TheVariants as stop_change
use Rattle.rbc_settle.specs.Actions.{ChangesStop}
use Rattle.rbc_settle.specs.declared.change.ToldStop.TheVariants.{AtOnce, Before}
use Rattle.rbc_settle.specs.Told.{Edge, Part}
use Rattle.rbc_settle.specs.InField.{IsEdgeInField, IsPartInField}
use Rattle.rbc_settle.specs.Settling.{last_stamp, unknown_group, group_of, direction_of, head_of, message_of, is_used_by, to_revoke}
use Rattle.rbc_settle.specs.WellFormed.{HasPlaceOn}
use Rattle.rbc_rule.specs.SaidFor.{IsSendable}
use Rattle.rbc_rule_laws.proofs.Packets.{CanBePacked, restrict_packed, lift_packed, general_sendable}
use Rattle.rbc_rule_laws.proofs.SaysPlaces.{sound}

-- ---- identifiers

-- identifiers that are kept by a test are below what all are
kept_below : (count : ℕ) (test : ℕ × Slot → Bool) (slots : Slots) → All (λ id. id < count) (keys slots) → All (λ id. id < count) (keys (filter test slots))
kept_below count test [] all = All-nil (λ id. id < count)
kept_below count test (held ∷ slots) all =
    let P : ℕ → Type 0 = λ id. id < count in
    let rest = kept_below count test slots (All-tail P held.0 (keys slots) all) in
    elim (test held) as (λ b. All P (keys (cond b (held ∷ filter test slots) (filter test slots)))) [
      | true ↦ All-cons P held.0 (keys (filter test slots)) (All-head P held.0 (keys slots) all) rest
      | false ↦ rest
    ]

-- so are those that are revoked
pub revoked_below : (count : ℕ) (gone : ℕ → Bool) (slots : Slots) → All (λ id. id < count) (keys slots) → All (λ id. id < count) (to_revoke gone slots)
revoked_below count gone slots all = kept_below count (λ held. is_used_by gone held.1) slots all

range_below : (from n : ℕ) → All (λ id. id < from + n) (range_with_len from n)
range_below from zero = All-nil (λ id. id < from + 0)
range_below from (suc n) =
    let P : ℕ → Type 0 = λ id. id < from + suc n in
    let same : from + 1 + n ≡ from + suc n = omega arith in
    All-cons P from (range_with_len (from + 1) n) (omega arith) (subst (λ (k : ℕ). All (λ id. id < k) (range_with_len (from + 1) n)) same (range_below (from + 1) n))

-- and those that are free
pub free_stop_ids : (slots : Slots) → All (λ id. id < 15) (free_identifiers 15 slots)
free_stop_ids slots = All-filter (λ id. not (has slots id)) (λ id. id < 15) (range_with_len 0 15) (range_below 0 15)

pub free_limit_ids : (slots : Slots) → All (λ id. id < 255) (free_identifiers 255 slots)
free_limit_ids slots = All-filter (λ id. not (has slots id)) (λ id. id < 255) (range_with_len 0 255) (range_below 0 255)

-- ---- the balise group and the direction

-- the number of the balise group of a train on the track, or the one for none
pub group_within : (plan : Plan) → IsPlan plan → (place : Option Place) → HasPlaceOn plan place → option_map_or (λ p. p.lrbg) place unknown_group ≤ 16777215
group_within plan track None on = omega arith
group_within plan track (Some p) on = let most = (sound plan track p on).group in omega (arith, most)

pub direction_within : (p : Place) → direction_of p ≤ 2
direction_within p = by_test _
  where
    by_test : (b : Bool) → cond b 1 0 ≤ 2
    by_test true = omega arith
    by_test false = omega arith

-- ---- messages

-- the packet of a restriction that is told, and that of one that is revoked
abbrev pub restriction : ℕ → Part → Packet
restriction id part = Restrict part.dir part.scale id part.start part.length part.front part.speed

pub restriction_packed : (id : ℕ) (part : Part) → id < 255 → IsPartInField part → CanBePacked (restriction id part)
restriction_packed id part below in_field =
    restrict_packed part.dir part.scale id part.start part.length part.speed part.front in_field.dir in_field.scale (omega (arith, below)) in_field.start in_field.length in_field.speed

pub revocation_packed : (id : ℕ) → id < 255 → CanBePacked (Lift 2 id)
revocation_packed id below = lift_packed 2 id (omega arith) (omega (arith, below))

module _ (later : TrainRec) (left : later.stamp < last_stamp) (group : group_of later ≤ 16777215) where
  pub revoke_stop : (id : ℕ) (number : Option ℕ) → id < 15 → IsSendable (message_of later (ChangesStop (stop_change.Revoke id number)))
  revoke_stop id number below = record {
    fits = record { lrbg = group; body = omega (arith, below) };
    holds = (omega arith, (omega arith, (omega (arith, left), (omega arith, (omega (arith, group), (omega (arith, below), tt))))));
    reference = tt;
  }

  pub stop_at_once : (id number : ℕ) → id < 15 → IsSendable (message_of later (ChangesStop (stop_change.Tell id number AtOnce)))
  stop_at_once id number below = record {
    fits = record { lrbg = group; body = omega (arith, below) };
    holds = (omega arith, (omega arith, (omega (arith, left), (omega arith, (omega (arith, group), (omega (arith, below), tt))))));
    reference = tt;
  }

  pub stop_before : (id number : ℕ) (edge : Edge) → id < 15 → IsEdgeInField edge → IsSendable (message_of later (ChangesStop (stop_change.Tell id number (Before edge))))
  stop_before id number edge below in_field =
      let dir = in_field.dir in
      let scale = in_field.scale in
      let distance = in_field.distance in
      record {
        fits = record { lrbg = group; body = (omega (arith, below), scale, dir, distance) };
        holds = (
          omega arith,
          (omega arith, (omega (arith, left), (omega arith, (omega (arith, group), (omega (arith, below), (omega (arith, scale), (omega arith, (omega (arith, dir), (omega (arith, distance), tt))))))))),
        );
        reference = omega arith;
      }

  -- message 24, whatever its packets are
  pub general : (packets : List Packet) → 1 ≤ length packets → length packets ≤ most_packets → AllByRecursion CanBePacked packets → IsSendable (message.General (head_of later true) packets)
  general packets some most each = general_sendable (head_of later true) packets (omega (arith, left)) group some most each
