-- The fields of a message name it.
use Rattle.std.proofs.Common.{◌≡◌, ℕ, Bool, true, false, Option, Some, None, refl, ap}
use Rattle.std.specs.Prelude.{◌==◌, if◌then◌else◌}
use Rattle.ertms_codec.specs.declared.to_train.ToTrain.{ToTrain}
use Rattle.ertms_codec.specs.declared.to_train.ToTrain.TheVariants.{StopAt, Stop, Revoke, General}
use Rattle.ertms_codec.specs.declared.to_train.Head.{Head}
use Rattle.ertms_codec.specs.declared.packets.Part.{Part}
use Rattle.ertms_codec.specs.declared.packets.Part.TheVariants.{Restrict, Lift}
use Rattle.ertms_codec.specs.declared.from_train.Position.{Position}
use Rattle.ertms_codec.specs.declared.from_train.FromTrain.{FromTrain}
use Rattle.ertms_codec.specs.declared.from_train.FromTrain.TheVariants.{Report, Ack, StopAck}
use Rattle.ertms_c.specs.FromTrainFields as from_train
use Rattle.ertms_c.specs.ToTrainFields.{bit, fields_of, named_by, packet_fields, packet_named_by}

-- a bit that was made of a truth value says it
pub bit_says : (b : Bool) → (bit b == 1) ≡ b
bit_says true = refl
bit_says false = refl

-- the head is found again
pub same_head : (head : Head) → record { stamp = head.stamp; ack = bit head.ack == 1; lrbg = head.lrbg } ≡ head
same_head head = ap (λ (b : Bool). record head { ack = b }) (bit_says head.ack)

pub fields_name : (m : ToTrain) → ¬ ((fields_of m).kind ≡ 24) → named_by (fields_of m) ≡ Some m
fields_name (StopAt head id scale reference dir distance) other = ap (λ (h : Head). Some (StopAt h id scale reference dir distance)) (same_head head)
fields_name (Stop head id) other = ap (λ (h : Head). Some (Stop h id)) (same_head head)
fields_name (Revoke head id) other = ap (λ (h : Head). Some (Revoke h id)) (same_head head)
fields_name (General head packets) other = absurd (other refl)

-- the fields of a packet name it
pub packet_fields_name : (packet : Part) → packet_named_by (packet_fields packet) ≡ Some packet
packet_fields_name (Restrict dir scale id start length front speed) = ap (λ (b : Bool). Some (Restrict dir scale id start length b speed)) (bit_says front)
packet_fields_name (Lift dir id) = refl

-- the balise group before the last one is found again, and so is a position
same_group : (previous : Option ℕ) → (if from_train.packet_of previous == 1 then Some (from_train.or_0 previous) else None) ≡ previous
same_group (Some previous) = refl
same_group None = refl

same_position : (p : Position) → record p { previous = if from_train.packet_of p.previous == 1 then Some (from_train.or_0 p.previous) else None } ≡ p
same_position p = ap (λ (previous : Option ℕ). record p { previous = previous }) (same_group p.previous)

-- the fields of a message from a train name it
pub from_train_fields_name : (m : FromTrain) → from_train.named_by (from_train.fields_of m) ≡ Some m
from_train_fields_name (Report stamp engine position) = ap (λ (p : Position). Some (Report stamp engine p)) (same_position position)
from_train_fields_name (Ack stamp engine acked) = refl
from_train_fields_name (StopAck stamp engine id answer position) = ap (λ (p : Position). Some (StopAck stamp engine id answer p)) (same_position position)
