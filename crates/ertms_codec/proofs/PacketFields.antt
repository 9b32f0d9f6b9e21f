-- Packets of a message to a train as fields.
use Rattle.std.proofs.Common.{◌≡◌, ℕ, ◌+◌, ◌*◌, ◌<◌, ◌≤◌, ◌∙◌, List, [], ◌∷◌, ◌++◌, length, take, get_or, Some, slice_get, ap, arith}
use Rattle.std.specs.List.{flat_map}
use Rattle.std.proofs.lemmas.Grind.{flat_map-append}
use Rattle.std.proofs.lemmas.List.{take_more, append-nil}
use Rattle.std.proofs.lemmas.List.Sums.{sum_by-append}
use Rattle.std.proofs.lemmas.Option.{slice_get_within, get_or_from_slice_get}
use Rattle.ertms_codec.specs.declared.packets.Part.{Part}
use Rattle.ertms_codec.specs.declared.packets.Part.TheVariants.{Restrict, Lift}
use Rattle.ertms_codec.specs.declared.to_train.ToTrain.{ToTrain}
use Rattle.ertms_codec.specs.declared.to_train.ToTrain.TheVariants.{StopAt, Stop, Revoke, General}
use Rattle.ertms_codec.specs.Layout.{Field, width_of}
use Rattle.ertms_codec.specs.PacketsToTrain.{fields_of_packet}
use Rattle.ertms_codec.specs.ToTrain.{Fits, body_of}

-- what comes of the first packets, and of one more
pub one_more_at : {A : Type 0} (of : Part → List A) (packets : List Part) (i : ℕ) (d : Part) → i < length packets → flat_map of (take (i + 1) packets) ≡ flat_map of (take i packets) ++ of (get_or packets i d)
one_more_at of packets i d within = ap (flat_map of) (take_more packets i d within) ∙ rw (flat_map-append, append-nil)

pub one_more : {A : Type 0} (of : Part → List A) (packets : List Part) (i : ℕ) (part : Part) → slice_get packets i ≡ Some part → flat_map of (take (i + 1) packets) ≡ flat_map of (take i packets) ++ of part
one_more of packets i part there =
    let is : get_or packets i part ≡ part = get_or_from_slice_get packets i part part there in
    one_more_at of packets i part (slice_get_within packets i part there) ∙ rw is

-- fields behind others
pub width_of-append : (xs ys : List Field) → width_of (xs ++ ys) ≡ width_of xs + width_of ys
width_of-append xs ys = sum_by-append (λ f. f.width) xs ys

-- a packet takes at most 71 bits
pub packet_width : (part : Part) → width_of (fields_of_packet part) ≤ 71
packet_width (Restrict dir scale id start length front speed) = omega arith
packet_width (Lift dir id) = omega arith

-- and so do packets, each of them
pub packets_width : (packets : List Part) → width_of (flat_map fields_of_packet packets) ≤ 71 * length packets
packets_width [] = omega arith
packets_width (part ∷ packets) =
    omega (arith, width_of-append (fields_of_packet part) (flat_map fields_of_packet packets), packet_width part, packets_width packets)

-- so the body of a message that fits takes at most 7100 bits
pub body_width : (m : ToTrain) → Fits m → width_of (body_of m) ≤ 7100
body_width (StopAt head id scale reference dir distance) fits = omega arith
body_width (Stop head id) fits = omega arith
body_width (Revoke head id) fits = omega arith
body_width (General head packets) fits = let most = fits.body.most in omega (arith, packets_width packets)
