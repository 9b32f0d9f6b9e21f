-- Lemmas on the steps of reading a message from a train.
use Rattle.std.proofs.Common.{◌≡◌, ◌≤◌, ◌∙◌, ℕ, List, length, drop, ap, subst, sym, inl, inr, arith, drop-drop}
use Rattle.ertms_bits.specs.Bits.{number_of, bits_of_bytes}
use Rattle.ertms_codec.specs.declared.error.DecodeError.{DecodeError}
use Rattle.ertms_codec.specs.declared.error.DecodeError.TheVariants.{Packet, Field}
use Rattle.ertms_codec.specs.declared.from_train.FromTrain.{FromTrain}
use Rattle.ertms_codec.specs.declared.from_train.FromTrain.TheVariants.{Ack}
use Rattle.ertms_codec.specs.Layout.{value_at}
use Rattle.ertms_codec.specs.FromTrain.{PositionFits}
use Rattle.ertms_codec.specs.Refusals.{Unless, Never, number_in, HasItsLength}
use Rattle.ertms_codec.specs.RefusalsFromTrain.{IsFromTrain, IsLongEnough, HavePackets, HasItsPackets}
use Rattle.ertms_codec.specs.FromTrainAtPlaces.{HasNoSpare, position_at, RefusesAtPlaces}
use Rattle.ertms_codec.specs.Reading.{IsReadFromTrain, IsReadBehind, IsReport, IsStopAcknowledgement, RefusesPosition}

-- the refusal of a position is that of message 136
pub report_refused : (number : ℕ) (bits whole : List ℕ) (e : DecodeError) → number ≡ 136 → RefusesPosition bits e → bits ≡ drop 74 whole → Unless (HasItsPackets number whole) Packet (Unless (HasNoSpare number whole) Field Never) e
report_refused number bits whole e one refused at =
    let there : RefusesPosition (drop 74 whole) e = subst (λ b. RefusesPosition b e) at refused in
    elim there [
      | inl x ↦ inl (λ has. x.0 (has.report one), x.1)
      | inr x ↦
          let packets : HasItsPackets number whole = record { report = λ _. x.0; of_a_stop = λ other. absurd (omega (arith, one, other)) } in
          elim x.1 [
            | inl y ↦ inr (packets, inl (λ spare. y.0 (spare.report one), y.1))
            | inr y ↦ absurd y.1
          ]
    ]

-- the refusal of a position is that of message 147
pub stop_refused : (number : ℕ) (bits whole : List ℕ) (e : DecodeError) → number ≡ 147 → RefusesPosition (drop 6 bits) e → bits ≡ drop 74 whole → Unless (HasItsPackets number whole) Packet (Unless (HasNoSpare number whole) Field Never) e
stop_refused number bits whole e one refused at =
    let place : drop 6 bits ≡ drop 80 whole = ap (drop 6) at ∙ drop-drop 6 74 whole in
    let there : RefusesPosition (drop 80 whole) e = subst (λ b. RefusesPosition b e) place refused in
    elim there [
      | inl x ↦ inl (λ has. x.0 (has.of_a_stop one), x.1)
      | inr x ↦
          let packets : HasItsPackets number whole = record { report = λ other. absurd (omega (arith, one, other)); of_a_stop = λ _. x.0 } in
          elim x.1 [
            | inl y ↦ inr (packets, inl (λ spare. y.0 (spare.of_a_stop one), y.1))
            | inr y ↦ absurd y.1
          ]
    ]

pub report_read : (number stamp engine : ℕ) (bits whole : List ℕ) (m : FromTrain) → number ≡ 136 → IsReport bits stamp engine m → bits ≡ drop 74 whole → number ≡ value_at 0 8 whole → stamp ≡ value_at 18 32 whole → engine ≡ value_at 50 24 whole → IsReadBehind number whole m
report_read number stamp engine bits whole m one r at number_at stamp_at engine_at =
    let there : value_at 0 8 whole ≡ 136 = sym number_at ∙ one in
    record {
      packets = record { report = λ _. subst HavePackets at r.read.packets; of_a_stop = λ other. absurd (omega (arith, one, other)) };
      spare = record { report = λ _. subst (λ b. PositionFits (position_at b)) at r.read.fits; of_a_stop = λ other. absurd (omega (arith, one, other)) };
      is = r.is ∙ rw (there, ← stamp_at, ← engine_at, at);
    }

pub stop_read : (number stamp engine : ℕ) (bits whole : List ℕ) (m : FromTrain) → number ≡ 147 → IsStopAcknowledgement bits stamp engine m → bits ≡ drop 74 whole → number ≡ value_at 0 8 whole → stamp ≡ value_at 18 32 whole → engine ≡ value_at 50 24 whole → IsReadBehind number whole m
stop_read number stamp engine bits whole m one r at number_at stamp_at engine_at =
    let there : value_at 0 8 whole ≡ 147 = sym number_at ∙ one in
    let place : drop 6 bits ≡ drop 80 whole = ap (drop 6) at ∙ drop-drop 6 74 whole in
    let id : value_at 0 4 bits ≡ value_at 74 4 whole = ap (number_of 4) at in
    let answer : value_at 4 2 bits ≡ value_at 78 2 whole = ap (number_of 2) (ap (drop 4) at ∙ drop-drop 4 74 whole) in
    record {
      packets = record { report = λ other. absurd (omega (arith, one, other)); of_a_stop = λ _. subst HavePackets place r.read.packets };
      spare = record { report = λ other. absurd (omega (arith, one, other)); of_a_stop = λ _. subst (λ b. PositionFits (position_at b)) place r.read.fits };
      is = r.is ∙ rw (place, id, answer, there, ← stamp_at, ← engine_at);
    }

pub acknowledgement_read : (number stamp engine : ℕ) (bits whole : List ℕ) → number ≡ 146 → bits ≡ drop 74 whole → number ≡ value_at 0 8 whole → stamp ≡ value_at 18 32 whole → engine ≡ value_at 50 24 whole → IsReadBehind number whole (Ack stamp engine (value_at 0 32 bits))
acknowledgement_read number stamp engine bits whole one at number_at stamp_at engine_at =
    let there : value_at 0 8 whole ≡ 146 = sym number_at ∙ one in
    record {
      packets = record { report = λ other. absurd (omega (arith, one, other)); of_a_stop = λ other. absurd (omega (arith, one, other)) };
      spare = record { report = λ other. absurd (omega (arith, one, other)); of_a_stop = λ other. absurd (omega (arith, one, other)) };
      is = rw (at, there, ← stamp_at, ← engine_at);
    }

-- a message has at least 10 bytes
pub ten_bytes : (number bytes : ℕ) → IsFromTrain number → IsLongEnough number bytes → 10 ≤ bytes
ten_bytes number bytes known enough =
    elim known [
      | inl e ↦ let n = enough.report e in omega arith
      | inr rest ↦ elim rest [
        | inl e ↦ let n = enough.acknowledgement e in omega arith
        | inr e ↦ let n = enough.of_a_stop e in omega arith
      ]
    ]

-- the first three steps hold
pub record Begins (bytes : List ℕ) : Type 0 where
  pub sized : HasItsLength bytes
  pub known : IsFromTrain (number_in bytes)
  pub enough : IsLongEnough (number_in bytes) (length bytes)

pub begins : (bytes : List ℕ) (number : ℕ) → HasItsLength bytes → number ≡ number_in bytes → IsFromTrain number × IsLongEnough number (length bytes) → Begins bytes
begins bytes number sized is steps =
    record { sized = sized; known = subst IsFromTrain is steps.0; enough = subst (λ n. IsLongEnough n (length bytes)) is steps.1 }

pub is_read : (bytes : List ℕ) (number : ℕ) (m : FromTrain) → Begins bytes → number ≡ number_in bytes → IsReadBehind number (bits_of_bytes bytes) m → IsReadFromTrain bytes m
is_read bytes number m b is behind =
    record { sized = b.sized; known = b.known; enough = b.enough; behind = subst (λ n. IsReadBehind n (bits_of_bytes bytes) m) is behind }

pub is_refused : (bytes : List ℕ) (number : ℕ) (e : DecodeError) → Begins bytes → number ≡ number_in bytes → Unless (HasItsPackets number (bits_of_bytes bytes)) Packet (Unless (HasNoSpare number (bits_of_bytes bytes)) Field Never) e → RefusesAtPlaces bytes e
is_refused bytes number e b is refused =
    inr (b.sized, inr (b.known, inr (b.enough, subst (λ n. Unless (HasItsPackets n (bits_of_bytes bytes)) Packet (Unless (HasNoSpare n (bits_of_bytes bytes)) Field Never) e) is refused)))
