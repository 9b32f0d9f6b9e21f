-- What is spelled as a message from a train is read as that message.
use Rattle.std.proofs.Common.{◌≡◌, ℕ, ◌+◌, ◌∙◌, List, ◌++◌, length, drop, Result, Ok, Err, refl, sym, ap, subst, inl, inr, arith, append_assoc, drop_at, length-append}
use Rattle.std.specs.Prelude.{IfOk, IfErr}
use Rattle.ertms_bits.specs.Bits.{bits_of_bytes}
use Rattle.ertms_bits.proofs.Bits.{length-bits_of_bytes}
use Rattle.ertms_codec.specs.declared.error.DecodeError.{DecodeError}
use Rattle.ertms_codec.specs.declared.error.DecodeError.TheVariants.{Length, Message, Packet, Field}
use Rattle.ertms_codec.specs.declared.from_train.Position.{Position}
use Rattle.ertms_codec.specs.declared.from_train.FromTrain.{FromTrain}
use Rattle.ertms_codec.specs.declared.from_train.FromTrain.TheVariants.{Report, Ack, StopAck}
use Rattle.ertms_codec.specs.Layout.{width_of, bits_of_fields, value_at}
use Rattle.ertms_codec.specs.FromTrain.{Spells, PositionFits, StandsWithPackets, fields_of, fields_of_position}
use Rattle.ertms_codec.specs.Refusals.{number_in, Unless, Never, HasItsLength}
use Rattle.ertms_codec.specs.RefusalsFromTrain.{Refuses, HavePackets, IsFromTrain, IsLongEnough, HasItsPackets, IsSpelled}
use Rattle.ertms_codec.specs.FromTrainAtPlaces.{position_at, HasNoSpare, RefusesAtPlaces}
use Rattle.ertms_codec.specs.Reading.{IsReadFromTrain}
use Rattle.ertms_codec.proofs.FirstFailing.{IsOnce, never, once, instead, last}
use Rattle.ertms_codec.proofs.FromTrainLaws.{found}
use Rattle.ertms_codec.proofs.Fields.{Behind, at_places}
use Rattle.ertms_codec.proofs.FieldLists.{length-bits_of_fields}
use Rattle.ertms_codec.proofs.PositionFields.{position_back}

-- a position packet, packets and fill bits pass the steps
packets_again : (p : Position) (bits : List ℕ) → StandsWithPackets p bits → HavePackets bits × (p ≡ position_at bits)
packets_again p bits s =
    let size = length s.packet in
    let fields = fields_of_position size p s.position.train in
    let extra = s.position.extra in
    let whole : bits ≡ bits_of_fields fields ++ (extra ++ s.others) =
    s.whole ∙ ap (λ (x : List ℕ). x ++ s.others) s.position.bits ∙ append_assoc (bits_of_fields fields) extra s.others in
    let behind = at_places fields 0 bits (extra ++ s.others) (omega arith) s.position.holds whole in
    let back = position_back p size s.position.train bits behind.are in
    let width = back.width in
    let parts : size ≡ width_of fields + length extra =
    ap length s.position.bits ∙ length-append (bits_of_fields fields) extra ∙ ap (λ n. n + length extra) (length-bits_of_fields fields) in
    let total : length bits ≡ size + length s.others = ap length s.whole ∙ length-append s.packet s.others in
    let counted = back.size_is in
    let rest : drop (value_at 8 13 bits) bits ≡ s.others =
    ap (λ n. drop n bits) counted ∙ ap (drop size) s.whole ∙ drop_at s.packet s.others size refl in (
      record {
        position = record { header = omega arith; number = back.number; enough = omega arith; within = omega arith };
        further = rw rest s.further;
      },
      back.position,
    )

stands : (bytes : List ℕ) (m : FromTrain) (s : Spells bytes m) → Behind (fields_of (length bytes) m) 0 (bits_of_bytes bytes) s.behind
stands bytes m s = at_places (fields_of (length bytes) m) 0 (bits_of_bytes bytes) s.behind (omega arith) s.holds s.bits

-- what is spelled is read
pub again : (bytes : List ℕ) (m : FromTrain) → Spells bytes m → IsReadFromTrain bytes m
again bytes (Report stamp engine position) s =
    let bits = bits_of_bytes bytes in
    let total = length-bits_of_bytes bytes in
    let b = stands bytes (Report stamp engine position) s in
    let within = b.within in
    let number : number_in bytes ≡ 136 = sym b.are.0 in
    let packets = packets_again position (drop 74 bits) (subst (StandsWithPackets position) b.rest_is s.stands) in
    record {
      sized = (omega arith, sym b.are.1.0);
      known = inl number;
      enough = record { report = λ _. omega arith; acknowledgement = λ other. absurd (omega (arith, number, other)); of_a_stop = λ other. absurd (omega (arith, number, other)) };
      behind = record {
        packets = record { report = λ _. packets.0; of_a_stop = λ other. absurd (omega (arith, number, other)) };
        spare = record { report = λ _. subst PositionFits packets.1 s.fits; of_a_stop = λ other. absurd (omega (arith, number, other)) };
        is = rw (number, ← b.are.1.1.0, ← b.are.1.1.1.0, ← packets.1);
      };
    }
again bytes (Ack stamp engine acked) s =
    let bits = bits_of_bytes bytes in
    let total = length-bits_of_bytes bytes in
    let b = stands bytes (Ack stamp engine acked) s in
    let within = b.within in
    let few = s.stands in
    let number : number_in bytes ≡ 146 = sym b.are.0 in
    record {
      sized = (omega arith, sym b.are.1.0);
      known = inr (inl number);
      enough = record { report = λ other. absurd (omega (arith, number, other)); acknowledgement = λ _. omega arith; of_a_stop = λ other. absurd (omega (arith, number, other)) };
      behind = record {
        packets = record { report = λ other. absurd (omega (arith, number, other)); of_a_stop = λ other. absurd (omega (arith, number, other)) };
        spare = record { report = λ other. absurd (omega (arith, number, other)); of_a_stop = λ other. absurd (omega (arith, number, other)) };
        is = rw (number, ← b.are.1.1.0, ← b.are.1.1.1.0, ← b.are.1.1.1.1.0);
      };
    }
again bytes (StopAck stamp engine id answer position) s =
    let bits = bits_of_bytes bytes in
    let total = length-bits_of_bytes bytes in
    let b = stands bytes (StopAck stamp engine id answer position) s in
    let within = b.within in
    let number : number_in bytes ≡ 147 = sym b.are.0 in
    let packets = packets_again position (drop 80 bits) (subst (StandsWithPackets position) b.rest_is s.stands) in
    record {
      sized = (omega arith, sym b.are.1.0);
      known = inr (inr number);
      enough = record { report = λ other. absurd (omega (arith, number, other)); acknowledgement = λ other. absurd (omega (arith, number, other)); of_a_stop = λ _. omega arith };
      behind = record {
        packets = record { report = λ other. absurd (omega (arith, number, other)); of_a_stop = λ _. packets.0 };
        spare = record { report = λ other. absurd (omega (arith, number, other)); of_a_stop = λ _. subst PositionFits packets.1 s.fits };
        is = rw (number, ← b.are.1.1.0, ← b.are.1.1.1.0, ← b.are.1.1.1.1.0, ← b.are.1.1.1.1.1.0, ← packets.1);
      };
    }

-- the steps before the last one
module _ (bytes : List ℕ) where
  abbrev Begins : (DecodeError → Type 0) → DecodeError → Type 0
  Begins Last = Unless (HasItsLength bytes) Length (Unless (IsFromTrain (number_in bytes)) Message (Unless (IsLongEnough (number_in bytes) (length bytes)) Length (Unless (HasItsPackets (number_in bytes) (bits_of_bytes bytes)) Packet Last)))

  begins_with : (Last Other : DecodeError → Type 0) → ((e : DecodeError) → Last e → Other e) → (e : DecodeError) → Begins Last e → Begins Other e
  begins_with Last Other follows =
      instead _ Length _ _ (instead _ Message _ _ (instead _ Length _ _ (instead _ Packet Last Other follows)))

  once_begun : (Last : DecodeError → Type 0) → IsOnce Last → IsOnce (Begins Last)
  once_begun Last one = once _ Length _ (once _ Message _ (once _ Length _ (once _ Packet Last one)))

  -- what is refused by the places is refused
  pub refused : (e : DecodeError) → RefusesAtPlaces bytes e → Refuses bytes e
  refused = begins_with (Unless (HasNoSpare (number_in bytes) (bits_of_bytes bytes)) Field Never) (Unless (IsSpelled bytes) Field Never) (last (HasNoSpare (number_in bytes) (bits_of_bytes bytes)) (IsSpelled bytes) Field (λ spelled. (again bytes spelled.0 spelled.1).behind.spare))

  one_refusal : (a b : DecodeError) → Refuses bytes a → Refuses bytes b → a ≡ b
  one_refusal = once_begun (Unless (IsSpelled bytes) Field Never) (once (IsSpelled bytes) Field Never never)

  -- what is read is not refused
  not_refused : (m : FromTrain) (e : DecodeError) → IsReadFromTrain bytes m → ¬ Refuses bytes e
  not_refused m e r refused =
      elim refused [
        | inl x ↦ x.0 r.sized
        | inr x ↦ elim x.1 [
          | inl x ↦ x.0 r.known
          | inr x ↦ elim x.1 [
            | inl x ↦ x.0 r.enough
            | inr x ↦ elim x.1 [
              | inl x ↦ x.0 r.behind.packets
              | inr x ↦ elim x.1 [
                | inl x ↦ x.0 (m, found bytes m r)
                | inr x ↦ x.1
              ]
            ]
          ]
        ]
      ]

-- only this message is read
pub only : (bytes : List ℕ) (result : Result FromTrain DecodeError) (m : FromTrain) → IfOk result (λ m. IsReadFromTrain bytes m) → IfErr result (λ e. RefusesAtPlaces bytes e) → Spells bytes m → result ≡ Ok m
only bytes (Ok other) m ok err s = ap (λ (x : FromTrain). Ok x) (ok.behind.is ∙ sym (again bytes m s).behind.is)
only bytes (Err e) m ok err s = absurd (not_refused bytes m e (again bytes m s) (refused bytes e err))

-- and it is refused for this reason alone
pub exactly : (bytes : List ℕ) (result : Result FromTrain DecodeError) (e : DecodeError) → IfOk result (λ m. IsReadFromTrain bytes m) → IfErr result (λ e. RefusesAtPlaces bytes e) → Refuses bytes e → result ≡ Err e
exactly bytes (Ok m) e ok err r = absurd (not_refused bytes m e ok r)
exactly bytes (Err other) e ok err r = ap (λ (x : DecodeError). Err x) (one_refusal bytes other e (refused bytes other err) r)
