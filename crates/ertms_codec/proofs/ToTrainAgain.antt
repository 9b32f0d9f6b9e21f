-- What is spelled as a message to a train is read as that message.
use Rattle.std.proofs.Common.{◌≡◌, ℕ, ◌+◌, ◌*◌, ◌<◌, ◌≤◌, ◌∙◌, List, length, drop, Result, Ok, Err, refl, sym, ap, subst, inl, inr, arith, length-drop}
use Rattle.std.specs.Prelude.{if◌then◌else◌, ◌⊎◌, IfOk, IfErr}
use Rattle.std.specs.List.{flat_map}
use Rattle.std.specs.Int.{w16, cast_signed}
use Rattle.std.proofs.lemmas.Int.{to_z-of_z}
use Rattle.ertms_bits.specs.Bits.{bits_of_bytes}
use Rattle.ertms_bits.proofs.Bits.{length-bits_of_bytes}
use Rattle.ertms_codec.specs.declared.error.DecodeError.{DecodeError}
use Rattle.ertms_codec.specs.declared.error.DecodeError.TheVariants.{Length, Message, Packet, Field}
use Rattle.ertms_codec.specs.declared.error.ReadError.{ReadError}
use Rattle.ertms_codec.specs.declared.error.ReadError.TheVariants.{Decode, OutOfMemory}
use Rattle.ertms_codec.specs.declared.to_train.Head.{Head}
use Rattle.ertms_codec.specs.declared.to_train.ToTrain.{ToTrain}
use Rattle.ertms_codec.specs.declared.to_train.ToTrain.TheVariants.{StopAt, Stop, Revoke, General}
use Rattle.ertms_codec.specs.declared.packets.Part.{Part}
use Rattle.ertms_codec.specs.Layout.{width_of, value_at}
use Rattle.ertms_codec.specs.PacketsToTrain.{fields_of_packet, most_packets}
use Rattle.ertms_codec.specs.ToTrain.{Fits, Spells, fields_of, head_of, number_of_message, length_of_message}
use Rattle.ertms_codec.specs.Refusals.{number_in, HasItsLength, Unless, Never}
use Rattle.ertms_codec.specs.RefusalsToTrain.{Refuses, IsToTrain, IsLongEnough, ArePackets, HasItsPackets, IsSpelled, IsReadFault, IsWantOfMemory}
use Rattle.ertms_codec.specs.ToTrainAtPlaces.{head_at, packets_at, message_at, HasNoSpare, RefusesAtPlaces, IsFaultAtPlaces}
use Rattle.ertms_codec.specs.Reading.{IsReadToTrain}
use Rattle.ertms_codec.proofs.FirstFailing.{IsOnce, never, once, instead, last}
use Rattle.ertms_codec.proofs.FieldLists.{AreAt-under}
use Rattle.ertms_codec.proofs.GeneralPackets.{Stand, packets_back}
use Rattle.ertms_codec.proofs.ToTrainLaws.{whole_width, found}
use Rattle.ertms_codec.proofs.Fields.{Behind, at_places, flag_back}

-- the variables of a message that is spelled stand at their places
stands : (bytes : List ℕ) (m : ToTrain) (s : Spells bytes m) → Behind (fields_of m) 0 (bits_of_bytes bytes) s.fill
stands bytes m s = at_places (fields_of m) 0 (bits_of_bytes bytes) s.fill (omega arith) s.holds s.bits

head_made : (head : Head) (bits : List ℕ) → head.stamp ≡ value_at 18 32 bits → (if head.ack then 1 else 0) ≡ value_at 50 1 bits → head.lrbg ≡ value_at 51 24 bits → head ≡ head_at bits
head_made head bits stamp ack lrbg = rw (← stamp, ← flag_back head.ack (value_at 50 1 bits) ack, ← lrbg)

-- the header of a message that is spelled
head_is : (bytes : List ℕ) (m : ToTrain) → Spells bytes m → head_of m ≡ head_at (bits_of_bytes bytes)
head_is bytes m s =
    let at = (stands bytes m s).are in
    head_made (head_of m) (bits_of_bytes bytes) at.1.1.0 at.1.1.1.0 at.1.1.1.1.0

number_is : (bytes : List ℕ) (m : ToTrain) → Spells bytes m → number_in bytes ≡ number_of_message m
number_is bytes m s = sym (stands bytes m s).are.0

-- L_MESSAGE is the number of bytes
length_is : (bytes : List ℕ) (m : ToTrain) → Spells bytes m → width_of (fields_of m) ≤ 8 * length_of_message m → 8 * length_of_message m < width_of (fields_of m) + 8 → length bytes ≡ length_of_message m
length_is bytes m s least most =
    let total = length-bits_of_bytes bytes in
    let few = s.few in
    omega (arith, total, (stands bytes m s).within)

sized_is : (bytes : List ℕ) (m : ToTrain) → Spells bytes m → length bytes ≡ length_of_message m → 3 ≤ length_of_message m → HasItsLength bytes
sized_is bytes m s long least = (omega arith, sym (stands bytes m s).are.1.0 ∙ sym long)

-- a message but 24 that is spelled is read
stop_read : (bytes : List ℕ) (m : ToTrain) → Spells bytes m → IsToTrain (number_of_message m) → number_of_message m < 24 → IsLongEnough (number_of_message m) (length_of_message m) → width_of (fields_of m) ≤ 8 * length_of_message m → 8 * length_of_message m < width_of (fields_of m) + 8 → 3 ≤ length_of_message m → m ≡ message_at (bits_of_bytes bytes) → IsReadToTrain bytes m
stop_read bytes m s known other enough least most three same =
    let number = number_is bytes m s in
    let long = length_is bytes m s least most in
    record {
      sized = sized_is bytes m s long three;
      known = rw number known;
      enough = rw (number, long) enough;
      packets = λ e. absurd (omega (arith, number, e));
      spare = subst Fits same s.fits;
      is = same;
    }

-- the packets of message 24 that is spelled
packets_again : (bytes : List ℕ) (head : Head) (packets : List Part) → Spells bytes (General head packets) → ArePackets most_packets (drop 75 (bits_of_bytes bytes)) × (packets ≡ packets_at most_packets (drop 75 (bits_of_bytes bytes)))
packets_again bytes head packets s =
    let bits = bits_of_bytes bytes in
    let stands = stands bytes (General head packets) s in
    let width = whole_width (General head packets) in
    let left = length-drop 75 bits in
    let behind = stands.within in
    let few = s.few in
    let stand : Stand packets (drop 75 bits) =
    record { are = AreAt-under (flat_map fields_of_packet packets) 75 0 bits stands.are.1.1.1.1.1; within = omega arith; fill = omega arith } in
    packets_back most_packets packets (drop 75 bits) s.fits.body.some s.fits.body.most stand

-- message 24 that is spelled is read
general_read : (bytes : List ℕ) (head : Head) (packets : List Part) → Spells bytes (General head packets) → IsReadToTrain bytes (General head packets)
general_read bytes head packets s =
    let bits = bits_of_bytes bytes in
    let m = General head packets in
    let number = number_is bytes m s in
    let width = whole_width m in
    let long = length_is bytes m s (omega arith) (omega arith) in
    let again = packets_again bytes head packets s in
    let total = length-bits_of_bytes bytes in
    let left = length-drop 75 bits in
    let header = again.0.0.header in
    let ten : 10 ≤ length bytes = omega arith in
    let same : m ≡ message_at bits = rw (number, ← again.1, ← head_is bytes m s) in
    record {
      sized = sized_is bytes m s long (omega arith);
      known = inr (inr (inr number));
      enough = record {
        conditional = λ e. absurd (omega (arith, number, e));
        unconditional = λ e. absurd (omega (arith, number, e));
        revocation = λ e. absurd (omega (arith, number, e));
        general = λ e. omega arith;
      };
      packets = λ e. again.0;
      spare = subst Fits same s.fits;
      is = same;
    }

-- what is spelled is read
pub again : (bytes : List ℕ) (m : ToTrain) → Spells bytes m → IsReadToTrain bytes m
again bytes (StopAt head id scale reference dir distance) s =
    let bits = bits_of_bytes bytes in
    let at = (stands bytes (StopAt head id scale reference dir distance) s).are in
    let body = at.1.1.1.1.1 in
    let signed : reference ≡ cast_signed w16 (value_at 81 16 bits) = sym (to_z-of_z w16 reference s.reference) ∙ ap (cast_signed w16) body.1.1.0 in
    let same : StopAt head id scale reference dir distance ≡ message_at bits = rw (← at.0, ← head_is bytes (StopAt head id scale reference dir distance) s, ← body.0, ← body.1.0, ← signed, ← body.1.1.1.0, ← body.1.1.1.1.0) in
    let enough : IsLongEnough 15 15 = record { conditional = λ e. refl; unconditional = λ e. absurd (omega arith); revocation = λ e. absurd (omega arith); general = λ e. absurd (omega arith) } in
    stop_read bytes (StopAt head id scale reference dir distance) s (inl refl) (omega arith) enough (omega arith) (omega arith) (omega arith) same
again bytes (Stop head id) s =
    let bits = bits_of_bytes bytes in
    let at = (stands bytes (Stop head id) s).are in
    let same : Stop head id ≡ message_at bits = rw (← at.0, ← head_is bytes (Stop head id) s, ← at.1.1.1.1.1.0) in
    let enough : IsLongEnough 16 10 = record { conditional = λ e. absurd (omega arith); unconditional = λ e. refl; revocation = λ e. absurd (omega arith); general = λ e. absurd (omega arith) } in
    stop_read bytes (Stop head id) s (inr (inl refl)) (omega arith) enough (omega arith) (omega arith) (omega arith) same
again bytes (Revoke head id) s =
    let bits = bits_of_bytes bytes in
    let at = (stands bytes (Revoke head id) s).are in
    let same : Revoke head id ≡ message_at bits = rw (← at.0, ← head_is bytes (Revoke head id) s, ← at.1.1.1.1.1.0) in
    let enough : IsLongEnough 18 10 = record { conditional = λ e. absurd (omega arith); unconditional = λ e. absurd (omega arith); revocation = λ e. refl; general = λ e. absurd (omega arith) } in
    stop_read bytes (Revoke head id) s (inr (inr (inl refl))) (omega arith) enough (omega arith) (omega arith) (omega arith) same
again bytes (General head packets) s = general_read bytes head packets s

-- the steps before the last one
module _ (bytes : List ℕ) where
  abbrev Begins : (DecodeError → Type 0) → DecodeError → Type 0
  Begins Last = Unless (HasItsLength bytes) Length (Unless (IsToTrain (number_in bytes)) Message (Unless (IsLongEnough (number_in bytes) (length bytes)) Length (Unless (HasItsPackets bytes) Packet Last)))

  begins_with : (Last Other : DecodeError → Type 0) → ((e : DecodeError) → Last e → Other e) → (e : DecodeError) → Begins Last e → Begins Other e
  begins_with Last Other follows =
      instead _ Length _ _ (instead _ Message _ _ (instead _ Length _ _ (instead _ Packet Last Other follows)))

  once_begun : (Last : DecodeError → Type 0) → IsOnce Last → IsOnce (Begins Last)
  once_begun Last one = once _ Length _ (once _ Message _ (once _ Length _ (once _ Packet Last one)))

  -- what is refused by the places is refused
  refused : (e : DecodeError) → RefusesAtPlaces bytes e → Refuses bytes e
  refused = begins_with (Unless (HasNoSpare bytes) Field Never) (Unless (IsSpelled bytes) Field Never) (last (HasNoSpare bytes) (IsSpelled bytes) Field (λ spelled. (again bytes spelled.0 spelled.1).spare))

  one_refusal : (a b : DecodeError) → Refuses bytes a → Refuses bytes b → a ≡ b
  one_refusal = once_begun (Unless (IsSpelled bytes) Field Never) (once (IsSpelled bytes) Field Never never)

  -- what is read is not refused
  not_refused : (m : ToTrain) (e : DecodeError) → IsReadToTrain bytes m → ¬ Refuses bytes e
  not_refused m e r refused =
      elim refused [
        | inl x ↦ x.0 r.sized
        | inr x ↦ elim x.1 [
          | inl x ↦ x.0 r.known
          | inr x ↦ elim x.1 [
            | inl x ↦ x.0 r.enough
            | inr x ↦ elim x.1 [
              | inl x ↦ x.0 r.packets
              | inr x ↦ elim x.1 [
                | inl x ↦ x.0 (m, found bytes m r)
                | inr x ↦ x.1
              ]
            ]
          ]
        ]
      ]

-- only this message is read, or memory runs out
pub only : (bytes : List ℕ) (result : Result ToTrain ReadError) (m : ToTrain) → IfOk result (λ m. IsReadToTrain bytes m) → IfErr result (λ fault. IsFaultAtPlaces bytes fault) → Spells bytes m → (result ≡ Ok m) ⊎ IsWantOfMemory bytes result
only bytes (Ok other) m ok err s = inl (ap (λ (x : ToTrain). Ok x) (ok.is ∙ sym (again bytes m s).is))
only bytes (Err (Decode e)) m ok err s = absurd (not_refused bytes m e (again bytes m s) (refused bytes e err))
only bytes (Err OutOfMemory) m ok err s = inr (record { read = err; is = refl })

-- what is no message is not read for that reason, or for want of memory
pub faults : (bytes : List ℕ) (fault : ReadError) → IsFaultAtPlaces bytes fault → IsReadFault bytes fault
faults bytes (Decode e) fault = refused bytes e fault
faults bytes OutOfMemory fault = fault

-- and it is refused for this reason alone, unless memory runs out
pub exactly : (bytes : List ℕ) (result : Result ToTrain ReadError) (e : DecodeError) → IfOk result (λ m. IsReadToTrain bytes m) → IfErr result (λ fault. IsFaultAtPlaces bytes fault) → Refuses bytes e → (result ≡ Err (Decode e)) ⊎ IsWantOfMemory bytes result
exactly bytes (Ok m) e ok err r = absurd (not_refused bytes m e ok r)
exactly bytes (Err (Decode other)) e ok err r = inl (ap (λ (x : DecodeError). Err (Decode x)) (one_refusal bytes other e (refused bytes other err) r))
exactly bytes (Err OutOfMemory) e ok err r = inr (record { read = err; is = refl })
