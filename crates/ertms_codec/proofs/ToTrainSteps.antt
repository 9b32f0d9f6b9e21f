-- Lemmas on the steps of reading a message to a train.
use Rattle.std.proofs.Common.{◌≡◌, ◌≤◌, ◌*◌, ◌+◌, ◌∙◌, ℕ, List, length, drop, ap, subst, sym, inl, inr, refl, arith, Result, Ok, Err}
use Rattle.std.specs.Prelude.{◌==◌, if◌then◌else◌, IfErr, IsErrAnd}
use Rattle.ertms_bits.specs.Bits.{bits_of_bytes}
use Rattle.ertms_bits.proofs.Numbers.{length-left}
use Rattle.ertms_codec.specs.declared.error.DecodeError.{DecodeError}
use Rattle.ertms_codec.specs.declared.error.DecodeError.TheVariants.{Message, Length, Field}
use Rattle.ertms_codec.specs.declared.error.ReadError.{ReadError}
use Rattle.ertms_codec.specs.declared.error.ReadError.TheVariants.{Decode, OutOfMemory}
use Rattle.ertms_codec.specs.declared.to_train.Head.{Head}
use Rattle.ertms_codec.specs.declared.to_train.ToTrain.{ToTrain}
use Rattle.ertms_codec.specs.declared.to_train.ToTrain.TheVariants.{General}
use Rattle.ertms_codec.specs.Layout.{value_at}
use Rattle.ertms_codec.specs.PacketsToTrain.{most_packets}
use Rattle.ertms_codec.specs.ToTrain.{Fits}
use Rattle.ertms_codec.specs.Refusals.{number_in, HasItsLength, Unless, Never}
use Rattle.ertms_codec.specs.RefusalsToTrain.{IsToTrain, IsLongEnough, ArePackets, HasItsPackets}
use Rattle.ertms_codec.specs.ToTrainAtPlaces.{head_at, packets_at, message_at, RefusesAtPlaces, IsFaultAtPlaces}
use Rattle.ertms_codec.specs.Reading.{IsReadToTrain, IsPacketsFault}

-- so many bits are left behind a place
pub left_behind : (place need : ℕ) (bytes bits : List ℕ) → bits ≡ drop place (bits_of_bytes bytes) → place + need ≤ 8 * length bytes → need ≤ length bits
left_behind place need bytes bits at room =
    let left = ap length at ∙ length-left place bytes in omega (arith, left)

-- the first three steps hold
pub record Begins (bytes : List ℕ) : Type 0 where
  pub sized : HasItsLength bytes
  pub known : IsToTrain (number_in bytes)
  pub enough : IsLongEnough (number_in bytes) (length bytes)

pub begins : (bytes : List ℕ) (number : ℕ) → HasItsLength bytes → number ≡ number_in bytes → IsToTrain number × IsLongEnough number (length bytes) → Begins bytes
begins bytes number sized is steps =
    record { sized = sized; known = subst IsToTrain is steps.0; enough = subst (λ n. IsLongEnough n (length bytes)) is steps.1 }

-- a message has at least 10 bytes
pub ten_bytes : (number bytes : ℕ) → IsToTrain number → IsLongEnough number bytes → 10 ≤ bytes
ten_bytes number bytes known enough =
    elim known [
      | inl e ↦ let n = enough.conditional e in omega arith
      | inr rest ↦ elim rest [
        | inl e ↦ let n = enough.unconditional e in omega arith
        | inr rest ↦ elim rest [
          | inl e ↦ let n = enough.revocation e in omega arith
          | inr e ↦ let n = enough.general e in omega arith
        ]
      ]
    ]

pub packets_refused : (bytes bits : List ℕ) (number : ℕ) (fault : ReadError) → Begins bytes → number ≡ number_in bytes → bits ≡ drop 75 (bits_of_bytes bytes) → (number ≡ 24) × IsPacketsFault bits fault → IsFaultAtPlaces bytes fault
packets_refused bytes bits number (Decode e) b is at refused =
    let without : ¬ HasItsPackets bytes = λ has. refused.1.0 (subst (ArePackets most_packets) (sym at) (has (sym is ∙ refused.0))) in
    inr (b.sized, inr (b.known, inr (b.enough, inl (without, refused.1.1))))
packets_refused bytes bits number OutOfMemory b is at refused = record { sized = b.sized; general = sym is ∙ refused.0; enough = b.enough }

pub has_packets : (bytes bits : List ℕ) (number : ℕ) → number ≡ number_in bytes → bits ≡ drop 75 (bits_of_bytes bytes) → (number ≡ 24 → ArePackets most_packets bits) → HasItsPackets bytes
has_packets bytes bits number is at are general = subst (ArePackets most_packets) at (are (is ∙ general))

pub field_refused : (bytes : List ℕ) (m : ToTrain) → Begins bytes → HasItsPackets bytes → m ≡ message_at (bits_of_bytes bytes) → ¬ Fits m → RefusesAtPlaces bytes Field
field_refused bytes m b packets is spare =
    inr (b.sized, inr (b.known, inr (b.enough, inr (packets, inl (λ fits. spare (subst Fits (sym is) fits), refl)))))

pub is_read : (bytes : List ℕ) (m : ToTrain) → Begins bytes → HasItsPackets bytes → m ≡ message_at (bits_of_bytes bytes) → Fits m → IsReadToTrain bytes m
is_read bytes m b packets is fits =
    record { sized = b.sized; known = b.known; enough = b.enough; packets = packets; spare = subst Fits is fits; is = is }

-- bytes with their length are refused by what their number asks for
pub length_refused : (bytes : List ℕ) (number : ℕ) (e : DecodeError) → HasItsLength bytes → number ≡ number_in bytes → Unless (IsToTrain number) Message (Unless (IsLongEnough number (length bytes)) Length Never) e → RefusesAtPlaces bytes e
length_refused bytes number e sized is refused =
    let steps = subst (λ n. Unless (IsToTrain n) Message (Unless (IsLongEnough n (length bytes)) Length Never) e) is refused in
    inr (
      sized,
      elim steps [
        | inl x ↦ inl x
        | inr x ↦ inr (x.0, elim x.1 [ inl y ↦ inl y | inr y ↦ absurd y.1 ])
      ],
    )

-- a fault is handed on
pub fault_handed_on : {A : Type 0} (bytes : List ℕ) (result : Result A ReadError) (fault : ReadError) → IsErrAnd result (λ other. other ≡ fault) → IsFaultAtPlaces bytes fault → IfErr result (IsFaultAtPlaces bytes)
fault_handed_on bytes (Ok value) fault is at = absurd is
fault_handed_on bytes (Err other) fault is at = subst (IsFaultAtPlaces bytes) (sym is) at

of_number_24 : (number : ℕ) (general other : ToTrain) → number ≡ 24 → general ≡ (if number == 24 then general else other)
of_number_24 number general other is = rw is

-- message 24 by its packets
pub general_at : (number : ℕ) (bits whole : List ℕ) (head : Head) → number ≡ 24 → bits ≡ drop 75 whole → head ≡ head_at whole → number ≡ value_at 0 8 whole → General head (packets_at most_packets bits) ≡ message_at whole
general_at number bits whole head is at head_is number_is =
    ap (λ (h : Head). General h (packets_at most_packets bits)) head_is
    ∙ ap (λ (xs : List ℕ). General (head_at whole) (packets_at most_packets xs)) at
    ∙ of_number_24 (value_at 0 8 whole) _ _ (sym number_is ∙ is)
