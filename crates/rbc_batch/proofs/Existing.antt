-- Each text has inputs, though nobody has read them: a line spells an input, or bytes that are read as a message or refused.
use Rattle.std.proofs.Common.{◌≡◌, ◌⊎◌, ℕ, zero, suc, ◌*◌, ◌<◌, ◌≤◌, List, [], ◌∷◌, length, drop, inl, inr, ⊎_elim, refl, ap, arith, length-drop}
use Rattle.std.proofs.lemmas.Bool.{cases_lt}
use Rattle.ertms_bits.specs.Bits.{bits_of_bytes}
use Rattle.ertms_codec.specs.declared.error.DecodeError.TheVariants.{Length, Message, Packet, Field}
use Rattle.ertms_codec.specs.declared.from_train.Position.{Position}
use Rattle.ertms_codec.specs.Layout.{value_at}
use Rattle.ertms_codec.specs.FromTrain.{ArePackets, PositionFits}
use Rattle.ertms_codec.specs.Refusals.{number_in, HasItsLength}
use Rattle.ertms_codec.specs.RefusalsFromTrain.{IsFromTrain, IsLongEnough, position_width, BeginWithPosition, HavePackets, HasItsPackets}
use Rattle.ertms_codec.specs.FromTrainAtPlaces.{position_at, message_at, HasNoSpare}
use Rattle.ertms_codec.specs.Reading.{BeginsWithPacket, IsReadFromTrain}
use Rattle.ertms_codec.proofs.PacketLists.{packets_end, packets_more, packets_less}
use Rattle.ertms_codec.proofs.FromTrainAgain.{again}
use Rattle.ertms_codec.proofs.FromTrainLaws.{found}
use Rattle.rbc_rule.specs.declared.input.Input.{Input}
use Rattle.rbc_rule.specs.declared.input.Input.TheVariants.{Received, Bad}
use Rattle.rbc_rule.specs.Codes.{code_of}
use Rattle.rbc_text.specs.BatchText.{Line, Spelled, Heard, line_of, refusal_of, AreHeard, IsInput, AreInputs}

-- it holds, or it does not
abbrev Decided : Type 0 → Type 0
Decided P = P ⊎ (¬ P)

mapped : {P Q : Type 0} → (P → Q) → (Q → P) → Decided P → Decided Q
mapped f back (inl p) = inl (f p)
mapped f back (inr none) = inr (λ q. none (back q))

both : {P Q : Type 0} → Decided P → Decided Q → Decided (P × Q)
both (inl p) (inl q) = inl (p, q)
both (inl p) (inr none) = inr (λ h. none h.1)
both (inr none) q = inr (λ h. none h.0)

either : {P Q : Type 0} → Decided P → Decided Q → Decided (P ⊎ Q)
either (inl p) q = inl (inl p)
either (inr none) (inl q) = inl (inr q)
either (inr none) (inr neither) = inr (λ h. ⊎_elim none neither h)

implied : {P Q : Type 0} → Decided P → Decided Q → Decided (P → Q)
implied (inr none) q = inl (λ p. absurd (none p))
implied (inl p) (inl q) = inl (λ _. q)
implied (inl p) (inr none) = inr (λ f. none (f p))

at_most : (a b : ℕ) → Decided (a ≤ b)
at_most a b = ⊎_elim (λ (more : b < a). inr (λ (few : a ≤ b). absurd (omega (arith, more, few)))) (λ (few : a ≤ b). inl few) (cases_lt b a)

equal : (a b : ℕ) → Decided (a ≡ b)
equal a b = mapped (λ (h : (a ≤ b) × (b ≤ a)). let low = h.0 in let high = h.1 in omega (arith, low, high)) (λ (e : a ≡ b). (omega (arith, e), omega (arith, e))) (both (at_most a b) (at_most b a))

-- ---- the steps of reading a message

sized : (bytes : List ℕ) → Decided (HasItsLength bytes)
sized bytes = both (at_most 3 (length bytes)) (equal (value_at 8 10 (bits_of_bytes bytes)) (length bytes))

known : (number : ℕ) → Decided (IsFromTrain number)
known number = either (equal number 136) (either (equal number 146) (equal number 147))

long_enough : (number bytes : ℕ) → Decided (IsLongEnough number bytes)
long_enough number bytes =
    mapped
    (λ (h : (number ≡ 136 → 74 ≤ 8 * bytes) × ((number ≡ 146 → bytes ≡ 14) × (number ≡ 147 → 80 ≤ 8 * bytes))). record { report = h.0; acknowledgement = h.1.0; of_a_stop = h.1.1 })
    (λ (is : IsLongEnough number bytes). (is.report, (is.acknowledgement, is.of_a_stop)))
    (both (implied (equal number 136) (at_most 74 (8 * bytes))) (both (implied (equal number 146) (equal bytes 14)) (implied (equal number 147) (at_most 80 (8 * bytes)))))

begins : (bits : List ℕ) → Decided (BeginsWithPacket bits)
begins bits =
    let size = value_at 8 13 bits in
    mapped
    (λ (h : (21 ≤ length bits) × ((21 ≤ value_at 8 13 bits) × (value_at 8 13 bits ≤ length bits))). record { header = h.0; least = h.1.0; within = h.1.1 })
    (λ (is : BeginsWithPacket bits). (is.header, (is.least, is.within)))
    (both (at_most 21 (length bits)) (both (at_most 21 size) (at_most size (length bits))))

packets : (fuel : ℕ) (bits : List ℕ) → length bits ≤ fuel → Decided (ArePackets bits)
packets zero bits few = inl (packets_end bits (omega (arith, few)))
packets (suc fuel) bits few =
    ⊎_elim
    (λ (short : length bits < 8). inl (packets_end bits short))
    (λ (more : 8 ≤ length bits).
    ⊎_elim
    (λ (first : BeginsWithPacket bits).
    let cut = length-drop (value_at 8 13 bits) bits in
    let least = first.least in
    let within = first.within in
    mapped (packets_more bits first) (λ are. (packets_less bits more are).1) (packets fuel (drop (value_at 8 13 bits) bits) (omega (arith, few, cut, least, within))))
    (λ (none : ¬ (BeginsWithPacket bits)). inr (λ are. none (packets_less bits more are).0))
    (begins bits))
    (cases_lt (length bits) 8)

position_begins : (packet : List ℕ) → Decided (BeginWithPosition packet)
position_begins packet =
    mapped
    (λ (h : (21 ≤ length packet) × ((value_at 0 8 packet ≤ 1) × ((position_width packet ≤ value_at 8 13 packet) × (value_at 8 13 packet ≤ length packet)))).
    record { header = h.0; number = h.1.0; enough = h.1.1.0; within = h.1.1.1 })
    (λ (is : BeginWithPosition packet). (is.header, (is.number, (is.enough, is.within))))
    (both (at_most 21 (length packet)) (both (at_most (value_at 0 8 packet) 1) (both (at_most (position_width packet) (value_at 8 13 packet)) (at_most (value_at 8 13 packet) (length packet)))))

have_packets : (packet : List ℕ) → Decided (HavePackets packet)
have_packets packet =
    let rest = drop (value_at 8 13 packet) packet in
    mapped
    (λ (h : BeginWithPosition packet × ArePackets (drop (value_at 8 13 packet) packet)). record { position = h.0; further = h.1 })
    (λ (is : HavePackets packet). (is.position, is.further))
    (both (position_begins packet) (packets (length rest) rest (omega arith)))

its_packets : (number : ℕ) (bits : List ℕ) → Decided (HasItsPackets number bits)
its_packets number bits =
    mapped
    (λ (h : (number ≡ 136 → HavePackets (drop 74 bits)) × (number ≡ 147 → HavePackets (drop 80 bits))). record { report = h.0; of_a_stop = h.1 })
    (λ (is : HasItsPackets number bits). (is.report, is.of_a_stop))
    (both (implied (equal number 136) (have_packets (drop 74 bits))) (implied (equal number 147) (have_packets (drop 80 bits))))

position_fits : (p : Position) → Decided (PositionFits p)
position_fits p =
    mapped
    (λ (h : (p.scale ≤ 2) × ((p.dir ≤ 2) × (p.side ≤ 2))). (h.0, h.1.0, h.1.1))
    (λ (is : PositionFits p). (is.0, (is.1, is.2)))
    (both (at_most p.scale 2) (both (at_most p.dir 2) (at_most p.side 2)))

no_spare : (number : ℕ) (bits : List ℕ) → Decided (HasNoSpare number bits)
no_spare number bits =
    mapped
    (λ (h : (number ≡ 136 → PositionFits (position_at (drop 74 bits))) × (number ≡ 147 → PositionFits (position_at (drop 80 bits)))). record { report = h.0; of_a_stop = h.1 })
    (λ (is : HasNoSpare number bits). (is.report, is.of_a_stop))
    (both (implied (equal number 136) (position_fits (position_at (drop 74 bits)))) (implied (equal number 147) (position_fits (position_at (drop 80 bits)))))

-- ---- the input of a line

-- bytes are read as a message, or refused at the first step that fails
heard_by : (bytes : List ℕ) → Decided (HasItsLength bytes) → Decided (IsFromTrain (number_in bytes)) → Decided (IsLongEnough (number_in bytes) (length bytes)) → Decided (HasItsPackets (number_in bytes) (bits_of_bytes bytes)) → Decided (HasNoSpare (number_in bytes) (bits_of_bytes bytes))
    → (input : Input) × AreHeard bytes input
heard_by bytes (inr none) b c d e = (Bad (code_of (refusal_of Length)), (Length, inl (none, refl), refl))
heard_by bytes (inl a) (inr none) c d e = (Bad (code_of (refusal_of Message)), (Message, inr (a, inl (none, refl)), refl))
heard_by bytes (inl a) (inl b) (inr none) d e = (Bad (code_of (refusal_of Length)), (Length, inr (a, inr (b, inl (none, refl))), refl))
heard_by bytes (inl a) (inl b) (inl c) (inr none) e = (Bad (code_of (refusal_of Packet)), (Packet, inr (a, inr (b, inr (c, inl (none, refl)))), refl))
heard_by bytes (inl a) (inl b) (inl c) (inl d) (inr none) = (Bad (code_of (refusal_of Field)), (Field, inr (a, inr (b, inr (c, inr (d, inl ((λ spelled. none (again bytes spelled.0 spelled.1).behind.spare), refl))))), refl))
heard_by bytes (inl a) (inl b) (inl c) (inl d) (inl e) =
    let m = message_at (bits_of_bytes bytes) in
    let read : IsReadFromTrain bytes m = record { sized = a; known = b; enough = c; behind = record { packets = d; spare = e; is = refl } } in
    (Received m, found bytes m read)

input_of : (line : Line) → (input : Input) × IsInput line input
input_of (Spelled input) = (input, refl)
input_of (Heard bytes) =
    let number = number_in bytes in
    heard_by bytes (sized bytes) (known number) (long_enough number (length bytes)) (its_packets number (bits_of_bytes bytes)) (no_spare number (bits_of_bytes bytes))

-- lines have inputs, as many as they are
pub record HaveInputs (lines : List (List ℕ)) : Type 0 where
  pub inputs : List Input
  pub are : AreInputs lines inputs
  pub as_many : length inputs ≡ length lines

pub have_inputs : (lines : List (List ℕ)) → HaveInputs lines
have_inputs [] = record { inputs = []; are = tt; as_many = refl }
have_inputs (line ∷ lines) =
    let first = input_of (line_of line) in
    let rest = have_inputs lines in
    record { inputs = first.0 ∷ rest.inputs; are = (first.1, rest.are); as_many = ap suc rest.as_many }
