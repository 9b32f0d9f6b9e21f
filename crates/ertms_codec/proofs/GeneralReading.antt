-- How far the packets of message 24 are read.
use Rattle.std.proofs.Common.{◌≡◌, ℕ, zero, suc, ◌+◌, ◌-◌, ◌<◌, ◌≤◌, ◌∙◌, List, [], ◌∷◌, ◌++◌, length, nat_lt, true, false, Result, Ok, Err, sym, ap, subst, inl, inr, arith, append_assoc, length-append, lt-ltb}
use Rattle.std.specs.Prelude.{IfErr, IsErrAnd}
use Rattle.std.proofs.lemmas.Bool.{le-ltb}
use Rattle.std.proofs.lemmas.List.{append-nil}
use Rattle.ertms_codec.specs.declared.error.DecodeError.{DecodeError}
use Rattle.ertms_codec.specs.declared.error.DecodeError.TheVariants.{Packet}
use Rattle.ertms_codec.specs.declared.error.ReadError.{ReadError}
use Rattle.ertms_codec.specs.declared.error.ReadError.TheVariants.{Decode}
use Rattle.ertms_codec.specs.declared.packets.Part.{Part}
use Rattle.ertms_codec.specs.PacketsToTrain.{most_packets}
use Rattle.ertms_codec.specs.RefusalsToTrain.{BeginWithPacket, ArePackets, behind_packet}
use Rattle.ertms_codec.specs.ToTrainAtPlaces.{packet_at, packets_at}
use Rattle.ertms_codec.specs.Reading.{IsPacketsFault}
use Rattle.ertms_codec.proofs.GeneralPackets.{MayFollow, following}

-- some packets are read, at most so many may follow, and bits are left: the whole is packets where packets may follow in
-- what is left, and these stand behind those that are read
pub record IsReadTo (total most : ℕ) (whole : List ℕ) (packets : List Part) (bits : List ℕ) : Type 0 where
  pub all : MayFollow most bits → ArePackets total whole
  pub rest : ArePackets total whole → MayFollow most bits
  pub value : packets_at total whole ≡ packets ++ following most bits

-- the same, of as many as are left of the total
pub record IsUnderWay (total : ℕ) (whole : List ℕ) (packets : List Part) (bits : List ℕ) : Type 0 where
  pub few : length packets ≤ total
  pub read : (most : ℕ) → length packets + most ≡ total → IsReadTo total most whole packets bits

-- more packets follow
follows : (most : ℕ) (bits : List ℕ) → 8 ≤ length bits → MayFollow most bits → ArePackets most bits
follows most bits more may = elim may [ inl few ↦ absurd (omega (arith, few)) | inr follow ↦ follow.1 ]

first_to : (most : ℕ) (whole bits : List ℕ) (part : Part) → BeginWithPacket whole → part ≡ packet_at whole → bits ≡ behind_packet whole → IsReadTo (suc most) most whole (part ∷ []) bits
first_to most whole bits part begins is at =
    record { all = λ follow. (begins, subst (MayFollow most) at follow); rest = λ are. subst (MayFollow most) (sym at) are.1; value = rw (is, at) }

-- the first packet is read
pub first_read : (total : ℕ) (whole bits : List ℕ) (packets : List Part) (part : Part) → 1 ≤ total → packets ≡ part ∷ [] → BeginWithPacket whole → part ≡ packet_at whole → bits ≡ behind_packet whole → IsUnderWay total whole packets bits
first_read total whole bits packets part some one begins is at =
    let count : length packets ≡ 1 = ap length one in
    record {
      few = omega arith;
      read = λ most rest.
          let all : suc most ≡ total = omega arith in
          subst (λ n. IsReadTo n most whole packets bits) all (rw one (first_to most whole bits part begins is at));
    }

next_to : (total most : ℕ) (whole before after : List ℕ) (packets : List Part) (part : Part) → IsReadTo total (suc most) whole packets before → 8 ≤ length before → BeginWithPacket before → part ≡ packet_at before → after ≡ behind_packet before → IsReadTo total most whole (packets ++ part ∷ []) after
next_to total most whole before after packets part so_far more begins is at =
    let some : nat_lt (length before) 8 ≡ false = le-ltb (length before) 8 more in
    record {
      all = λ follow. so_far.all (inr (more, (begins, subst (MayFollow most) at follow)));
      rest = λ are. subst (MayFollow most) (sym at) (follows (suc most) before more (so_far.rest are)).1;
      value = so_far.value ∙ rw (some, is, at, append_assoc);
    }

-- another packet is read
pub next_read : (total : ℕ) (whole before after : List ℕ) (packets all : List Part) (part : Part) → IsUnderWay total whole packets before → length packets < total → all ≡ packets ++ part ∷ [] → 8 ≤ length before → BeginWithPacket before → part ≡ packet_at before → after ≡ behind_packet before → IsUnderWay total whole all after
next_read total whole before after packets all part so_far room made more begins is at =
    let count : length all ≡ length packets + 1 = ap length made ∙ length-append packets (part ∷ []) in
    record {
      few = omega arith;
      read = λ most rest. rw made (next_to total most whole before after packets part (so_far.read (suc most) (omega arith)) more begins is at);
    }

no_more : (total most : ℕ) (whole bits : List ℕ) (packets : List Part) → IsReadTo total most whole packets bits → 8 ≤ length bits → ¬ BeginWithPacket bits → ¬ ArePackets total whole
no_more total zero whole bits packets so_far more none are = follows zero bits more (so_far.rest are)
no_more total (suc most) whole bits packets so_far more none are = none (follows (suc most) bits more (so_far.rest are)).0

-- where another packet has to follow, there is none
pub none_follows : (total : ℕ) (whole bits : List ℕ) (packets : List Part) → IsUnderWay total whole packets bits → 8 ≤ length bits → ¬ BeginWithPacket bits → ¬ ArePackets total whole
none_follows total whole bits packets so_far more none =
    let few = so_far.few in
    no_more total (total - length packets) whole bits packets (so_far.read (total - length packets) (omega arith)) more none

-- no more packets may follow, and bits for one are left
pub too_many : (total : ℕ) (whole bits : List ℕ) (packets : List Part) → IsUnderWay total whole packets bits → length packets ≡ total → 8 ≤ length bits → ¬ ArePackets total whole
too_many total whole bits packets so_far full more are =
    follows zero bits more ((so_far.read zero (omega arith)).rest are)

-- fewer than 8 bits are left
all_to : (total most : ℕ) (whole bits : List ℕ) (packets : List Part) → IsReadTo total most whole packets bits → length bits < 8 → ArePackets total whole × (packets ≡ packets_at total whole)
all_to total most whole bits packets so_far few =
    let none : nat_lt (length bits) 8 ≡ true = lt-ltb (length bits) 8 few in
    let end : following most bits ≡ [] = rw none in
    (so_far.all (inl few), sym (so_far.value ∙ ap (λ (more : List Part). packets ++ more) end ∙ append-nil packets))

pub all_read : (total : ℕ) (whole bits : List ℕ) (packets : List Part) → IsUnderWay total whole packets bits → length bits < 8 → ArePackets total whole × (packets ≡ packets_at total whole)
all_read total whole bits packets so_far end =
    let few = so_far.few in
    all_to total (total - length packets) whole bits packets (so_far.read (total - length packets) (omega arith)) end

-- that the bits are no packets is handed on
pub fault_is : {A : Type 0} (whole : List ℕ) (result : Result A ReadError) (e : DecodeError) → IsErrAnd result (λ fault. fault ≡ Decode e) → ¬ ArePackets most_packets whole → e ≡ Packet → IfErr result (IsPacketsFault whole)
fault_is whole (Ok value) e is none refusal = absurd is
fault_is whole (Err fault) e is none refusal = subst (IsPacketsFault whole) (sym is) (none, refusal)
