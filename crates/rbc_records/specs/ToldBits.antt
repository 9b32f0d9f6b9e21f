-- The numbers that a train was told, by bits: one for each remainder of 64 (own rule).
use Rattle.std.specs.Prelude.{ℕ, ◌-◌, ◌^◌, ◌%◌, nat_lt, Bool, ◌==◌, if◌then◌else◌, fold, length}
use Rattle.std.specs.Int.{bit_at}
use Rattle.std.specs.Int.Bits.{bit_or}
use Rattle.rbc_settle.specs.Table.{Slots}
use Rattle.rbc_settle.specs.Slot.{Slot}
use Rattle.rbc_settle.specs.Slot.TheVariants.{Used, Revoking}
use Rattle.rbc_settle.specs.declared.train.TrainRec.{TrainRec}
use Rattle.rbc_records.specs.declared.told_bits.ToldBits.{ToldBits}

-- the bit of a number is set; there are 64 bits
abbrev pub has_bit : ℕ → ℕ → Bool
has_bit bits number = bit_at bits (number % 64) == 1

-- the bits with that of one more number
abbrev pub with_bit : ℕ → ℕ → ℕ
with_bit bits number = bit_or bits (2 ^ (number % 64))

-- the bits with that of the number that a slot tells; a slot that is being revoked tells none
abbrev pub with_slot : ℕ → Slot → ℕ
with_slot bits (Used used) = with_bit bits used.number
with_slot bits (Revoking stamp) = bits

-- the bits of the numbers that are told
abbrev pub bits_of_slots : Slots → ℕ
bits_of_slots slots = fold (λ bits held. with_slot bits held.1) 0 slots

-- the same for a table that may hold many identifiers: then every bit is set
abbrev pub bits_of_few : Slots → ℕ
bits_of_few slots = if nat_lt 16 (length slots) then 2 ^ 64 - 1 else bits_of_slots slots

-- the bits of the stops and of the restrictions that a train was told, the stops that it rejected among them
abbrev pub told_bits_of_train : TrainRec → ToldBits
told_bits_of_train train = record { stops = fold with_bit (bits_of_slots train.stops) train.forced; limits = bits_of_few train.limits }
