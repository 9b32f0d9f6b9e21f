use Rattle.std.proofs.Common.{◌≡◌, ℕ, take}
use Rattle.rbc_account.specs.SentInputs.{input_at, noted, all_noted, limit_key, id_of_packet}
use Rattle.rbc_account.proofs.sent_input.SentInputs.note_packets.Given as goal

-- what is kept after the packets that were looked at
abbrev pub invariant-loop-index : goal.invariant-loop-index
invariant-loop-index l =
    (number : ℕ) → input_at l.self number
    ≡ all_noted (λ packet. noted (record { stamp = l.stamp; input = l.input }) (limit_key l.engine (id_of_packet packet))) (take l.index l.packets) (input_at l.fn.self) number
