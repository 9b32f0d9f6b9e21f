use Rattle.std.proofs.Common.{ap, ◌∙◌}
use Rattle.rbc_account.specs.SentInputs.{input_at, noted, limit_key}
use Rattle.rbc_account.proofs.Noting.{packet_noted}
use Rattle.rbc_account.proofs.sent_input.SentInputs.note_packets.Goals as goal

pub loop-index-preserved : goal.loop-index-preserved
loop-index-preserved c =
    packet_noted c.args.engine (record { stamp = c.args.stamp; input = c.args.input }) (input_at c.args.self.now) (input_at c.loop-index.self) (input_at c.note_under.new.self) c.args.packets.now c.loop-index.index c.at.result c.at.ensures c.loop-index.invariant
    (λ number. c.in_ok-note_under.ensures number ∙ ap (λ key. noted (record { stamp = c.args.stamp; input = c.args.input }) key (input_at c.loop-index.self) number) (c.limit_key.ensures ∙ ap (limit_key c.args.engine) c.id_of.ensures))
