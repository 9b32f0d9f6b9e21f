use Rattle.rbc_desk.proofs.Spelled.{spells_itself}
use Rattle.rbc_desk.proofs.outbox.spells.Goals as goal

pub returns : goal.returns
returns c = spells_itself c.args.message.now c.requires c.has_room.ensures.values c.has_room.ensures.reference
