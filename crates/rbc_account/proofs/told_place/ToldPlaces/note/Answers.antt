use Rattle.rbc_account.specs.ToldPlaces.{kept_at}
use Rattle.rbc_account.proofs.Keeping.{kept_more}
use Rattle.rbc_account.proofs.told_place.ToldPlaces.note.Goals as goal

pub loop-index-preserved : goal.loop-index-preserved
loop-index-preserved c =
    kept_more c.args.track.now (kept_at c.args.self.now) (kept_at c.loop-index.self) (kept_at c.note_one.new.self) c.args.messages.now c.loop-index.index c.at.result.now c.at.ensures c.loop-index.invariant c.in_ok-note_one.ensures
