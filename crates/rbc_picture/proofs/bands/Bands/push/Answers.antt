use Rattle.std.proofs.Common.{string_bytes}
use Rattle.rbc_picture.specs.Titles.{band_title}
use Rattle.rbc_picture.specs.declared.bands.Band.{Band}
use Rattle.rbc_picture.proofs.Joining.{more_text}
use Rattle.rbc_picture.proofs.bands.Bands.push.Goals as goal

pub loop-index-preserved : goal.loop-index-preserved
loop-index-preserved c =
    more_text (λ (band : Band). band_title c.args.line band.stretch) c.args.self.now.all.items c.loop-index.index c.band-item.result
    (string_bytes c.args.document.now) (string_bytes c.loop-index.document) (string_bytes c.push.new.document)
    (record { seen = c.deref-band-items.result.now; same = c.deref-band-items.ensures.value; within = c.loop-index-test.true; is = c.band-item.is })
    c.loop-index.invariant c.in_ok-push.ensures
