use Rattle.std.proofs.Common.{refl, string_bytes}
use Rattle.rbc_picture.specs.Titles.{train_texts}
use Rattle.rbc_picture.specs.Trains.{train_shown}
use Rattle.rbc_picture.specs.declared.lost.LostTrain.{LostTrain}
use Rattle.rbc_picture.proofs.Joining.{more_texts}
use Rattle.rbc_picture.proofs.lost.push_boxes.Goals as goal

pub loop-index-preserved : goal.loop-index-preserved
loop-index-preserved c =
    more_texts (λ (train : LostTrain). train_texts (train_shown train.train.now)) c.args.lost.now c.loop-index.index
    c.index-lost-index.result (string_bytes c.args.document.now) (string_bytes c.loop-index.document) (string_bytes c.push.new.document)
    (record { seen = c.args.lost.now; same = refl; within = c.loop-index-test.true; is = c.index-lost-index.is })
    c.loop-index.invariant c.in_ok-push.ensures
