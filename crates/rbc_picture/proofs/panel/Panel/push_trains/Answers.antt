use Rattle.std.proofs.Common.{string_bytes}
use Rattle.rbc_picture.specs.Titles.{train_texts}
use Rattle.rbc_picture.specs.Trains.{train_shown}
use Rattle.rbc_picture.specs.declared.train_shape.TrainShape.{TrainShape}
use Rattle.rbc_picture.proofs.Joining.{more_texts}
use Rattle.rbc_picture.proofs.panel.Panel.push_trains.Goals as goal

pub loop-index-preserved : goal.loop-index-preserved
loop-index-preserved c =
    more_texts (λ (shape : TrainShape). train_texts (train_shown shape.train.now)) c.args.self.now.trains.items
    c.loop-index.index c.train-item.result (string_bytes c.args.document.now) (string_bytes c.loop-index.document)
    (string_bytes c.push.new.document)
    (record { seen = c.deref-train-items.result.now; same = c.deref-train-items.ensures.value; within = c.loop-index-test.true; is = c.train-item.is })
    c.loop-index.invariant c.in_ok-push.ensures
