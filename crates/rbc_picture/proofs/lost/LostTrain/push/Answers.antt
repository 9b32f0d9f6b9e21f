use Rattle.std.proofs.Common.{string_bytes}
use Rattle.rbc_picture.specs.Titles.{train_texts}
use Rattle.rbc_picture.specs.Trains.{train_shown}
use Rattle.rbc_picture.proofs.Joining.{around}
use Rattle.rbc_picture.proofs.lost.LostTrain.push.Goals as goal

pub returns : goal.returns
returns c =
    around c.push_piece-2.result (train_texts (train_shown c.args.self.now.train.now)) (string_bytes c.args.document.now)
    (string_bytes c.push_piece.new.document) (string_bytes c.push_train.new.document) (string_bytes c.push_piece-2.new.document)
    c.in_ok-push_piece.ensures c.in_ok-push_train.ensures c.push_piece-2.ensures
