use Rattle.std.proofs.Common.{ap, ◌∙◌, ◌∷◌, List, ℕ}
use Rattle.ertms_codec.specs.Pieces.{pieces_behind}
use Rattle.rbc_live.proofs.Words.{second_is}
use Rattle.rbc_live.proofs.stand_in.second_word.Goals as goal

pub returns-in-Some : goal.returns-in-Some
returns-in-Some c = record {
  word = second_is c.args.line.now c.cut-in-Some.result.0.now c.in-Some.behind.now c.cut.result.0.now _
      (c.cut.ensures.pieces ∙ ap (λ (words : List (List ℕ)). c.cut.result.0.now ∷ words) (ap (pieces_behind 32) c.in-Some.is)) c.cut-in-Some.ensures.pieces;
}
