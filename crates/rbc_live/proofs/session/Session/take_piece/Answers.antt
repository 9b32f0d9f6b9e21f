use Rattle.std.proofs.Common.{rules, ◌≡◌, ◌<◌, ◌++◌, ◌∷◌, ◌∙◌, [], List, ℕ, Option, Bor, length, sym, ap, subst, arith}
use Rattle.std.specs.Prelude.{IfSome}
use Rattle.rbc_text.specs.BatchText.{is_line_feed}
use Rattle.ertms_codec.specs.Pieces.{pieces_behind, text_behind}
use Rattle.ertms_codec.proofs.Cuts.{split_is_cons}
use Rattle.rbc_text.proofs.LinePieces.{joined_whole, line_more, last_more}
use Rattle.rbc_live.proofs.Writing.{pending}
use Rattle.rbc_live.proofs.Cutting.{fault_before_more, fault_at_last, piece_taken, hands_on}
use Rattle.rbc_live.proofs.session.Session.take_piece.Goals as goal

-- a line was ended, and there was a fault
pub returns-in_err-end_line-in-Some-behind-clause-taken : goal.returns-in_err-end_line-in-Some-behind-clause-taken
returns-in_err-end_line-in-Some-behind-clause-taken g c = λ plan wanted old ended rest is.
    let now = c.loop-left.invariant.taken plan wanted old ended rest is in
    let behind = c.in-Some-behind.field-0.now in
    let left = split_is_cons is_line_feed behind in
    let fault = c.in_err-end_line-in-Some-behind.field-0.0 in
    hands_on plan wanted old (g.W.Write.contents c.end_line.new.writer) c.end_line.new.self _ c.from_residual.result fault c.from_residual.ensures.1
    (fault_before_more plan wanted old (g.W.Write.contents c.end_line.new.writer) now.0 now.1 c.cut.result.0.now _ (pieces_behind 10 c.loop-left.left) (pieces_behind 10 c.cut.result.1) left.0 left.1 fault
    now.2 (ap (pieces_behind 10) c.in-Some.is ∙ c.cut.ensures.pieces) (ap (pieces_behind 10) c.in-Some-behind.is ∙ left.2)
    (c.in_err-end_line-in-Some-behind.ensures.taken plan wanted old now.0 now.1 now.3))

-- a line goes on, and there was a fault
pub returns-in_err-go_on_line-in-None-clause-taken : goal.returns-in_err-go_on_line-in-None-clause-taken
returns-in_err-go_on_line-in-None-clause-taken g c = λ plan wanted old ended rest is.
    let now = c.loop-left.invariant.taken plan wanted old ended rest is in
    let fault = c.in_err-go_on_line-in-None.field-0.0 in
    hands_on plan wanted old (g.W.Write.contents c.go_on_line.new.writer) c.go_on_line.new.self _ c.from_residual-in_err-go_on_line-in-None.result fault c.from_residual-in_err-go_on_line-in-None.ensures.1
    (fault_at_last plan wanted old (g.W.Write.contents c.go_on_line.new.writer) now.0 now.1 c.cut.result.0.now _ (pieces_behind 10 c.loop-left.left) (pieces_behind 10 c.cut.result.1) fault
    now.2 (ap (pieces_behind 10) c.in-Some.is ∙ c.cut.ensures.pieces) (ap (pieces_behind 10) c.in-None.is)
    (c.in_err-go_on_line-in-None.ensures.added plan wanted old now.0 now.1 now.3))

-- a line was taken
pub loop-left-preserved-in_ok-end_line-in-Some-behind : goal.loop-left-preserved-in_ok-end_line-in-Some-behind
loop-left-preserved-in_ok-end_line-in-Some-behind g c =
    let left = split_is_cons is_line_feed c.in-Some-behind.field-0.now in
    let pieces = pieces_behind 10 c.cut.result.1 in
    let shorter : length c.in-Some-behind.field-0.now < length c.in-Some.bytes.now =
    subst (λ (o : Option (Bor (List ℕ))). IfSome o (λ behind. length behind.now < length c.in-Some.bytes.now)) c.in-Some-behind.is c.cut.ensures.shorter in
    let was : length (text_behind c.loop-left.left) ≡ length c.in-Some.bytes.now = ap (λ (o : Option (Bor (List ℕ))). length (text_behind o)) c.in-Some.is in
    let is : length (text_behind c.cut.result.1) ≡ length c.in-Some-behind.field-0.now = ap (λ (o : Option (Bor (List ℕ))). length (text_behind o)) c.in-Some-behind.is in
    let number = c.in_ok-end_line-in-Some-behind.ensures.number in
    let before = c.loop-left.invariant.number in
    record {
      taken = λ plan wanted old ended rest under.
          let now = c.loop-left.invariant.taken plan wanted old ended rest under in
          let line = c.cut.result.0.now in
          let lines = now.0 ++ (now.1 ++ line) ∷ [] in (
            lines,
            [],
            now.2 ∙ line_more now.0 now.1 line (pieces_behind 10 c.loop-left.left) pieces (ap (pieces_behind 10) c.in-Some.is ∙ c.cut.ensures.pieces)
                ∙ ap (λ (all : List (List ℕ)). lines ++ all) (sym (joined_whole pieces left.0 left.1 (ap (pieces_behind 10) c.in-Some-behind.is ∙ left.2))),
            c.in_ok-end_line-in-Some-behind.ensures.taken plan wanted old now.0 now.1 now.3,
          );
      number = omega (arith, shorter, was, is, number, before);
    }

-- a line goes on
pub loop-left-preserved : goal.loop-left-preserved
loop-left-preserved g c =
    let none : length (text_behind c.cut.result.1) ≡ 0 = ap (λ (o : Option (Bor (List ℕ))). length (text_behind o)) c.in-None.is in
    let number = c.in_ok-go_on_line-in-None.ensures.number in
    let before = c.loop-left.invariant.number in
    record {
      taken = λ plan wanted old ended rest under.
          let now = c.loop-left.invariant.taken plan wanted old ended rest under in
          let line = c.cut.result.0.now in (
            now.0,
            now.1 ++ line,
            now.2 ∙ last_more now.0 now.1 line (pieces_behind 10 c.loop-left.left) (pieces_behind 10 c.cut.result.1) (ap (pieces_behind 10) c.in-Some.is ∙ c.cut.ensures.pieces)
                (ap (pieces_behind 10) c.in-None.is),
            c.in_ok-go_on_line-in-None.ensures.added plan wanted old now.0 now.1 now.3,
          );
      number = omega (arith, none, number, before);
    }

-- nothing of the piece is left
pub returns-clause-taken : goal.returns-clause-taken
returns-clause-taken g c = λ plan wanted old ended rest is.
    let now = c.loop-left.invariant.taken plan wanted old ended rest is in
    let none : pieces_behind 10 c.loop-left.left ≡ [] = search rules in
    piece_taken _ plan wanted old (g.W.Write.contents c.write_out.new.writer) c.write_out.new.self now.0 now.1 _ (pieces_behind 10 c.loop-left.left) c.write_out.result now.2 none
    (c.write_out.ensures.written plan wanted old now.0 (pending plan wanted c.loop-left.self old (g.W.Write.contents c.loop-left.writer) now.0 now.1 now.3))
    (c.write_out.ensures.under_way plan wanted old now.0 now.1 now.3)
