use Rattle.std.proofs.Common.{◌≡◌, ◌∙◌, ℕ, length, map, ap, sym, string_bytes, rules}
use Rattle.rbc_picture.specs.Panels.{scene_left}
use Rattle.rbc_picture.specs.Selections.{left_text}
use Rattle.rbc_picture.specs.Trains.{train_shown}
use Rattle.rbc_picture.proofs.Joining.{head_joined}
use Rattle.rbc_picture.proofs.head.push_head.Goals as goal

pub returns-then-is_whole : goal.returns-then-is_whole
returns-then-is_whole c = rw (sym c.is_whole.ensures ∙ c.if-is_whole.true) c.push_piece.ensures

pub returns : goal.returns
returns c =
    let scene = c.args.scene.now in
    let many : c.len.result ≡ length scene.track.now.lines.items = search rules in
    let left = c.as_str-left.ensures.value ∙ c.in_ok-left.ensures
    ∙ ap (λ (lines : ℕ). left_text scene.selection.now scene.parts.now lines (map train_shown scene.trains.now)) many in
    rw (sym c.is_whole.ensures ∙ c.if-is_whole.false)
    (head_joined c.push_piece-4.result c.as_str-left.result.now (scene_left c.args.scene.now) (string_bytes c.args.document.now)
    (string_bytes c.push_piece-2.new.document) (string_bytes c.push_text.new.document) (string_bytes c.push_piece-3.new.document)
    (string_bytes c.push_text-2.new.document) (string_bytes c.push_piece-4.new.document) left
    c.in_ok-push_piece.ensures c.in_ok-push_text.ensures c.in_ok-push_piece-2.ensures c.in_ok-push_text-2.ensures c.push_piece-4.ensures)
