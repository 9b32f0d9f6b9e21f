use Rattle.std.proofs.Common.{◌≡◌, ◌≤◌, Some, List, ℕ, length, take, ap, refl, subst, arith}
use Rattle.std.specs.Prelude.{slice_get}
use Rattle.std.specs.Io.KnownBytes.{Appends}
use Rattle.std.proofs.lemmas.Option.{slice_get_read}
use Rattle.rbc_batch.proofs.Texts.{ends_within, out_so_far}
use Rattle.rbc_batch.proofs.streams.write_texts.Goals as goal

pub overflow_add-sent : goal.overflow_add-sent
overflow_add-sent g c =
    let at : slice_get c.args.texts.now c.loop-text.text-index ≡ Some c.text-item.result = slice_get_read _ _ _ _ refl c.loop-text-test.true c.text-item.is in
    let within = ends_within c.args.texts.now c.loop-text.text-index c.text-item.result at in
    let is = ap length c.deref.ensures.value in
    omega (arith, within, is, c.deref.ensures.len, c.requires, c.loop-text.invariant.sent, c.len-sent.ensures)

pub overflow_add-result : goal.overflow_add-result
overflow_add-result g c =
    let at : slice_get c.args.texts.now c.loop-text.text-index ≡ Some c.text-item.result = slice_get_read _ _ _ _ refl c.loop-text-test.true c.text-item.is in
    let within = ends_within c.args.texts.now c.loop-text.text-index c.text-item.result at in
    let is = ap length c.deref.ensures.value in
    omega (arith, within, is, c.requires, c.loop-text.invariant.sent, c.in-Err.ensures.part.0)

-- all texts before it are out, and of it these bytes
pub returns-in-Err-clause-part : goal.returns-in-Err-clause-part
returns-in-Err-clause-part g c =
    let texts = c.args.texts.now in
    let text = c.text-item.result in
    let at : slice_get texts c.loop-text.text-index ≡ Some text = slice_get_read _ _ _ _ refl c.loop-text-test.true c.text-item.is in
    let within = ends_within texts c.loop-text.text-index text at in
    let few : c.in-Err.unwritten.sent ≤ length text.items = subst (λ (xs : List ℕ). c.in-Err.unwritten.sent ≤ length xs) c.deref.ensures.value c.in-Err.ensures.part.0 in
    let out : Appends (g.W.Write.contents c.loop-text.writer) (g.W.Write.contents c.write_on.new.writer) (take c.in-Err.unwritten.sent text.items) =
    subst (λ (xs : List ℕ). Appends (g.W.Write.contents c.loop-text.writer) (g.W.Write.contents c.write_on.new.writer) (take c.in-Err.unwritten.sent xs)) c.deref.ensures.value c.in-Err.ensures.part.1 in (
      omega (arith, within, few, c.loop-text.invariant.sent),
      out_so_far (g.W.Write.contents c.args.writer.now) (g.W.Write.contents c.loop-text.writer) (g.W.Write.contents c.write_on.new.writer) texts c.loop-text.text-index text c.loop-text.sent c.in-Err.unwritten.sent at c.loop-text.invariant.sent few c.loop-text.invariant.out out,
    )
