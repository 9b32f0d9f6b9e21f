use Rattle.std.proofs.Common.{◌≡◌, ◌∙◌, ◌+◌, ◌-◌, ◌≤◌, ◌++◌, List, ℕ, length, take, drop, ap, sym, subst, arith, length-drop}
use Rattle.std.specs.Io.KnownBytes.{Appends}
use Rattle.std.proofs.Math.Seq.{take-add}
use Rattle.std.proofs.lemmas.List.{take_all}
use Rattle.std.proofs.KnownBytes.{Appends-trans}
use Rattle.rbc_text.proofs.writing.write_on.Goals as goal

pub loop-sent-preserved-in-Ok : goal.loop-sent-preserved-in-Ok
loop-sent-preserved-in-Ok g c =
    let sent = c.loop-sent.sent in
    let text = c.args.text.now in
    let count = c.in-Ok.count in
    let left = length-drop sent text in
    let rest : take (length text - sent) (drop sent text) ≡ drop sent text = take_all (length text - sent) (drop sent text) (omega (arith, left)) in
    let bound : count ≤ length (drop sent text) = subst (λ (xs : List ℕ). count ≤ length xs) rest c.in-Ok.ensures.bound in
    let parts : take sent text ++ take count (take (length text - sent) (drop sent text)) ≡ take (sent + count) text =
    ap (λ (xs : List ℕ). take sent text ++ take count xs) rest ∙ sym (take-add sent count text) in
    record {
      within = omega (arith, left, bound, c.loop-sent.invariant.within);
      out = subst (Appends (g.W.Write.contents c.args.writer.now) (g.W.Write.contents c.write.new.self)) parts (Appends-trans (g.W.Write.contents c.args.writer.now) (g.W.Write.contents c.loop-sent.writer) (g.W.Write.contents c.write.new.self) (take sent text) _ c.loop-sent.invariant.out c.in-Ok.ensures.bytes);
      interruptions = c.loop-sent.invariant.interruptions;
    }
