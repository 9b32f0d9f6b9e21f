use Rattle.std.proofs.Common.{rules, ◌≡◌, ◌+◌, ◌∙◌, List, ℕ, length, refl, subst}
use Rattle.std.specs.Io.KnownBytes.{Appends}
use Rattle.rbc_text.specs.Streams.{IsCutShort, count_of}
use Rattle.rbc_live.specs.declared.prompt.PromptError.TheVariants.{Write}
use Rattle.rbc_live.proofs.Writing.{all_out, cut_short, not_flushed, goes_on, handed_on}
use Rattle.rbc_live.proofs.session.Session.write_out.Goals as goal

-- a part of the text was written
pub returns-in_err-write-clause-written : goal.returns-in_err-write-clause-written
returns-in_err-write-clause-written g c = λ plan wanted old ended are.
    let before = c.args.self.now in
    let fault = c.in_err-write.field-0.0 in
    let short = subst (λ (text : List ℕ). IsCutShort before.outlet.sent text (g.W.Write.contents c.args.writer.now) (g.W.Write.contents c.write.new.writer) fault) c.deref.ensures.value
    c.in_err-write.ensures.part in
    handed_on _ plan wanted ended old (g.W.Write.contents c.write.new.writer) c.from_residual.result (Write fault.sent) c.from_residual.ensures.1
    (cut_short plan wanted before.text.items before.outlet.sent old (g.W.Write.contents c.args.writer.now) (g.W.Write.contents c.write.new.writer) ended fault are short)

-- all of it was written, and could not be flushed
pub returns-in_err-flush-clause-written : goal.returns-in_err-flush-clause-written
returns-in_err-flush-clause-written g c = λ plan wanted old ended are.
    let before = c.args.self.now in
    let whole : Appends (g.W.Write.contents c.args.writer.now) (g.W.Write.contents c.write.new.writer) before.text.items = search rules in
    let counted : c.write.new.self.sent ≡ count_of (before.outlet.sent + length before.text.items) = search rules in
    let fault = c.in_err-flush.field-0.0 in
    handed_on _ plan wanted ended old (g.W.Write.contents c.flush.new.writer) c.from_residual-in_err-flush.result (Write fault.sent) c.from_residual-in_err-flush.ensures.1
    (not_flushed plan wanted before.text.items before.outlet.sent old (g.W.Write.contents c.args.writer.now) (g.W.Write.contents c.write.new.writer) (g.W.Write.contents c.flush.new.writer) ended fault.sent
    are whole c.flush.ensures.kept (c.in_err-flush.ensures.fault ∙ counted))

-- all of it was written
pub returns-clause-written : goal.returns-clause-written
returns-clause-written g c = λ plan wanted old ended are.
    let before = c.args.self.now in
    let whole : Appends (g.W.Write.contents c.args.writer.now) (g.W.Write.contents c.write.new.writer) before.text.items = search rules in
    all_out plan wanted before.text.items before.outlet.sent old (g.W.Write.contents c.args.writer.now) (g.W.Write.contents c.write.new.writer) (g.W.Write.contents c.flush.new.writer) ended
    are whole c.flush.ensures.kept

pub returns-clause-under_way : goal.returns-clause-under_way
returns-clause-under_way g c = λ plan wanted old ended rest is.
    let before = c.args.self.now in
    let whole : Appends (g.W.Write.contents c.args.writer.now) (g.W.Write.contents c.write.new.writer) before.text.items = search rules in
    let counted : c.flush.new.self.sent ≡ count_of (before.outlet.sent + length before.text.items) = search rules in
    goes_on plan wanted before _ old (g.W.Write.contents c.args.writer.now) (g.W.Write.contents c.write.new.writer) (g.W.Write.contents c.flush.new.writer) ended rest
    is whole c.flush.ensures.kept refl c.clear.ensures.items counted
