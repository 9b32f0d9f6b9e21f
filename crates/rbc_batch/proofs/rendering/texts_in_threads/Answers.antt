use Rattle.std.proofs.Common.{rules, ◌≡◌, ◌∙◌, [], ◌∷◌, ap, append-nil}
use Rattle.rbc_batch.specs.Parts.{joined}
use Rattle.rbc_batch.proofs.Joined.{output_joined}
use Rattle.rbc_batch.proofs.rendering.texts_in_threads.Goals as goal

-- the parts stand behind the results
pub returns : goal.returns
returns g c =
    let results = c.in_ok-render_results.field-0 in
    let one : c.push.new.self.items ≡ results ∷ [] = search rules in
    let first : joined c.push.new.self.items ≡ results.items = ap joined one ∙ append-nil results.items in
    output_joined c.args.desk.now.outboxes c.args.workers c.in_ok-parts.parts.items _ _ _ c.requires c.in_ok-parts.ensures.count c.in_ok-parts.ensures.each
    c.in_ok-append_parts.ensures.made (first ∙ c.in_ok-render_results.ensures) c.in_ok-append_parts.ensures.appended
