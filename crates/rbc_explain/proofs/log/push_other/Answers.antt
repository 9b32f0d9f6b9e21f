use Rattle.std.proofs.Common.{◌++◌, List, ℕ, ap, ◌∙◌}
use Rattle.rbc_explain.proofs.Marking.{line_in_parts}
use Rattle.rbc_explain.proofs.log.push_other.Goals as goal

pub returns : goal.returns
returns c =
    line_in_parts _ _ c.extend_from_slice-3.result c.args.line.now c.args.log.now.items c.extend_from_slice.new.self.items c.extend_from_slice-2.new.self.items
    c.extend_from_slice-3.new.self.items (c.in_ok-extend_from_slice.ensures.items ∙ ap (λ (t : List ℕ). c.args.log.now.items ++ t) c.indent_of.ensures) c.in_ok-extend_from_slice-2.ensures.items
    c.extend_from_slice-3.ensures.items
