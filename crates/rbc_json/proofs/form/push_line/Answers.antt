use Rattle.rbc_json.proofs.InObjects.{line_added}
use Rattle.rbc_json.proofs.form.push_line.Goals as goal

pub returns : goal.returns
returns c =
    line_added c.extend_from_slice-2.result c.args.log.now.items c.extend_from_slice.new.self.items c.extend_from_slice-2.new.self.items c.args.object.now c.in_ok-extend_from_slice.ensures.items
    c.extend_from_slice-2.ensures.items
