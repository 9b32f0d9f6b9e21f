use Rattle.rbc_json.proofs.Ends.{two_more}
use Rattle.rbc_json.proofs.end_object.push_train.Goals as goal

pub returns : goal.returns
returns c =
    two_more c.extend_from_slice-2.result c.args.log.now.items c.extend_from_slice.new.self.items c.extend_from_slice-2.new.self.items c.comma_before.result.now c.as_bytes.result.now
    c.in_ok-extend_from_slice.ensures.items c.extend_from_slice-2.ensures.items
