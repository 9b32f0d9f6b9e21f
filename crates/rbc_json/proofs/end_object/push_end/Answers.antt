use Rattle.std.proofs.Common.{ℕ, List, codes, sym, subst}
use Rattle.rbc_json.specs.Objects.{HasSums}
use Rattle.rbc_json.proofs.Ends.{end_pushed}
use Rattle.rbc_json.proofs.end_object.push_end.Goals as goal

pub returns : goal.returns
returns c =
    let account = c.args.account.now in
    end_pushed account.desk.track.horizon account.desk.records account.sums c.extend_from_slice-2.result c.args.log.now.items c.extend_from_slice.new.self.items c.push_trains.new.log.items
    c.extend_from_slice-2.new.self.items c.as_bytes.result.now (codes "]}\n") (subst (λ (t : List ℕ). HasSums account.desk.track.horizon account.desk.records account.sums t) (sym c.as_bytes.ensures.value) c.in_ok-head.ensures) c.in_ok-extend_from_slice.ensures.items c.in_ok-push_trains.ensures c.extend_from_slice-2.ensures.items
