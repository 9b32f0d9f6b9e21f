use Rattle.std.proofs.Common.{◌≡◌, arith}
use Rattle.std.specs.List.{insert}
use Rattle.rbc_settle.proofs.NumberLists.{added, added_rises}
use Rattle.rbc_settle.proofs.NumberCopies.{put_in}
use Rattle.rbc_settle.proofs.numbers.Numbers.copy_with.Goals as goal

whole : (c : goal.In_ok-extend_from_slice-2) → c.extend_from_slice-2.new.self.items ≡ insert c.self.inside.all.items c.index_of-at.result c.args.n
whole c =
    put_in c.args.n _ c.index_of-at.result c.self.inside.all.items c.deref.result.now c.deref-2.result.now c.in_ok-all.all.items
    c.extend_from_slice.new.self.items c.push.new.self.items c.extend_from_slice-2.new.self.items
    (omega arith) c.deref.ensures.value c.deref-2.ensures.value c.in_ok-all.ensures.items
    c.in_ok-extend_from_slice.ensures.items c.in_ok-push.ensures.items c.in_ok-extend_from_slice-2.ensures.items

pub invariant_of-result : goal.invariant_of-result
invariant_of-result c =
    added_rises c.args.n c.index_of-at.result c.self.inside.all.items c.args.self.now c.self.view_is c.self.invariant
    c.index_of-at.ensures c.requires c.extend_from_slice-2.new.self.items (whole c)

pub returns : goal.returns
returns c =
    added c.args.n c.index_of-at.result c.self.inside.all.items c.args.self.now c.self.view_is c.self.invariant
    c.index_of-at.ensures c.requires c.extend_from_slice-2.new.self.items (whole c)
