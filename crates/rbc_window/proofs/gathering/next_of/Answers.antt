use Rattle.std.proofs.Common.{◌≡◌, ◌<◌, Some, slice_get, length, arith, refl}
use Rattle.std.proofs.lemmas.Option.{slice_get_read}
use Rattle.rbc_window.proofs.Gathers.{next_kept, trains_kept}
use Rattle.rbc_window.proofs.gathering.next_of.Goals as goal

pub returns-clause-kept : goal.returns-clause-kept
returns-clause-kept c =
    let lt : c.share_of-place.result < length c.args.all.now.items = omega arith in
    let at : slice_get c.args.all.now.items c.share_of-place.result ≡ Some c.index_mut.result.now = slice_get_read _ _ _ _ refl lt c.index_mut.ensures.value in
    next_kept c.args.all.now.items c.share_of-place.result c.args.engine c.index_mut.result.now c.next.new.self c.share_of-place.ensures.value at c.next.result c.next.ensures.some

pub returns-clause-trains : goal.returns-clause-trains
returns-clause-trains c =
    let lt : c.share_of-place.result < length c.args.all.now.items = omega arith in
    let at : slice_get c.args.all.now.items c.share_of-place.result ≡ Some c.index_mut.result.now = slice_get_read _ _ _ _ refl lt c.index_mut.ensures.value in
    trains_kept c.args.all.now.items c.share_of-place.result c.args.engine c.index_mut.result.now c.next.new.self c.share_of-place.ensures.value at c.next.ensures.trains
