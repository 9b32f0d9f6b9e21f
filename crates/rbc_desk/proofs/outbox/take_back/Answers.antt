use Rattle.std.proofs.Common.{◌≡◌, ◌<◌, ◌≤◌, ◌∙◌, [], length, sym, subst, ap, arith, rules}
use Rattle.rbc_maps.specs.Maps.{index_for, value_or}
use Rattle.rbc_desk.specs.Held.{AreOutboxes}
use Rattle.rbc_desk.proofs.TakesBack.{taken_keeps, box_here, dropped_there, box_gone}
use Rattle.rbc_desk.proofs.outbox.take_back.Goals as goal

-- an engine with two messages has an outbox
pub index_mut-requires : goal.index_mut-requires
index_mut-requires c =
    let boxes = c.args.outboxes.now.items in
    let more : 1 < length (value_or [] boxes c.args.engine) = search rules in
    let is : c.index_for-at.result ≡ index_for c.args.engine boxes = c.index_for-at.ensures ∙ ap (index_for c.args.engine) c.deref-then-mails_of-gt1.ensures.value in
    omega (arith, is, (box_here c.args.engine boxes c.requires more).0)

pub returns-then-mails_of-gt1-clause-taken : goal.returns-then-mails_of-gt1-clause-taken
returns-then-mails_of-gt1-clause-taken c =
    let boxes = c.args.outboxes.now.items in
    let more : 1 < length (value_or [] boxes c.args.engine) = search rules in
    let is : c.index_for-at.result ≡ index_for c.args.engine boxes = c.index_for-at.ensures ∙ ap (index_for c.args.engine) c.deref-then-mails_of-gt1.ensures.value in
    dropped_there c.args.engine boxes c.index_for-at.result c.index_mut.result.now c.drop_last.new.self c.requires more is c.index_mut.ensures.value c.drop_last.ensures

pub returns-then-mails_of-gt1-clause-outboxes : goal.returns-then-mails_of-gt1-clause-outboxes
returns-then-mails_of-gt1-clause-outboxes c =
    subst AreOutboxes (sym (returns-then-mails_of-gt1-clause-taken c)) (taken_keeps c.args.engine c.args.outboxes.now.items c.requires)

pub returns-else-mails_of-gt1-clause-taken : goal.returns-else-mails_of-gt1-clause-taken
returns-else-mails_of-gt1-clause-taken c =
    let boxes = c.args.outboxes.now.items in
    let few : length (value_or [] boxes c.args.engine) ≤ 1 = search rules in
    c.remove.ensures.pairs ∙ box_gone c.args.engine boxes few

pub returns-else-mails_of-gt1-clause-outboxes : goal.returns-else-mails_of-gt1-clause-outboxes
returns-else-mails_of-gt1-clause-outboxes c =
    subst AreOutboxes (sym (returns-else-mails_of-gt1-clause-taken c)) (taken_keeps c.args.engine c.args.outboxes.now.items c.requires)
