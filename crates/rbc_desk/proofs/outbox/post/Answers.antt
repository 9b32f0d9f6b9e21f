use Rattle.std.proofs.Common.{rules, ◌≡◌, ◌≢◌, ℕ, ◌<◌, ◌∙◌, [], false, List, sym, subst, ap, arith, leb, length, get_or}
use Rattle.std.proofs.lemmas.List.{get_or_default}
use Rattle.std.proofs.lemmas.Bool.{ne_eqb}
use Rattle.rbc_desk.specs.declared.outbox.Mail.{Mail}
use Rattle.rbc_maps.specs.Maps.{index_for, has, value_or}
use Rattle.rbc_maps.proofs.MapEdits.{position_or_len_le}
use Rattle.rbc_maps.proofs.MapPlaces.{has_here, has_past}
use Rattle.rbc_desk.specs.Held.{AreOutboxes}
use Rattle.rbc_desk.proofs.Posts.{longer, outboxes_with, posted_there, posted_new}
use Rattle.rbc_desk.proofs.outbox.post.Goals as goal
use Rattle.rbc_desk.proofs.outbox.post.Goals.{else-at-len-via-then-at-len+else-index-engine, else-at-len-via-else-at-len}

pub insert-requires : goal.insert-requires
insert-requires c =
    let le = position_or_len_le (λ (box : ℕ × List Mail). leb c.args.engine box.0) c.deref.result.now in
    omega (arith, le)

pub returns-in_ok-add-clause-posted : goal.returns-in_ok-add-clause-posted
returns-in_ok-add-clause-posted c =
    let is : c.index_near-at.result ≡ index_for c.args.engine c.args.outboxes.now.items = c.index_near-at.ensures ∙ ap (index_for c.args.engine) c.deref.ensures.value in
    let within : c.index_near-at.result < length c.args.outboxes.now.items = subst (λ xs. c.index_near-at.result < length xs) c.deref.ensures.value (omega arith) in
    posted_there c.args.engine c.args.mail c.args.outboxes.now.items c.index_near-at.result is c.index.result.now c.index_mut.result.now c.add.new.self within c.index.ensures c.if-index-engine.true c.index_mut.ensures.value c.in_ok-add.ensures.ok

pub returns-in_ok-add-clause-outboxes : goal.returns-in_ok-add-clause-outboxes
returns-in_ok-add-clause-outboxes c =
    let is : c.index_near-at.result ≡ index_for c.args.engine c.args.outboxes.now.items = c.index_near-at.ensures ∙ ap (index_for c.args.engine) c.deref.ensures.value in
    let within : c.index_near-at.result < length c.args.outboxes.now.items = subst (λ xs. c.index_near-at.result < length xs) c.deref.ensures.value (omega arith) in
    let posted = posted_there c.args.engine c.args.mail c.args.outboxes.now.items c.index_near-at.result is c.index.result.now c.index_mut.result.now c.add.new.self within c.index.ensures c.if-index-engine.true c.index_mut.ensures.value c.in_ok-add.ensures.ok in
    subst AreOutboxes (sym posted) (outboxes_with c.args.engine _ c.args.outboxes.now.items (longer (value_or [] c.args.outboxes.now.items c.args.engine) c.args.mail) c.requires.outboxes)

pub returns-in_ok-insert-clause-posted : goal.returns-in_ok-insert-clause-posted
returns-in_ok-insert-clause-posted c =
    let is : c.index_near-at.result ≡ index_for c.args.engine c.args.outboxes.now.items = c.index_near-at.ensures ∙ ap (index_for c.args.engine) c.deref.ensures.value in
    let other : (d : ℕ × List Mail) → c.index_near-at.result < length c.args.outboxes.now.items → (get_or c.args.outboxes.now.items c.index_near-at.result d).0 ≢ c.args.engine =
    λ d within same. elim c.else-at-len.branch [
      | else-at-len-via-then-at-len+else-index-engine w ↦ w.if-index-engine.false (ap (λ (p : ℕ × List Mail). p.0) (w.index.ensures ∙ get_or_default _ _ _ d within) ∙ same)
      | else-at-len-via-else-at-len w ↦ absurd (omega (arith, ap length c.deref.ensures.value))
    ] in
    let absent : has c.args.outboxes.now.items c.args.engine ≡ false = elim c.else-at-len.branch [
      | else-at-len-via-then-at-len+else-index-engine w ↦
          let within : c.index_near-at.result < length c.args.outboxes.now.items = omega (arith, ap length c.deref.ensures.value) in
          sym (has_here c.args.engine c.args.outboxes.now.items c.index_near-at.result w.index.result.now c.requires.outboxes.ascending is within) ∙ ne_eqb _ _ (other w.index.result.now within)
      | else-at-len-via-else-at-len w ↦ has_past c.args.engine c.args.outboxes.now.items c.index_near-at.result c.requires.outboxes.ascending is (omega (arith, ap length c.deref.ensures.value))
    ] in
    c.in_ok-insert.ensures.items ∙ posted_new c.args.engine c.args.mail c.args.outboxes.now.items c.index_near-at.result is _ (search rules) absent other

pub returns-in_ok-insert-clause-outboxes : goal.returns-in_ok-insert-clause-outboxes
returns-in_ok-insert-clause-outboxes c =
    subst AreOutboxes (sym (returns-in_ok-insert-clause-posted c)) (outboxes_with c.args.engine _ c.args.outboxes.now.items (longer (value_or [] c.args.outboxes.now.items c.args.engine) c.args.mail) c.requires.outboxes)
