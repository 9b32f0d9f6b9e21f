use Rattle.std.proofs.Common.{◌≡◌, ◌≢◌, ℕ, ◌<◌, ◌∙◌, List, sym, subst, ap, arith, leb, length, get_or, set}
use Rattle.std.proofs.lemmas.List.{get_or_default}
use Rattle.rbc_maps.specs.Maps.{index_for, with_value, IsMap}
use Rattle.rbc_maps.proofs.MapEdits.{written, inserted, position_or_len_le}
use Rattle.rbc_maps.proofs.MapPlaces.{rises-with_value}
use Rattle.rbc_settle.specs.declared.train.TrainRec.{TrainRec}
use Rattle.rbc_window.proofs.trains.Trains.put.Goals as goal
use Rattle.rbc_window.proofs.trains.Trains.put.Goals.{else-at-len-via-then-at-len+else-index-engine, else-at-len-via-else-at-len}

pub insert-requires : goal.insert-requires
insert-requires c =
    let le = position_or_len_le (λ (train : ℕ × TrainRec). leb c.args.engine train.0) c.deref.result.now in
    omega (arith, le)

-- the train comes in the place of the one that was there
there : (c : goal.After-self-1) → set c.self.inside.all.items c.index_for-at.result (c.index_mut.result.now.0, c.replace-old.new.dest) ≡ with_value c.args.engine c.args.train c.self.inside.all.items
there c =
    let all = c.self.inside.all.items in
    let at = c.index_for-at.result in
    let is : at ≡ index_for c.args.engine all = c.index_for-at.ensures ∙ ap (index_for c.args.engine) c.deref.ensures.value in
    let within : at < length all = omega arith in
    ap (λ train. set all at (c.index_mut.result.now.0, train)) c.replace-old.ensures.after
    ∙ written c.args.engine c.args.train all at c.index.result.now c.index_mut.result.now is within c.index.ensures c.if-index-engine.true c.index_mut.ensures.value

pub returns-then-index-engine-clause-ok : goal.returns-then-index-engine-clause-ok
returns-then-index-engine-clause-ok c = there c ∙ ap (with_value c.args.engine c.args.train) c.self.view_is

pub invariant_of-self : goal.invariant_of-self
invariant_of-self c =
    subst (λ (trains : List (ℕ × TrainRec)). IsMap trains) (sym (there c)) (rises-with_value c.args.engine c.args.train 0 c.self.inside.all.items (omega arith) c.self.invariant)

-- or it comes before the first one of a greater engine number
between : (c : goal.In_ok-insert) → c.insert.new.self.items ≡ with_value c.args.engine c.args.train c.self.inside.all.items
between c =
    let all = c.self.inside.all.items in
    let at = c.index_for-at.result in
    let is : at ≡ index_for c.args.engine all = c.index_for-at.ensures ∙ ap (index_for c.args.engine) c.deref.ensures.value in
    let other : (d : ℕ × TrainRec) → at < length all → (get_or all at d).0 ≢ c.args.engine =
    λ d within same. elim c.else-at-len.branch [
      | else-at-len-via-then-at-len+else-index-engine w ↦ w.if-index-engine.false (ap (λ (p : ℕ × TrainRec). p.0) (w.index.ensures ∙ get_or_default _ _ _ d within) ∙ same)
      | else-at-len-via-else-at-len w ↦ absurd (omega arith)
    ] in
    c.in_ok-insert.ensures.items ∙ inserted c.args.engine c.args.train all at is other

pub returns-clause-ok : goal.returns-clause-ok
returns-clause-ok c = between c ∙ ap (with_value c.args.engine c.args.train) c.self.view_is

pub invariant_of-self-2 : goal.invariant_of-self-2
invariant_of-self-2 c =
    subst (λ (trains : List (ℕ × TrainRec)). IsMap trains) (sym (between c)) (rises-with_value c.args.engine c.args.train 0 c.self.inside.all.items (omega arith) c.self.invariant)
