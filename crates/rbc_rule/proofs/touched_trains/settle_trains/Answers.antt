use Rattle.std.proofs.Common.{rules, ◌≡◌, ◌<◌, ◌≤◌, ◌+◌, ◌*◌, ◌++◌, length, Some, None, option_copied, IsTrue, ap, sym, subst, ◌∙◌, slice_index_or, arith}
use Rattle.std.specs.List.{All}
use Rattle.rbc_maps.specs.Maps.{keys, value_of}
use Rattle.rbc_settle.specs.Numbers.{has_number}
use Rattle.rbc_rule.specs.Touching.{released_by}
use Rattle.rbc_rule.specs.Gathered.{write_of, sent_of, write_at, sent_at}
use Rattle.rbc_rule.specs.WellFormed.{IsGoodTrain}
use Rattle.rbc_rule.proofs.Gathering.{write_is, sent_is_of}
use Rattle.rbc_rule.proofs.GatherReading.{has_value, gathered_of, one_more_gathered}
use Rattle.rbc_rule.proofs.KeepsLists.{All-value_of}
use Rattle.rbc_rule.proofs.touched_trains.settle_trains.Goals as goal

-- each of the engines is enrolled
pub returns-in_default-clause-fault : goal.returns-in_default-clause-fault
returns-in_default-clause-fault g c =
    λ w m.
    let absent : option_copied c.in_ok-train.field-0 ≡ None = search rules in
    let items = c.as_slice-engine-items.result.now in
    let within : c.loop-engine.engine-index < length items = search rules in
    let engine = slice_index_or items c.loop-engine.engine-index 0 in
    let enrolled : IsTrue (has_number (keys w.trains) engine) = subst (λ engines. All (λ e. IsTrue (has_number (keys w.trains) e)) engines) (sym c.as_slice-engine-items.ensures.value) (c.requires.enrolled w m) c.loop-engine.engine-index 0 within in
    has_value w.trains engine (sym absent ∙ c.in_ok-train.ensures.train c.args.track.now w m) enrolled

pub loop-engine-preserved : goal.loop-engine-preserved
loop-engine-preserved g c =
    let plan = c.args.track.now in
    let released = released_by c.args.change in
    let items = c.as_slice-engine-items.result.now in
    let so_far = c.loop-engine.invariant in
    let engine = slice_index_or items c.loop-engine.engine-index 0 in
    let train = c.in-Some.train.now in
    let new = c.in_ok-settle_one.ensures in
    let within : c.loop-engine.engine-index < length items = search rules in
    let few : length c.settle_one.new.gathered.messages.items ≤ length c.loop-engine.gathered.messages.items + 1 = new.few in
    let few_so_far : length c.loop-engine.gathered.messages.items ≤ c.loop-engine.engine-index * 36 = so_far.few in
    record {
      writes = λ w stops limits m changed.
          let is : Some train ≡ value_of w.trains engine = sym (ap option_copied c.in-Some.is) ∙ c.in_ok-train.ensures.train plan w m in
          let good = All-value_of (IsGoodTrain plan w.stops w.limits) engine train w.trains m.well_formed.trains (sym is) in
          let same = write_is plan c.args.change train w stops limits m.well_formed.stops.numbered m.well_formed.limits.numbered good.well_formed.tables good.settled changed in
          let one = gathered_of (write_of plan stops limits released) c.loop-engine.gathered.writes c.settle_one.new.gathered.writes train (value_of w.trains engine) (new.writes ∙ ap (λ more. c.loop-engine.gathered.writes ++ more) same) is in
          one_more_gathered (write_at plan stops limits released w.trains) items c.loop-engine.engine-index _ within _ _ (so_far.writes w stops limits m changed) one;
      messages = λ w stops limits m changed.
          let is : Some train ≡ value_of w.trains engine = sym (ap option_copied c.in-Some.is) ∙ c.in_ok-train.ensures.train plan w m in
          let good = All-value_of (IsGoodTrain plan w.stops w.limits) engine train w.trains m.well_formed.trains (sym is) in
          let same = sent_is_of plan c.args.change train w stops limits m.well_formed.stops.numbered m.well_formed.limits.numbered good.well_formed.tables good.settled changed in
          let one = gathered_of (sent_of plan stops limits released) c.loop-engine.gathered.messages.items c.settle_one.new.gathered.messages.items train (value_of w.trains engine) (new.messages ∙ ap (λ more. c.loop-engine.gathered.messages.items ++ more) same) is in
          one_more_gathered (sent_at plan stops limits released w.trains) items c.loop-engine.engine-index _ within _ _ (so_far.messages w stops limits m changed) one;
      few = omega (arith, few, few_so_far);
      fit = new.fit;
    }
