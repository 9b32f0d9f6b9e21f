use Rattle.std.proofs.Common.{◌≡◌, ◌≤◌, [], List, length, sym, subst, ◌∙◌, arith}
use Rattle.rbc_settle.specs.Actions.{Action}
use Rattle.rbc_settle.specs.Settling.{in_messages, actions_with_stamp}
use Rattle.rbc_settle.specs.Sending.{HasTaken}
use Rattle.rbc_settle.proofs.SettleLoop.{reached, can_take, few_sent, none_sent}
use Rattle.rbc_settle.proofs.settling.settled.Goals as goal

-- there is nothing to do
pub returns-then-are_none : goal.returns-then-are_none
returns-then-are_none c =
    let train = c.args.train.now in
    let sound = c.in_ok-changes.ensures.sound in
    let wanted = actions_with_stamp c.args.track.now c.args.stops.now c.args.limits.now train in
    let nothing : wanted ≡ [] = sym c.in_ok-changes.ensures.actions ∙ c.are_none.ensures.none c.if-are_none.true in
    record {
      none = nothing;
      some = tt;
      train = tt;
      messages = none_sent train wanted c.args.sent.now.items nothing;
      err = tt;
      fit = λ fits. fits;
      few = omega arith;
      up_to_date = reached c.args.track.now c.args.stops.now c.args.limits.now train sound.0 sound.1;
    }

pub changed-requires : goal.changed-requires
changed-requires c =
    let sound = c.in_ok-changes.ensures.sound in
    let changes = c.in_ok-changes.changes in
    can_take c.args.track.now c.args.stops.now c.args.limits.now c.args.train.now sound.0 sound.1 (in_messages changes.stops.items changes.limits.items)
    c.in_ok-changes.ensures.actions (c.are_none.ensures.some c.if-are_none.false)

-- all of it is done
pub returns : goal.returns
returns c =
    let train = c.args.train.now in
    let before = c.args.sent.now.items in
    let sound = c.in_ok-changes.ensures.sound in
    let actions = c.in_ok-changes.ensures.actions in
    let wanted = actions_with_stamp c.args.track.now c.args.stops.now c.args.limits.now train in
    let taken : HasTaken train wanted before c.in_ok-after.after c.changed.new.sent.items =
    subst (λ (acts : List Action). HasTaken train acts before c.in_ok-after.after c.changed.new.sent.items) actions c.in_ok-after.ensures.taken in
    record {
      none = tt;
      some = subst (λ (acts : List Action). 1 ≤ length acts) actions (c.are_none.ensures.some c.if-are_none.false);
      train = taken.train;
      messages = taken.told;
      err = tt;
      fit = taken.fit;
      few = few_sent c.args.track.now c.args.stops.now c.args.limits.now train sound.0 sound.1 before c.changed.new.sent.items taken.told;
      up_to_date = reached c.args.track.now c.args.stops.now c.args.limits.now train sound.0 sound.1;
    }
