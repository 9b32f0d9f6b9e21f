use Rattle.std.proofs.Common.{◌≡◌, subst, ap, ◌∙◌}
use Rattle.rbc_desk.specs.Held.{Held, Standing, standing, after_outcome, IsTakenIn}
use Rattle.rbc_desk.proofs.Stands.{taken_in}
use Rattle.rbc_desk.proofs.desk.Desk.take_in.Goals as goal
use Rattle.rbc_desk.proofs.desk.Desk.take_in.Goals.{in_default-via-in-Enrol-1, in_default-via-in-Received+in_ok-take_in_place+else-branch}

-- the outcome is that of the world that the desk holds, and it was taken over; a message that was not taken in in place has left the desk as it was
pub returns-2-clause-taken : goal.returns-2-clause-taken
returns-2-clause-taken c =
    let track = c.args.track.now in
    let input = c.args.input.now in
    let outcome = c.in_ok-outcome.outcome in
    let new = standing c.take_over_alone.new.self in
    let same : standing c.in_default.self ≡ standing c.args.self.now =
    elim c.in_default.branch [
      | in_default-via-in-Enrol-1 w ↦ ap (λ (held : Held). standing held) w.self-is
      | in_default-via-in-Received+in_ok-take_in_place+else-branch w ↦ ap (λ (held : Held). standing held) w.self-is ∙ w.in_ok-take_in_place.ensures.same w.if-branch.false
    ] in
    subst (λ (old : Standing). IsTakenIn track input old new) same
    (taken_in track input (standing c.in_default.self) new outcome c.keeps.ensures c.requires.fits c.decide.ensures.in_order.0 c.in_ok-outcome.ensures.right
    (c.in_ok-take_over_alone.ensures.ok ∙ ap (λ (s : Standing). after_outcome s outcome) c.decide.ensures.same))
