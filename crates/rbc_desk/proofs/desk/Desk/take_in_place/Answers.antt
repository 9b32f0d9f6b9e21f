use Rattle.std.proofs.Common.{List, [], ◌∷◌, ◌++◌, Option, subst, ap, ◌∙◌}
use Rattle.std.specs.Prelude.{IfSome}
use Rattle.rbc_records.specs.Notes.{record_in}
use Rattle.rbc_rule.specs.declared.input.Input.TheVariants.{Received}
use Rattle.rbc_rule.specs.declared.outcome.Outcome.{Outcome}
use Rattle.rbc_rule.specs.declared.outcome.Reply.{Reply}
use Rattle.rbc_rule.specs.InPlace.{IsHeardInPlace}
use Rattle.rbc_desk.specs.Held.{Held, Standing, standing, IsTakenIn}
use Rattle.rbc_desk.proofs.Stands.{as_notes, taken_in}
use Rattle.rbc_desk.proofs.desk.Desk.take_in_place.Goals as goal

-- an outcome with the writes that were made in place was taken over
pub returns-clause-taken : goal.returns-clause-taken
returns-clause-taken c done =
    let plan = c.args.track.now in
    let message = c.args.message.now in
    let records = c.self.inside.records in
    let reply = c.in-Some.reply in
    let heard = subst (λ (told : Option Reply). IfSome told (λ reply. IsHeardInPlace plan message reply records c.hear_in_place.new.store)) c.in-Some.is c.in_ok-reply.ensures.heard in
    let outcome : Outcome = record { result = reply; writes = heard.writes; messages = [] } in
    let old : Standing = record { records = record_in records; results = c.self.inside.results.items; outboxes = c.self.inside.outboxes.items } in
    let new : Standing = record { records = record_in c.hear_in_place.new.store; results = c.push_reserved.new.self.items; outboxes = c.self.inside.outboxes.items } in
    let results = c.push_reserved.ensures.items ∙ ap (λ (all : List Reply). all ++ reply ∷ []) c.reserve.ensures.items in
    let taken = taken_in plan (Received message) old new outcome c.requires.track tt c.self.invariant.0 (λ w are. heard.step w (as_notes plan records w are))
    (λ i. record { records = λ k. heard.records k i; results = results i; outboxes = c.self.inside.outboxes.items }) in
    subst (λ (held : Held). IsTakenIn plan (Received message) (standing held) new) c.self.view_is taken
