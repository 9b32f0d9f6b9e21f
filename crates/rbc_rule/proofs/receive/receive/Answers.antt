use Rattle.std.proofs.Common.{rules, ◌≡◌, ◌∙◌, ◌++◌, ◌∷◌, [], Some, false, sym, ap, option_copied}
use Rattle.rbc_maps.specs.Maps.{value_of}
use Rattle.rbc_settle.specs.Numbers.{has_number}
use Rattle.rbc_records.specs.declared.record.Key.TheVariants as key
use Rattle.rbc_records.specs.declared.record.Rec.TheVariants as rec
use Rattle.rbc_records.specs.Notes.{same_key}
use Rattle.rbc_rule.specs.declared.input.Input.TheVariants.{Received}
use Rattle.rbc_rule.specs.declared.outcome.Reply.TheVariants.{Refused}
use Rattle.rbc_rule.specs.Codes.{code_of}
use Rattle.rbc_rule.specs.Effect.{engine_of}
use Rattle.rbc_rule.specs.World.{World}
use Rattle.rbc_rule.specs.Right.{MayBe}
use Rattle.rbc_rule.specs.Touching.{may_be_told}
use Rattle.rbc_rule.specs.Lists.{engines_at, moves}
use Rattle.rbc_rule.specs.Gathered.{heard_outcome}
use Rattle.rbc_rule.proofs.GatherKnown.{extends_on}
use Rattle.rbc_rule.proofs.Worlds.{may_have_been, refusal_is}
use Rattle.rbc_rule.proofs.Acknowledging.{noted}
use Rattle.rbc_rule.proofs.Deciding.{fault_decides, outcome_decides, refusal_decides, silent_gives}
use Rattle.rbc_rule.proofs.Engines.{list_of_is}
use Rattle.rbc_rule.proofs.EachChanges.{heard_changes}
use Rattle.rbc_rule.proofs.OneTrain.{receive_refused, receive_right, comes_anew}
use Rattle.rbc_rule.proofs.receive.receive.Goals as goal

pub returns-in_err-before : goal.returns-in_err-before
returns-in_err-before g c =
    let residual = c.from_residual-in_err-before in
    fault_decides residual.result c.in_err-before.field-0.0 residual.ensures.1 (c.in_err-before.ensures.fault c.args.track.now) c.fetch_with_spare.ensures.reads.extends c.in_ok-spare.ensures.reads.failed

pub returns-in-Err-Refused : goal.returns-in-Err-Refused
returns-in-Err-Refused g c =
    let plan = c.args.track.now in
    let code = code_of c.in-Err-Refused.refusal in
    let refused : c.refused-in-Err-Refused.result ≡ record { result = Refused code; writes = []; messages = [] } = search rules in
    refusal_decides code c.refused-in-Err-Refused.result refused
    (λ w m.
    let found = sym (ap option_copied c.in-Some.is) ∙ c.in_ok-before.ensures.train plan w m ∙ ap (value_of w.trains) c.engine_of-engine.ensures in
    receive_refused plan c.args.message.now w c.in-Some.before.now found code (refusal_is _ c.in-Err-Refused.field-0 c.in-Err-Refused.refusal c.in-Err-Refused.field-0-is c.in-Err-Refused.ensures.err))
    c.fetch_with_spare.ensures.reads.extends c.in_ok-spare.ensures.reads.failed

-- a train that leaves its list comes anew into the other
pub moves-requires-clause-comes : goal.moves-requires-clause-comes
moves-requires-clause-comes g c = λ plan w m apart.
    let found = sym (ap option_copied c.in-Some.is) ∙ c.in_ok-before.ensures.train plan w m ∙ ap (value_of w.trains) c.engine_of-engine.ensures in
    let left = c.list_of-left.ensures.list in
    let entered = c.list_of-entered.ensures.list in
    (λ i. has_number (engines_at w (entered i)) (c.engine_of-engine.ensures i))
    ∙ comes_anew plan c.args.message.now w c.in-Some.before.now found _ m.well_formed (list_of_is c.in-Ok.train) (sym (λ i. same_key (left i) (entered i)) ∙ apart)

-- what was read is the world's, so the outcome is the step's
pub returns-then-settles : goal.returns-then-settles
returns-then-settles g c =
    outcome_decides (Received c.args.message.now) c.received.result c.received.ensures (extends_on c.fetch_with_spare.ensures.reads.extends c.moves.ensures.reads.extends)
    (c.in_ok-moved.ensures.reads.failed ∙ c.in_ok-spare.ensures.reads.failed)
    (λ w outcome m is.
    let plan = c.args.track.now in
    let engine = c.engine_of-engine.ensures in
    let before = may_have_been c.received.ensures.extends m in
    let found = sym (ap option_copied c.in-Some.is) ∙ c.in_ok-before.ensures.train plan w (may_have_been c.moves.ensures.reads.extends before) ∙ ap (value_of w.trains) engine in
    let moved = c.in_ok-moved.ensures.writes plan w before ∙ (λ i. moves w (engine i) (c.list_of-left.ensures.list i) (c.list_of-entered.ensures.list i)) in
    let made = is ∙ (λ i. heard_outcome plan w.stops w.limits (engine i) c.in-Ok.train (moved i)) in (
      receive_right plan c.args.message.now w c.in-Some.before.now found c.in-Ok.train outcome c.in-Ok.ensures.ok made m.well_formed,
      heard_changes plan c.args.message.now w c.in-Some.before.now c.in-Ok.train m.well_formed.ascending found outcome made,
    ))

-- a train that stays settled is sent nothing
pub returns-else-settles : goal.returns-else-settles
returns-else-settles g c =
    let plan = c.args.track.now in
    let quiet : may_be_told c.args.message.now c.in-Some.before.now c.in-Ok.train ≡ false = sym c.may_be_told-settles.ensures ∙ c.if-settles.false in
    let engine = c.engine_of-engine.ensures in
    let found = λ (w : World) (m : MayBe plan (g.S.Reader.notes c.moves.new.store) w). sym (ap option_copied c.in-Some.is) ∙ c.in_ok-before.ensures.train plan w (may_have_been c.moves.ensures.reads.extends m) ∙ ap (value_of w.trains) engine in
    outcome_decides (Received c.args.message.now) c.noted.result
    (silent_gives {outcome_in = λ w. heard_outcome plan w.stops w.limits c.engine_of-engine.result c.in-Ok.train c.in_ok-moved.moved} (c.in_ok-moved.moved ++ (key.Train c.engine_of-engine.result, Some (rec.Train c.in-Ok.train)) ∷ []) c.noted.result c.noted.ensures.ok c.noted.ensures.err
    (λ w m. noted plan w c.args.message.now (engine_of c.args.message.now) c.in-Some.before.now c.in-Ok.train m.well_formed (found w m) c.in-Ok.ensures.ok quiet c.in_ok-moved.moved c.engine_of-engine.result))
    (extends_on c.fetch_with_spare.ensures.reads.extends c.moves.ensures.reads.extends)
    (c.in_ok-moved.ensures.reads.failed ∙ c.in_ok-spare.ensures.reads.failed)
    (λ w outcome m is.
    let moved = c.in_ok-moved.ensures.writes plan w m ∙ (λ i. moves w (engine i) (c.list_of-left.ensures.list i) (c.list_of-entered.ensures.list i)) in
    let made = is ∙ (λ i. heard_outcome plan w.stops w.limits (engine i) c.in-Ok.train (moved i)) in (
      receive_right plan c.args.message.now w c.in-Some.before.now (found w m) c.in-Ok.train outcome c.in-Ok.ensures.ok made m.well_formed,
      heard_changes plan c.args.message.now w c.in-Some.before.now c.in-Ok.train m.well_formed.ascending (found w m) outcome made,
    ))
