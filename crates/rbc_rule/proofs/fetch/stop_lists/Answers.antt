use Rattle.std.proofs.Common.{rules, ◌<◌, ◌≤◌, ◌+◌, length, subst, arith, ◌∙◌}
use Rattle.std.proofs.lemmas.List.{take_all}
use Rattle.rbc_settle.specs.Numbers.{IsUnion}
use Rattle.rbc_rule.specs.Lists.{AreEnginesOf, engines_at, may_stop}
use Rattle.rbc_rule.proofs.GatherKnown.{extends_on}
use Rattle.rbc_rule.proofs.Worlds.{may_have_been}
use Rattle.rbc_rule.proofs.Engines.{no_line_yet, one_more_line}
use Rattle.rbc_rule.proofs.fetch.stop_lists.Goals as goal

pub loop-segment-init : goal.loop-segment-init
loop-segment-init g c =
    let few : length c.in_ok-engines.engines ≤ 2000 = search rules in
    record {
      engines = λ plan w m. no_line_yet w c.in_ok-engines.engines _ m.well_formed.ascending c.new-nobody.ensures (c.in_ok-engines.ensures.both plan w m);
      few = few;
      extends = c.in_ok-engines.ensures.reads.extends;
      failed = c.in_ok-engines.ensures.reads.failed;
    }

pub loop-segment-preserved : goal.loop-segment-preserved
loop-segment-preserved g c =
    let so_far = c.loop-segment.invariant in
    let new = c.in_ok-engines-2 in
    let within : c.loop-segment.segment-index < length c.args.segments.now = search rules in
    let few_so_far = so_far.few in
    let few : length new.engines ≤ length c.loop-segment.engines + 2000 = new.ensures.few in
    record {
      engines = λ plan w m.
          one_more_line w c.args.segments.now c.loop-segment.segment-index _ c.loop-segment.engines new.engines m.well_formed.ascending within
          (so_far.engines plan w (may_have_been c.with_list-in-loop-segment.ensures.reads.extends m))
          (subst (λ list. IsUnion new.engines c.loop-segment.engines (engines_at w list)) c.line_of.ensures.line (new.ensures.both plan w m));
      few = omega (arith, few_so_far, few);
      extends = extends_on so_far.extends new.ensures.reads.extends;
      failed = new.ensures.reads.failed ∙ so_far.failed;
    }

pub returns-clause-engines : goal.returns-clause-engines
returns-clause-engines g c = λ plan w m.
    let past : length c.args.segments.now ≤ c.loop-segment.segment-index = search rules in
    subst (λ segments. AreEnginesOf (may_stop segments) w c.loop-segment.engines) (take_all c.loop-segment.segment-index c.args.segments.now past) (c.loop-segment.invariant.engines plan w m)
