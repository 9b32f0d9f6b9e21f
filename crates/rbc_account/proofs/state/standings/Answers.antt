use Rattle.std.proofs.Common.{option_map, sym, ap, ◌∙◌, ◌+◌, arith}
use Rattle.std.specs.List.{filter_map}
use Rattle.rbc_account.specs.Standings.{owed_by, waiting_of, waiting_told}
use Rattle.rbc_account.specs.Totals.{owed_told}
use Rattle.rbc_account.proofs.Listing.{made_and_left, begun, none_made, one_made, all_made}
use Rattle.rbc_account.proofs.state.standings.Goals as goal
use Rattle.rbc_account.proofs.state.standings.Goals.{in-Some+in_ok-push, in_default}

pub loop-engine-init : goal.loop-engine-init
loop-engine-init c =
    let waits = waiting_of c.args.desk.now.track.horizon c.args.desk.now.records in
    let owed = owed_by c.args.desk.now.records in
    let engines = c.engines_in-engine-items.result.now in
    record {
      waits = ap (λ made. made_and_left waits waiting_told engines 0 made 0) c.new-all.ensures.items ∙ begun waits waiting_told engines 0 ∙ ap (filter_map waits) c.engines_in-engine-items.ensures;
      owed = ap (λ made. made_and_left owed owed_told engines 0 made 0) c.new-all.ensures.items ∙ begun owed owed_told engines 0 ∙ ap (filter_map owed) c.engines_in-engine-items.ensures;
    }

pub loop-engine-preserved : goal.loop-engine-preserved
loop-engine-preserved c =
    let waits = waiting_of c.args.desk.now.track.horizon c.args.desk.now.records in
    let owed = owed_by c.args.desk.now.records in
    let engines = c.engines_in-engine-items.result.now in
    let index = c.loop-engine.engine-index in
    let made = c.loop-engine.all.items in
    let within = c.loop-engine-test.true in
    elim c.match-branch-2.branch [
      | in-Some+in_ok-push w ↦ record {
        waits = ap (λ all. made_and_left waits waiting_told engines 0 all (index + 1)) (ap (λ all. all.items) w.all-is ∙ w.in_ok-push.ensures.items)
            ∙ one_made waits waiting_told engines 0 made w.in-Some.standing index within (sym c.in_ok-standing.ensures.waits ∙ ap (option_map waiting_told) w.in-Some.is)
            ∙ c.loop-engine.invariant.waits;
        owed = ap (λ all. made_and_left owed owed_told engines 0 all (index + 1)) (ap (λ all. all.items) w.all-is ∙ w.in_ok-push.ensures.items)
            ∙ one_made owed owed_told engines 0 made w.in-Some.standing index within (sym c.in_ok-standing.ensures.owed ∙ ap (option_map owed_told) w.in-Some.is)
            ∙ c.loop-engine.invariant.owed;
      }
      | in_default w ↦ record {
        waits = ap (λ all. made_and_left waits waiting_told engines 0 all (index + 1)) (ap (λ all. all.items) w.all-is)
            ∙ none_made waits waiting_told engines 0 made index within (sym c.in_ok-standing.ensures.waits ∙ ap (option_map waiting_told) w.in_default.is)
            ∙ c.loop-engine.invariant.waits;
        owed = ap (λ all. made_and_left owed owed_told engines 0 all (index + 1)) (ap (λ all. all.items) w.all-is)
            ∙ none_made owed owed_told engines 0 made index within (sym c.in_ok-standing.ensures.owed ∙ ap (option_map owed_told) w.in_default.is)
            ∙ c.loop-engine.invariant.owed;
      }
    ]

pub returns : goal.returns
returns c =
    let waits = waiting_of c.args.desk.now.track.horizon c.args.desk.now.records in
    let owed = owed_by c.args.desk.now.records in
    let engines = c.engines_in-engine-items.result.now in
    let made = c.loop-engine.all.items in
    let index = c.loop-engine.engine-index in
    record {
      waits = sym (all_made waits waiting_told engines 0 made index (omega arith)) ∙ c.loop-engine.invariant.waits;
      owed = sym (all_made owed owed_told engines 0 made index (omega arith)) ∙ c.loop-engine.invariant.owed;
    }
