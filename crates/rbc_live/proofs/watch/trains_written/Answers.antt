use Rattle.std.proofs.Common.{◌∙◌, List, ℕ, sym, ap}
use Rattle.rbc_settle.specs.Numbers.{has_number}
use Rattle.rbc_live.proofs.Following.{none_more_written, one_more_written}
use Rattle.rbc_live.proofs.watch.trains_written.Goals as goal
use Rattle.rbc_live.proofs.watch.trains_written.Goals.{in-Some+in_ok-note, in_default}

pub loop-index-preserved : goal.loop-index-preserved
loop-index-preserved c =
    let writes = c.args.writes.now in
    let index = c.loop-index.index in
    let old = c.loop-index.engines in
    elim c.match-engine_of.branch [
      | in-Some+in_ok-note w ↦ λ n.
          ap (λ (all : List ℕ). has_number all n) w.engines-is
          ∙ one_more_written writes index _ old w.note.new.engines w.in-Some.engine c.at.ensures (sym c.engine_of.ensures ∙ w.in-Some.is) w.in_ok-note.ensures c.loop-index.invariant n
      | in_default w ↦ λ n.
          ap (λ (all : List ℕ). has_number all n) w.engines-is
          ∙ none_more_written writes index _ old c.at.ensures (sym c.engine_of.ensures ∙ w.in_default.is) c.loop-index.invariant n
    ]
