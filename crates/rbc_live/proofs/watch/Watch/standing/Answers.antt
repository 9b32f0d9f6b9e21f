use Rattle.std.proofs.Common.{◌≡◌, ◌∙◌, ◌||◌, take, sym, ap, subst, arith}
use Rattle.std.specs.List.{flat_map}
use Rattle.std.proofs.lemmas.List.{take_all}
use Rattle.rbc_maps.specs.Maps.{has}
use Rattle.rbc_settle.specs.Numbers.{AreNumbers, has_number}
use Rattle.rbc_live.specs.Watching.{none_seen, seen_in, seen_lines}
use Rattle.rbc_live.proofs.Following.{lines_stand}
use Rattle.rbc_live.proofs.watch.Watch.standing.Goals as goal

pub returns : goal.returns
returns c =
    let engines = c.as_slice-engine-items.result.now in
    let all : take c.loop-engine.engine-index engines ≡ engines = take_all c.loop-engine.engine-index engines (omega arith) in
    lines_stand c.args.input c.args.self.now engines c.loop-engine.text.items
    (λ engine. ap (λ ns. has_number ns engine) c.as_slice-engine-items.ensures.value ∙ c.in_ok-note_kept.ensures engine ∙ ap (λ ns. has_number ns engine || has c.args.self.now engine) c.new-engines.ensures)
    (subst AreNumbers (sym c.as_slice-engine-items.ensures.value) c.as_slice-engine-items.ensures.sound)
    (c.loop-engine.invariant ∙ ap (flat_map (seen_lines c.args.input none_seen (seen_in c.args.self.now))) all)
