use Rattle.std.proofs.Common.{slice_index, sym, ap, ◌∙◌, arith, inl, inr}
use Rattle.std.proofs.lemmas.Bool.{cases_eq}
use Rattle.std.proofs.lemmas.List.{get_or-set_other, length-set}
use Rattle.std.proofs.lemmas.Grind.{get_or-set_at}
use Rattle.rbc_maps.proofs.chain.led_on.Goals as goal

pub loop-slot-preserved : goal.loop-slot-preserved
loop-slot-preserved g c =
    let long = c.loop-slot.invariant.0 in
    let test = c.loop-slot-test.true in (
      length-set c.loop-slot.led c.loop-slot.slot c.led_to.result ∙ long,
      λ k below. elim (cases_eq k c.loop-slot.slot) [
        | inl same ↦
            get_or-set_at c.loop-slot.led c.loop-slot.slot k c.led_to.result 0 same (omega (arith, long, test))
            ∙ c.led_to.ensures ∙ ap (λ n. slice_index c.args.first.now (slice_index c.args.own.now n)) (sym same)
        | inr other ↦ get_or-set_other c.loop-slot.led c.loop-slot.slot k c.led_to.result 0 other ∙ c.loop-slot.invariant.1 k (omega (arith, below, other))
      ],
    )
