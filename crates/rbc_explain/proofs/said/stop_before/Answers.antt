use Rattle.std.proofs.Common.{rules, ◌≡◌, false, refl}
use Rattle.rbc_explain.proofs.Meaning.{stop_told}
use Rattle.rbc_explain.proofs.said.stop_before.Goals as goal

pub returns-in_err-origin-clause-all : goal.returns-in_err-origin-clause-all
returns-in_err-origin-clause-all c = λ spot told. let bad = c.in_err-origin.ensures.all spot.line spot.origin spot.way spot.unit told.counts in absurd cc

pub returns : goal.returns
returns c =
    let not_before : c.spot_ahead-spot.result.is_before ≡ false = search rules in
    record {
      is = stop_told c.args.track.now c.args.lrbg c.args.dir c.args.scale c.args.distance c.from.result c.in_ok-origin.origin c.spot_ahead-spot.result c.in_ok-origin.ensures.counts c.from.ensures c.spot_ahead-spot.ensures.ahead not_before;
      all = λ spot told. refl;
    }
