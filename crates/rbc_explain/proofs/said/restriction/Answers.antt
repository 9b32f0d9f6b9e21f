use Rattle.std.proofs.Common.{◌≡◌, ◌+◌, ◌*◌, refl, ap, arith}
use Rattle.rbc_explain.proofs.Meaning.{restriction_told}
use Rattle.rbc_explain.proofs.said.restriction.Goals as goal

pub returns-in_err-origin-clause-all : goal.returns-in_err-origin-clause-all
returns-in_err-origin-clause-all c = λ stretch told. let bad = c.in_err-origin.ensures.all stretch.line stretch.origin stretch.way stretch.unit told.counts in absurd cc

pub returns : goal.returns
returns c =
    let second = c.from-2.ensures in
    let third = c.from-3.ensures in
    let ends : c.from-2.result + c.from-3.result ≡ c.args.start + c.args.length = omega (arith, second, third) in
    record {
      is = restriction_told c.args.track.now c.args.lrbg c.args.dir c.args.scale c.args.start c.args.length c.args.speed c.from.result (c.from-2.result + c.from-3.result) (5 * c.from-4.result)
          c.in_ok-origin.origin c.spot_ahead-from.result c.spot_ahead-to.result c.in_ok-origin.ensures.counts c.from.ensures ends (ap (λ n. 5 * n) c.from-4.ensures) c.spot_ahead-from.ensures.ahead c.spot_ahead-to.ensures.ahead;
      all = λ stretch told. refl;
    }
