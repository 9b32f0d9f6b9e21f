use Rattle.std.proofs.Common.{rules, None}
use Rattle.rbc_place.specs.Reporting.{IsReportAt}
use Rattle.rbc_place.proofs.Reports.{leads_back}
use Rattle.rbc_place.proofs.reporting.report_at.Goals as goal

pub returns-clause-leads_back : goal.returns-clause-leads_back
returns-clause-leads_back c =
    let told = c.told_at-told.result in
    let code = c.code_of-code.result in
    let is : IsReportAt c.args.track.now c.args.line c.args.place c.args.facing c.args.doubt (record {
      previous = None;
      scale = c.least_scale-scale.result;
      lrbg = c.in_ok-lrbg.lrbg;
      distance = told.distance;
      dir = code;
      side = code;
      over = told.over;
      under = told.under;
    }) = search rules in
    λ length. leads_back _ _ _ _ _ _ length is
