use Rattle.std.proofs.Common.{rules, ◌≡◌, length, ◌∙◌}
use Rattle.std.specs.List.{filter}
use Rattle.rbc_account.specs.Totals.{total, owed_told, is_owing_told, untold_told, again_told}
use Rattle.rbc_account.proofs.Totals.{owed_of_all, owing_of_all, untold_of_all, again_of_all}
use Rattle.rbc_account.proofs.state.standing_on.Goals as goal

pub returns : goal.returns
returns c =
    let horizon = c.args.desk.now.track.horizon in
    let records = c.args.desk.now.records in
    let trains = c.in_ok-trains.trains.items in
    let waits = c.in_ok-trains.ensures.waits in
    let owed = c.in_ok-trains.ensures.owed in
    record {
      waits = waits;
      of_stops = search rules;
      of_limits = search rules;
      owed_each = owed;
      owed = (let told : c.totals_of-totals.result.acknowledgements ≡ total owed_told trains = search rules in told) ∙ owed_of_all records trains owed;
      owing = (let told : c.owing_of-owing.result ≡ length (filter is_owing_told trains) = search rules in told) ∙ owing_of_all records trains owed;
      untold = (let told : c.totals_of-totals.result.untold ≡ total untold_told trains = search rules in told) ∙ untold_of_all horizon records trains waits;
      untold_again = (let told : c.totals_of-totals.result.untold_again ≡ total again_told trains = search rules in told) ∙ again_of_all horizon records trains waits;
    }
