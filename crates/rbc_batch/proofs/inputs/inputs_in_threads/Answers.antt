use Rattle.std.proofs.Common.{ap, ◌∙◌, rules}
use Rattle.rayon.specs.Lists.{min_len_base}
use Rattle.rayon.proofs.ListFacts.{AllZip-weaken}
use Rattle.rayon.proofs.ToStd.{slice-AllZip}
use Rattle.rbc_batch.proofs.LineInputs.{IsRead, all_are_inputs, all_fit}
use Rattle.rbc_batch.proofs.inputs.inputs_in_threads.Goals as goal

-- what each line came to, in order
pub returns : goal.returns
returns g c =
    let lines = c.args.lines.now in
    let done = c.in_ok-collect.ensures in
    let base = ap min_len_base c.map.ensures.base ∙ c.with_min_len.ensures.base in
    let slice = ap (λ it. it.slice.now) base ∙ c.par_iter.ensures in
    let reads = AllZip-weaken _ (λ line read. IsRead line.now read) (λ line read is. search rules) done.1.0 done.0 done.1.2 in
    let each = slice-AllZip done.1.0 lines (done.1.1 ∙ slice) IsRead done.0 reads in
    record {
      inputs = all_are_inputs lines done.0 c.in_ok-collect.field-0 each done.2;
      fit = all_fit lines done.0 c.in_ok-collect.field-0 each done.2;
    }
