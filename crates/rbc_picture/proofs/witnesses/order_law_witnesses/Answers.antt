use Rattle.std.proofs.Common.{◌≤◌, arith}
use Rattle.rbc_picture.proofs.witnesses.order_law_witnesses.Goals as goal

pub returns-clause-broken : goal.returns-clause-broken
returns-clause-broken c = λ keeps.
    let falls : 5988 ≤ 400 = keeps.rises 499 500 (omega arith) in
    omega (arith, falls)
