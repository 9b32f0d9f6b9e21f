use Rattle.std.proofs.Common.{◌≡◌, ◌∙◌, sym}
use Rattle.ertms_codec.specs.Layout.{value_at}
use Rattle.ertms_codec.proofs.Places.{takes_at}
use Rattle.ertms_codec.proofs.position_reader.previous_group.Goals as goal

pub returns-then-number-eq1-clause-value : goal.returns-then-number-eq1-clause-value
returns-then-number-eq1-clause-value c packet at number =
    let one : value_at 0 8 packet ≡ 1 = sym number ∙ c.if-number-eq1.true in
    let previous = takes_at packet 47 at c.next.ensures in
    (rw (one, previous.0), rw one previous.1)
