use Rattle.std.proofs.Common.{◌≤◌, ◌<◌, length, arith}
use Rattle.std.proofs.lemmas.List.{length-map}
use Rattle.rbc_text.specs.BatchText.{lines_of}
use Rattle.ertms_codec.specs.Pieces.{texts_of}
use Rattle.rbc_batch.proofs.TooManyLines.{too_many, all_of_them}
use Rattle.rbc_batch.proofs.batch.admit.Goals as goal

-- there are more lines than a run may have
pub returns-then-len-gt-MAX_INPUTS-clause-refused : goal.returns-then-len-gt-MAX_INPUTS-clause-refused
returns-then-len-gt-MAX_INPUTS-clause-refused c =
    let lines = c.in_ok-lines.lines.items in
    let as_many = length-map lines (λ slice. slice.now) in
    let counted = c.len.ensures in
    let more = c.if-len-gt-MAX_INPUTS.true in
    let none = c.if-workers-eq0.false in
    let few = c.if-workers-gt-MAX_WORKERS.false in
    let many : 100000 < length (texts_of lines) = omega (arith, as_many, counted, more) in
    ((omega (arith, none), omega (arith, few)), too_many 100000 (texts_of lines) (lines_of c.args.batch.now) c.in_ok-lines.ensures.cut many)

-- all are there
pub returns-clause-lines : goal.returns-clause-lines
returns-clause-lines c =
    let lines = c.in_ok-lines.lines.items in
    let as_many = length-map lines (λ slice. slice.now) in
    let counted = c.len.ensures in
    let fewer = c.if-len-gt-MAX_INPUTS.false in
    let few : length (texts_of lines) ≤ 100000 = omega (arith, as_many, counted, fewer) in
    all_of_them 100000 (texts_of lines) (lines_of c.args.batch.now) c.in_ok-lines.ensures.cut few
