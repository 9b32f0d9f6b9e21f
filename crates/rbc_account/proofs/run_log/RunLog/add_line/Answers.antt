use Rattle.std.proofs.Common.{◌∙◌, refl, sym}
use Rattle.rbc_account.proofs.Logging.{IsStepped, line_passed, line_shown_if}
use Rattle.rbc_account.proofs.run_log.RunLog.add_line.Goals as goal

-- the line is not told, whatever comes of it
pub returns-then-passes_next-clause-added : goal.returns-then-passes_next-clause-added
returns-then-passes_next-clause-added g c = λ wanted start lines old new is within.
    let answer = c.in_ok-_answer._answer in
    line_passed (g.F.LogForm.is_text c.args.form.now) wanted start lines c.args.line.now c.args.self.now _ old new answer.reply answer.messages is within c.requires.few
    c.in_ok-_answer.ensures.fed c.in_ok-_answer.ensures.track c.in_ok-_answer.ensures.sums c.in_ok-_answer.ensures.told
    (c.passes_next.ensures.passed c.if-passes_next.true answer.reply) refl refl refl refl

-- it is not told, since it was accepted
pub returns-then-not-has_block-clause-added : goal.returns-then-not-has_block-clause-added
returns-then-not-has_block-clause-added g c = λ wanted start lines old new is within.
    let block = c.in_ok-block.block in
    line_passed (g.F.LogForm.is_text c.args.form.now) wanted start lines c.args.line.now c.args.self.now _ old new block.reply block.messages is within c.requires.few
    c.in_ok-block.ensures.fed c.in_ok-block.ensures.track c.in_ok-block.ensures.sums c.in_ok-block.ensures.told
    (c.passes_next.ensures.told c.if-passes_next.false block.reply ∙ sym c.if-not-has_block.ensures) refl refl refl refl

-- the block is that of the line
pub add_block-requires : goal.add_block-requires
add_block-requires g c = (
  c.args.self.now.account,
  record {
    input = c.in_ok-block.ensures.input;
    sendable = c.in_ok-block.ensures.fit;
    paired = c.in_ok-block.ensures.paired;
    right = c.in_ok-block.ensures.right;
    known = c.in_ok-block.ensures.known;
  },
)

-- it is told
pub returns-clause-added : goal.returns-clause-added
returns-clause-added g c = λ wanted start lines old new is within.
    let block = c.in_ok-block.block in
    let step : IsStepped c.args.self.now.account c.args.line.now c.step.new.self block = record {
      fed = c.in_ok-block.ensures.fed;
      track = c.in_ok-block.ensures.track;
      sums = c.in_ok-block.ensures.sums;
      places = c.in_ok-block.ensures.told;
      of = record {
        input = c.in_ok-block.ensures.input;
        sendable = c.in_ok-block.ensures.fit;
        paired = c.in_ok-block.ensures.paired;
        right = c.in_ok-block.ensures.right;
        known = c.in_ok-block.ensures.known;
      };
      number = c.in_ok-block.ensures.number;
    } in
    line_shown_if c.add_block.result (g.F.LogForm.is_text c.args.form.now) wanted start lines c.args.line.now c.args.self.now c.add_block.new.self c.step.new.self old new block is within
    c.requires.few c.add_block.ensures.account step (c.passes_next.ensures.told c.if-passes_next.false block.reply ∙ sym c.if-not-has_block.ensures) c.add_block.ensures.wanted
    c.add_block.ensures.headed c.add_block.ensures.added c.add_block.ensures.sent
