use Rattle.std.proofs.Common.{◌≡◌, ◌+◌, ◌++◌, ◌∷◌, [], length, refl, sym, subst, arith, length-append}
use Rattle.rbc_account.proofs.Reading.{line_given, none_given, given_as, few_given, few_at_end}
use Rattle.rbc_picture.specs.Drawn.{HasTaken}
use Rattle.rbc_picture.proofs.Taking.{none_taken}
use Rattle.rbc_picture.proofs.batch_picture.take_lines.Goals as goal

-- no line was given
pub loop-lines-init : goal.loop-lines-init
loop-lines-init g c =
    ([], c.new-lines.ensures (g.R.Read.remaining c.args.input.now), refl, λ plan has. subst (HasTaken plan c.args.account.now) (sym (none_taken c.args.after)) has)

-- it can be counted
pub overflow_add-count : goal.overflow_add-count
overflow_add-count g c =
    let (lines, has, many, takes) = c.loop-lines.invariant in
    let next = line_given (g.R.Read.remaining c.args.input.now) (g.R.Read.remaining c.advance.new.reader) c.advance.new.self lines c.in_ok-advance.field-0 c.if-branch.true
    (c.in_ok-advance.ensures (g.R.Read.remaining c.args.input.now) lines has) in
    let few = few_given (g.R.Read.remaining c.args.input.now) (g.R.Read.remaining c.advance.new.reader) c.advance.new.self (lines ++ c.advance.new.self.line.items ∷ []) next in
    let count : length (lines ++ c.advance.new.self.line.items ∷ []) ≡ length lines + 1 = length-append lines (c.advance.new.self.line.items ∷ []) in
    omega (arith, few, count, many)

-- one more was given
pub loop-lines-preserved : goal.loop-lines-preserved
loop-lines-preserved g c =
    let (lines, has, many, takes) = c.loop-lines.invariant in
    let next = line_given (g.R.Read.remaining c.args.input.now) (g.R.Read.remaining c.advance.new.reader) c.advance.new.self lines c.in_ok-advance.field-0 c.if-branch.true
    (c.in_ok-advance.ensures (g.R.Read.remaining c.args.input.now) lines has) in
    let count : length (lines ++ c.line.result.now ∷ []) ≡ length lines + 1 = length-append lines (c.line.result.now ∷ []) in (
      lines ++ c.line.result.now ∷ [],
      given_as (g.R.Read.remaining c.args.input.now) (g.R.Read.remaining c.advance.new.reader) c.advance.new.self lines c.line.result.now c.line.ensures next,
      omega (arith, many, count),
      λ plan start. c.in_ok-pass_among.ensures plan lines (sym many) (takes plan start),
    )

-- all were given
pub returns : goal.returns
returns g c = λ plan start.
    let (lines, has, many, takes) = c.loop-lines.invariant in
    let over = c.in_ok-advance.ensures (g.R.Read.remaining c.args.input.now) lines has in
    let few = few_at_end (g.R.Read.remaining c.args.input.now) (g.R.Read.remaining c.advance.new.reader) c.advance.new.self lines c.in_ok-advance.field-0 c.if-branch.false over in (
      lines,
      none_given (g.R.Read.remaining c.args.input.now) (g.R.Read.remaining c.advance.new.reader) c.advance.new.self lines c.in_ok-advance.field-0 c.if-branch.false over,
      many,
      omega (arith, many, few),
      takes plan start,
    )
