use Rattle.std.proofs.Common.{◌≡◌, Some, None, refl, sym, subst, string_bytes}
use Rattle.rbc_track.specs.Plan.{Plan}
use Rattle.rbc_track.specs.Reading.{IsTrackOf}
use Rattle.rbc_account.specs.Telling.{TooFewFor}
use Rattle.rbc_account.specs.declared.fault.TellError.TheVariants as telling
use Rattle.rbc_picture.specs.Selections.{lines_fault}
use Rattle.rbc_picture.proofs.Failing.{not_told, off_track, stays_unread}
use Rattle.rbc_picture.proofs.Taking.{takes_none, not_taken, unread, lacks, told, drawn_of_run, fails_in_run, fails_in_run_unread}
use Rattle.rbc_picture.proofs.batch_picture.picture.Goals as goal

-- the text is not a track
pub returns-in_err-track-clause-draws : goal.returns-in_err-track-clause-draws
returns-in_err-track-clause-draws g c =
    not_told (Unit {0}) c.args.text.now c.args.after c.args.selection.now _ _ (telling.Track c.in_err-track.field-0.0) _ c.from_residual.ensures.1 c.in_err-track.ensures.refused

-- a line that is named is not on it
pub returns-in_err-check_lines-clause-draws : goal.returns-in_err-check_lines-clause-draws
returns-in_err-check_lines-clause-draws g c =
    let is = subst (IsTrackOf c.args.text.now) (sym c.new-account.ensures.track) c.in_ok-track.ensures.track in
    off_track c.args.text.now c.new-account.result.desk.track c.args.after c.args.selection.now _ _ c.in_err-check_lines.field-0.0 _
    c.from_residual-in_err-check_lines.ensures.1 is
    (subst (λ (plan : Plan). lines_fault plan c.args.selection.now ≡ Some c.in_err-check_lines.field-0.0) c.track.ensures c.in_err-check_lines.ensures.err)
    c.in_err-check_lines.ensures.lines

pub returns-in_err-check_lines-clause-unread : goal.returns-in_err-check_lines-clause-unread
returns-in_err-check_lines-clause-unread g c =
    stays_unread c.in_err-check_lines.field-0.0 _ _ c.from_residual-in_err-check_lines.ensures.1 c.in_err-check_lines.ensures.lines

-- the lines could not be read
pub returns-in_err-count-clause-draws : goal.returns-in_err-count-clause-draws
returns-in_err-count-clause-draws g c =
    let account = c.new-account.result in
    let plan = account.desk.track in
    not_told (Unit {0}) c.args.text.now c.args.after c.args.selection.now (g.R.Read.remaining c.args.input.now) (g.R.Read.remaining c.take_lines.new.input) c.in_err-count.field-0.0
    c.from_residual-in_err-count.result c.from_residual-in_err-count.ensures.1
    (not_taken (Unit {0}) (TooFewFor c.args.after) c.args.text.now plan c.args.after c.take_lines.new.account (g.R.Read.remaining c.args.input.now)
    (g.R.Read.remaining c.take_lines.new.input) c.in_err-count.field-0.0
    (c.in_err-count.ensures plan (takes_none plan account refl c.new-account.ensures.empty c.new-account.ensures.sums)))

pub returns-in_err-count-clause-unread : goal.returns-in_err-count-clause-unread
returns-in_err-count-clause-unread g c =
    let account = c.new-account.result in
    let plan = account.desk.track in
    unread c.from_residual-in_err-count.result plan c.args.after c.take_lines.new.account (g.R.Read.remaining c.args.input.now) (g.R.Read.remaining c.take_lines.new.input)
    c.in_err-count.field-0.0 _ _ c.from_residual-in_err-count.ensures.1
    (c.in_err-count.ensures plan (takes_none plan account refl c.new-account.ensures.empty c.new-account.ensures.sums))

-- there are too few
pub returns-then-is_below-clause-draws : goal.returns-then-is_below-clause-draws
returns-then-is_below-clause-draws g c =
    let account = c.new-account.result in
    let plan = account.desk.track in
    lacks (Unit {0}) (TooFewFor c.args.after) c.args.text.now plan c.args.after c.take_lines.new.account (g.R.Read.remaining c.args.input.now) (g.R.Read.remaining c.take_lines.new.input)
    c.in_ok-count.count (c.in_ok-count.ensures plan (takes_none plan account refl c.new-account.ensures.empty c.new-account.ensures.sums))
    (c.is_below.ensures.few c.if-is_below.true)

-- the train that is named is not there, or memory was refused
pub returns-in_err-picture-clause-draws : goal.returns-in_err-picture-clause-draws
returns-in_err-picture-clause-draws g c =
    let is = subst (IsTrackOf c.args.text.now) (sym c.new-account.ensures.track) c.in_ok-track.ensures.track in
    let account = c.new-account.result in
    let plan = account.desk.track in
    fails_in_run c.args.text.now plan c.args.after c.args.selection.now c.take_lines.new.account (g.R.Read.remaining c.args.input.now) (g.R.Read.remaining c.take_lines.new.input)
    c.in_ok-count.count c.in_err-picture.field-0.0 c.from_residual-in_err-picture.result c.from_residual-in_err-picture.ensures.1 is
    (c.in_ok-count.ensures plan (takes_none plan account refl c.new-account.ensures.empty c.new-account.ensures.sums))
    (λ lines. c.in_err-picture.ensures.fails plan lines)

pub returns-in_err-picture-clause-unread : goal.returns-in_err-picture-clause-unread
returns-in_err-picture-clause-unread g c =
    let account = c.new-account.result in
    let plan = account.desk.track in
    fails_in_run_unread plan c.args.after c.args.selection.now c.take_lines.new.account (g.R.Read.remaining c.args.input.now) (g.R.Read.remaining c.take_lines.new.input)
    c.in_ok-count.count c.in_err-picture.field-0.0 c.from_residual-in_err-picture.result _ _ c.from_residual-in_err-picture.ensures.1
    (c.in_ok-count.ensures plan (takes_none plan account refl c.new-account.ensures.empty c.new-account.ensures.sums))
    (λ lines. c.in_err-picture.ensures.fails plan lines)

pub returns-clause-draws : goal.returns-clause-draws
returns-clause-draws g c =
    let is = subst (IsTrackOf c.args.text.now) (sym c.new-account.ensures.track) c.in_ok-track.ensures.track in
    let account = c.new-account.result in
    let plan = account.desk.track in
    told c.in_ok-picture.picture (TooFewFor c.args.after) c.args.text.now plan c.args.after c.take_lines.new.account (g.R.Read.remaining c.args.input.now)
    (g.R.Read.remaining c.take_lines.new.input) c.in_ok-count.count is
    (c.in_ok-count.ensures plan (takes_none plan account refl c.new-account.ensures.empty c.new-account.ensures.sums)) (c.is_below.ensures.enough c.if-is_below.false)

pub returns-clause-drawn : goal.returns-clause-drawn
returns-clause-drawn g c =
    let is = subst (IsTrackOf c.args.text.now) (sym c.new-account.ensures.track) c.in_ok-track.ensures.track in
    let account = c.new-account.result in
    let plan = account.desk.track in
    drawn_of_run c.args.text.now plan c.args.after c.args.selection.now c.take_lines.new.account (g.R.Read.remaining c.args.input.now) (g.R.Read.remaining c.take_lines.new.input)
    c.in_ok-count.count (string_bytes c.in_ok-picture.picture) is
    (subst (λ (track : Plan). lines_fault track c.args.selection.now ≡ None) c.track.ensures c.in_ok-check_lines.ensures.ok)
    (c.in_ok-count.ensures plan (takes_none plan account refl c.new-account.ensures.empty c.new-account.ensures.sums))
    (λ lines. c.in_ok-picture.ensures.drawn plan lines)
