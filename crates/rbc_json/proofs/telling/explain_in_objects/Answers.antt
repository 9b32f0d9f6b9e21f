use Rattle.std.proofs.Common.{sym, subst}
use Rattle.rbc_track.specs.Reading.{IsTrackOf}
use Rattle.rbc_json.proofs.Explaining.{explained, track_refused}
use Rattle.rbc_json.proofs.telling.explain_in_objects.Goals as goal

-- the track is refused
pub returns-in_err-track-clause-explains : goal.returns-in_err-track-clause-explains
returns-in_err-track-clause-explains g c =
    track_refused c.args.text.now c.args.wanted (g.R.Read.remaining c.args.input.now) (g.R.Read.remaining c.args.input.now) (g.W.Write.contents c.args.output.now)
    (g.W.Write.contents c.args.output.now) c.from_residual.result c.in_err-track.field-0.0 c.from_residual.ensures.1 c.in_err-track.ensures.refused

-- the lines are told
pub returns-clause-explains : goal.returns-clause-explains
returns-clause-explains g c =
    let account = c.new-account.ensures in
    let is = subst (IsTrackOf c.args.text.now) (sym account.track) c.in_ok-track.ensures.track in
    explained c.args.text.now c.args.wanted c.new-account.result (g.R.Read.remaining c.args.input.now) (g.R.Read.remaining c.tell_lines.new.reader)
    (g.W.Write.contents c.args.output.now) (g.W.Write.contents c.tell_lines.new.writer) c.account_law.ensures is account.empty account.sums
    c.tell_lines.result c.tell_lines.ensures
