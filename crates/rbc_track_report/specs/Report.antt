-- What a check of a track file answers (own rule).
use Rattle.std.specs.Prelude.{◌≡◌, Result, Ok, Err}
use Rattle.rbc_track.specs.Plan.{Plan}
use Rattle.rbc_track.specs.declared.error.TrackError.{TrackError}
use Rattle.rbc_track_report.specs.declared.report.Verdict.{Verdict}
use Rattle.rbc_track_report.specs.declared.report.Verdict.TheVariants.{Good, Refused}

-- a text that is a track is good; any other text is refused by the first rule that it breaks
abbrev pub IsVerdictOn : Result Plan TrackError → Verdict → Type 0
IsVerdictOn track (Good warnings) = (plan : Plan) × (track ≡ Ok plan)
IsVerdictOn track (Refused rule) = track ≡ Err rule
