-- What asking for the report on the text of a track does (own rule).
use Rattle.std.specs.Prelude.{◌≡◌, ℕ, ◌<◌, ◌⊎◌, List, length}
use Rattle.std.specs.Str.{IsUtf8}
use Rattle.rbc_track.specs.Reading.{track_of}
use Rattle.rbc_track_report.specs.Report.{IsVerdictOn}
use Rattle.rbc_track_report.specs.declared.report.Verdict.{Verdict}
use Rattle.rbc_track_report.specs.declared.report.Verdict.TheVariants.{Good, Refused}
use Rattle.rbc_c.specs.declared.track_check.Report.{Report}
use Rattle.rbc_c.specs.Given.{fronted}
use Rattle.rbc_c.specs.Opens.{code_of}

-- what came of a check, as C has it, with a report of this many bytes
abbrev pub report_of : Verdict → ℕ → Report
report_of (Good warnings) count = record { refused = 0; warnings = warnings; count = count }
report_of (Refused rule) count = record { refused = code_of rule; warnings = 0; count = count }

-- what came of the check of a text: a track is good, and any other text is refused by the rule that it breaks first. The report's bytes stand at the front.
pub record IsReported (text : List ℕ) (out written : List ℕ) (report : Report) : Type 0 where
  pub verdict : Verdict
  pub right : IsVerdictOn (track_of text) verdict
  pub bytes : List ℕ
  pub reported : report ≡ report_of verdict (length bytes)
  pub front : written ≡ fronted bytes out

-- what a check leaves, by its code: 0 done, 1 memory was refused, 5 the text is not UTF-8
pub record Checks (text : List ℕ) (out : List ℕ) (before : Report) (code : ℕ) (written : List ℕ) (report : Report) : Type 0 where
  pub codes : (code ≡ 0) ⊎ ((code ≡ 1) ⊎ ((code ≡ 5) × ¬ (IsUtf8 text)))
  pub done : code ≡ 0 → IsReported text out written report
  pub stays : 0 < code → (written ≡ out) × (report ≡ before)
