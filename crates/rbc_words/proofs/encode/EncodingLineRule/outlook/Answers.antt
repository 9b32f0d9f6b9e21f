use Rattle.std.proofs.Common.{◌≡◌, Err}
use Rattle.std.specs.Prelude.{slice_get}
use Rattle.rbc_text.specs.BatchText.{words_of}
use Rattle.rbc_words.specs.Encoding.{IsWrongText, plan_given}
use Rattle.rbc_words.specs.ReportWords.{report_of}
use Rattle.rbc_words.specs.declared.line_fault.LineFault.{LineFault}
use Rattle.rbc_words.proofs.Outlooks.{said_of, said_itself, text_outlook, report_outlook, other_outlook}
use Rattle.rbc_words.proofs.encode.EncodingLineRule.outlook.Goals as goal

-- a text
pub returns-in-Text : goal.returns-in-Text
returns-in-Text c =
    text_outlook (plan_given c.args.self.now.track) c.args.begun.now c.in-Text.text.now c.err.result c.outlook_by.result c.in-Text.ensures.0 c.in-Text.ensures.1
    (said_of (IsWrongText (words_of c.in-Text.text.now)) c.message_of_text.result c.err.result c.message_of_text.ensures.wrong c.err.ensures.value) c.outlook_by.ensures

-- a report
pub returns-in-Report : goal.returns-in-Report
returns-in-Report c =
    report_outlook (plan_given c.args.self.now.track) c.args.begun.now c.err-in-Report.result c.outlook_by-in-Report.result c.in-Report.ensures
    (said_of (λ (f : LineFault). report_of (slice_get (words_of c.args.begun.now)) ≡ Err f) c.report_in.result c.err-in-Report.result
    (said_itself c.report_in.result (report_of (slice_get (words_of c.args.begun.now))) c.report_in.ensures.said) c.err-in-Report.ensures.value) c.outlook_by-in-Report.ensures

-- any other line
pub returns-in-Other : goal.returns-in-Other
returns-in-Other c = other_outlook (plan_given c.args.self.now.track) c.args.begun.now c.in-Other.ensures c.if-begun-gt-LONGEST_COMMAND.true
