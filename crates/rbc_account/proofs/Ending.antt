-- How lines that are told come to their end.
use Rattle.std.proofs.Common.{◌≡◌, ℕ, ◌+◌, ◌^◌, ◌<◌, Bool, true, false, List, [], ◌∷◌, ◌++◌, length, Option, Some, None, Result, Ok, Err, inl, inr, refl, sym, ap, ◌∙◌, subst, append_assoc, append-nil, length-append, arith}
use Rattle.std.specs.Prelude.{IsErrAnd}
use Rattle.std.specs.Io.KnownBytes.{Appends, Keeps}
use Rattle.std.proofs.KnownBytes.{Appends-nil, Appends-trans}
use Rattle.std.specs.List.{slice_split}
use Rattle.rbc_text.specs.BatchText.{is_line_feed}
use Rattle.rbc_text.proofs.LinePieces.{lines_beyond}
use Rattle.rbc_account.specs.declared.account.Account.{Account}
use Rattle.rbc_account.specs.declared.account.Sums.{Sums}
use Rattle.rbc_account.specs.declared.fault.TellError.{TellError}
use Rattle.rbc_account.specs.declared.fault.TellError.TheVariants.{Track, Read, Memory, OnlyInputs, Write, ReaderGone}
use Rattle.rbc_account.specs.declared.lines.LineReader.{LineReader}
use Rattle.rbc_account.specs.declared.log_form.LogWanted.{LogWanted}
use Rattle.rbc_account.specs.declared.run_log.RunLog.{RunLog}
use Rattle.rbc_account.specs.LogSections.{LogSection}
use Rattle.rbc_account.specs.Lines.{HasRead, AreEndedLines, AreFirstLines}
use Rattle.rbc_account.specs.RunLogs.{IsWithin, IsLogSoFar}
use Rattle.rbc_account.specs.Sums.{no_sums, input_count}
use Rattle.rbc_account.specs.Telling.{AreRun, TellsLines, TooLate}
use Rattle.rbc_account.specs.UnderWay.{taken_by, IsReached, IsTooLate, IsUnderWay, IsStop, IsWhole, IsEnded, GoesOn}
use Rattle.rbc_account.proofs.Reading.{are_first, few_given, all_given}
use Rattle.rbc_account.proofs.Logging.{inputs_are, ended_by}

-- no input is within any number
none_within : (to : Option ℕ) → IsWithin to 0
none_within None = tt
none_within (Some to) = omega arith

-- nothing that is appended keeps all
kept : (old new : Option (List ℕ)) (text : List ℕ) → text ≡ [] → Appends old new text → Keeps old new
kept None new text none out = tt
kept (Some xs) None text none out = absurd out
kept (Some xs) (Some ys) text none out = out ∙ ap (λ (t : List ℕ). xs ++ t) none ∙ append-nil xs

-- as many lines as are to be run
reached : (to : Option ℕ) (count : ℕ) → IsReached to count → IsWithin to count → to ≡ Some count
reached None count is within = absurd is
reached (Some to) count is within = ap (λ n. Some n) (let e : to ≡ count = omega (arith, is, within) in e)

-- a line more can be counted
pub one_more_few : (old new : Option (List ℕ)) (reader : LineReader) (lines : List (List ℕ)) (account : Account) → HasRead old new reader (lines ++ reader.line.items ∷ [])
    → taken_by account ≡ length lines → taken_by account + 1 < 2 ^ 64
one_more_few old new reader lines account has so_many =
    let few = few_given old new reader (lines ++ reader.line.items ∷ []) has in
    let count : length (lines ++ reader.line.items ∷ []) ≡ length lines + 1 = length-append lines (reader.line.items ∷ []) in
    omega (arith, few, count, so_many)

-- it is to be run
pub within_one_more : (wanted : LogWanted) (lines : List (List ℕ)) (same : LogWanted) (account : Account) → taken_by account + 1 < 2 ^ 64 → same ≡ wanted → taken_by account ≡ length lines
    → IsWithin same.to (input_count account.sums + 1) → IsWithin wanted.to (length lines + 1)
within_one_more wanted lines same account few e so_many within =
    let now : input_count account.sums ≡ length lines = inputs_are account (length lines) so_many (omega (arith, so_many, few)) in
    subst (λ (w : LogWanted). IsWithin w.to (length lines + 1)) e (subst (λ (n : ℕ). IsWithin same.to (n + 1)) now within)

module _ (Is : LogSection → List ℕ → Type 0) (wanted : LogWanted) (start : Account) (read_old read_new old new : Option (List ℕ)) where
  -- before the first line
  pub begins : (log : RunLog) → start.sums ≡ no_sums → log.account ≡ start → log.wanted ≡ wanted → log.headed ≡ false → log.text.items ≡ [] → log.outlet.sent ≡ 0
      → IsUnderWay Is wanted start [] log old old
  begins log none account same headed text sent = record {
    written = [];
    told = subst (λ (a : Account). IsLogSoFar Is wanted start [] a log.headed log.text.items) (sym account)
        (subst (λ (b : Bool). IsLogSoFar Is wanted start [] start b log.text.items) (sym headed)
        (subst (IsLogSoFar Is wanted start [] start false) (sym text)
        (record { head = []; blocks = []; all = refl; begun = (refl, refl); told = (refl, refl); few = omega arith; within = none_within wanted.to })));
    out = Appends-nil old;
    count = sent;
    same = same;
    counted = ap taken_by account ∙ ap (λ (s : Sums). s.accepted + s.refused) none;
    quiet = λ early. (refl, text);
  }

  -- a fault at some first lines of what was read
  fault_at : (T : Type 0) (lines : List (List ℕ)) (fault : TellError) → AreFirstLines read_old read_new lines → IsEnded Is wanted start lines old new fault
      → TellsLines {T = T} Is wanted start read_old read_new old new (Err fault)
  fault_at T lines (Track error) first is = absurd is
  fault_at T lines Read first is = absurd is
  fault_at T lines Memory (batch, more, read, e) (text, some, rest, parts, log, out) =
      (batch, text, some, rest ++ more, read, e ∙ ap (λ (ls : List (List ℕ)). ls ++ more) parts ∙ append_assoc some rest more, log, out)
  fault_at T lines (OnlyInputs count) first is = absurd is
  fault_at T lines (Write sent) (batch, more, read, e) (text, some, rest, parts, log, out) =
      (batch, text, some, rest ++ more, read, e ∙ ap (λ (ls : List (List ℕ)). ls ++ more) parts ∙ append_assoc some rest more, log, out)
  fault_at T lines (ReaderGone sent) (batch, more, read, e) (text, some, rest, parts, log, out) =
      (batch, text, some, rest ++ more, read, e ∙ ap (λ (ls : List (List ℕ)). ls ++ more) parts ∙ append_assoc some rest more, log, out)

  -- it is handed on
  pub handed_on : {T : Type 0} (r : Result T TellError) (lines : List (List ℕ)) (fault : TellError) → IsErrAnd r (λ other. other ≡ fault) → AreFirstLines read_old read_new lines
      → IsEnded Is wanted start lines old new fault → TellsLines Is wanted start read_old read_new old new r
  handed_on (Ok done) lines fault bad first is = absurd bad
  handed_on {T} (Err other) lines fault same first is =
      subst (λ (f : TellError). TellsLines {T = T} Is wanted start read_old read_new old new (Err f)) (sym same) (fault_at T lines fault first is)

  -- the log is ended
  pub finished : {T : Type 0} (r : Result T TellError) (lines : List (List ℕ)) → AreFirstLines read_old read_new lines → AreRun wanted read_old read_new lines
      → GoesOn Is wanted start lines old new r (IsWhole Is wanted start lines old new) → TellsLines Is wanted start read_old read_new old new r
  finished (Ok done) lines first run (text, log, out) = (lines, text, run, log, out)
  finished {T} (Err fault) lines first run is = fault_at T lines fault first is

  -- all lines are run
  pub run_to_end : (log : RunLog) (lines : List (List ℕ)) (reader : LineReader) → HasRead read_old read_new reader lines → reader.ended ≡ true
      → IsUnderWay Is wanted start lines log old new → ¬ (TooLate log.wanted.from (input_count log.account.sums)) → AreRun wanted read_old read_new lines
  run_to_end log lines reader has ended is early =
      let all = all_given read_old read_new reader lines has ended in
      let few = few_given read_old read_new reader lines has in
      let so_many : input_count log.account.sums ≡ length lines = inputs_are log.account (length lines) is.counted (omega (arith, few)) in
      let not_late : ¬ (TooLate wanted.from (length lines)) =
      subst (λ (w : LogWanted). ¬ (TooLate w.from (length lines))) is.same (subst (λ (n : ℕ). ¬ (TooLate log.wanted.from n)) so_many early) in
      (all.0, [], all.1, all.3 ∙ sym (append-nil lines), inl (all.2, refl, not_late))

  -- as many lines are run as are to be run
  pub run_to : (log : RunLog) (mid : Option (List ℕ)) (lines : List (List ℕ)) (reader : LineReader) → HasRead read_old read_new reader lines → IsUnderWay Is wanted start lines log old mid
      → IsReached log.wanted.to (input_count log.account.sums) → AreRun wanted read_old read_new lines
  run_to log mid lines reader has is full =
      let first = are_first read_old read_new reader lines has in
      let few = few_given read_old read_new reader lines has in
      let so_many : input_count log.account.sums ≡ length lines = inputs_are log.account (length lines) is.counted (omega (arith, few)) in
      let here = subst (λ (w : LogWanted). IsReached w.to (length lines)) is.same (subst (IsReached log.wanted.to) so_many full) in
      (first.0, first.1, first.2, first.3, inr (reached wanted.to (length lines) here is.told.within))

  -- the first input that is told is too late
  pub too_late : {T : Type 0} (r : Result T TellError) (fault : TellError) (log : RunLog) (lines : List (List ℕ)) (reader : LineReader) → IsErrAnd r (λ other. other ≡ fault)
      → HasRead read_old read_new reader lines → reader.ended ≡ true → IsUnderWay Is wanted start lines log old new
      → IsTooLate {T = Unit {0}} log.wanted.from (input_count log.account.sums) (Err fault) → TellsLines Is wanted start read_old read_new old new r
  too_late (Ok done) fault log lines reader bad has ended is late = absurd bad
  too_late {T} (Err other) fault log lines reader same has ended is late =
      let all = all_given read_old read_new reader lines has ended in
      let few = few_given read_old read_new reader lines has in
      let so_many : input_count log.account.sums ≡ length lines = inputs_are log.account (length lines) is.counted (omega (arith, few)) in
      let now : TooLate wanted.from (input_count log.account.sums) = subst (λ (w : LogWanted). TooLate w.from (input_count log.account.sums)) is.same late.1 in
      let early : length lines < wanted.from = omega (arith, now, so_many) in
      subst (λ (f : TellError). TellsLines {T = T} Is wanted start read_old read_new old new (Err f)) (sym (same ∙ late.0)) (
        all.0,
        (all.1, all.2),
        so_many ∙ ap (λ (ls : List (List ℕ)). length ls) (sym all.3),
        now,
        kept old new is.written (is.quiet early).0 is.out,
      )

  -- the reader failed, and what is not written yet was written before
  pub read_fault : (T : Type 0) (log : RunLog) (mid : Option (List ℕ)) (lines : List (List ℕ)) (fault : TellError) → AreEndedLines read_old read_new lines
      → IsUnderWay Is wanted start lines log old mid → IsStop log Read mid new fault → TellsLines {T = T} Is wanted start read_old read_new old new (Err fault)
  read_fault T log mid lines fault (batch, read, e) is (inl cut) =
      let beyond = lines_beyond (slice_split is_line_feed batch) in
      fault_at T lines fault (batch, beyond.0, read, beyond.1 ∙ ap (λ (ls : List (List ℕ)). ls ++ beyond.0) e)
      (subst (λ (ls : List (List ℕ)). IsEnded Is wanted start ls old new fault) (append-nil lines) (ended_by Is wanted start lines [] log log old mid new fault is refl refl (inl cut)))
  read_fault T log mid lines fault (batch, read, e) is (inr (out, same)) =
      subst (λ (f : TellError). TellsLines {T = T} Is wanted start read_old read_new old new (Err f)) (sym same) (
        batch,
        is.written ++ log.text.items,
        read,
        (log.account, log.headed, subst (λ (ls : List (List ℕ)). IsLogSoFar Is wanted start ls log.account log.headed (is.written ++ log.text.items)) (sym e) is.told),
        Appends-trans old mid new is.written log.text.items is.out out,
      )

  -- memory was refused for the next line
  pub refused_fault : (T : Type 0) (log : RunLog) (mid : Option (List ℕ)) (lines : List (List ℕ)) (fault : TellError) → AreFirstLines read_old read_new lines
      → IsUnderWay Is wanted start lines log old mid → IsStop log Memory mid new fault → TellsLines {T = T} Is wanted start read_old read_new old new (Err fault)
  refused_fault T log mid lines fault first is stop =
      fault_at T lines fault first
      (subst (λ (ls : List (List ℕ)). IsEnded Is wanted start ls old new fault) (append-nil lines) (ended_by Is wanted start lines [] log log old mid new fault is refl refl stop))
