-- The log of a run under way, line after line.
use Rattle.std.proofs.Common.{◌≡◌, ℕ, suc, ◌+◌, ◌^◌, ◌<◌, ◌≤◌, Bool, true, false, ◌&&◌, nat_le, if◌then◌else◌, List, [], ◌∷◌, ◌++◌, length, take, Option, Result, Ok, Err, inl, inr, refl, sym, ap, ◌∙◌, subst, append_assoc, append-nil, length-append, arith}
use Rattle.std.specs.Prelude.{OnOk, OnErr, IfErr, is_err}
use Rattle.std.specs.Io.KnownBytes.{Appends}
use Rattle.std.proofs.KnownBytes.{Appends-trans}
use Rattle.std.proofs.Math.Seq.{take-append-add}
use Rattle.std.proofs.lemmas.Bool.Decides.{nat_tests}
use Rattle.rbc_settle.specs.declared.sent.Sent.{Sent}
use Rattle.rbc_rule.specs.declared.outcome.Reply.{Reply}
use Rattle.rbc_rule.specs.declared.outcome.Reply.TheVariants.{Done, Refused}
use Rattle.rbc_text.specs.declared.outlet.WriteFault.{WriteFault}
use Rattle.rbc_text.specs.Streams.{count_of, IsPartOut}
use Rattle.rbc_account.specs.Faults.{writing_fault}
use Rattle.rbc_live.specs.History.{IsFed}
use Rattle.rbc_live.proofs.Writing.{counted_on}
use Rattle.rbc_account.specs.declared.account.Account.{Account}
use Rattle.rbc_account.specs.declared.block.Block.{Block}
use Rattle.rbc_account.specs.declared.account.Sums.{Sums}
use Rattle.rbc_account.specs.declared.fault.TellError.{TellError}
use Rattle.rbc_account.specs.declared.fault.TellError.TheVariants.{Memory, Write, ReaderGone}
use Rattle.rbc_account.specs.declared.log_form.LogWanted.{LogWanted}
use Rattle.rbc_account.specs.declared.run_log.RunLog.{RunLog}
use Rattle.rbc_account.specs.LogSections.{LogSection, Head, OfInput, AtEnd, IsBlockOf, IsPushed}
use Rattle.rbc_account.specs.RunLogs.{has_block, has_head, has_end, is_told, IsWithin, IsPartIf, IsBlockIf, IsLineTold, AreTold, IsHead, IsLogSoFar, IsWholeLog}
use Rattle.rbc_account.specs.Sums.{counted, input_count}
use Rattle.rbc_account.specs.ToldPlaces.{kept_at, kept_after}
use Rattle.rbc_account.specs.UnderWay.{taken_by, IsHeadAdded, AreAdded, IsWriteFault, IsUnderWay, IsStop, IsWhole, IsEnded, GoesOn, IsPartWritten}

-- ---- sums

-- one more input is counted
one_counted : (answer : Reply) (sums : Sums) → sums.accepted + sums.refused + 1 < 2 ^ 64 → (counted answer sums).accepted + (counted answer sums).refused ≡ sums.accepted + sums.refused + 1
one_counted (Done sent) sums few = omega (arith, few)
one_counted (Refused code) sums few = omega (arith, few)

pub taken_one : (answer : Reply) (before after : Account) → taken_by before + 1 < 2 ^ 64 → after.sums ≡ counted answer before.sums → taken_by after ≡ taken_by before + 1
taken_one answer before after few is = ap (λ (sums : Sums). sums.accepted + sums.refused) is ∙ one_counted answer before.sums few

pub inputs_are : (account : Account) (count : ℕ) → taken_by account ≡ count → count < 2 ^ 64 → input_count account.sums ≡ count
inputs_are account count is few = omega (arith, is, few)

-- ---- one line more

shifted : (a b : ℕ) → (a + 1) + b ≡ a + suc b
shifted a b = omega arith

-- one line more is told behind the others
pub told_more : (Is : LogSection → List ℕ → Type 0) (wanted : LogWanted) (number : ℕ) (lines : List (List ℕ)) (line : List ℕ) (old mid new : Account) (text more : List ℕ)
    → AreTold Is wanted number lines old mid text → IsLineTold Is wanted (number + length lines) line mid new more → AreTold Is wanted number (lines ++ line ∷ []) old new (text ++ more)
told_more Is wanted number [] line old mid new text more so_far one =
    let here : number + 0 ≡ number = omega arith in (
      new,
      more,
      [],
      ap (λ (t : List ℕ). t ++ more) so_far.1 ∙ sym (append-nil more),
      subst (λ (n : ℕ). IsLineTold Is wanted n line old new more) here (subst (λ (a : Account). IsLineTold Is wanted (number + 0) line a new more) so_far.0 one),
      (refl, refl),
    )
told_more Is wanted number (first ∷ lines) line old mid new text more so_far one = (
  so_far.0,
  so_far.1,
  so_far.2 ++ more,
  ap (λ (t : List ℕ). t ++ more) so_far.3 ∙ append_assoc so_far.1 so_far.2 more,
  so_far.4,
  told_more Is wanted (number + 1) lines line so_far.0 mid new so_far.2 more so_far.5
      (subst (λ (n : ℕ). IsLineTold Is wanted n line mid new more) (sym (shifted number (length lines))) one),
)

-- the log after a line that is not told
pub line_untold : (Is : LogSection → List ℕ → Type 0) (wanted : LogWanted) (start : Account) (lines : List (List ℕ)) (line : List ℕ) (before after : Account) (headed : Bool) (text : List ℕ)
    → IsLogSoFar Is wanted start lines before headed text → IsLineTold Is wanted (1 + length lines) line before after [] → length lines + 1 < 2 ^ 64 → IsWithin wanted.to (length lines + 1)
    → IsLogSoFar Is wanted start (lines ++ line ∷ []) after headed text
line_untold Is wanted start lines line before after headed text so_far one few within =
    let count : length (lines ++ line ∷ []) ≡ length lines + 1 = length-append lines (line ∷ []) in
    record {
      head = so_far.head;
      blocks = so_far.blocks;
      all = so_far.all;
      begun = so_far.begun;
      told = subst (AreTold Is wanted 1 (lines ++ line ∷ []) start after) (append-nil so_far.blocks) (told_more Is wanted 1 lines line start before after so_far.blocks [] so_far.told one);
      few = omega (arith, count, few);
      within = subst (IsWithin wanted.to) (sym count) within;
    }

-- the head stands before the first block
headed_now : (Is : LogSection → List ℕ → Type 0) (wanted : LogWanted) (headed : Bool) (head blocks added block : List ℕ) → IsHead headed Is wanted head blocks → IsHeadAdded headed Is wanted added
    → (new : List ℕ) × IsPartIf (has_head wanted.parts) (Is (Head wanted.from)) new × ((head ++ blocks) ++ (added ++ block) ≡ new ++ (blocks ++ block))
headed_now Is wanted true head blocks added block begun is = (
  head,
  begun,
  ap (λ (a : List ℕ). (head ++ blocks) ++ (a ++ block)) is ∙ append_assoc head blocks block,
)
headed_now Is wanted false head blocks added block begun is = (
  added,
  is,
  ap (λ (h : List ℕ). (h ++ blocks) ++ (added ++ block)) begun.0 ∙ ap (λ (b : List ℕ). b ++ (added ++ block)) begun.1 ∙ sym (ap (λ (b : List ℕ). added ++ (b ++ block)) begun.1),
)

-- the log after a line that is told
pub line_told : (Is : LogSection → List ℕ → Type 0) (wanted : LogWanted) (start : Account) (lines : List (List ℕ)) (line : List ℕ) (before after : Account) (headed : Bool) (text added block : List ℕ)
    → IsLogSoFar Is wanted start lines before headed text → IsHeadAdded headed Is wanted added → IsLineTold Is wanted (1 + length lines) line before after block → length lines + 1 < 2 ^ 64
    → IsWithin wanted.to (length lines + 1) → IsLogSoFar Is wanted start (lines ++ line ∷ []) after true (text ++ (added ++ block))
line_told Is wanted start lines line before after headed text added block so_far is one few within =
    let count : length (lines ++ line ∷ []) ≡ length lines + 1 = length-append lines (line ∷ []) in
    let now = headed_now Is wanted headed so_far.head so_far.blocks added block so_far.begun is in
    record {
      head = now.0;
      blocks = so_far.blocks ++ block;
      all = ap (λ (t : List ℕ). t ++ (added ++ block)) so_far.all ∙ now.2;
      begun = now.1;
      told = told_more Is wanted 1 lines line start before after so_far.blocks block so_far.told one;
      few = omega (arith, count, few);
      within = subst (IsWithin wanted.to) (sym count) within;
    }

-- the whole log
pub log_ended : (Is : LogSection → List ℕ → Type 0) (wanted : LogWanted) (start : Account) (lines : List (List ℕ)) (account : Account) (headed : Bool) (text added end : List ℕ)
    → IsLogSoFar Is wanted start lines account headed text → IsHeadAdded headed Is wanted added → IsPartIf (has_end wanted.parts) (Is (AtEnd account)) end
    → IsWholeLog Is wanted start lines (text ++ (added ++ end))
log_ended Is wanted start lines account headed text added end so_far is ended =
    let now = headed_now Is wanted headed so_far.head so_far.blocks added end so_far.begun is in
    record {
      account = account;
      front = now.0 ++ so_far.blocks;
      end = end;
      all = ap (λ (t : List ℕ). t ++ (added ++ end)) so_far.all ∙ now.2 ∙ sym (append_assoc now.0 so_far.blocks end);
      told = record {
        head = now.0;
        blocks = so_far.blocks;
        all = refl;
        begun = now.1;
        told = so_far.told;
        few = so_far.few;
        within = so_far.within;
      };
      ended = ended;
    }

-- ---- what is told of a line

-- it is told by its number
told_by_number : (wanted : LogWanted) (number : ℕ) (answer : Reply) → is_told wanted number answer ≡ true → wanted.from ≤ number
told_by_number wanted number answer e = by (nat_le wanted.from number) (has_block wanted.parts answer) refl e where
  by : (reached block : Bool) → nat_le wanted.from number ≡ reached → reached && block ≡ true → wanted.from ≤ number
  by true block is e = grind (arith, nat_tests)
  by false block is bad = cc

-- the number of the next line
next_is : (account : Account) (lines : List (List ℕ)) → taken_by account ≡ length lines → taken_by account + 1 ≡ 1 + length lines
next_is account lines is = omega (arith, is)

-- nothing is told of a line
pub line_passed : (Is : LogSection → List ℕ → Type 0) (wanted : LogWanted) (start : Account) (lines : List (List ℕ)) (line : List ℕ) (before after : RunLog) (old new : Option (List ℕ)) (answer : Reply)
    (messages : List Sent) → IsUnderWay Is wanted start lines before old new → IsWithin wanted.to (length lines + 1) → taken_by before.account + 1 < 2 ^ 64
    → IsFed before.account.desk.track line before.account.desk.records after.account.desk.records answer messages → after.account.desk.track ≡ before.account.desk.track
    → after.account.sums ≡ counted answer before.account.sums
    → ((n : ℕ) → kept_at after.account.told_places n ≡ kept_after before.account.desk.track (kept_at before.account.told_places) messages n)
    → is_told before.wanted (taken_by before.account + 1) answer ≡ false → after.wanted ≡ before.wanted → after.headed ≡ before.headed → after.text.items ≡ before.text.items
    → after.outlet.sent ≡ before.outlet.sent → IsUnderWay Is wanted start (lines ++ line ∷ []) after old new
line_passed Is wanted start lines line before after old new answer messages is within few fed track sums places untold same headed text sent =
    let count : length (lines ++ line ∷ []) ≡ length lines + 1 = length-append lines (line ∷ []) in
    let counted = is.counted in
    let small : length lines + 1 < 2 ^ 64 = omega (arith, counted, few) in
    let not_told : is_told wanted (1 + length lines) answer ≡ false =
    ap (λ (w : LogWanted). is_told w (1 + length lines) answer) (sym is.same) ∙ ap (λ (n : ℕ). is_told before.wanted n answer) (sym (next_is before.account lines counted)) ∙ untold in
    let one : IsLineTold Is wanted (1 + length lines) line before.account after.account [] = record {
      answer = answer;
      messages = messages;
      fed = fed;
      track = track;
      sums = sums;
      places = places;
      told = subst (λ (b : Bool). IsBlockIf b Is (1 + length lines) line before.account after.account answer messages []) (sym not_told) refl;
    } in
    let log = line_untold Is wanted start lines line before.account after.account before.headed (is.written ++ before.text.items) is.told one small within in
    record {
      written = is.written;
      told = subst (λ (t : List ℕ). IsLogSoFar Is wanted start (lines ++ line ∷ []) after.account after.headed (is.written ++ t)) (sym text)
          (subst (λ (b : Bool). IsLogSoFar Is wanted start (lines ++ line ∷ []) after.account b (is.written ++ before.text.items)) (sym headed) log);
      out = is.out;
      count = sent ∙ is.count;
      same = same ∙ is.same;
      counted = taken_one answer before.account after.account few sums ∙ (let n : taken_by before.account + 1 ≡ length (lines ++ line ∷ []) = omega (arith, count, counted) in n);
      quiet = λ early. let nothing = is.quiet (omega (arith, early, count)) in (nothing.0, text ∙ nothing.1);
    }

-- an account took a line, and a block says what came of it
pub record IsStepped (before : Account) (line : List ℕ) (after : Account) (block : Block) : Type 0 where
  pub fed : IsFed before.desk.track line before.desk.records after.desk.records block.reply block.messages
  pub track : after.desk.track ≡ before.desk.track
  pub sums : after.sums ≡ counted block.reply before.sums
  pub places : (n : ℕ) → kept_at after.told_places n ≡ kept_after before.desk.track (kept_at before.told_places) block.messages n
  pub of : IsBlockOf before line after block
  pub number : block.number ≡ input_count after.sums

-- its block is told
pub line_shown : (Is : LogSection → List ℕ → Type 0) (wanted : LogWanted) (start : Account) (lines : List (List ℕ)) (line : List ℕ) (before after : RunLog) (now : Account) (old new : Option (List ℕ)) (block : Block)
    → IsUnderWay Is wanted start lines before old new → IsWithin wanted.to (length lines + 1) → taken_by before.account + 1 < 2 ^ 64 → after.account ≡ now → IsStepped before.account line now block
    → is_told before.wanted (taken_by before.account + 1) block.reply ≡ true → after.wanted ≡ before.wanted → after.headed ≡ true
    → IsPushed (AreAdded (IsHeadAdded before.headed Is before.wanted) (Is (OfInput now line block))) before.text.items after.text.items
    → after.outlet.sent ≡ before.outlet.sent → IsUnderWay Is wanted start (lines ++ line ∷ []) after old new
line_shown Is wanted start lines line before after now old new block is within few account step told same headed (added, text, parts) sent =
    let count : length (lines ++ line ∷ []) ≡ length lines + 1 = length-append lines (line ∷ []) in
    let so_many = is.counted in
    let small : length lines + 1 < 2 ^ 64 = omega (arith, so_many, few) in
    let next = taken_one block.reply before.account now few step.sums in
    let here : block.number ≡ 1 + length lines = step.number ∙ inputs_are now (1 + length lines) (next ∙ next_is before.account lines so_many) (omega (arith, small)) in
    let shown : is_told wanted (1 + length lines) block.reply ≡ true =
    ap (λ (w : LogWanted). is_told w (1 + length lines) block.reply) (sym is.same) ∙ ap (λ (n : ℕ). is_told before.wanted n block.reply) (sym (next_is before.account lines so_many)) ∙ told in
    let head = subst (λ (w : LogWanted). IsHeadAdded before.headed Is w parts.0) is.same parts.3 in
    let one : IsLineTold Is wanted (1 + length lines) line before.account now parts.1 = record {
      answer = block.reply;
      messages = block.messages;
      fed = step.fed;
      track = step.track;
      sums = step.sums;
      places = step.places;
      told = subst (λ (b : Bool). IsBlockIf b Is (1 + length lines) line before.account now block.reply block.messages parts.1) (sym shown)
          (block, step.of, here, refl, refl, parts.4);
    } in
    let log = line_told Is wanted start lines line before.account now before.headed (is.written ++ before.text.items) parts.0 parts.1 is.told head one small within in
    let all : is.written ++ after.text.items ≡ (is.written ++ before.text.items) ++ (parts.0 ++ parts.1) =
    ap (λ (t : List ℕ). is.written ++ t) (text ∙ ap (λ (t : List ℕ). before.text.items ++ t) parts.2) ∙ sym (append_assoc is.written before.text.items (parts.0 ++ parts.1)) in
    let reached = told_by_number wanted (1 + length lines) block.reply shown in
    record {
      written = is.written;
      told = subst (λ (a : Account). IsLogSoFar Is wanted start (lines ++ line ∷ []) a after.headed (is.written ++ after.text.items)) (sym account)
          (subst (λ (b : Bool). IsLogSoFar Is wanted start (lines ++ line ∷ []) now b (is.written ++ after.text.items)) (sym headed)
          (subst (IsLogSoFar Is wanted start (lines ++ line ∷ []) now true) (sym all) log));
      out = is.out;
      count = sent ∙ is.count;
      same = same ∙ is.same;
      counted = ap taken_by account ∙ next ∙ (let n : taken_by before.account + 1 ≡ length (lines ++ line ∷ []) = omega (arith, count, so_many) in n);
      quiet = λ early. absurd (omega (arith, early, count, reached));
    }

-- the same, unless memory was refused
pub line_shown_if : {T E : Type 0} (r : Result T E) (Is : LogSection → List ℕ → Type 0) (wanted : LogWanted) (start : Account) (lines : List (List ℕ)) (line : List ℕ) (before after : RunLog)
    (now : Account) (old new : Option (List ℕ)) (block : Block)
    → IsUnderWay Is wanted start lines before old new → IsWithin wanted.to (length lines + 1) → taken_by before.account + 1 < 2 ^ 64 → after.account ≡ now → IsStepped before.account line now block
    → is_told before.wanted (taken_by before.account + 1) block.reply ≡ true → after.wanted ≡ before.wanted → OnOk r (after.headed ≡ true)
    → OnOk r (IsPushed (AreAdded (IsHeadAdded before.headed Is before.wanted) (Is (OfInput now line block))) before.text.items after.text.items)
    → after.outlet.sent ≡ before.outlet.sent → OnOk r (IsUnderWay Is wanted start (lines ++ line ∷ []) after old new)
line_shown_if (Ok done) Is wanted start lines line before after now old new block is within few account step told same headed pushed sent =
    line_shown Is wanted start lines line before after now old new block is within few account step told same headed pushed sent
line_shown_if (Err fault) Is wanted start lines line before after now old new block is within few account step told same headed pushed sent = tt

-- ---- the text that is not written yet

-- the first bytes of a text that follows what was written
pub part_out : (written text : List ℕ) (sent : ℕ) (old mid new : Option (List ℕ)) (part : ℕ) → sent ≡ count_of (length written) → Appends old mid written → part ≤ length text
    → Appends mid new (take part text) → IsPartOut old new (written ++ text) (count_of (sent + part))
part_out written text sent old mid new part count out few more =
    let whole = length-append written text in (
      length written + part,
      omega (arith, few, whole),
      counted_on (length written) part sent count,
      subst (Appends old new) (sym (take-append-add written text part)) (Appends-trans old mid new written (take part text) out more),
    )

-- so a fault of the writer ends it
pub ended_at : (Is : LogSection → List ℕ → Type 0) (wanted : LogWanted) (start : Account) (lines : List (List ℕ)) (old new : Option (List ℕ)) (fault : TellError) (cause : WriteFault)
    → fault ≡ writing_fault cause → IsPartWritten Is wanted start lines old new cause.sent → IsEnded Is wanted start lines old new fault
ended_at Is wanted start lines old new fault cause same is = subst (IsEnded Is wanted start lines old new) (sym same) (by cause.gone cause.sent is) where
  by : (gone : Bool) (sent : ℕ) → IsPartWritten Is wanted start lines old new sent → IsEnded Is wanted start lines old new (if gone then ReaderGone sent else Write sent)
  by true sent is = is
  by false sent is = is

-- a fault in mid-course, before which the text was written
pub ended_by : (Is : LogSection → List ℕ → Type 0) (wanted : LogWanted) (start : Account) (lines more : List (List ℕ)) (log stopped : RunLog) (old mid new : Option (List ℕ)) (fault : TellError)
    → IsUnderWay Is wanted start lines log old mid → stopped.text.items ≡ log.text.items → stopped.outlet.sent ≡ log.outlet.sent → IsStop stopped Memory mid new fault
    → IsEnded Is wanted start (lines ++ more) old new fault
ended_by Is wanted start lines more log stopped old mid new fault is text sent (inl cut) =
    let (cause, (part, few, out, count), same) = subst (λ (t : List ℕ). IsWriteFault log.outlet.sent t mid new fault) text (subst (λ (n : ℕ). IsWriteFault n stopped.text.items mid new fault) sent cut) in
    ended_at Is wanted start (lines ++ more) old new fault cause same (
      is.written ++ log.text.items,
      lines,
      more,
      refl,
      inl (log.account, log.headed, is.told),
      subst (IsPartOut old new (is.written ++ log.text.items)) (sym count) (part_out is.written log.text.items log.outlet.sent old mid new part is.count is.out few out),
    )
ended_by Is wanted start lines more log stopped old mid new fault is text sent (inr whole) =
    subst (IsEnded Is wanted start (lines ++ more) old new) (sym whole.1) (
      is.written ++ log.text.items,
      lines,
      more,
      refl,
      (log.account, log.headed, is.told),
      Appends-trans old mid new is.written log.text.items is.out (subst (Appends mid new) text whole.0),
    )

-- the text was written, or cut short
pub written_out : {T : Type 0} (Is : LogSection → List ℕ → Type 0) (wanted : LogWanted) (start : Account) (lines : List (List ℕ)) (log after : RunLog) (old mid new : Option (List ℕ)) (r : Result T TellError)
    → IsUnderWay Is wanted start lines log old mid → OnOk r (Appends mid new log.text.items) → IfErr r (IsWriteFault log.outlet.sent log.text.items mid new)
    → OnOk r (after.outlet.sent ≡ count_of (log.outlet.sent + length log.text.items)) → OnOk r (after.text.items ≡ []) → after.account ≡ log.account → after.wanted ≡ log.wanted
    → after.headed ≡ log.headed → GoesOn Is wanted start lines old new r (IsUnderWay Is wanted start lines after old new)
written_out Is wanted start lines log after old mid new (Ok done) is out cut sent none account same headed =
    let all = ap (λ (t : List ℕ). (is.written ++ log.text.items) ++ t) none ∙ append-nil (is.written ++ log.text.items) in
    record {
      written = is.written ++ log.text.items;
      told = subst (λ (a : Account). IsLogSoFar Is wanted start lines a after.headed ((is.written ++ log.text.items) ++ after.text.items)) (sym account)
          (subst (λ (b : Bool). IsLogSoFar Is wanted start lines log.account b ((is.written ++ log.text.items) ++ after.text.items)) (sym headed)
          (subst (IsLogSoFar Is wanted start lines log.account log.headed) (sym all) is.told));
      out = Appends-trans old mid new is.written log.text.items is.out out;
      count = sent ∙ counted_on (length is.written) (length log.text.items) log.outlet.sent is.count ∙ ap count_of (sym (length-append is.written log.text.items));
      same = same ∙ is.same;
      counted = ap taken_by account ∙ is.counted;
      quiet = λ early.
          let nothing = is.quiet early in (
            ap (λ (w : List ℕ). w ++ log.text.items) nothing.0 ∙ nothing.1,
            none,
          );
    }
written_out Is wanted start lines log after old mid new (Err fault) is out (cause, (part, few, more, count), same) sent none account kept headed =
    ended_at Is wanted start lines old new fault cause same (
      is.written ++ log.text.items,
      lines,
      [],
      sym (append-nil lines),
      inl (log.account, log.headed, is.told),
      subst (IsPartOut old new (is.written ++ log.text.items)) (sym count) (part_out is.written log.text.items log.outlet.sent old mid new part is.count is.out few more),
    )

-- the whole log was written, or cut short
pub whole_out : {T : Type 0} (Is : LogSection → List ℕ → Type 0) (wanted : LogWanted) (start : Account) (lines : List (List ℕ)) (written text : List ℕ) (sent : ℕ) (old mid new : Option (List ℕ)) (r : Result T TellError)
    → IsWholeLog Is wanted start lines (written ++ text) → Appends old mid written → sent ≡ count_of (length written) → OnOk r (Appends mid new text) → IfErr r (IsWriteFault sent text mid new)
    → GoesOn Is wanted start lines old new r (IsWhole Is wanted start lines old new)
whole_out Is wanted start lines written text sent old mid new (Ok done) is out count more cut = (written ++ text, is, Appends-trans old mid new written text out more)
whole_out Is wanted start lines written text sent old mid new (Err fault) is out count more (cause, (part, few, some, counted), same) =
    ended_at Is wanted start lines old new fault cause same (
      written ++ text,
      lines,
      [],
      sym (append-nil lines),
      inr is,
      subst (IsPartOut old new (written ++ text)) (sym counted) (part_out written text sent old mid new part count out few some),
    )

-- the end of a log that is under way
pub ended_log : (Is : LogSection → List ℕ → Type 0) (wanted : LogWanted) (start : Account) (lines : List (List ℕ)) (before after : RunLog) (old new : Option (List ℕ))
    (is : IsUnderWay Is wanted start lines before old new)
    → IsPushed (AreAdded (IsHeadAdded before.headed Is before.wanted) (IsPartIf (has_end before.wanted.parts) (Is (AtEnd before.account)))) before.text.items after.text.items
    → IsWholeLog Is wanted start lines (is.written ++ after.text.items)
ended_log Is wanted start lines before after old new is (added, text, parts) =
    let head = subst (λ (w : LogWanted). IsHeadAdded before.headed Is w parts.0) is.same parts.3 in
    let end = subst (λ (w : LogWanted). IsPartIf (has_end w.parts) (Is (AtEnd before.account)) parts.1) is.same parts.4 in
    subst (IsWholeLog Is wanted start lines)
    (sym (ap (λ (t : List ℕ). is.written ++ t) (text ∙ ap (λ (t : List ℕ). before.text.items ++ t) parts.2) ∙ sym (append_assoc is.written before.text.items (parts.0 ++ parts.1))))
    (log_ended Is wanted start lines before.account before.headed (is.written ++ before.text.items) parts.0 parts.1 is.told head end)

-- ---- by what a call returned

pub on_err : {T E P : Type 0} (r : Result T E) (failed : Bool) → failed ≡ is_err r → failed ≡ true → OnErr r P → P
on_err (Ok done) failed is e holds = let bad : false ≡ true = sym is ∙ e in absurd cc
on_err (Err fault) failed is e holds = holds

pub on_ok : {T E P : Type 0} (r : Result T E) (failed : Bool) → failed ≡ is_err r → failed ≡ false → OnOk r P → P
on_ok (Ok done) failed is e holds = holds
on_ok (Err fault) failed is e holds = let bad : true ≡ false = sym is ∙ e in absurd cc
