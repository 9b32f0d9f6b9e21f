-- The course of a session, line by line.
use Rattle.std.proofs.Common.{◌≡◌, ℕ, ◌+◌, ◌≤◌, List, [], ◌∷◌, ◌++◌, length, Option, Result, Ok, Err, refl, sym, ap, ◌∙◌, subst, inl, append-nil, arith, length-append}
use Rattle.std.specs.Prelude.{OnOk, IfErr, IsErrAnd, false}
use Rattle.std.specs.Io.KnownBytes.{Appends}
use Rattle.rbc_text.specs.BatchText.{without_empty_end}
use Rattle.rbc_text.specs.Streams.{count_of}
use Rattle.rbc_words.specs.Filters.{AreTurned, AreFirstTurned, IsFirstWrong}
use Rattle.rbc_words.specs.UnderWay.{ArePending, IsUnderWay, IsWaiting, IsDone, IsWriteFault, IsStop, IsEnded, GoesOn, IsPutBehind, IsShownBy, IsStopped, IsStoppedMidway, passed_on}
use Rattle.rbc_words.specs.declared.rule.RuleError.{RuleError}
use Rattle.rbc_words.specs.declared.line.UnfinishedLine.{UnfinishedLine}
use Rattle.rbc_words.specs.declared.session.Session.{Session}
use Rattle.rbc_words.specs.declared.filter.FilterError.{FilterError}
use Rattle.rbc_words.proofs.Turning.{end_front, end_of_some, first_lines, first_ended, first_of_all, begun_part, nothing_passed}
use Rattle.rbc_words.proofs.Delivered.{pending_more, pending_line, pending_written, pending_out, cut_short, stopped}

module _ (becomes : List ℕ → List ℕ → Type 0) where
  -- before the first line
  pub at_start : (session : Session) (known : Option (List ℕ)) → Appends known known [] → session.number ≡ 1 → session.line.passed_on ≡ false → session.line.bytes.items ≡ [] → session.text.items ≡ [] → session.outlet.sent ≡ 0
      → IsUnderWay becomes session known known [] []
  at_start session known out number kept bytes text sent = record {
    pending = record { turned = []; written = []; are = refl; all = text ∙ sym (nothing session.line kept); out = out; count = sent };
    next = number;
    shown = inl (kept, bytes);
  }
    where
      nothing : (line : UnfinishedLine) → line.passed_on ≡ false → passed_on [] line ≡ []
      nothing line kept = rw kept refl

  -- the line goes on
  pub on_with : (before after : Session) (old new : Option (List ℕ)) (ended : List (List ℕ)) (rest more : List ℕ) → IsUnderWay becomes before old new ended rest
      → after.number ≡ before.number → after.outlet ≡ before.outlet → IsShownBy becomes (rest ++ more) after.line
      → IsPutBehind before.text.items after.text.items (passed_on rest before.line) (passed_on (rest ++ more) after.line)
      → IsUnderWay becomes after old new ended (rest ++ more)
  on_with before after old new ended rest more is number outlet shown put = record {
    pending = subst (λ n. ArePending becomes after.text.items n old new ended (passed_on (rest ++ more) after.line)) (sym (ap (λ o. o.sent) outlet))
        (pending_more becomes before.text.items after.text.items before.outlet.sent old new ended (passed_on rest before.line) (passed_on (rest ++ more) after.line) is.pending put);
    next = number ∙ is.next;
    shown = shown;
  }

  -- the line has come to its end, and a new one begins
  pub line_over : (before after : Session) (old new : Option (List ℕ)) (ended : List (List ℕ)) (rest end : List ℕ) → IsUnderWay becomes before old new ended rest
      → after.number ≡ before.number + 1 → after.outlet ≡ before.outlet → after.line.passed_on ≡ false → after.line.bytes.items ≡ []
      → ((one : List ℕ) × becomes (rest ++ end) one × IsPutBehind before.text.items after.text.items (passed_on rest before.line) (one ++ 10 ∷ []))
      → IsUnderWay becomes after old new (ended ++ (rest ++ end) ∷ []) []
  line_over before after old new ended rest end is number outlet kept bytes (one, turned, put) =
      let line = rest ++ end in
      let was = is.next in
      let count = length-append ended (line ∷ []) in
      record {
        pending = subst (ArePending becomes after.text.items after.outlet.sent old new (ended ++ line ∷ [])) (sym (nothing after.line kept))
            (subst (λ n. ArePending becomes after.text.items n old new (ended ++ line ∷ []) []) (sym (ap (λ o. o.sent) outlet))
            (pending_line becomes after.text.items before.outlet.sent old new ended line one
            (pending_more becomes before.text.items after.text.items before.outlet.sent old new ended (passed_on rest before.line) (one ++ 10 ∷ []) is.pending put) turned));
        next = omega (arith, number, was, count);
        shown = inl (kept, bytes);
      }
    where
      nothing : (line : UnfinishedLine) → line.passed_on ≡ false → passed_on [] line ≡ []
      nothing line kept = rw kept refl

  -- all of it was written
  pub written_out : (before after : Session) (old mid new : Option (List ℕ)) (ended : List (List ℕ)) (rest : List ℕ) → IsUnderWay becomes before old mid ended rest → Appends mid new before.text.items
      → after.outlet.sent ≡ count_of (before.outlet.sent + length before.text.items) → IsWaiting after → after.number ≡ before.number → after.line ≡ before.line
      → IsUnderWay becomes after old new ended rest
  written_out before after old mid new ended rest is out counted waiting number line = record {
    pending = subst (λ (l : UnfinishedLine). ArePending becomes after.text.items after.outlet.sent old new ended (passed_on rest l)) (sym line)
        (pending_written becomes before.text.items after.text.items before.outlet.sent after.outlet.sent old mid new ended (passed_on rest before.line) is.pending out waiting.0 counted);
    next = number ∙ is.next;
    shown = subst (IsShownBy becomes rest) (sym line) is.shown;
  }

  -- what is out where no line has begun
  pub nothing_more : (session : Session) (old new : Option (List ℕ)) (ended : List (List ℕ)) (rest : List ℕ) → IsUnderWay becomes session old new ended rest → rest ≡ [] → IsWaiting session
      → IsDone becomes ended [] old new
  nothing_more session old new ended rest is none waiting =
      let passed : passed_on rest session.line ≡ [] = ap (λ (r : List ℕ). passed_on r session.line) none ∙ nothing_passed becomes session.line (subst (λ (r : List ℕ). IsShownBy becomes r session.line) none is.shown) in
      subst (λ (p : List ℕ). IsDone becomes ended p old new) passed (pending_out becomes session.text.items session.outlet.sent old new ended (passed_on rest session.line) waiting.0 is.pending)

  module _ {F : Type 0} (is_wrong : List ℕ → F → Type 0) where
    -- the line of this number is the first that is wrong
    pub wrong_at : (lines ended : List (List ℕ)) (line : List ℕ) (turned : List ℕ) (number : ℕ) (fault : F) → lines ≡ ended ++ line ∷ [] → AreTurned becomes ended turned → number ≡ length ended + 1 → is_wrong line fault
        → IsFirstWrong becomes is_wrong lines turned number fault
    wrong_at lines ended line turned number fault e are next wrong = (ended, line, [], e, are, next, wrong)

    -- a line that has begun is refused
    pub refused_midway : (session : Session) (old mid new : Option (List ℕ)) (ended : List (List ℕ)) (rest more : List ℕ) (error : RuleError F) (fault : FilterError F) (other : Session)
        → IsUnderWay becomes session old mid ended rest → IsStoppedMidway is_wrong (rest ++ more) (passed_on rest session.line) error
        → other.text.items ≡ session.text.items → other.outlet ≡ session.outlet → other.number ≡ session.number → IsStop other error mid new fault
        → IsEnded becomes is_wrong (without_empty_end (ended ++ (rest ++ more) ∷ [])) old new fault
    refused_midway session old mid new ended rest more error fault other is midway text outlet number stop =
        let part = passed_on rest session.line in
        let are : ArePending becomes other.text.items other.outlet.sent old mid ended part =
        subst (λ (t : List ℕ). ArePending becomes t other.outlet.sent old mid ended part) (sym text) (subst (λ n. ArePending becomes session.text.items n old mid ended part) (sym (ap (λ o. o.sent) outlet)) is.pending) in
        stopped becomes is_wrong (without_empty_end (ended ++ (rest ++ more) ∷ [])) other old mid new ended part error fault are
        (first_lines becomes ended are.turned (rest ++ more) part are.are (begun_part becomes rest more session.line is.shown))
        (λ f e. wrong_so f are.turned are.are (subst (IsStoppedMidway is_wrong (rest ++ more) part) e midway)) stop
      where
        wrong_so : (f : F) (turned : List ℕ) → AreTurned becomes ended turned → (passed_on rest session.line ≡ []) × (1 ≤ length (rest ++ more)) × is_wrong (rest ++ more) f
            → (passed_on rest session.line ≡ []) × IsFirstWrong becomes is_wrong (without_empty_end (ended ++ (rest ++ more) ∷ [])) turned other.number f
        wrong_so f turned are (none, some, wrong) =
            (none, wrong_at (without_empty_end (ended ++ (rest ++ more) ∷ [])) ended (rest ++ more) turned other.number f (end_front ended (rest ++ more) [] ∙ ap (λ (ls : List (List ℕ)). ended ++ ls) (end_of_some (rest ++ more) [] some)) are (number ∙ is.next) wrong)

    -- a line that has ended is refused
    pub refused_line : (session : Session) (old mid new : Option (List ℕ)) (ended : List (List ℕ)) (rest end : List ℕ) (error : RuleError F) (fault : FilterError F) (other : Session)
        → IsUnderWay becomes session old mid ended rest → IsStopped is_wrong (rest ++ end) (passed_on rest session.line) error
        → other.text.items ≡ session.text.items → other.outlet ≡ session.outlet → other.number ≡ session.number → IsStop other error mid new fault
        → IsEnded becomes is_wrong (ended ++ (rest ++ end) ∷ []) old new fault
    refused_line session old mid new ended rest end error fault other is refused text outlet number stop =
        let part = passed_on rest session.line in
        let are : ArePending becomes other.text.items other.outlet.sent old mid ended part =
        subst (λ (t : List ℕ). ArePending becomes t other.outlet.sent old mid ended part) (sym text) (subst (λ n. ArePending becomes session.text.items n old mid ended part) (sym (ap (λ o. o.sent) outlet)) is.pending) in
        stopped becomes is_wrong (ended ++ (rest ++ end) ∷ []) other old mid new ended part error fault are
        (first_ended becomes ended are.turned (rest ++ end) part are.are (begun_part becomes rest end session.line is.shown))
        (λ f e. wrong_so f are.turned are.are (subst (IsStopped is_wrong (rest ++ end) part) e refused)) stop
      where
        wrong_so : (f : F) (turned : List ℕ) → AreTurned becomes ended turned → (passed_on rest session.line ≡ []) × is_wrong (rest ++ end) f
            → (passed_on rest session.line ≡ []) × IsFirstWrong becomes is_wrong (ended ++ (rest ++ end) ∷ []) turned other.number f
        wrong_so f turned are (none, wrong) = (none, wrong_at (ended ++ (rest ++ end) ∷ []) ended (rest ++ end) turned other.number f refl are (number ∙ is.next) wrong)

    -- the writer failed at what these lines become
    pub not_written : (lines : List (List ℕ)) (session : Session) (old mid new : Option (List ℕ)) (ended : List (List ℕ)) (rest : List ℕ) (fault : FilterError F) (is : IsUnderWay becomes session old mid ended rest)
        → AreFirstTurned becomes lines (is.pending.turned ++ passed_on rest session.line) → IsWriteFault session mid new fault → IsEnded becomes is_wrong lines old new fault
    not_written lines session old mid new ended rest fault is first (sent, short, e) =
        subst (IsEnded becomes is_wrong lines old new) (sym e)
        (cut_short becomes is_wrong lines session.text.items session.outlet.sent old mid new ended (passed_on rest session.line) sent is.pending first short)

    -- what these lines become was written, or not
    pub written_now : {E : Type 0} (before after : Session) (old mid new : Option (List ℕ)) (ended : List (List ℕ)) (r : Result E (FilterError F)) → IsUnderWay becomes before old mid ended []
        → OnOk r (Appends mid new before.text.items) → IfErr r (IsWriteFault before mid new) → OnOk r (after.outlet.sent ≡ count_of (before.outlet.sent + length before.text.items))
        → OnOk r (IsWaiting after) → after.number ≡ before.number → after.line ≡ before.line
        → GoesOn becomes is_wrong ended old new r (IsUnderWay becomes after old new ended [])
    written_now before after old mid new ended (Ok done) is out part counted waiting number line = written_out before after old mid new ended [] is out counted waiting number line
    written_now before after old mid new ended (Err fault) is out part counted waiting number line = not_written ended before old mid new ended [] fault is (first_written ended is) part
      where
        first_written : (ended : List (List ℕ)) (is : IsUnderWay becomes before old mid ended []) → AreFirstTurned becomes ended (is.pending.turned ++ passed_on [] before.line)
        first_written ended is = subst (AreFirstTurned becomes ended) (sym (ap (λ (t : List ℕ). is.pending.turned ++ t) (nothing_passed becomes before.line is.shown) ∙ append-nil is.pending.turned)) (first_of_all becomes ended is.pending.turned is.pending.are)

    -- it goes on in another way, too
    goes_on_so : {E : Type 0} (P Q : Type 0) (lines : List (List ℕ)) (old new : Option (List ℕ)) (r : Result E (FilterError F)) → GoesOn becomes is_wrong lines old new r P → OnOk r (P → Q)
        → GoesOn becomes is_wrong lines old new r Q
    goes_on_so P Q lines old new (Ok done) first follows = follows first
    goes_on_so P Q lines old new (Err fault) first follows = first

    -- the last line was written, or not
    pub last_written : {E : Type 0} (before after : Session) (old mid new : Option (List ℕ)) (ended : List (List ℕ)) (r : Result E (FilterError F)) → IsUnderWay becomes before old mid ended []
        → OnOk r (Appends mid new before.text.items) → IfErr r (IsWriteFault before mid new) → OnOk r (after.outlet.sent ≡ count_of (before.outlet.sent + length before.text.items))
        → OnOk r (IsWaiting after) → after.number ≡ before.number → after.line ≡ before.line
        → GoesOn becomes is_wrong ended old new r (IsDone becomes ended [] old new)
    last_written before after old mid new ended r is out part counted waiting number line =
        goes_on_so (IsUnderWay becomes after old new ended []) (IsDone becomes ended [] old new) ended old new r (written_now before after old mid new ended r is out part counted waiting number line)
        (at_ok r waiting)
      where
        at_ok : {E : Type 0} (r : Result E (FilterError F)) → OnOk r (IsWaiting after) → OnOk r (IsUnderWay becomes after old new ended [] → IsDone becomes ended [] old new)
        at_ok (Ok done) waiting = λ now. nothing_more after old new ended [] now refl waiting
        at_ok (Err fault) waiting = tt

    -- a fault that is handed on
    pub handed_on : {E : Type 0} (P : Type 0) (lines : List (List ℕ)) (old new : Option (List ℕ)) (r : Result E (FilterError F)) (fault : FilterError F)
        → IsErrAnd r (λ other. other ≡ fault) → IsEnded becomes is_wrong lines old new fault → GoesOn becomes is_wrong lines old new r P
    handed_on P lines old new (Ok done) fault same is = absurd same
    handed_on P lines old new (Err other) fault same is = subst (IsEnded becomes is_wrong lines old new) (sym same) is
