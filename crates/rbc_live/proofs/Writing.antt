-- What is out, and what is left to be written.
use Rattle.std.proofs.Common.{◌≡◌, ℕ, ◌+◌, ◌≤◌, List, [], ◌++◌, length, take, Option, Result, Ok, Err, is_err, is_ok, if◌then◌else◌, false, sym, ap, ◌∙◌, subst, append_assoc, append-nil, arith, length-append}
use Rattle.std.specs.Prelude.{OnOk, IsErrAnd}
use Rattle.std.specs.Io.KnownBytes.{Appends, Keeps}
use Rattle.std.proofs.Math.Seq.{take-append-add, take-length}
use Rattle.std.proofs.KnownBytes.{Appends-trans, Appends-kept}
use Rattle.rbc_track.specs.Plan.{Plan}
use Rattle.rbc_live.specs.declared.wanted.Wanted.{Wanted}
use Rattle.rbc_live.specs.History.{IsSerialOf}
use Rattle.rbc_live.specs.Watching.{IsWatchFor}
use Rattle.rbc_live.specs.Lines.{AreAnswers, AreFirstAnswers}
use Rattle.rbc_text.specs.declared.outlet.WriteFault.{WriteFault}
use Rattle.rbc_text.specs.Streams.{count_of}
use Rattle.rbc_live.specs.UnderWay.{Shows, ArePending, IsUnderWay, IsWaiting, IsDone, IsEnded, GoesOn}
use Rattle.rbc_text.specs.Streams.{IsCutShort}
use Rattle.rbc_live.specs.declared.session.Session.{Session}
use Rattle.rbc_live.specs.declared.prompt.PromptError.{PromptError}
use Rattle.rbc_live.specs.declared.prompt.PromptError.TheVariants.{Read, Memory, Write}

-- what a session has still to say
abbrev pub pending : (plan : Plan) (wanted : Wanted) (session : Session) (old new : Option (List ℕ)) (ended : List (List ℕ)) (rest : List ℕ)
    → IsUnderWay plan wanted session old new ended rest → ArePending plan wanted session.text.items session.outlet.sent old new ended
pending plan wanted session old new ended rest is = record {
  taken = is.taken;
  records = session.desk.records;
  written = is.written;
  fed = is.fed;
  inputs = is.inputs;
  serial = is.serial;
  all = is.all;
  out = is.out;
  count = is.count;
}

-- the answers to all lines that were taken
answers : (plan : Plan) (wanted : Wanted) (text : List ℕ) (sent : ℕ) (old new : Option (List ℕ)) (ended : List (List ℕ))
    (are : ArePending plan wanted text sent old new ended) → AreAnswers plan wanted ended (are.written ++ text)
answers plan wanted text sent old new ended are = record {
  taken = are.taken;
  records = are.records;
  inputs = are.inputs;
  fed = are.fed;
  serial = are.serial;
  spelled = are.all;
}

-- the first of some lines are the first of more
first_of_more : (plan : Plan) (wanted : Wanted) (lines more all : List (List ℕ)) (text : List ℕ) → all ≡ lines ++ more → AreFirstAnswers plan wanted lines text → AreFirstAnswers plan wanted all text
first_of_more plan wanted lines more all text e are = record {
  answered = are.answered;
  more = are.more ++ more;
  parts = e ∙ ap (λ (front : List (List ℕ)). front ++ more) are.parts ∙ append_assoc are.answered are.more more;
  answers = are.answers;
}

first_of_all : (plan : Plan) (wanted : Wanted) (lines : List (List ℕ)) (text : List ℕ) → AreAnswers plan wanted lines text → AreFirstAnswers plan wanted lines text
first_of_all plan wanted lines text are = record { answered = lines; more = []; parts = sym (append-nil lines); answers = are }

pub ended_of_more : (plan : Plan) (wanted : Wanted) (lines more all : List (List ℕ)) (old new : Option (List ℕ)) (fault : PromptError) → all ≡ lines ++ more
    → IsEnded plan wanted lines old new fault → IsEnded plan wanted all old new fault
ended_of_more plan wanted lines more all old new Read e is = absurd is
ended_of_more plan wanted lines more all old new Memory e is = (is.0, first_of_more plan wanted lines more all is.0 e is.1, is.2)
ended_of_more plan wanted lines more all old new (Write sent) e is = (is.0, first_of_more plan wanted lines more all is.0 e is.1, is.2)

-- the answers to the lines before, and nothing of more
pub memory_refused : (plan : Plan) (wanted : Wanted) (lines : List (List ℕ)) (old new : Option (List ℕ)) → IsDone plan wanted lines old new → IsEnded plan wanted lines old new Memory
memory_refused plan wanted lines old new is = (is.0, first_of_all plan wanted lines is.0 is.1, is.2)

pub counted_on : (a b count : ℕ) → count ≡ count_of a → count_of (count + b) ≡ count_of (a + b)
counted_on a b count e = rw e (grind arith)

-- the writer failed after a part of the text
part_out : (plan : Plan) (wanted : Wanted) (text : List ℕ) (sent : ℕ) (old mid new : Option (List ℕ)) (ended : List (List ℕ)) (part count : ℕ)
    → ArePending plan wanted text sent old mid ended → part ≤ length text → Appends mid new (take part text) → count ≡ count_of (sent + part)
    → IsEnded plan wanted ended old new (Write count)
part_out plan wanted text sent old mid new ended part count are few out counted =
    let whole = length-append are.written text in (
      are.written ++ text,
      first_of_all plan wanted ended (are.written ++ text) (answers plan wanted text sent old mid ended are),
      (
        length are.written + part,
        omega (arith, few, whole),
        counted ∙ counted_on (length are.written) part sent are.count,
        subst (Appends old new) (sym (take-append-add are.written text part)) (Appends-trans old mid new are.written (take part text) are.out out),
      ),
    )

pub cut_short : (plan : Plan) (wanted : Wanted) (text : List ℕ) (sent : ℕ) (old mid new : Option (List ℕ)) (ended : List (List ℕ)) (fault : WriteFault)
    → ArePending plan wanted text sent old mid ended → IsCutShort sent text mid new fault → IsEnded plan wanted ended old new (Write fault.sent)
cut_short plan wanted text sent old mid new ended fault are (part, few, out, same) = part_out plan wanted text sent old mid new ended part fault.sent are few out same

-- all of it was written
pub all_out : (plan : Plan) (wanted : Wanted) (text : List ℕ) (sent : ℕ) (old mid last new : Option (List ℕ)) (ended : List (List ℕ))
    → ArePending plan wanted text sent old mid ended → Appends mid last text → Keeps last new → IsDone plan wanted ended old new
all_out plan wanted text sent old mid last new ended are out kept =
    (are.written ++ text, answers plan wanted text sent old mid ended are, Appends-kept old last new (are.written ++ text) (Appends-trans old mid last are.written text are.out out) kept)

-- all of it was written, and is not given to the system
pub not_flushed : (plan : Plan) (wanted : Wanted) (text : List ℕ) (sent : ℕ) (old mid last new : Option (List ℕ)) (ended : List (List ℕ)) (count : ℕ)
    → ArePending plan wanted text sent old mid ended → Appends mid last text → Keeps last new → count ≡ count_of (sent + length text)
    → IsEnded plan wanted ended old new (Write count)
not_flushed plan wanted text sent old mid last new ended count are out kept counted =
    part_out plan wanted text sent old mid new ended (length text) count are (omega arith)
    (subst (Appends mid new) (sym (take-length text)) (Appends-kept mid last new text out kept)) counted

-- nothing is left to be written
pub nothing_left : (plan : Plan) (wanted : Wanted) (session : Session) (old new : Option (List ℕ)) (ended : List (List ℕ)) (rest : List ℕ)
    → IsUnderWay plan wanted session old new ended rest → IsWaiting session → IsDone plan wanted ended old new
nothing_left plan wanted session old new ended rest is waiting =
    let are = pending plan wanted session old new ended rest is in (
      is.written,
      subst (AreAnswers plan wanted ended) (ap (λ (text : List ℕ). is.written ++ text) waiting.0 ∙ append-nil is.written)
          (answers plan wanted session.text.items session.outlet.sent old new ended are),
      is.out,
    )

-- the session goes on, with nothing left to be written
pub goes_on : (plan : Plan) (wanted : Wanted) (before after : Session) (old mid last new : Option (List ℕ)) (ended : List (List ℕ)) (rest : List ℕ)
    → IsUnderWay plan wanted before old mid ended rest → Appends mid last before.text.items → Keeps last new
    → after ≡ record before { text = after.text; outlet = after.outlet } → after.text.items ≡ [] → after.outlet.sent ≡ count_of (before.outlet.sent + length before.text.items)
    → IsUnderWay plan wanted after old new ended rest
goes_on plan wanted before after old mid last new ended rest is out kept same none counted =
    let text = before.text.items in
    record {
      taken = is.taken;
      inputs = is.inputs;
      written = is.written ++ text;
      fed = is.fed;
      serial = subst (λ (s : Session). IsSerialOf plan is.inputs is.taken s.desk.records) (sym same) is.serial;
      as_many = is.as_many;
      boxes = is.boxes;
      all = ap (λ (t : List ℕ). (is.written ++ text) ++ t) none ∙ append-nil (is.written ++ text) ∙ is.all;
      out = Appends-kept old last new (is.written ++ text) (Appends-trans old mid last is.written text is.out out) kept;
      count = counted ∙ counted_on (length is.written) (length text) before.outlet.sent is.count ∙ ap count_of (sym (length-append is.written text));
      track = ap (λ (s : Session). s.desk.track) same ∙ is.track;
      first = ap (λ (s : Session). s.wanted) same ∙ is.first;
      watch = subst (λ (s : Session). IsWatchFor wanted.alarms plan.horizon s.desk.records s.watch) (sym same) is.watch;
      next = ap (λ (s : Session). s.number) same ∙ is.next;
      begun = subst (λ (s : Session). Shows rest s.line) (sym same) is.begun;
    }

pub same_pending : (plan : Plan) (wanted : Wanted) (text other : List ℕ) (sent count : ℕ) (old new : Option (List ℕ)) (ended : List (List ℕ)) → other ≡ text → count ≡ sent
    → ArePending plan wanted text sent old new ended → ArePending plan wanted other count old new ended
same_pending plan wanted text other sent count old new ended same counted are =
    subst (λ (t : List ℕ). ArePending plan wanted t count old new ended) (sym same) (subst (λ n. ArePending plan wanted text n old new ended) (sym counted) are)

-- what holds where there was no fault
pub without_fault : {E F P : Type 0} (r : Result E F) → is_err r ≡ false → OnOk r P → P
without_fault (Ok done) e holds = holds
without_fault (Err fault) e holds = cc

-- it goes on in another way, too
pub goes_on_so : {E : Type 0} (P Q : Type 0) (plan : Plan) (wanted : Wanted) (lines : List (List ℕ)) (old new : Option (List ℕ)) (r : Result E PromptError) → GoesOn plan wanted lines old new r P → OnOk r Q
    → GoesOn plan wanted lines old new r Q
goes_on_so P Q plan wanted lines old new (Ok done) first second = second
goes_on_so P Q plan wanted lines old new (Err fault) first second = first

-- a fault that is handed on
pub handed_on : {E : Type 0} (P : Type 0) (plan : Plan) (wanted : Wanted) (lines : List (List ℕ)) (old new : Option (List ℕ)) (r : Result E PromptError) (fault : PromptError)
    → IsErrAnd r (λ other. other ≡ fault) → IsEnded plan wanted lines old new fault → GoesOn plan wanted lines old new r P
handed_on P plan wanted lines old new (Ok done) fault same is = absurd same
handed_on P plan wanted lines old new (Err other) fault same is = subst (IsEnded plan wanted lines old new) (sym same) is

-- bytes that were added
pub appended : {E F P : Type 0} (r : Result E F) (old new more : List ℕ) → new ≡ (if is_ok r then old ++ more else old) → (new ≡ old ++ more → P) → OnOk r P
appended (Ok done) old new more e follows = follows e
appended (Err fault) old new more e follows = tt

-- what holds in any case holds where there was no fault
pub in_any_case : {E F P : Type 0} (r : Result E F) → P → OnOk r P
in_any_case (Ok done) holds = holds
in_any_case (Err fault) holds = tt

-- what follows of what holds where there was no fault
pub where_ok : {E F P Q : Type 0} (r : Result E F) → OnOk r P → (P → Q) → OnOk r Q
where_ok (Ok done) holds follows = follows holds
where_ok (Err fault) holds follows = tt
