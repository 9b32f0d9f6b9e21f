-- A log in objects, of lines that an account took.
use Rattle.std.proofs.Common.{◌≡◌, ℕ, Bool, true, false, ◌+◌, ◌^◌, ◌<◌, List, [], ◌∷◌, ◌++◌, length, map, codes, if◌then◌else◌, is_ok, Result, refl, sym, ap, ◌∙◌, subst, append_assoc, arith}
use Rattle.std.specs.Prelude.{OnOk}
use Rattle.std.proofs.lemmas.Result.{on_ok_weaker}
use Rattle.std.proofs.lemmas.List.{length-map}
use Rattle.rbc_track.specs.Plan.{Plan}
use Rattle.rbc_settle.specs.declared.sent.Sent.{Sent}
use Rattle.rbc_records.specs.declared.record.Key.{Key}
use Rattle.rbc_records.specs.declared.record.Rec.{Rec}
use Rattle.rbc_records.specs.Notes.{record_in}
use Rattle.rbc_rule.specs.declared.outcome.Reply.{Reply}
use Rattle.rbc_live.specs.History.{Taken, AreSame, IsFed, IsHistory}
use Rattle.rbc_account.specs.declared.account.Account.{Account}
use Rattle.rbc_account.specs.declared.account.Sums.{Sums}
use Rattle.rbc_account.specs.declared.block.Block.{Block}
use Rattle.rbc_account.specs.declared.log_form.LogWanted.{LogWanted}
use Rattle.rbc_account.specs.Blocks.{IsRightBlock}
use Rattle.rbc_account.specs.Coming.{sender_in}
use Rattle.rbc_account.specs.LogSections.{Head, OfInput, AtEnd, IsBlockOf, IsPushed}
use Rattle.rbc_account.specs.RunLogs.{is_told, has_head, has_end, IsPartIf, IsBlockIf, AreTold, IsHead, IsLogSoFar, IsWholeLog}
use Rattle.rbc_account.specs.Runs.{sums_after, EachAccountIsTrue}
use Rattle.rbc_account.specs.Sums.{no_sums}
use Rattle.rbc_explain.specs.Marked.{ended}
use Rattle.rbc_json.specs.Lists.{IsTextOf}
use Rattle.rbc_json.specs.Objects.{IsObjectOf, HasSums}
use Rattle.rbc_json.proofs.Ends.{added}
use Rattle.rbc_json.specs.Log.{IsLineOf, IsInObjects, IsTakenObject, AreObjects, IsLogOf, IsWholeLogOf}

-- ---- one line

-- the block of a line, on the track under another name
block_named : (plan : Plan) (number : ℕ) (line : List ℕ) (old new : Account) (answer : Reply) (messages : List Sent) (block : Block) (text : List ℕ) → IsBlockOf old line new block
    → block.number ≡ number → block.reply ≡ answer → block.messages ≡ messages → new.desk.track ≡ plan → IsInObjects (OfInput new line block) text
    → IsTakenObject plan number (record { line = line; reply = answer; messages = messages }) old.desk.records new.desk.records text
block_named plan number line old new answer messages block text of same_number same_reply same_messages track is = record {
  block = block;
  numbered = same_number;
  is_input = of.input;
  reply = same_reply;
  messages = same_messages;
  right = subst (λ (p : Plan). IsRightBlock p new.desk.records (sender_in old.desk.records block.input) block) track of.right;
  known = of.known;
  written = subst (λ (p : Plan). IsLineOf (IsObjectOf p line block) text) track is;
}

block_object : (plan : Plan) (told : Bool) (number : ℕ) (line : List ℕ) (old new : Account) (answer : Reply) (messages : List Sent) (text : List ℕ)
    → IsBlockIf told IsInObjects number line old new answer messages text → new.desk.track ≡ plan
    → IsPartIf told (IsTakenObject plan number (record { line = line; reply = answer; messages = messages }) old.desk.records new.desk.records) text
block_object plan true number line old new answer messages text is track =
    block_named plan number line old new answer messages is.0 text is.1 is.2 is.3 is.4 track is.5
block_object plan false number line old new answer messages text is track = is

-- ---- lines

-- What lines tell that lead from one account to another.
record IsRunText (plan : Plan) (wanted : LogWanted) (number : ℕ) (lines : List (List ℕ)) (old new : Account) (text : List ℕ) : Type 0 where
  taken : List Taken
  fed : map (λ one. one.line) taken ≡ lines
  history : IsHistory plan old.desk.records taken new.desk.records
  counts : new.sums ≡ sums_after old.sums taken
  track : new.desk.track ≡ plan
  objects : AreObjects plan wanted number old.desk.records taken new.desk.records text

run_text : (plan : Plan) (wanted : LogWanted) (number : ℕ) (lines : List (List ℕ)) (old new : Account) (text : List ℕ) → AreTold IsInObjects wanted number lines old new text
    → old.desk.track ≡ plan → IsRunText plan wanted number lines old new text
run_text plan wanted number [] old new text are track =
    let same : AreSame old.desk.records new.desk.records = λ k. ap (λ (a : Account). record_in a.desk.records k) are.0 in
    record {
      taken = [];
      fed = refl;
      history = same;
      counts = ap (λ (a : Account). a.sums) are.0;
      track = ap (λ (a : Account). a.desk.track) are.0 ∙ track;
      objects = (same, are.1);
    }
run_text plan wanted number (line ∷ lines) old new text are track =
    let mid = are.0 in
    let one = are.4 in
    let here = one.track ∙ track in
    let taken : Taken = record { line = line; reply = one.answer; messages = one.messages } in
    let by_plan = subst (λ (p : Plan). IsFed p line old.desk.records mid.desk.records one.answer one.messages) track one.fed in
    let object = block_object plan (is_told wanted number one.answer) number line old mid one.answer one.messages are.1 one.told here in
    let rest = run_text plan wanted (number + 1) lines mid new are.2 are.5 here in
    record {
      taken = taken ∷ rest.taken;
      fed = ap (λ (ls : List (List ℕ)). line ∷ ls) rest.fed;
      history = (old.desk.records, mid.desk.records, λ k. refl, by_plan, rest.history);
      counts = rest.counts ∙ ap (λ (s : Sums). sums_after s rest.taken) one.sums;
      track = rest.track;
      objects = (old.desk.records, mid.desk.records, λ k. refl, by_plan, are.1, are.2, are.3, object, rest.objects);
    }

-- ---- the whole

-- there is no head
head_none : (wanted : LogWanted) (part : Bool) (head : List ℕ) → IsPartIf part (IsInObjects (Head wanted.from)) head → head ≡ []
head_none wanted true head is = is
head_none wanted false head is = is

no_head : (wanted : LogWanted) (headed : Bool) (head blocks : List ℕ) → IsHead headed IsInObjects wanted head blocks → head ≡ []
no_head wanted true head blocks is = head_none wanted (has_head wanted.parts) head is
no_head wanted false head blocks is = is.0

-- The log of lines from an account that has taken none, with the account after them.
pub record IsLogWith (plan : Plan) (wanted : LogWanted) (lines : List (List ℕ)) (account : Account) (log : List ℕ) : Type 0 where
  pub told : IsLogOf plan wanted lines log
  pub records : account.desk.records ≡ told.records
  pub counted : account.sums ≡ sums_after no_sums told.taken
  pub track : account.desk.track ≡ plan

pub log_so_far : (plan : Plan) (wanted : LogWanted) (start : Account) (lines : List (List ℕ)) (account : Account) (headed : Bool) (text : List ℕ) → EachAccountIsTrue → start.desk.track ≡ plan
    → start.desk.records ≡ [] → start.sums ≡ no_sums → IsLogSoFar IsInObjects wanted start lines account headed text → IsLogWith plan wanted lines account text
log_so_far plan wanted start lines account headed text law track empty none log =
    let run = run_text plan wanted 1 lines start account log.blocks log.told track in
    let history = subst (λ (records : List (Key × Rec)). IsHistory plan records run.taken account.desk.records) empty run.history in
    let same : text ≡ log.blocks = log.all ∙ ap (λ (head : List ℕ). head ++ log.blocks) (no_head wanted headed log.head log.blocks log.begun) in
    let objects = subst (λ (records : List (Key × Rec)). AreObjects plan wanted 1 records run.taken account.desk.records text) empty
    (subst (λ (t : List ℕ). AreObjects plan wanted 1 start.desk.records run.taken account.desk.records t) (sym same) run.objects) in
    let counts = run.counts ∙ ap (λ (s : Sums). sums_after s run.taken) none in
    let count : length lines ≡ length run.taken = ap (λ (ls : List (List ℕ)). length ls) (sym run.fed) ∙ length-map run.taken (λ t. t.line) in
    let few = log.few in
    let small : length run.taken < 2 ^ 64 = omega (arith, count, few) in
    record {
      told = record {
        taken = run.taken;
        records = account.desk.records;
        fed = run.fed;
        serial = (law plan run.taken account.desk.records account.sums small (record { history = history; counts = counts })).serial;
        objects = objects;
      };
      records = refl;
      counted = counts;
      track = run.track;
    }

-- the end, if it is there, with the sums under another name
end_named : (plan : Plan) (part : Bool) (account : Account) (records : List (Key × Rec)) (sums : Sums) (text : List ℕ) → account.desk.track ≡ plan → account.desk.records ≡ records
    → account.sums ≡ sums → IsPartIf part (IsInObjects (AtEnd account)) text → IsPartIf part (HasSums plan.horizon records sums) text
end_named plan true account records sums text track same counted is =
    subst (λ (p : Plan). HasSums p.horizon records sums text) track
    (subst (λ (r : List (Key × Rec)). HasSums account.desk.track.horizon r sums text) same
    (subst (λ (s : Sums). HasSums account.desk.track.horizon account.desk.records s text) counted is))
end_named plan false account records sums text track same counted is = is

pub whole_log : (plan : Plan) (wanted : LogWanted) (start : Account) (lines : List (List ℕ)) (text : List ℕ) → EachAccountIsTrue → start.desk.track ≡ plan
    → start.desk.records ≡ [] → start.sums ≡ no_sums → IsWholeLog IsInObjects wanted start lines text → IsWholeLogOf plan wanted lines text
whole_log plan wanted start lines text law track empty none log =
    let front = log_so_far plan wanted start lines log.account true log.front law track empty none log.told in
    record {
      front = log.front;
      end = log.end;
      all = log.all;
      told = front.told;
      ended = end_named plan (has_end wanted.parts) log.account front.told.records (sums_after no_sums front.told.taken) log.end front.track front.records front.counted log.ended;
    }

-- ---- the parts, as they are added

-- the line of an input, on the track under another name
pub block_pushed : {T E : Type 0} (r : Result T E) (named plan : Plan) (line : List ℕ) (block : Block) (text shown old new : List ℕ) → named ≡ plan → shown ≡ text
    → IsTextOf (IsObjectOf named line block) text → OnOk r (new ≡ old ++ ended shown) → OnOk r (IsPushed (IsLineOf (IsObjectOf plan line block)) old new)
block_pushed r named plan line block text shown old new track same is pushed =
    let object = subst (λ (p : Plan). IsTextOf (IsObjectOf p line block) text) track is in
    on_ok_weaker r (λ more. (ended shown, more, (object.0, object.1, ap ended (same ∙ object.2)))) pushed

-- an object and its line feed
pub line_added : {T E : Type 0} (r : Result T E) (old now new object : List ℕ) → now ≡ old ++ object → new ≡ (if is_ok r then now ++ codes "\n" else now)
    → OnOk r (new ≡ old ++ ended object)
line_added r old now new object one two =
    on_ok_weaker r (λ e. e ∙ ap (λ (t : List ℕ). t ++ codes "\n") one ∙ append_assoc old object (codes "\n")) (added r new now (codes "\n") two)
