-- A log in words, of lines that an account took.
use Rattle.std.proofs.Common.{◌≡◌, ℕ, Bool, true, false, if◌then◌else◌, ◌+◌, ◌^◌, ◌<◌, List, [], ◌∷◌, ◌++◌, length, map, flat_map, filter_map, Result, refl, sym, ap, ◌∙◌, subst, append_assoc, append-nil, arith}
use Rattle.std.specs.Prelude.{OnOk}
use Rattle.std.proofs.lemmas.Result.{on_ok_weaker}
use Rattle.std.proofs.lemmas.List.{length-map}
use Rattle.std.proofs.lemmas.List.Elements.{filter_map-append}
use Rattle.rbc_track.specs.Plan.{Plan}
use Rattle.rbc_settle.specs.declared.sent.Sent.{Sent}
use Rattle.rbc_records.specs.declared.record.Key.{Key}
use Rattle.rbc_records.specs.declared.record.Rec.{Rec}
use Rattle.rbc_records.specs.Notes.{record_in}
use Rattle.rbc_rule.specs.declared.outcome.Reply.{Reply}
use Rattle.rbc_text.specs.BatchText.{lines_of}
use Rattle.rbc_text.specs.OutputText.{answer_of}
use Rattle.rbc_account.specs.History.{Taken, AreSame, IsFed, IsHistory}
use Rattle.rbc_account.specs.declared.account.Account.{Account}
use Rattle.rbc_account.specs.declared.account.Sums.{Sums}
use Rattle.rbc_account.specs.declared.block.Block.{Block}
use Rattle.rbc_account.specs.declared.told.Told.{Told}
use Rattle.rbc_account.specs.Coming.{sender_in}
use Rattle.rbc_account.specs.Subjects.{ArePaired, IsToldOf}
use Rattle.rbc_account.specs.declared.log_form.LogWanted.{LogWanted}
use Rattle.rbc_account.specs.LogSections as section
use Rattle.rbc_account.specs.LogSections.{Head, OfInput, AtEnd}
use Rattle.rbc_account.specs.RunLogs.{is_told, has_head, has_end, IsPartIf, IsBlockIf, AreTold, IsHead, IsLogSoFar, IsWholeLog}
use Rattle.rbc_account.specs.Runs.{sums_after, EachAccountIsTrue}
use Rattle.rbc_account.specs.Sums.{no_sums}
use Rattle.rbc_explain.specs.Marked.{ended, unmarked, AreAdded, IsToldOn}
use Rattle.rbc_explain.specs.Sentences.{sums_text}
use Rattle.rbc_explain.specs.Telling.{HasText, IsSaidOn, IsBlockOn}
use Rattle.rbc_explain.specs.Log.{answers_told, IsBlockOf, AreBlocks, IsLogOf, IsWholeLogOf, IsInWords}
use Rattle.rbc_explain.proofs.Marking.{added_then}
use Rattle.rbc_explain.proofs.Told.{text_behind}

-- lines that are a text are added behind any other
added_behind : (lines : List (List ℕ)) (text old : List ℕ) → AreAdded lines [] text → AreAdded lines old (old ++ text)
added_behind lines text old added = record { text = ap (λ (t : List ℕ). old ++ t) added.text; each = added.each }

-- two texts, one after the other
added_both : (first second : List (List ℕ)) (one two : List ℕ) → AreAdded first [] one → AreAdded second [] two → AreAdded (first ++ second) [] (one ++ two)
added_both first second one two added more = added_then first second [] one (one ++ two) added (added_behind second two one more)

-- ---- one line

-- The lines of the block of an input, if it is told, or none.
record IsBlockText (plan : Plan) (told : Bool) (number : ℕ) (one : Taken) (old new : List (Key × Rec)) (text : List ℕ) : Type 0 where
  lines : List (List ℕ)
  added : AreAdded lines [] text
  marked : filter_map unmarked lines ≡ (if told then lines_of (answer_of number one.reply one.messages) else [])
  block : told ≡ true → IsBlockOf plan number one old new lines

-- the block of a line, with its number, its reply, its messages and the track under other names
block_named : (plan : Plan) (number : ℕ) (line : List ℕ) (old new : Account) (answer : Reply) (messages : List Sent) (block : Block) (text : List ℕ) → section.IsBlockOf old line new block
    → block.number ≡ number → block.reply ≡ answer → block.messages ≡ messages → new.desk.track ≡ plan → IsInWords (OfInput new line block) text
    → IsBlockText plan true number (record { line = line; reply = answer; messages = messages }) old.desk.records new.desk.records text
block_named plan number line old new answer messages block text of same_number same_reply same_messages track is =
    let told = block.told.items in
    let named : IsBlockOn plan number answer messages told [] text =
    subst (λ (p : Plan). IsBlockOn p number answer messages told [] text) track
    (subst (λ (n : ℕ). IsBlockOn new.desk.track n answer messages told [] text) same_number
    (subst (λ (r : Reply). IsBlockOn new.desk.track block.number r messages told [] text) same_reply
    (subst (λ (m : List Sent). IsBlockOn new.desk.track block.number block.reply m told [] text) same_messages is))) in
    record {
      lines = named.0;
      added = named.1;
      marked = named.2;
      block = λ e. record {
        input = block.input;
        is_input = of.input;
        told = told;
        right = subst (λ (m : List Sent). ArePaired (IsToldOf new.desk.records block.input (sender_in old.desk.records block.input)) m told)
            same_messages of.right.told;
        known = of.known;
        marked = named.2;
        tells = named.3;
      };
    }

block_text : (plan : Plan) (told : Bool) (number : ℕ) (line : List ℕ) (old new : Account) (answer : Reply) (messages : List Sent) (text : List ℕ)
    → IsBlockIf told IsInWords number line old new answer messages text → new.desk.track ≡ plan
    → IsBlockText plan told number (record { line = line; reply = answer; messages = messages }) old.desk.records new.desk.records text
block_text plan true number line old new answer messages text is track =
    block_named plan number line old new answer messages is.0 text is.1 is.2 is.3 is.4 track is.5
block_text plan false number line old new answer messages text is track = record {
  lines = [];
  added = record { text = is; each = tt };
  marked = refl;
  block = λ bad. let never : false ≡ true = bad in absurd cc;
}

-- ---- lines

-- What lines tell that lead from one account to another.
record IsRunText (plan : Plan) (wanted : LogWanted) (number : ℕ) (lines : List (List ℕ)) (old new : Account) (text : List ℕ) : Type 0 where
  taken : List Taken
  fed : map (λ one. one.line) taken ≡ lines
  history : IsHistory plan old.desk.records taken new.desk.records
  counts : new.sums ≡ sums_after old.sums taken
  track : new.desk.track ≡ plan
  told : IsToldOn (answers_told wanted number taken) [] text
  blocks : AreBlocks plan wanted number old.desk.records taken new.desk.records told.0

run_text : (plan : Plan) (wanted : LogWanted) (number : ℕ) (lines : List (List ℕ)) (old new : Account) (text : List ℕ) → AreTold IsInWords wanted number lines old new text → old.desk.track ≡ plan
    → IsRunText plan wanted number lines old new text
run_text plan wanted number [] old new text are track =
    let same : AreSame old.desk.records new.desk.records = λ k. ap (λ (a : Account). record_in a.desk.records k) are.0 in
    record {
      taken = [];
      fed = refl;
      history = same;
      counts = ap (λ (a : Account). a.sums) are.0;
      track = ap (λ (a : Account). a.desk.track) are.0 ∙ track;
      told = ([], record { text = are.1; each = tt }, refl);
      blocks = same;
    }
run_text plan wanted number (line ∷ lines) old new text are track =
    let mid = are.0 in
    let one = are.4 in
    let here = one.track ∙ track in
    let taken : Taken = record { line = line; reply = one.answer; messages = one.messages } in
    let by_plan = subst (λ (p : Plan). IsFed p line old.desk.records mid.desk.records one.answer one.messages) track one.fed in
    let block = block_text plan (is_told wanted number one.answer) number line old mid one.answer one.messages are.1 one.told here in
    let rest = run_text plan wanted (number + 1) lines mid new are.2 are.5 here in
    record {
      taken = taken ∷ rest.taken;
      fed = ap (λ (ls : List (List ℕ)). line ∷ ls) rest.fed;
      history = (old.desk.records, mid.desk.records, λ k. refl, by_plan, rest.history);
      counts = rest.counts ∙ ap (λ (s : Sums). sums_after s rest.taken) one.sums;
      track = rest.track;
      told = (
        block.lines ++ rest.told.0,
        subst (AreAdded (block.lines ++ rest.told.0) []) (sym are.3) (added_both block.lines rest.told.0 are.1 are.2 block.added rest.told.1),
        filter_map-append unmarked block.lines rest.told.0 ∙ (λ i. block.marked i ++ rest.told.2 i),
      );
      blocks = (old.desk.records, mid.desk.records, λ k. refl, by_plan, [], block.lines, rest.told.0, refl, block.block, rest.blocks);
    }

-- ---- the whole

in_three : (front block rest more lines : List (List ℕ)) → lines ≡ front ++ (block ++ rest) → lines ++ more ≡ front ++ (block ++ (rest ++ more))
in_three front block rest more lines is =
    ap (λ (ls : List (List ℕ)). ls ++ more) is ∙ append_assoc front (block ++ rest) more ∙ ap (λ (ls : List (List ℕ)). front ++ ls) (append_assoc block rest more)

-- words behind the blocks, and before them
blocks_still : (plan : Plan) (wanted : LogWanted) (number : ℕ) (taken : List Taken) (old new : List (Key × Rec)) (lines more : List (List ℕ)) → AreBlocks plan wanted number old taken new lines
    → AreBlocks plan wanted number old taken new (lines ++ more)
blocks_still plan wanted number [] old new lines more same = same
blocks_still plan wanted number (first ∷ taken) old new lines more so_far = (
  so_far.0,
  so_far.1,
  so_far.2,
  so_far.3,
  so_far.4,
  so_far.5,
  so_far.6 ++ more,
  in_three so_far.4 so_far.5 so_far.6 more lines so_far.7,
  so_far.8,
  blocks_still plan wanted (number + 1) taken so_far.1 new so_far.6 more so_far.9,
)

blocks_behind : (plan : Plan) (wanted : LogWanted) (number : ℕ) (taken : List Taken) (old new : List (Key × Rec)) (words lines : List (List ℕ)) → AreBlocks plan wanted number old taken new lines
    → AreBlocks plan wanted number old taken new (words ++ lines)
blocks_behind plan wanted number [] old new words lines same = same
blocks_behind plan wanted number (first ∷ taken) old new words lines are = (
  are.0,
  are.1,
  are.2,
  are.3,
  words ++ are.4,
  are.5,
  are.6,
  ap (λ (ls : List (List ℕ)). words ++ ls) are.7 ∙ sym (append_assoc words are.4 (are.5 ++ are.6)),
  are.8,
  are.9,
)

-- the head, if it is there
head_text : (wanted : LogWanted) (part : Bool) (head : List ℕ) → IsPartIf part (IsInWords (Head wanted.from)) head → IsToldOn [] [] head
head_text wanted true head is = is
head_text wanted false head is = ([], record { text = is; each = tt }, refl)

head_or_none : (wanted : LogWanted) (headed : Bool) (head blocks : List ℕ) → IsHead headed IsInWords wanted head blocks → IsToldOn [] [] head
head_or_none wanted true head blocks is = head_text wanted (has_head wanted.parts) head is
head_or_none wanted false head blocks is = ([], record { text = is.0; each = tt }, refl)

-- The log of lines from an account that has taken none, with the sums after them.
pub record IsLogWith (plan : Plan) (wanted : LogWanted) (lines : List (List ℕ)) (sums : Sums) (log : List ℕ) : Type 0 where
  pub told : IsLogOf plan wanted lines log
  pub counted : sums ≡ sums_after no_sums told.taken

pub log_so_far : (plan : Plan) (wanted : LogWanted) (start : Account) (lines : List (List ℕ)) (account : Account) (headed : Bool) (text : List ℕ) → EachAccountIsTrue → start.desk.track ≡ plan
    → start.desk.records ≡ [] → start.sums ≡ no_sums → IsLogSoFar IsInWords wanted start lines account headed text → IsLogWith plan wanted lines account.sums text
log_so_far plan wanted start lines account headed text law track empty none log =
    let head = head_or_none wanted headed log.head log.blocks log.begun in
    let run = run_text plan wanted 1 lines start account log.blocks log.told track in
    let history = subst (λ (records : List (Key × Rec)). IsHistory plan records run.taken account.desk.records) empty run.history in
    let blocks = subst (λ (records : List (Key × Rec)). AreBlocks plan wanted 1 records run.taken account.desk.records run.told.0) empty run.blocks in
    let counts = run.counts ∙ ap (λ (s : Sums). sums_after s run.taken) none in
    let count : length lines ≡ length run.taken = ap (λ (ls : List (List ℕ)). length ls) (sym run.fed) ∙ length-map run.taken (λ t. t.line) in
    let few = log.few in
    let small : length run.taken < 2 ^ 64 = omega (arith, count, few) in
    record {
      told = record {
        taken = run.taken;
        records = account.desk.records;
        fed = run.fed;
        serial = (law plan run.taken account.desk.records account.sums small (record { history = history; counts = counts })).serial;
        told = (
          head.0 ++ run.told.0,
          subst (AreAdded (head.0 ++ run.told.0) []) (sym log.all) (added_both head.0 run.told.0 log.head log.blocks head.1 run.told.1),
          filter_map-append unmarked head.0 run.told.0 ∙ (λ i. head.2 i ++ run.told.2 i),
        );
        blocks = blocks_behind plan wanted 1 run.taken [] account.desk.records head.0 run.told.0 blocks;
      };
      counted = counts;
    }

-- The lines of the end, if it is there.
record IsEndText (part : Bool) (sums : Sums) (text : List ℕ) : Type 0 where
  lines : List (List ℕ)
  added : AreAdded lines [] text
  marked : filter_map unmarked lines ≡ []
  says : part ≡ true → HasText (sums_text sums) lines

end_text : (part : Bool) (account : Account) (text : List ℕ) → IsPartIf part (IsInWords (AtEnd account)) text → IsEndText part account.sums text
end_text true account text is = record { lines = is.0; added = is.1; marked = is.2; says = λ e. is.3 }
end_text false account text is = record { lines = []; added = record { text = is; each = tt }; marked = refl; says = λ bad. let never : false ≡ true = bad in absurd cc }

pub whole_log : (plan : Plan) (wanted : LogWanted) (start : Account) (lines : List (List ℕ)) (text : List ℕ) → EachAccountIsTrue → start.desk.track ≡ plan
    → start.desk.records ≡ [] → start.sums ≡ no_sums → IsWholeLog IsInWords wanted start lines text → IsWholeLogOf plan wanted lines text
whole_log plan wanted start lines text law track empty none log =
    let front = log_so_far plan wanted start lines log.account true log.front law track empty none log.told in
    let told = front.told in
    let end = end_text (has_end wanted.parts) log.account log.end log.ended in
    record {
      told = record {
        taken = told.taken;
        records = told.records;
        fed = told.fed;
        serial = told.serial;
        told = (
          told.told.0 ++ end.lines,
          subst (AreAdded (told.told.0 ++ end.lines) []) (sym log.all) (added_both told.told.0 end.lines log.front log.end told.told.1 end.added),
          filter_map-append unmarked told.told.0 end.lines ∙ (λ i. told.told.2 i ++ end.marked i) ∙ append-nil (answers_told wanted 1 told.taken),
        );
        blocks = blocks_still plan wanted 1 told.taken [] told.records told.told.0 end.lines told.blocks;
      };
      sums = log.account.sums;
      counted = front.counted;
      ended = λ e. text_behind (sums_text log.account.sums) told.told.0 end.lines (end.says e);
    }

-- ---- the parts, as they are added

-- words are a part without a marked line
pub words_pushed : (words old new : List ℕ) → IsSaidOn (HasText words) old new → section.IsPushed (IsToldOn [] []) old new
words_pushed words old new said = (flat_map ended said.0, said.1.text, (said.0, record { text = refl; each = said.1.each }, said.2))

-- the block of an input
pub block_pushed : (plan : Plan) (number : ℕ) (reply : Reply) (messages : List Sent) (told : List Told) (old new : List ℕ) → IsBlockOn plan number reply messages told old new
    → section.IsPushed (IsBlockOn plan number reply messages told []) old new
block_pushed plan number reply messages told old new block =
    (flat_map ended block.0, block.1.text, (block.0, record { text = refl; each = block.1.each }, block.2, block.3))

-- the same unless memory was refused, with the track under another name
pub block_pushed_if : {T E : Type 0} (r : Result T E) (plan of : Plan) (number : ℕ) (reply : Reply) (messages : List Sent) (told : List Told) (old new : List ℕ) → of ≡ plan
    → OnOk r (IsBlockOn of number reply messages told old new) → OnOk r (section.IsPushed (IsBlockOn plan number reply messages told []) old new)
block_pushed_if r plan of number reply messages told old new same block =
    on_ok_weaker r (λ is. block_pushed plan number reply messages told old new (subst (λ (p : Plan). IsBlockOn p number reply messages told old new) same is)) block

-- the text is among the lines, whatever follows
text_before : (text : List ℕ) (lines more : List (List ℕ)) → HasText text lines → HasText text (lines ++ more)
text_before text lines more has =
    (has.0, has.1 ++ more, ap (λ (ls : List (List ℕ)). ls ++ more) has.2 ∙ append_assoc has.0 _ more ∙ ap (λ (ls : List (List ℕ)). has.0 ++ ls) (append_assoc _ has.1 more))

-- the end: the gap, the sums, and the rest
pub end_pushed : (sums : Sums) (rest old gap mid new : List ℕ) → IsToldOn [] old gap → IsSaidOn (HasText (sums_text sums)) gap mid → IsSaidOn (HasText rest) mid new
    → section.IsPushed (IsSaidOn (HasText (sums_text sums)) []) old new
end_pushed sums rest old gap mid new before said behind =
    let lines = before.0 ++ (said.0 ++ behind.0) in
    let added = added_then before.0 (said.0 ++ behind.0) old gap new before.1 (added_then said.0 behind.0 gap mid new said.1 behind.1) in (
      flat_map ended lines,
      added.text,
      (
        lines,
        record { text = refl; each = added.each },
        filter_map-append unmarked before.0 (said.0 ++ behind.0)
            ∙ (λ i. before.2 i ++ (filter_map-append unmarked said.0 behind.0 ∙ (λ j. said.2 j ++ behind.2 j)) i),
        text_behind (sums_text sums) before.0 (said.0 ++ behind.0) (text_before (sums_text sums) said.0 behind.0 said.3),
      ),
    )

-- the same unless memory was refused, with the sums as words
pub end_pushed_if : {T E : Type 0} (r : Result T E) (sums : Sums) (words rest old gap mid new : List ℕ) → words ≡ sums_text sums → IsToldOn [] old gap → IsSaidOn (HasText words) gap mid
    → OnOk r (IsSaidOn (HasText rest) mid new) → OnOk r (section.IsPushed (IsSaidOn (HasText (sums_text sums)) []) old new)
end_pushed_if r sums words rest old gap mid new same before said behind =
    on_ok_weaker r (end_pushed sums rest old gap mid new before (subst (λ (w : List ℕ). IsSaidOn (HasText w) gap mid) same said)) behind

-- words have no marked line
pub gap_told : {T E : Type 0} (r : Result T E) (words old new : List ℕ) → OnOk r (IsSaidOn (HasText words) old new) → OnOk r (IsToldOn [] old new)
gap_told r words old new said = on_ok_weaker r (λ is. (is.0, is.1, is.2)) said

-- words that are pushed, unless memory was refused
pub words_pushed_if : {T E : Type 0} (r : Result T E) (words old new : List ℕ) → OnOk r (IsSaidOn (HasText words) old new) → OnOk r (section.IsPushed (IsToldOn [] []) old new)
words_pushed_if r words old new said = on_ok_weaker r (words_pushed words old new) said
