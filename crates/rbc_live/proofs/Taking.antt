-- One line more.
use Rattle.std.proofs.Common.{◌≡◌, ℕ, suc, ◌+◌, ◌<◌, ◌≤◌, true, false, nat_le, List, [], ◌∷◌, ◌++◌, map, length, Option, refl, sym, ap, ◌∙◌, subst, append_assoc, append-nil, arith}
use Rattle.std.proofs.lemmas.List.{map-append, length-append}
use Rattle.std.proofs.lemmas.Bool.Decides.{nat_tests}
use Rattle.rbc_track.specs.Plan.{Plan}
use Rattle.rbc_records.specs.declared.record.Key.{Key}
use Rattle.rbc_records.specs.declared.record.Rec.{Rec}
use Rattle.rbc_rule.specs.declared.input.Input.{Input}
use Rattle.rbc_rule.specs.declared.outcome.Reply.{Reply}
use Rattle.rbc_text.specs.Mail.{Mail}
use Rattle.rbc_text.specs.Held.{AreOutboxes, Holds, post_each}
use Rattle.rbc_text.specs.Serial.{Desk, step, serial, new_desk}
use Rattle.rbc_text.specs.BatchText.{line_of, IsInput, AreInputs}
use Rattle.rbc_text.specs.OutputText.{answer_of}
use Rattle.rbc_text.proofs.Posts.{ones_keep}
use Rattle.rbc_live.specs.declared.wanted.Wanted.{Wanted}
use Rattle.rbc_live.specs.Alarms.{alarms_shown}
use Rattle.rbc_live.specs.Watching.{IsAlarmPart, IsWatchFor, StayBut, seen_of}
use Rattle.rbc_live.specs.declared.desk.LiveDesk.{LiveDesk}
use Rattle.rbc_live.specs.History.{IsFed, IsSerialOf, Taken, posted}
use Rattle.rbc_live.specs.Lines.{shown, written_of, answers_from}
use Rattle.rbc_live.specs.UnderWay.{Shows, IsUnderWay}
use Rattle.rbc_live.specs.declared.session.Session.{Session}
use Rattle.rbc_live.proofs.Runs.{fold_snoc, one_line, standing_of}
use Rattle.rbc_live.proofs.Showing.{is_shown_as}

-- the input of a line behind others
inputs_more : (lines : List (List ℕ)) (inputs : List Input) (line : List ℕ) (input : Input) → AreInputs lines inputs → IsInput (line_of line) input → AreInputs (lines ++ line ∷ []) (inputs ++ input ∷ [])
inputs_more [] [] line input are is = (is, tt)
inputs_more [] (first ∷ inputs) line input are is = absurd are
inputs_more (first ∷ lines) [] line input are is = absurd are
inputs_more (first ∷ lines) (one ∷ inputs) line input are is = (are.0, inputs_more lines inputs line input are.1 is)

-- its messages behind theirs
posted_more : (number : ℕ) (outboxes : List (ℕ × List Mail)) (taken : List Taken) (one : Taken)
    → posted number outboxes (taken ++ one ∷ []) ≡ post_each (number + length taken) (posted number outboxes taken) one.messages
posted_more number outboxes [] one = ap (λ n. post_each n outboxes one.messages) (omega arith)
posted_more number outboxes (first ∷ taken) one =
    posted_more (number + 1) (post_each number outboxes first.messages) taken one
    ∙ ap (λ n. post_each n (posted (number + 1) (post_each number outboxes first.messages) taken) one.messages) (shifted number (length taken)) where
      shifted : (a b : ℕ) → (a + 1) + b ≡ a + suc b
      shifted a b = omega arith

-- what is written of it behind what is written of them
answers_more : (plan : Plan) (wanted : Wanted) (number : ℕ) (desk : Desk) (inputs : List Input) (input : Input) (taken : List Taken) (one : Taken) → length inputs ≡ length taken
    → answers_from plan wanted number desk (inputs ++ input ∷ []) (taken ++ one ∷ [])
    ≡ answers_from plan wanted number desk inputs taken ++ written_of plan wanted (number + length taken) (serial plan desk inputs) input one
answers_more plan wanted number desk [] input [] one as_many =
    append-nil (written_of plan wanted number desk input one) ∙ ap (λ n. written_of plan wanted n desk input one) (omega arith)
answers_more plan wanted number desk [] input (first ∷ taken) one as_many = absurd (omega (arith, as_many))
answers_more plan wanted number desk (other ∷ inputs) input [] one as_many = absurd (omega (arith, as_many))
answers_more plan wanted number desk (other ∷ inputs) input (first ∷ taken) one as_many =
    let begun = written_of plan wanted number desk other first in
    let rest = answers_from plan wanted (number + 1) (step plan desk other) inputs taken in
    let after = serial plan (step plan desk other) inputs in
    ap (λ (text : List ℕ). begun ++ text) (answers_more plan wanted (number + 1) (step plan desk other) inputs input taken one (omega (arith, as_many)))
    ∙ ap (λ n. begun ++ (rest ++ written_of plan wanted n after input one)) (shifted number (length taken))
    ∙ sym (append_assoc begun rest (written_of plan wanted (number + suc (length taken)) after input one)) where
      shifted : (a b : ℕ) → (a + 1) + b ≡ a + suc b
      shifted a b = omega arith

length-map : {A B : Type 0} (f : A → B) (xs : List A) → length (map f xs) ≡ length xs
length-map f [] = refl
length-map f (x ∷ xs) = ap suc (length-map f xs)

-- no number below the first has its answer written
not_shown : (from number : ℕ) (taken : Taken) → nat_le from number ≡ false → shown from number taken ≡ []
not_shown from number taken below = rw below refl

is_shown : (from number : ℕ) (taken : Taken) → nat_le from number ≡ true → shown from number taken ≡ answer_of number taken.reply taken.messages
is_shown from number taken reached = rw reached refl

-- the same where the number is below the first whose answer is written, and where it is not
pub below : (from number : ℕ) (taken : Taken) → number < from → shown from number taken ≡ []
below from number taken less = not_shown from number taken (grind (arith, nat_tests))

pub reached : (from number : ℕ) (taken : Taken) → from ≤ number → shown from number taken ≡ answer_of number taken.reply taken.messages
reached from number taken least = is_shown from number taken (grind (arith, nat_tests))

module _ (plan : Plan) (inputs : List Input) (taken : List Taken) (one : Taken) (old new : List (Key × Rec)) where
  -- the serial run of the lines goes on with it
  one_more : AreOutboxes (posted 1 [] taken) → IsSerialOf plan inputs taken old → (fed : IsFed plan one.line old new one.reply one.messages)
      → IsSerialOf plan (inputs ++ fed.0 ∷ []) (taken ++ one ∷ []) new
  one_more boxes serially fed =
      let line : Taken → List ℕ = λ t. t.line in
      let reply : Taken → Reply = λ t. t.reply in
      let input = fed.0 in
      let replies = map reply taken in
      let count : length replies + 1 ≡ 1 + length taken = let l = length-map reply taken in omega (arith, l) in
      let after = one_line plan input old old new replies (posted 1 [] taken) one.reply one.messages (serial plan new_desk inputs) boxes (λ k. refl) fed.2 serially.1 in
      let same : standing_of new (replies ++ one.reply ∷ []) (post_each (length replies + 1) (posted 1 [] taken) one.messages)
      ≡ standing_of new (map reply (taken ++ one ∷ [])) (posted 1 [] (taken ++ one ∷ [])) =
      ap (λ (rs : List Reply). standing_of new rs (post_each (length replies + 1) (posted 1 [] taken) one.messages)) (sym (map-append reply taken (one ∷ [])))
      ∙ ap (λ n. standing_of new (map reply (taken ++ one ∷ [])) (post_each n (posted 1 [] taken) one.messages)) count
      ∙ ap (λ (boxes : List (ℕ × List Mail)). standing_of new (map reply (taken ++ one ∷ [])) boxes) (sym (posted_more 1 [] taken one)) in (
        subst (λ (ls : List (List ℕ)). AreInputs ls (inputs ++ input ∷ [])) (sym (map-append line taken (one ∷ []))) (inputs_more (map line taken) inputs one.line input serially.0 fed.1),
        subst (λ (d : Desk). Holds plan (standing_of new (map reply (taken ++ one ∷ [])) (posted 1 [] (taken ++ one ∷ []))) d) (sym (fold_snoc (step plan) new_desk inputs input))
            (subst (λ s. Holds plan s (step plan (serial plan new_desk inputs) input)) same after),
      )

-- the session after a line
pub line_taken : (plan : Plan) (wanted : Wanted) (before after : Session) (old new : Option (List ℕ)) (ended : List (List ℕ)) (rest end : List ℕ) (one : Taken) (alarms : List ℕ)
    → IsUnderWay plan wanted before old new ended rest → one.line ≡ rest ++ end
    → IsFed before.desk.track one.line before.desk.records after.desk.records one.reply one.messages
    → after.desk.track ≡ before.desk.track → after.wanted ≡ before.wanted → after.number ≡ before.number + 1 → after.outlet.sent ≡ before.outlet.sent → Shows [] after.line
    → IsWatchFor wanted.alarms plan.horizon after.desk.records after.watch
    → IsAlarmPart before.wanted before.number (seen_of plan.horizon before.desk.records) (seen_of plan.horizon after.desk.records) alarms
    → after.text.items ≡ before.text.items ++ (shown before.wanted.from before.number one ++ alarms)
    → IsUnderWay plan wanted after old new (ended ++ (rest ++ end) ∷ []) []
line_taken plan wanted before after old new ended rest end one alarms is line fed track first next sent begun watch part text =
    let f : Taken → List ℕ = λ t. t.line in
    let count = length-append is.taken (one ∷ []) in
    let counted = length-append is.inputs (((subst (λ (p : Plan). IsFed p one.line before.desk.records after.desk.records one.reply one.messages) is.track fed).0) ∷ []) in
    let was = is.next in
    let many = is.as_many in
    let number : before.number ≡ 1 + length is.taken = omega (arith, was) in
    let fed' : IsFed plan one.line before.desk.records after.desk.records one.reply one.messages =
    subst (λ (p : Plan). IsFed p one.line before.desk.records after.desk.records one.reply one.messages) is.track fed in
    let desk = serial plan new_desk is.inputs in
    let world = is.serial.1.world in
    let spelled : shown before.wanted.from before.number one ++ alarms ≡ written_of plan wanted (1 + length is.taken) desk fed'.0 one =
    ap (λ (t : List ℕ). shown before.wanted.from before.number one ++ t)
    (is_shown_as plan before.wanted before.number before.desk.records after.desk.records desk.world (step plan desk fed'.0).world alarms world (fed'.2 desk.world world).0 part)
    ∙ ap (λ (w : Wanted). shown w.from before.number one ++ alarms_shown plan w before.number desk.world (step plan desk fed'.0).world) is.first
    ∙ ap (λ n. written_of plan wanted n desk fed'.0 one) number in
    record {
      taken = is.taken ++ one ∷ [];
      inputs = is.inputs ++ fed'.0 ∷ [];
      written = is.written;
      fed = map-append f is.taken (one ∷ []) ∙ ap (λ (lines : List (List ℕ)). lines ++ one.line ∷ []) is.fed ∙ ap (λ (l : List ℕ). ended ++ l ∷ []) line;
      serial = one_more plan is.inputs is.taken one before.desk.records after.desk.records is.boxes is.serial fed';
      as_many = omega (arith, count, counted, many);
      boxes = subst AreOutboxes (sym (posted_more 1 [] is.taken one)) (ones_keep (1 + length is.taken) one.messages (posted 1 [] is.taken) is.boxes);
      all = ap (λ (t : List ℕ). is.written ++ t) (text ∙ ap (λ (t : List ℕ). before.text.items ++ t) spelled)
          ∙ sym (append_assoc is.written before.text.items (written_of plan wanted (1 + length is.taken) desk fed'.0 one))
          ∙ ap (λ (t : List ℕ). t ++ written_of plan wanted (1 + length is.taken) desk fed'.0 one) is.all
          ∙ sym (answers_more plan wanted 1 new_desk is.inputs fed'.0 is.taken one is.as_many);
      out = is.out;
      count = sent ∙ is.count;
      track = track ∙ is.track;
      first = first ∙ is.first;
      watch = watch;
      next = omega (arith, next, was, count);
      begun = begun;
    }

-- the session after a line whose alarms were followed: the desk took it, and then kept what it replaced
pub line_followed : (plan : Plan) (wanted : Wanted) (before after : Session) (fed_desk : LiveDesk) (old new : Option (List ℕ)) (ended : List (List ℕ)) (rest end : List ℕ) (one : Taken) (alarms : List ℕ)
    (writes : List (Key × Option Rec)) → IsUnderWay plan wanted before old new ended rest → one.line ≡ rest ++ end
    → IsFed before.desk.track one.line before.desk.records fed_desk.records one.reply one.messages → StayBut writes before.desk.records fed_desk.records
    → fed_desk.track ≡ before.desk.track → after.desk.records ≡ fed_desk.records → after.desk.track ≡ fed_desk.track
    → after.wanted ≡ before.wanted → after.number ≡ before.number + 1 → after.outlet.sent ≡ before.outlet.sent → Shows [] after.line
    → ((records : List (Key × Rec)) → IsWatchFor before.wanted.alarms fed_desk.track.horizon records before.watch → StayBut writes records fed_desk.records
    → IsWatchFor before.wanted.alarms fed_desk.track.horizon fed_desk.records after.watch)
    → ((records : List (Key × Rec)) → IsWatchFor before.wanted.alarms fed_desk.track.horizon records before.watch → StayBut writes records fed_desk.records
    → IsAlarmPart before.wanted before.number (seen_of fed_desk.track.horizon records) (seen_of fed_desk.track.horizon fed_desk.records) alarms)
    → after.text.items ≡ before.text.items ++ (shown before.wanted.from before.number one ++ alarms)
    → IsUnderWay plan wanted after old new (ended ++ (rest ++ end) ∷ []) []
line_followed plan wanted before after fed_desk old new ended rest end one alarms writes is line fed stay track records_kept track_kept first next sent begun watch part text =
    let horizon : fed_desk.track.horizon ≡ plan.horizon = ap (λ (p : Plan). p.horizon) (track ∙ is.track) in
    let was : IsWatchFor before.wanted.alarms fed_desk.track.horizon before.desk.records before.watch =
    subst (λ (w : Wanted). IsWatchFor w.alarms fed_desk.track.horizon before.desk.records before.watch) (sym is.first)
    (subst (λ h. IsWatchFor wanted.alarms h before.desk.records before.watch) (sym horizon) is.watch) in
    let now = watch before.desk.records was stay in
    let alarm = part before.desk.records was stay in
    line_taken plan wanted before after old new ended rest end one alarms is line
    (subst (λ (records : List (Key × Rec)). IsFed before.desk.track one.line before.desk.records records one.reply one.messages) (sym records_kept) fed)
    (track_kept ∙ track) first next sent begun
    (subst (λ (records : List (Key × Rec)). IsWatchFor wanted.alarms plan.horizon records after.watch) (sym records_kept)
    (subst (λ h. IsWatchFor wanted.alarms h fed_desk.records after.watch) horizon (subst (λ (w : Wanted). IsWatchFor w.alarms fed_desk.track.horizon fed_desk.records after.watch) is.first now)))
    (subst (λ (records : List (Key × Rec)). IsAlarmPart before.wanted before.number (seen_of plan.horizon before.desk.records) (seen_of plan.horizon records) alarms) (sym records_kept)
    (subst (λ h. IsAlarmPart before.wanted before.number (seen_of h before.desk.records) (seen_of h fed_desk.records) alarms) horizon alarm))
    text
