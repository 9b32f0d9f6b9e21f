-- An account that takes lines.
use Rattle.std.proofs.Common.{take, ◌≡◌, ◌⊎◌, inl, inr, ℕ, zero, suc, ◌-◌, ◌^◌, ◌<◌, ◌≤◌, min, List, [], ◌∷◌, ◌++◌, length, Option, Some, None, Result, Ok, Err, OnOk, refl, sym, ap, ◌∙◌, subst, arith}
use Rattle.std.proofs.lemmas.List.{map-append, length-map, length-take}
use Rattle.std.proofs.Math.Seq.{take-nil}
use Rattle.std.proofs.lemmas.Option.{slice_get_within}
use Rattle.std.proofs.lemmas.Result.{on_ok_weaker}
use Rattle.std.specs.List.{slice_get}
use Rattle.std.specs.Prelude.{IsErrAnd}
use Rattle.rbc_track.specs.Plan.{Plan}
use Rattle.rbc_track.specs.Reading.{IsTrackOf}
use Rattle.rbc_text.specs.BatchText.{lines_of}
use Rattle.rbc_records.specs.declared.record.Key.{Key}
use Rattle.rbc_records.specs.declared.record.Rec.{Rec}
use Rattle.rbc_records.specs.Notes.{record_in}
use Rattle.rbc_live.specs.History.{IsFed, Taken, IsHistory, IsSerialRunOf}
use Rattle.rbc_account.specs.Lines.{AreAllLines}
use Rattle.rbc_account.specs.Telling.{LeavesUnread, Tells}
use Rattle.rbc_account.specs.declared.fault.TellError.{TellError}
use Rattle.rbc_account.specs.declared.fault.TellError.TheVariants.{Track, Read, Memory, OnlyInputs, Write, ReaderGone}
use Rattle.rbc_account.specs.declared.account.Sums.{Sums}
use Rattle.rbc_account.specs.declared.account.Account.{Account}
use Rattle.rbc_account.specs.Sums.{no_sums, counted}
use Rattle.rbc_account.specs.Runs.{sums_after, EachAccountIsTrue}
use Rattle.rbc_picture.specs.Drawn.{lines_taken, AreTakenTo, HasTaken, IsDrawn, IsPictureOf, IsPictureOfRun}
use Rattle.rbc_picture.specs.Selections.{lines_fault}
use Rattle.rbc_picture.specs.NotDrawn.{Draws, FailsFor, LacksNow, LacksTrain, StaysUnread}
use Rattle.rbc_picture.specs.declared.fault.DrawError.{DrawError}
use Rattle.rbc_picture.specs.declared.fault.DrawError.TheVariants.{Tell, NoLine, BeyondLine, NoTrain}
use Rattle.rbc_picture.specs.declared.selection.Selection.{Selection}
use Rattle.rbc_picture.proofs.Failing.{fails_unread, lacks_in_run}

-- a line behind others
taken_more : (plan : Plan) (taken : List Taken) (one : Taken) (old mid new : List (Key × Rec)) → IsHistory plan old taken mid
    → IsFed plan one.line mid new one.reply one.messages → IsHistory plan old (taken ++ one ∷ []) new
taken_more plan [] one old mid new same fed = (mid, new, same, fed, λ k. refl)
taken_more plan (first ∷ taken) one old mid new history fed =
    (history.0, history.1, history.2, history.3, taken_more plan taken one history.1 mid new history.4 fed)

-- the sums after one more
sums_more : (sums : Sums) (taken : List Taken) (one : Taken) → sums_after sums (taken ++ one ∷ []) ≡ counted one.reply (sums_after sums taken)
sums_more sums [] one = refl
sums_more sums (first ∷ taken) one = sums_more (counted first.reply sums) taken one

-- an account before the first line
pub takes_none : (plan : Plan) (account : Account) → account.desk.track ≡ plan → account.desk.records ≡ [] → account.sums ≡ no_sums → HasTaken plan account []
takes_none plan account track empty none = record {
  taken = [];
  fed = refl;
  counted = record { history = λ k. ap (λ (records : List (Key × Rec)). record_in records k) empty; counts = none };
  track = track;
}

-- one line more
pub takes_one : (plan : Plan) (before after : Account) (lines : List (List ℕ)) (line : List ℕ) (one : Taken)
    → one.line ≡ line → HasTaken plan before lines
    → IsFed before.desk.track one.line before.desk.records after.desk.records one.reply one.messages
    → after.desk.track ≡ before.desk.track → after.sums ≡ counted one.reply before.sums → HasTaken plan after (lines ++ line ∷ [])
takes_one plan before after lines line one is has fed track sums = record {
  taken = has.taken ++ one ∷ [];
  fed = map-append (λ (t : Taken). t.line) has.taken (one ∷ []) ∙ ap (λ (ls : List (List ℕ)). ls ++ one.line ∷ []) has.fed
      ∙ ap (λ (l : List ℕ). lines ++ l ∷ []) is;
  counted = record {
    history = taken_more plan has.taken one [] before.desk.records after.desk.records has.counted.history
        (subst (λ (p : Plan). IsFed p one.line before.desk.records after.desk.records one.reply one.messages) has.track fed);
    counts = sums ∙ ap (counted one.reply) has.counted.counts ∙ sym (sums_more no_sums has.taken one);
  };
  track = track ∙ has.track;
}

-- the run behind an account that has taken lines
run_of : (plan : Plan) (account : Account) (lines : List (List ℕ)) → EachAccountIsTrue → length lines < 2 ^ 64 → (has : HasTaken plan account lines)
    → IsSerialRunOf plan has.taken account.desk.records
run_of plan account lines law few has =
    let taken : length lines ≡ length has.taken = ap (λ (ls : List (List ℕ)). length ls) (sym has.fed) ∙ length-map has.taken (λ t. t.line) in
    let small : length has.taken < 2 ^ 64 = omega (arith, taken, few) in
    (law plan has.taken account.desk.records account.sums small has.counted).serial

-- the picture after the last line
pub drawn_after : (plan : Plan) (selection : Selection) (account : Account) (count : ℕ) (lines : List (List ℕ)) (svg : List ℕ) → EachAccountIsTrue → length lines < 2 ^ 64
    → HasTaken plan account lines → count ≡ length account.desk.track.lines
    → IsDrawn selection account.desk.track.horizon count account.desk.records svg → IsPictureOf plan selection lines svg
drawn_after plan selection account count lines svg law few has is drawn = record {
  taken = has.taken;
  records = account.desk.records;
  fed = has.fed;
  serial = run_of plan account lines law few has;
  drawn = subst (λ (p : Plan). IsDrawn selection p.horizon (length p.lines) account.desk.records svg) has.track
      (subst (λ (n : ℕ). IsDrawn selection account.desk.track.horizon n account.desk.records svg) is drawn);
}

-- why there is none after the last line
pub fails_after : (plan : Plan) (selection : Selection) (account : Account) (lines : List (List ℕ)) (fault : DrawError) → EachAccountIsTrue → length lines < 2 ^ 64
    → HasTaken plan account lines → FailsFor (LacksNow selection account.desk.track.horizon account.desk.records) fault
    → FailsFor (LacksTrain plan selection lines) fault
fails_after plan selection account lines (Tell error) law few has fails = fails
fails_after plan selection account lines (NoLine line) law few has fails = fails
fails_after plan selection account lines (BeyondLine line) law few has fails = fails
fails_after plan selection account lines (NoTrain engine) law few has fails = record {
  taken = has.taken;
  records = account.desk.records;
  fed = has.fed;
  serial = run_of plan account lines law few has;
  lacks = subst (λ (p : Plan). LacksNow selection p.horizon account.desk.records engine) has.track fails;
}

-- one line more, among the first ones, unless memory was refused
pub taken_among : {T E : Type 0} (r : Result T E) (plan : Plan) (after : Option ℕ) (before account : Account) (lines : List (List ℕ)) (line : List ℕ)
    → HasTaken plan before (lines_taken after lines) → (lines_taken after lines ≡ lines) × (lines_taken after (lines ++ line ∷ []) ≡ lines ++ line ∷ [])
    → (HasTaken plan before lines → OnOk r (HasTaken plan account (lines ++ line ∷ []))) → OnOk r (HasTaken plan account (lines_taken after (lines ++ line ∷ [])))
taken_among r plan after before account lines line has same takes =
    on_ok_weaker r (λ now. subst (HasTaken plan account) (sym same.1) now) (takes (subst (HasTaken plan before) same.0 has))

-- no line is taken of none
pub none_taken : (after : Option ℕ) → lines_taken after [] ≡ []
none_taken None = refl
none_taken (Some after) = take-nil after

-- something is there
abbrev IsThere : Option ℕ → Type 0
IsThere None = ⊥
IsThere (Some x) = Unit

-- past the end of a list nothing is there
past : (lines : List ℕ) (n : ℕ) → slice_get lines n ≡ None → length lines ≤ n
past [] n is = omega arith
past (line ∷ lines) zero is = absurd (subst IsThere is tt)
past (line ∷ lines) (suc n) is =
    let rest : length lines ≤ n = past lines n is in
    omega (arith, rest)

-- a list with so many items: it has none at that place, and one before it unless there are none
pub so_many : (lines : List ℕ) (count : ℕ) → slice_get lines count ≡ None
    → (count ≡ 0) ⊎ ((x : ℕ) × (slice_get lines (count - 1) ≡ Some x)) → count ≡ length lines
so_many lines count none (inl nothing) =
    let beyond : length lines ≤ count = past lines count none in
    omega (arith, nothing, beyond)
so_many lines count none (inr last) =
    let beyond : length lines ≤ count = past lines count none in
    let within : count - 1 < length lines = slice_get_within lines (count - 1) last.0 last.1 in
    omega (arith, within, beyond)

-- ---- how the lines of a reader come to their end

-- the lines could not be read, or memory was refused
pub not_taken : (T : Type 0) (Missing : ℕ → Type 0) (text : List ℕ) (plan : Plan) (after : Option ℕ) (account : Account) (old new : Option (List ℕ)) (fault : TellError)
    → AreTakenTo plan after account old new (Err fault) → Tells {T = T} Missing text old new (Err fault)
not_taken T Missing text plan after account old new (Track error) is = absurd is
not_taken T Missing text plan after account old new Read is = tt
not_taken T Missing text plan after account old new Memory is = tt
not_taken T Missing text plan after account old new (OnlyInputs count) is = absurd is
not_taken T Missing text plan after account old new (Write sent) is = absurd is
not_taken T Missing text plan after account old new (ReaderGone sent) is = absurd is

-- then the track was not refused
unread_at : (T R : Type 0) (plan : Plan) (after : Option ℕ) (account : Account) (old new : Option (List ℕ)) (fault : TellError) (before behind : R)
    → AreTakenTo plan after account old new (Err fault) → LeavesUnread {T = T} {R = R} (Err fault) before behind
unread_at T R plan after account old new (Track error) before behind is = absurd is
unread_at T R plan after account old new Read before behind is = tt
unread_at T R plan after account old new Memory before behind is = tt
unread_at T R plan after account old new (OnlyInputs count) before behind is = tt
unread_at T R plan after account old new (Write sent) before behind is = tt
unread_at T R plan after account old new (ReaderGone sent) before behind is = tt

pub unread : {T R : Type 0} (r : Result T DrawError) (plan : Plan) (after : Option ℕ) (account : Account) (old new : Option (List ℕ)) (fault : TellError) (before behind : R)
    → IsErrAnd r (λ x. x ≡ Tell fault) → AreTakenTo plan after account old new (Err fault) → StaysUnread r before behind
unread (Ok done) plan after account old new fault before behind bad is = absurd bad
unread {T} {R} (Err x) plan after account old new fault before behind same is =
    subst (λ (y : DrawError). StaysUnread {T = T} {R = R} (Err y) before behind) (sym same) (unread_at T R plan after account old new fault before behind is)

-- all were counted
counted_all : (old new : Option (List ℕ)) (lines : List (List ℕ)) (count : ℕ) (all : AreAllLines old new lines) → count ≡ length lines → count ≡ length (lines_of all.0)
counted_all old new lines count all many = many ∙ ap (λ (ls : List (List ℕ)). length ls) (sym all.3)

pub lacks : (T : Type 0) (Missing : ℕ → Type 0) (text : List ℕ) (plan : Plan) (after : Option ℕ) (account : Account) (old new : Option (List ℕ)) (count : ℕ)
    → AreTakenTo plan after account old new (Ok count) → Missing count → Tells {T = T} Missing text old new (Err (OnlyInputs count))
lacks T Missing text plan after account old new count (lines, all, many, few, has) missing =
    (all.0, (all.1, all.2), counted_all old new lines count all many, missing)

pub told : {T : Type 0} (made : T) (Missing : ℕ → Type 0) (text : List ℕ) (plan : Plan) (after : Option ℕ) (account : Account) (old new : Option (List ℕ)) (count : ℕ) → IsTrackOf text plan
    → AreTakenTo plan after account old new (Ok count) → ¬ (Missing count) → Tells {T = T} Missing text old new (Ok made)
told made Missing text plan after account old new count is (lines, all, many, few, has) there =
    (plan, is, (all.0, (all.1, all.2), subst (λ (n : ℕ). ¬ (Missing n)) (counted_all old new lines count all many) there))

-- fewer are taken than there are
taken_few : (after : Option ℕ) (lines : List (List ℕ)) → length lines < 2 ^ 64 → length (lines_taken after lines) < 2 ^ 64
taken_few None lines few = few
taken_few (Some after) lines few = let cut : length (take after lines) ≡ min after (length lines) = length-take after lines in omega (arith, cut, few)

-- the same for the lines of what was read
taken_of_batch : (after : Option ℕ) (batch : List ℕ) (lines : List (List ℕ)) (P : List (List ℕ) → Type 0) → lines_of batch ≡ lines → P (lines_taken after lines) → P (lines_taken after (lines_of batch))
taken_of_batch after batch lines P same holds = subst (λ (ls : List (List ℕ)). P (lines_taken after ls)) (sym same) holds

-- the picture of what was read
pub drawn_of_run : (text : List ℕ) (plan : Plan) (after : Option ℕ) (selection : Selection) (account : Account) (old new : Option (List ℕ)) (count : ℕ) (svg : List ℕ) → IsTrackOf text plan
    → lines_fault plan selection ≡ None → AreTakenTo plan after account old new (Ok count)
    → ((lines : List (List ℕ)) → HasTaken plan account lines → length lines < 2 ^ 64 → IsPictureOf plan selection lines svg) → IsPictureOfRun text after selection old new svg
drawn_of_run text plan after selection account old new count svg is on (lines, all, many, few, has) draws = record {
  plan = plan;
  batch = all.0;
  is_track = is;
  on_track = on;
  read = (all.1, all.2);
  picture = taken_of_batch after all.0 lines (λ (ls : List (List ℕ)). IsPictureOf plan selection ls svg) all.3
      (draws (lines_taken after lines) has (taken_few after lines (subst (λ (n : ℕ). n < 2 ^ 64) many few)));
}

-- why there is none
pub fails_in_run : {T : Type 0} (text : List ℕ) (plan : Plan) (after : Option ℕ) (selection : Selection) (account : Account) (old new : Option (List ℕ)) (count : ℕ) (fault : DrawError) (r : Result T DrawError)
    → IsErrAnd r (λ x. x ≡ fault) → IsTrackOf text plan → AreTakenTo plan after account old new (Ok count)
    → ((lines : List (List ℕ)) → HasTaken plan account lines → length lines < 2 ^ 64 → FailsFor (LacksTrain plan selection lines) fault) → Draws text after selection old new r
fails_in_run text plan after selection account old new count fault r same is (lines, all, many, few, has) fails =
    lacks_in_run text plan all.0 after selection old new fault r same is (all.1, all.2)
    (taken_of_batch after all.0 lines (λ (ls : List (List ℕ)). FailsFor (LacksTrain plan selection ls) fault) all.3
    (fails (lines_taken after lines) has (taken_few after lines (subst (λ (n : ℕ). n < 2 ^ 64) many few))))

pub fails_in_run_unread : {T R : Type 0} (plan : Plan) (after : Option ℕ) (selection : Selection) (account : Account) (old new : Option (List ℕ)) (count : ℕ) (fault : DrawError) (r : Result T DrawError) (before behind : R)
    → IsErrAnd r (λ x. x ≡ fault) → AreTakenTo plan after account old new (Ok count)
    → ((lines : List (List ℕ)) → HasTaken plan account lines → length lines < 2 ^ 64 → FailsFor (LacksTrain plan selection lines) fault) → StaysUnread r before behind
fails_in_run_unread plan after selection account old new count fault r before behind same (lines, all, many, few, has) fails =
    fails_unread (LacksTrain plan selection (lines_taken after lines)) fault r before behind same
    (fails (lines_taken after lines) has (taken_few after lines (subst (λ (n : ℕ). n < 2 ^ 64) many few)))
