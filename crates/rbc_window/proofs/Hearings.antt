-- What a message writes, and what of that its train's share keeps.
use Rattle.std.proofs.Common.{◌≡◌, ℕ, Bool, true, false, cond, eqb, List, [], ◌∷◌, ◌++◌, Option, Some, None, Result, Ok, Err, refl, sym, ap, subst, ◌∙◌, inl, inr, IsTrue, true≢false}
use Rattle.ertms_codec.specs.declared.from_train.FromTrain.{FromTrain}
use Rattle.std.specs.Option.{option_map_or}
use Rattle.std.proofs.lemmas.List.Elements.{All-nil}
use Rattle.rbc_place.specs.Placing.{Place}
use Rattle.rbc_maps.specs.Maps.{value_of, with_value}
use Rattle.rbc_settle.specs.declared.sent.Sent.{Sent}
use Rattle.rbc_settle.specs.declared.train.TrainRec.{TrainRec}
use Rattle.rbc_settle.specs.Numbers.{with_number, without_number}
use Rattle.rbc_settle.specs.Settling.{settled}
use Rattle.rbc_records.specs.declared.record.Key.{Key}
use Rattle.rbc_records.specs.declared.record.Key.TheVariants as key
use Rattle.rbc_records.specs.declared.record.Rec.{Rec}
use Rattle.rbc_records.specs.declared.record.Rec.TheVariants as rec
use Rattle.rbc_records.specs.Notes.{same_key}
use Rattle.rbc_records.specs.Writes.{written}
use Rattle.rbc_rule.specs.declared.input.Input.{Input}
use Rattle.rbc_rule.specs.declared.input.Input.TheVariants.{Enrol, Withdraw, Stop, Release, Restrict, Lift, Received, Bad}
use Rattle.rbc_rule.specs.Effect.{engine_of, heard}
use Rattle.rbc_rule.specs.Records.{engines_record, list_of}
use Rattle.rbc_rule.specs.Lists.{is_list, engines_in}
use Rattle.rbc_rule.specs.Gathered.{heard_outcome, AreSendable}
use Rattle.rbc_rule.proofs.AllGathered.{written-append}
use Rattle.rbc_rule.proofs.WorldMaps.{value_of-with_value}
use Rattle.rbc_window.specs.declared.kept.Kept.{Kept}
use Rattle.rbc_window.specs.Messages.{Records, Setting, train_in, moves_in, outcome_of_train, outcome_of_message, outcome_of, refused, next_records}
use Rattle.rbc_window.specs.Kept.{IsAnswerOf, IsKept}
use Rattle.rbc_window.specs.Hearing.{IsHeard, IsRefused}
use Rattle.rbc_window.specs.Shares.{train_or, Changes, IsTakenBy}
use Rattle.rbc_track.proofs.Entries.{eqb_turned}

-- ---- lists and trains have different keys

pub train_no_list : (engine : ℕ) (k : Key) → IsTrue (is_list k) → same_key (key.Train engine) k ≡ false
train_no_list engine key.Roster h = refl
train_no_list engine (key.Train other) h = absurd (true≢false (sym h))
train_no_list engine key.Stops h = refl
train_no_list engine key.Limits h = refl
train_no_list engine (key.Line line) h = refl
train_no_list engine key.Unplaced h = refl

pub list_no_train : (engine : ℕ) (k : Key) → IsTrue (is_list k) → same_key k (key.Train engine) ≡ false
list_no_train engine key.Roster h = refl
list_no_train engine (key.Train other) h = absurd (true≢false (sym h))
list_no_train engine key.Stops h = refl
list_no_train engine key.Limits h = refl
list_no_train engine (key.Line line) h = refl
list_no_train engine key.Unplaced h = refl

-- a move writes nothing under a key that is neither of both lists
pub moves_elsewhere : (records : Records) (engine : ℕ) (left entered k : Key) → same_key k left ≡ false → same_key k entered ≡ false → written (moves_in records engine left entered) records k ≡ records k
moves_elsewhere records engine left entered k apart_left apart_entered = by (same_key left entered)
  where
    first : Option Rec
    first = engines_record (without_number engine (engines_in (records left)))

    second : Option Rec
    second = engines_record (with_number engine (engines_in (records entered)))

    by : (b : Bool) → written (cond b [] ((left, first) ∷ (entered, second) ∷ [])) records k ≡ records k
    by true = refl
    by false = ap (λ b. cond b second (cond (same_key k left) first (records k))) apart_entered ∙ ap (λ b. cond b first (records k)) apart_left

pub either : (b : Bool) (after : TrainRec) (train : Option TrainRec) (base : Option Rec) → train_or (cond b (Some after) train) base ≡ cond b (Some (rec.Train after)) (train_or train base)
either true after train base = refl
either false after train base = refl

-- ---- a message, by what stood under its train's key

module _ (s : Setting) (records : Records) (message : FromTrain) (before : Option TrainRec) (old new : List (ℕ × TrainRec)) (kept : Kept)
    (taken : IsTakenBy s message before old new kept) (is : train_in (records (key.Train (engine_of message))) ≡ before) where
  outcome_is : outcome_of s records (Received message) ≡ outcome_of_message s records message before
  outcome_is = ap (outcome_of_message s records message) is

  -- under the key of a list stands what the move of the train leaves there
  moved : Changes s message before old new kept → (k : Key) → IsTrue (is_list k)
      → written (outcome_of_message s records message before).writes records k ≡ written (moves_in records (engine_of message) kept.left kept.entered) records k
  moved (inl (none, same, stays)) k list =
      ap (λ writes. written writes records k) (none records)
      ∙ sym (ap (λ b. written (cond b [] ((kept.left, engines_record (without_number (engine_of message) (engines_in (records kept.left)))) ∷ (kept.entered, engines_record (with_number (engine_of message) (engines_in (records kept.entered)))) ∷ [])) records k) stays)
  moved (inr (after, writes, put)) k list =
      ap (λ writes. written writes records k) (writes records)
      ∙ written-append (moves_in records (engine_of message) kept.left kept.entered) ((key.Train (engine_of message), Some (rec.Train after)) ∷ []) records k
      ∙ ap (λ b. cond b (Some (rec.Train after)) (written (moves_in records (engine_of message) kept.left kept.entered) records k)) (list_no_train (engine_of message) k list)

  pub kept_is : IsKept records (outcome_of s records (Received message)) (engine_of message) kept
  kept_is = record {
    answer = subst (λ o. IsAnswerOf o kept.answer) (sym outcome_is) (taken.answer records);
    move = λ k list. ap (λ o. written o.writes records k) outcome_is ∙ moved taken.changes k list;
    left = taken.left;
    entered = taken.entered;
    sendable = taken.sendable;
  }

  -- under the key of a train stands the train as the share has it, if that was so before
  stands : Changes s message before old new kept → (engine : ℕ) (base : Option Rec) → train_or (value_of old engine) base ≡ records (key.Train engine)
      → train_or (value_of new engine) base ≡ written (outcome_of_message s records message before).writes records (key.Train engine)
  stands (inl (none, same, stays)) engine base h =
      ap (λ trains. train_or (value_of trains engine) base) same ∙ h ∙ sym (ap (λ writes. written writes records (key.Train engine)) (none records))
  stands (inr (after, writes, put)) engine base h =
      let e = engine_of message in
      let moves = moves_in records e kept.left kept.entered in
      ap (λ trains. train_or (value_of trains engine) base) put
      ∙ ap (λ train. train_or train base) (value_of-with_value e after old engine)
      ∙ either (eqb e engine) after (value_of old engine) base
      ∙ ap (λ b. cond b (Some (rec.Train after)) (train_or (value_of old engine) base)) (eqb_turned e engine)
      ∙ ap (λ r. cond (eqb engine e) (Some (rec.Train after)) r)
      (h ∙ sym (moves_elsewhere records e kept.left kept.entered (key.Train engine) (train_no_list engine kept.left taken.left) (train_no_list engine kept.entered taken.entered)))
      ∙ sym (written-append moves ((key.Train e, Some (rec.Train after)) ∷ []) records (key.Train engine))
      ∙ sym (ap (λ writes. written writes records (key.Train engine)) (writes records))

  pub train_stands : (engine : ℕ) (base : Option Rec) → train_or (value_of old engine) base ≡ records (key.Train engine)
      → train_or (value_of new engine) base ≡ next_records s records (Received message) (key.Train engine)
  train_stands engine base h = stands taken.changes engine base h ∙ sym (ap (λ o. written o.writes records (key.Train engine)) outcome_is)

-- ---- what no message writes

module _ (s : Setting) (records : Records) (k : Key) (no_list : (train : TrainRec) → same_key k (list_of train) ≡ false) where
  of_train : (engine : ℕ) (old : TrainRec) (after : Result TrainRec ℕ) → same_key k (key.Train engine) ≡ false → written (outcome_of_train s records engine old after).writes records k ≡ records k
  of_train engine old (Err code) other = refl
  of_train engine old (Ok train) other =
      written-append (moves_in records engine (list_of old) (list_of train)) ((key.Train engine, Some (rec.Train (settled s.track s.stops s.limits train))) ∷ []) records k
      ∙ ap (λ b. cond b (Some (rec.Train (settled s.track s.stops s.limits train))) (written (moves_in records engine (list_of old) (list_of train)) records k)) other
      ∙ moves_elsewhere records engine (list_of old) (list_of train) k (no_list old) (no_list train)

  of_message : (message : FromTrain) (before : Option TrainRec) → same_key k (key.Train (engine_of message)) ≡ false → written (outcome_of_message s records message before).writes records k ≡ records k
  of_message message None other = refl
  of_message message (Some old) other = of_train (engine_of message) old (heard s.track message old) other

  -- under a key that is no list's, and not that of the train that sends the input
  pub stays : (input : Input) → ((message : FromTrain) → input ≡ Received message → same_key k (key.Train (engine_of message)) ≡ false) → next_records s records input k ≡ records k
  stays (Enrol engine train_length) other = refl
  stays (Withdraw engine) other = refl
  stays (Stop number segments) other = refl
  stays (Release number) other = refl
  stays (Restrict number segment dirs speed front) other = refl
  stays (Lift number) other = refl
  stays (Bad code) other = refl
  stays (Received message) other = of_message message (train_in (records (key.Train (engine_of message)))) (other message refl)

pub train_unlisted : (engine : ℕ) (train : TrainRec) → same_key (key.Train engine) (list_of train) ≡ false
train_unlisted engine train = by train.place
  where
    by : (place : Option Place) → same_key (key.Train engine) (option_map_or (λ (p : Place). key.Line p.line) place key.Unplaced) ≡ false
    by None = refl
    by (Some place) = refl

-- ---- what the code finds of a message

sent_nothing : (sent : List Sent) → sent ≡ [] → AreSendable sent
sent_nothing sent is = subst AreSendable (sym is) (All-nil _)

module _ (s : Setting) (message : FromTrain) (old new : List (ℕ × TrainRec)) (kept : Kept) where
  -- it is refused
  pub refused_taken : (before : Option TrainRec) (code : ℕ) → ((records : Records) → outcome_of_message s records message before ≡ refused code) → IsRefused code kept → new ≡ old
      → IsTakenBy s message before old new kept
  refused_taken before code is h same = record {
    answer = λ records. subst (λ o. IsAnswerOf o kept.answer) (sym (is records)) (h.result, h.messages);
    sendable = sent_nothing kept.answer.messages.items h.messages;
    left = h.left;
    entered = h.entered;
    changes = inl (λ records. ap (λ o. o.writes) (is records), same, h.stays);
  }

  -- it is accepted
  pub heard_taken : (before after : TrainRec) → IsHeard s message before after kept → new ≡ with_value (engine_of message) after old → IsTakenBy s message (Some before) old new kept
  heard_taken before after h put =
      let engine = engine_of message in
      let is : (records : Records) → outcome_of_message s records message (Some before) ≡ heard_outcome s.track s.stops s.limits engine h.train (moves_in records engine (list_of before) (list_of h.train)) =
      λ records. sym (ap (outcome_of_train s records engine before) h.was_heard) in
      record {
        answer = λ records. subst (λ o. IsAnswerOf o kept.answer) (sym (is records)) (h.result, h.messages);
        sendable = h.sendable;
        left = h.left;
        entered = h.entered;
        changes = inr (
          after,
          λ records. ap (λ o. o.writes) (is records) ∙ (λ i. moves_in records engine (sym h.left_is i) (sym h.entered_is i) ++ (key.Train engine, Some (rec.Train (sym h.settled_is i))) ∷ []),
          put,
        );
      }
