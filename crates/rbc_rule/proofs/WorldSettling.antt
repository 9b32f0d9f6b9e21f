-- What settling does to trains of which most are settled, and what a step is.
use Rattle.std.proofs.Common.{◌≡◌, ℕ, ◌+◌, Bool, true, false, not, cond, eqb, ltb, List, [], ◌∷◌, map, length, fold, scan, filter, All, refl, sym, ap, ◌∙◌, arith, Ok}
use Rattle.std.proofs.lemmas.Bool.Decides.{nat_tests}
use Rattle.std.specs.List.{AllByRecursion}
use Rattle.std.proofs.lemmas.List.Elements.{recursion_from_All, All-weaker}
use Rattle.ertms_codec.specs.declared.to_train.ToTrain.{ToTrain}
use Rattle.rbc_track.specs.Plan.{Plan}
use Rattle.rbc_maps.specs.Maps.{value_or, with_value, without}
use Rattle.rbc_settle.specs.declared.train.TrainRec.{TrainRec}
use Rattle.rbc_settle.specs.declared.sent.Sent.{Sent}
use Rattle.rbc_settle.specs.Settling.{Stops, Limits, carried_out, message_of, actions_with_stamp, settled, messages_of, to_engine}
use Rattle.rbc_records.specs.declared.record.Key.{Key}
use Rattle.rbc_records.specs.declared.record.Rec.{Rec}
use Rattle.rbc_records.specs.Writes.{written}
use Rattle.std.specs.Prelude.{Option}
use Rattle.rbc_rule.specs.declared.input.Input.{Input}
use Rattle.rbc_rule.specs.declared.outcome.Reply.{Reply}
use Rattle.rbc_rule.specs.declared.outcome.Reply.TheVariants.{Done}
use Rattle.rbc_rule.specs.World.{World}
use Rattle.rbc_rule.specs.Effect.{effect}
use Rattle.rbc_rule.specs.Step.{after, settle_all, sent_to_all, count_sent}
use Rattle.rbc_rule.specs.Records.{record_of}
use Rattle.rbc_rule.specs.WellFormed.{IsGoodTrain}
use Rattle.rbc_rule.specs.Right.{IsStep, messages_to}

-- ---- values to which nothing is to be done

module _ {V X : Type 0} (f : V → V) (m : V → List X) where
  abbrev pub AreDone : List (ℕ × V) → Type 0
  AreDone pairs = AllByRecursion (λ pair. (f pair.1 ≡ pair.1) × (m pair.1 ≡ [])) pairs

  pub map-done : (pairs : List (ℕ × V)) → AreDone pairs → map (λ (pair : ℕ × V). (pair.0, f pair.1)) pairs ≡ pairs
  map-done [] done = refl
  map-done (pair ∷ pairs) done = λ i. (pair.0, done.0.0 i) ∷ map-done pairs done.1 i

  pub sent-done : (pairs : List (ℕ × V)) (key : ℕ) → AreDone pairs → value_or [] (map (λ (pair : ℕ × V). (pair.0, m pair.1)) pairs) key ≡ []
  sent-done [] key done = refl
  sent-done (pair ∷ pairs) key done = by (eqb pair.0 key) (m pair.1) done.0.1 (sent-done pairs key done.1)
    where
      by : (b : Bool) (xs : List X) → xs ≡ [] → value_or [] (map (λ (other : ℕ × V). (other.0, m other.1)) pairs) key ≡ []
          → cond b xs (value_or [] (map (λ (other : ℕ × V). (other.0, m other.1)) pairs) key) ≡ []
      by true xs none rest = none
      by false xs none rest = rest

  pub count-done : (n : ℕ) (pairs : List (ℕ × V)) → AreDone pairs → fold (λ (sum : ℕ) (sent : ℕ × List X). sum + length sent.1) n (map (λ (pair : ℕ × V). (pair.0, m pair.1)) pairs) ≡ n
  count-done n [] done = refl
  count-done n (pair ∷ pairs) done =
      let none : length (m pair.1) ≡ 0 = ap length done.0.1 in
      count-done (n + length (m pair.1)) pairs done.1 ∙ omega (arith, none)

  pub done-without : (key : ℕ) (pairs : List (ℕ × V)) → AreDone pairs → AreDone (without key pairs)
  done-without key [] done = tt
  done-without key (pair ∷ pairs) done = elim (eqb pair.0 key) as (λ b. AreDone (cond (not b) (pair ∷ without key pairs) (without key pairs))) [
    | true ↦ done-without key pairs done.1
    | false ↦ (done.0, done-without key pairs done.1)
  ]

  pub sent-with : (key : ℕ) (value : V) (pairs : List (ℕ × V)) (k : ℕ) → AreDone pairs
      → value_or [] (map (λ (pair : ℕ × V). (pair.0, m pair.1)) (with_value key value pairs)) k ≡ cond (eqb key k) (m value) []
  sent-with key value [] k done = refl
  sent-with key value (pair ∷ pairs) k done =
      by (ltb key pair.0) (eqb pair.0 key) refl (sent-done (pair ∷ pairs) k done) (sent-done pairs k done.1) (λ i. cond (eqb pair.0 k) (done.0.1 i) (sent-with key value pairs k done.1 i))
    where
      not_both : eqb pair.0 key ≡ false → eqb pair.0 k ≡ true → eqb key k ≡ true → ⊥
      not_both q x y = grind (arith, nat_tests)

      last : (c d : Bool) (xs : List X) → (c ≡ true → d ≡ true → ⊥) → cond c [] (cond d xs []) ≡ cond d xs []
      last true true xs h = absurd (h refl refl)
      last true false xs h = refl
      last false d xs h = refl

      by : (b c : Bool) → eqb pair.0 key ≡ c → value_or [] (map (λ (other : ℕ × V). (other.0, m other.1)) (pair ∷ pairs)) k ≡ [] → value_or [] (map (λ (other : ℕ × V). (other.0, m other.1)) pairs) k ≡ []
          → value_or [] (map (λ (other : ℕ × V). (other.0, m other.1)) (pair ∷ with_value key value pairs)) k ≡ cond (eqb pair.0 k) [] (cond (eqb key k) (m value) [])
          → value_or [] (map (λ (other : ℕ × V). (other.0, m other.1)) (cond b ((key, value) ∷ pair ∷ pairs) (cond c ((key, value) ∷ pairs) (pair ∷ with_value key value pairs)))) k ≡ cond (eqb key k) (m value) []
      by true c q whole rest later = ap (λ (xs : List X). cond (eqb key k) (m value) xs) whole
      by false true q whole rest later = ap (λ (xs : List X). cond (eqb key k) (m value) xs) rest
      by false false q whole rest later = later ∙ last (eqb pair.0 k) (eqb key k) (m value) (not_both q)

  pub count-with : (n key : ℕ) (value : V) (pairs : List (ℕ × V)) → AreDone pairs
      → fold (λ (sum : ℕ) (sent : ℕ × List X). sum + length sent.1) n (map (λ (pair : ℕ × V). (pair.0, m pair.1)) (with_value key value pairs)) ≡ n + length (m value)
  count-with n key value [] done = refl
  count-with n key value (pair ∷ pairs) done =
      by (ltb key pair.0) (eqb pair.0 key) (count-done (n + length (m value)) (pair ∷ pairs) done) (count-done (n + length (m value)) pairs done.1)
      (let none : length (m pair.1) ≡ 0 = ap length done.0.1 in count-with (n + length (m pair.1)) key value pairs done.1 ∙ omega (arith, none))
    where
      by : (b c : Bool) → fold (λ (sum : ℕ) (sent : ℕ × List X). sum + length sent.1) (n + length (m value)) (map (λ (other : ℕ × V). (other.0, m other.1)) (pair ∷ pairs)) ≡ n + length (m value)
          → fold (λ (sum : ℕ) (sent : ℕ × List X). sum + length sent.1) (n + length (m value)) (map (λ (other : ℕ × V). (other.0, m other.1)) pairs) ≡ n + length (m value)
          → fold (λ (sum : ℕ) (sent : ℕ × List X). sum + length sent.1) n (map (λ (other : ℕ × V). (other.0, m other.1)) (pair ∷ with_value key value pairs)) ≡ n + length (m value)
          → fold (λ (sum : ℕ) (sent : ℕ × List X). sum + length sent.1) n (map (λ (other : ℕ × V). (other.0, m other.1)) (cond b ((key, value) ∷ pair ∷ pairs) (cond c ((key, value) ∷ pairs) (pair ∷ with_value key value pairs)))) ≡ n + length (m value)
      by true c whole rest later = whole
      by false true whole rest later = rest
      by false false whole rest later = later

-- ---- settled trains

module _ (plan : Plan) (stops : Stops) (limits : Limits) where
  -- a train with nothing left to do stays as it is
  pub settled_same : (train : TrainRec) → actions_with_stamp plan stops limits train ≡ [] → settled plan stops limits train ≡ train
  settled_same train none = ap (fold carried_out train) none

  pub sends_nothing : (train : TrainRec) → actions_with_stamp plan stops limits train ≡ [] → messages_of plan stops limits train ≡ []
  sends_nothing train none = ap (scan carried_out message_of train) none

  pub trains_done : (trains : List (ℕ × TrainRec)) → All (IsGoodTrain plan stops limits) trains → AreDone (settled plan stops limits) (messages_of plan stops limits) trains
  trains_done trains good =
      let P : ℕ × TrainRec → Type 0 = λ train. (settled plan stops limits train.1 ≡ train.1) × (messages_of plan stops limits train.1 ≡ []) in
      let done : (train : ℕ × TrainRec) → IsGoodTrain plan stops limits train → P train = λ train h. (settled_same train.1 h.settled, sends_nothing train.1 h.settled) in
      recursion_from_All P trains (All-weaker (IsGoodTrain plan stops limits) P done trains good)

-- ---- messages

to_one : (b : Bool) (e engine : ℕ) (messages : List ToTrain) → eqb engine e ≡ b → messages_to e (to_engine engine messages) ≡ cond b messages []
to_one true e engine [] h = refl
to_one false e engine [] h = refl
to_one true e engine (m ∷ ms) h =
    ap (λ c. map (λ (one : Sent). one.message) (cond c (record { engine = engine; message = m } ∷ filter (λ (one : Sent). eqb one.engine e) (to_engine engine ms)) (filter (λ (one : Sent). eqb one.engine e) (to_engine engine ms)))) h
    ∙ ap (λ rest. m ∷ rest) (to_one true e engine ms h)
to_one false e engine (m ∷ ms) h =
    ap (λ c. map (λ (one : Sent). one.message) (cond c (record { engine = engine; message = m } ∷ filter (λ (one : Sent). eqb one.engine e) (to_engine engine ms)) (filter (λ (one : Sent). eqb one.engine e) (to_engine engine ms)))) h
    ∙ to_one false e engine ms h

-- the messages to one engine are all to it
pub messages_to-engine : (e engine : ℕ) (messages : List ToTrain) → messages_to e (to_engine engine messages) ≡ cond (eqb engine e) messages []
messages_to-engine e engine messages = to_one (eqb engine e) e engine messages refl

-- ---- steps

-- an outcome of an input that is taken
pub taken : (plan : Plan) (input : Input) (w changed : World) (reply : Reply) (writes : List (Key × Option Rec)) (messages : List Sent) → effect plan input w ≡ Ok changed
    → ((k : Key) → written writes (record_of w) k ≡ record_of (settle_all plan changed) k)
    → reply ≡ Done (count_sent (sent_to_all plan changed))
    → ((engine : ℕ) → messages_to engine messages ≡ value_or [] (sent_to_all plan changed) engine)
    → IsStep plan input w reply writes messages
taken plan input w changed reply writes messages e writes_are reply_is sent_is = record {
  after = λ k. writes_are k ∙ ap (λ r. record_of (after plan w r).world k) (sym e);
  answer = reply_is ∙ ap (λ r. (after plan w r).reply) (sym e);
  sent = λ engine. sent_is engine ∙ ap (λ r. value_or [] (after plan w r).sent engine) (sym e);
}
