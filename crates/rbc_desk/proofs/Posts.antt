-- What posting does to the outboxes.
use Rattle.std.proofs.Common.{◌≡◌, ◌≢◌, ℕ, ◌+◌, ◌<◌, ◌≤◌, Bool, true, false, cond, eqb, ltb, leb, List, [], ◌∷◌, ◌++◌, length, get_or, set, map, refl, sym, ap, ◌∙◌, subst, arith, inl, inr, append_assoc}
use Rattle.std.specs.List.{fold, filter, insert, All}
use Rattle.std.proofs.lemmas.Bool.{cases_lt, lt-ltb, le-ltb, eq-eqb, ne_eqb, eqb-true, and_parts, and_from, le-leb}
use Rattle.std.proofs.lemmas.List.{append-nil, get_or_default}
use Rattle.std.proofs.lemmas.List.Elements.{All-cons, All-head, All-tail}
use Rattle.ertms_codec.specs.declared.to_train.ToTrain.{ToTrain}
use Rattle.rbc_maps.specs.Maps.{has, index_for, keys, rises_from, value_or, with_value}
use Rattle.rbc_maps.proofs.MapEdits.{written, inserted}
use Rattle.rbc_maps.proofs.MapPlaces.{absent_below, value_or-here, value_or-absent, rises-with_value}
use Rattle.rbc_settle.specs.declared.sent.Sent.{Sent}
use Rattle.rbc_rule.specs.Right.{messages_to}
use Rattle.rbc_desk.specs.declared.outbox.Mail.{Mail}
use Rattle.rbc_desk.specs.Held.{AreOutboxes, post_one}
use Rattle.rbc_desk.specs.Serial.{mail, post, post_all}

module _ {V : Type 0} where
  -- what stands under each key of a map with one more
  -- a key that is another one is looked for behind
  pub later : (key other k : ℕ) (value v new old : V) → k ≢ key → new ≡ cond (eqb key other) value old → cond (eqb k other) v new ≡ cond (eqb key other) value (cond (eqb k other) v old)
  later key other k value v new old different e =
      (elim (eqb k other) as (λ b. eqb k other ≡ b → cond b v new ≡ cond (eqb key other) value (cond b v old)) [
        | true ↦ λ is. sym (ap (λ b. cond b value v) (ne_eqb key other (λ same. different (eqb-true k other is ∙ sym same))))
        | false ↦ λ is. e
      ]) refl

  -- the value that was there is gone
  pub over : (b : Bool) (value v old : V) → cond b value old ≡ cond b value (cond b v old)
  over true value v old = refl
  over false value v old = refl

  -- what stands under each key of a map with one more
  pub value_or-with : (none : V) (key : ℕ) (value : V) (pairs : List (ℕ × V)) (other : ℕ) → value_or none (with_value key value pairs) other ≡ cond (eqb key other) value (value_or none pairs other)
  value_or-with none key value [] other = refl
  value_or-with none key value (pair ∷ pairs) other = elim (cases_lt key pair.0) [
    | inl below ↦ rw (lt-ltb key pair.0 below) refl
    | inr not_below ↦ elim (cases_lt pair.0 key) [
      | inl above ↦
          let different : pair.0 ≢ key = λ same. absurd (omega (arith, above, same)) in
          rw (le-ltb key pair.0 not_below, ne_eqb pair.0 key different) (later key other pair.0 value pair.1 (value_or none (with_value key value pairs) other) (value_or none pairs other) different (value_or-with none key value pairs other))
      | inr not_above ↦
          let e : pair.0 ≡ key = omega arith in
          rw (le-ltb key pair.0 not_below, eq-eqb pair.0 key e) (over (eqb key other) value pair.1 (value_or none pairs other) ∙ ap (λ n. cond (eqb key other) value (cond (eqb n other) pair.1 (value_or none pairs other))) (sym e))
    ]
  ]

  -- what holds of each pair holds of those of the map with one more
  pub All-with : (P : ℕ × V → Type 0) (key : ℕ) (value : V) (pairs : List (ℕ × V)) → All P pairs → P (key, value) → All P (with_value key value pairs)
  All-with P key value [] all it = All-cons P (key, value) [] it all
  All-with P key value (pair ∷ pairs) all it =
      let first = All-head P pair pairs all in
      let rest = All-tail P pair pairs all in
      elim (ltb key pair.0) as (λ b. All P (cond b ((key, value) ∷ pair ∷ pairs) (cond (eqb pair.0 key) ((key, value) ∷ pairs) (pair ∷ with_value key value pairs)))) [
        | true ↦ All-cons P (key, value) (pair ∷ pairs) it all
        | false ↦ elim (eqb pair.0 key) as (λ b. All P (cond b ((key, value) ∷ pairs) (pair ∷ with_value key value pairs))) [
          | true ↦ All-cons P (key, value) pairs it rest
          | false ↦ All-cons P pair (with_value key value pairs) first (All-with P key value pairs rest it)
        ]
      ]

module _ {M : Type 0} where
  -- a box that is not empty
  abbrev pub IsFilled : ℕ × List M → Type 0
  IsFilled box = 1 ≤ length box.1

  -- one more item
  pub longer : (old : List M) (one : M) → 1 ≤ length (old ++ one ∷ [])
  longer [] one = omega arith
  longer (first ∷ old) one = omega arith

  -- a box that has what none has is empty
  none_filled : (mails : List M) → 1 ≤ length mails → mails ≡ [] → ⊥
  none_filled mails some e = absurd (let none : length mails ≡ 0 = ap length e in omega (arith, some, none))

  below_none : (key least : ℕ) (boxes : List (ℕ × List M)) → key < least → rises_from least (keys boxes) ≡ true → value_or [] boxes key ≡ []
  below_none key least boxes below rises = value_or-absent [] key boxes (absent_below key least boxes below rises)

  -- the first value stands under the first key
  first_value : (none : List M) (box : ℕ × List M) (boxes : List (ℕ × List M)) (key : ℕ) → box.0 ≡ key → value_or none (box ∷ boxes) key ≡ box.1
  first_value none box boxes key e = ap (λ b. cond b box.1 (value_or none boxes key)) (eq-eqb box.0 key e)

  later_value : (none : List M) (box : ℕ × List M) (boxes : List (ℕ × List M)) (key : ℕ) → box.0 ≢ key → value_or none (box ∷ boxes) key ≡ value_or none boxes key
  later_value none box boxes key other = ap (λ b. cond b box.1 (value_or none boxes key)) (ne_eqb box.0 key other)

  -- filled boxes that ascend are those that have the same under each key
  pub same_boxes : (least : ℕ) (some others : List (ℕ × List M)) → rises_from least (keys some) ≡ true → rises_from least (keys others) ≡ true → All IsFilled some → All IsFilled others
      → ((key : ℕ) → value_or [] some key ≡ value_or [] others key) → some ≡ others
  same_boxes least [] [] ra rb fa fb same = refl
  same_boxes least [] (b ∷ others) ra rb fa fb same = absurd (none_filled b.1 (All-head IsFilled b others fb) (sym (same b.0 ∙ first_value [] b others b.0 refl)))
  same_boxes least (a ∷ some) [] ra rb fa fb same = absurd (none_filled a.1 (All-head IsFilled a some fa) (sym (first_value [] a some a.0 refl) ∙ same a.0))
  same_boxes least (a ∷ some) (b ∷ others) ra rb fa fb same =
      let pa = and_parts (leb least a.0) (rises_from (a.0 + 1) (keys some)) ra in
      let pb = and_parts (leb least b.0) (rises_from (b.0 + 1) (keys others)) rb in
      elim (cases_lt a.0 b.0) [
        | inl below ↦ absurd (none_filled a.1 (All-head IsFilled a some fa) (sym (first_value [] a some a.0 refl) ∙ same a.0
            ∙ below_none a.0 b.0 (b ∷ others) below (and_from (leb b.0 b.0) (rises_from (b.0 + 1) (keys others)) (le-leb b.0 b.0 (omega arith)) pb.1)))
        | inr not_below ↦ elim (cases_lt b.0 a.0) [
          | inl above ↦ absurd (none_filled b.1 (All-head IsFilled b others fb) (sym (first_value [] b others b.0 refl) ∙ sym (same b.0)
              ∙ below_none b.0 a.0 (a ∷ some) above (and_from (leb a.0 a.0) (rises_from (a.0 + 1) (keys some)) (le-leb a.0 a.0 (omega arith)) pa.1)))
          | inr not_above ↦
              let e : a.0 ≡ b.0 = omega arith in
              let value : a.1 ≡ b.1 = sym (first_value [] a some a.0 refl) ∙ same a.0 ∙ first_value [] b others a.0 (sym e) in
              let behind : (key : ℕ) → value_or [] some key ≡ value_or [] others key = λ key. elim (cases_lt a.0 key) [
                | inl after ↦ sym (later_value [] a some key (λ equal. absurd (omega (arith, after, equal)))) ∙ same key ∙ later_value [] b others key (λ equal. absurd (omega (arith, after, equal, e)))
                | inr not_after ↦ below_none key (a.0 + 1) some (omega arith) pa.1 ∙ sym (below_none key (b.0 + 1) others (omega (arith, e)) pb.1)
              ] in
              let rest = same_boxes (a.0 + 1) some others pa.1 (subst (λ n. rises_from (n + 1) (keys others) ≡ true) (sym e) pb.1) (All-tail IsFilled a some fa) (All-tail IsFilled b others fb) behind in
              ap (λ n. (n, a.1) ∷ some) e ∙ ap (λ (ms : List M). (b.0, ms) ∷ some) value ∙ ap (λ (boxes : List (ℕ × List M)). b ∷ boxes) rest
        ]
      ]

-- with one more message they are outboxes still
pub outboxes_with : (engine : ℕ) (mails : List Mail) (boxes : List (ℕ × List Mail)) → 1 ≤ length mails → AreOutboxes boxes → AreOutboxes (with_value engine mails boxes)
outboxes_with engine mails boxes some h = record {
  ascending = rises-with_value engine mails 0 boxes (omega arith) h.ascending;
  filled = All-with IsFilled engine mails boxes h.filled some;
}

pub post_one_keeps : (input : ℕ) (boxes : List (ℕ × List Mail)) (sent : Sent) → AreOutboxes boxes → AreOutboxes (post_one input boxes sent)
post_one_keeps input boxes sent h = outboxes_with sent.engine _ boxes (longer (value_or [] boxes sent.engine) (mail input sent.message)) h

pub ones_keep : (input : ℕ) (sent : List Sent) (boxes : List (ℕ × List Mail)) → AreOutboxes boxes → AreOutboxes (fold (post_one input) boxes sent)
ones_keep input [] boxes h = h
ones_keep input (one ∷ sent) boxes h = ones_keep input sent (post_one input boxes one) (post_one_keeps input boxes one h)

post_keeps : (input : ℕ) (boxes : List (ℕ × List Mail)) (sent : ℕ × List ToTrain) → AreOutboxes boxes → AreOutboxes (post input boxes sent)
post_keeps input boxes (engine, []) h = h
post_keeps input boxes (engine, message ∷ messages) h = outboxes_with engine _ boxes (more (value_or [] boxes engine)) h
  where
    more : (old : List Mail) → 1 ≤ length (old ++ map (mail input) (message ∷ messages))
    more [] = omega arith
    more (first ∷ old) = omega arith

all_keep : (input : ℕ) (sent : List (ℕ × List ToTrain)) (boxes : List (ℕ × List Mail)) → AreOutboxes boxes → AreOutboxes (post_all input sent boxes)
all_keep input [] boxes h = h
all_keep input (one ∷ sent) boxes h = all_keep input sent (post input boxes one) (post_keeps input boxes one h)

-- each engine has the messages to it, behind what it had
ones_posted : (input : ℕ) (sent : List Sent) (boxes : List (ℕ × List Mail)) (engine : ℕ) → value_or [] (fold (post_one input) boxes sent) engine ≡ value_or [] boxes engine ++ map (mail input) (messages_to engine sent)
ones_posted input [] boxes engine = sym (append-nil (value_or [] boxes engine))
ones_posted input (one ∷ sent) boxes engine =
    let rest = ones_posted input sent (post_one input boxes one) engine in
    let here = value_or-with [] one.engine (value_or [] boxes one.engine ++ mail input one.message ∷ []) boxes engine in
    rest ∙ ap (λ (old : List Mail). old ++ map (mail input) (messages_to engine sent)) here ∙
    (elim (eqb one.engine engine) as (λ b. eqb one.engine engine ≡ b → cond b (value_or [] boxes one.engine ++ mail input one.message ∷ []) (value_or [] boxes engine) ++ map (mail input) (messages_to engine sent)
    ≡ value_or [] boxes engine ++ map (mail input) (map (λ s. s.message) (cond b (one ∷ to_it) to_it))) [
      | true ↦ λ is. append_assoc (value_or [] boxes one.engine) (mail input one.message ∷ []) _ ∙ ap (λ n. value_or [] boxes n ++ mail input one.message ∷ map (mail input) (messages_to engine sent)) (eqb-true one.engine engine is)
      | false ↦ λ is. refl
    ]) refl
  where
    to_it : List Sent
    to_it = filter (λ s. eqb s.engine engine) sent

-- what posting all messages to one engine does
post_value : (input : ℕ) (boxes : List (ℕ × List Mail)) (to : ℕ) (messages : List ToTrain) (engine : ℕ)
    → value_or [] (post input boxes (to, messages)) engine ≡ cond (eqb to engine) (value_or [] boxes to ++ map (mail input) messages) (value_or [] boxes engine)
post_value input boxes to [] engine =
    (elim (eqb to engine) as (λ b. eqb to engine ≡ b → value_or [] boxes engine ≡ cond b (value_or [] boxes to ++ []) (value_or [] boxes engine)) [
      | true ↦ λ is. ap (value_or [] boxes) (sym (eqb-true to engine is)) ∙ sym (append-nil (value_or [] boxes to))
      | false ↦ λ is. refl
    ]) refl
post_value input boxes to (message ∷ messages) engine = value_or-with [] to (value_or [] boxes to ++ map (mail input) (message ∷ messages)) boxes engine

pub all_posted : (input least : ℕ) (sent : List (ℕ × List ToTrain)) (boxes : List (ℕ × List Mail)) (engine : ℕ) → rises_from least (keys sent) ≡ true
    → value_or [] (post_all input sent boxes) engine ≡ value_or [] boxes engine ++ map (mail input) (value_or [] sent engine)
all_posted input least [] boxes engine rises = sym (append-nil (value_or [] boxes engine))
all_posted input least ((to, messages) ∷ sent) boxes engine rises =
    let parts = and_parts (leb least to) (rises_from (to + 1) (keys sent)) rises in
    let rest = all_posted input (to + 1) sent (post input boxes (to, messages)) engine parts.1 in
    rest ∙ ap (λ (old : List Mail). old ++ map (mail input) (value_or [] sent engine)) (post_value input boxes to messages engine) ∙
    (elim (eqb to engine) as (λ b. eqb to engine ≡ b → cond b (value_or [] boxes to ++ map (mail input) messages) (value_or [] boxes engine) ++ map (mail input) (value_or [] sent engine)
    ≡ value_or [] boxes engine ++ map (mail input) (cond b messages (value_or [] sent engine))) [
      | true ↦ λ is.
          let e = eqb-true to engine is in
          ap (λ (more : List ToTrain). (value_or [] boxes to ++ map (mail input) messages) ++ map (mail input) more) (below_none engine (to + 1) sent (omega (arith, e)) parts.1)
          ∙ append-nil (value_or [] boxes to ++ map (mail input) messages) ∙ ap (λ n. value_or [] boxes n ++ map (mail input) messages) e
      | false ↦ λ is. refl
    ]) refl

-- messages posted one after another are those of each engine, posted together
pub posted_alike : (input : ℕ) (boxes : List (ℕ × List Mail)) (messages : List Sent) (sent : List (ℕ × List ToTrain)) → AreOutboxes boxes → rises_from 0 (keys sent) ≡ true
    → ((engine : ℕ) → messages_to engine messages ≡ value_or [] sent engine) → fold (post_one input) boxes messages ≡ post_all input sent boxes
posted_alike input boxes messages sent h rises same =
    let ones = ones_keep input messages boxes h in
    let all = all_keep input sent boxes h in
    same_boxes 0 (fold (post_one input) boxes messages) (post_all input sent boxes) ones.ascending all.ascending ones.filled all.filled
    (λ engine. ones_posted input messages boxes engine ∙ ap (λ (more : List ToTrain). value_or [] boxes engine ++ map (mail input) more) (same engine) ∙ sym (all_posted input 0 sent boxes engine rises))

module _ (engine : ℕ) (one : Mail) (boxes : List (ℕ × List Mail)) (at : ℕ) (is : at ≡ index_for engine boxes) where
  -- the engine has an outbox, and its mails are one more now
  pub posted_there : (d m : ℕ × List Mail) (mails : List Mail) → at < length boxes → d ≡ get_or boxes at d → d.0 ≡ engine → m ≡ get_or boxes at m → mails ≡ m.1 ++ one ∷ []
      → set boxes at (m.0, mails) ≡ with_value engine (value_or [] boxes engine ++ one ∷ []) boxes
  posted_there d m mails within read same read' added =
      let wrote = written engine mails boxes at d m is within read same read' in
      let here : (get_or boxes (index_for engine boxes) d).0 ≡ engine = subst (λ n. (get_or boxes n d).0 ≡ engine) is (ap (λ (p : ℕ × List Mail). p.0) (sym read) ∙ same) in
      let value = value_or-here [] engine 0 boxes d (subst (λ n. n < length boxes) is within) here in
      let old : m.1 ≡ value_or [] boxes engine = ap (λ (p : ℕ × List Mail). p.1) (read' ∙ get_or_default boxes at m d within) ∙ ap (λ n. (get_or boxes n d).1) is ∙ sym value in
      wrote ∙ ap (λ (ms : List Mail). with_value engine ms boxes) (added ∙ ap (λ (ms : List Mail). ms ++ one ∷ []) old)

  -- the engine has none, and gets one
  pub posted_new : (mails : List Mail) → mails ≡ [] ++ one ∷ [] → has boxes engine ≡ false → ((d : ℕ × List Mail) → at < length boxes → (get_or boxes at d).0 ≡ engine → ⊥)
      → insert boxes at (engine, mails) ≡ with_value engine (value_or [] boxes engine ++ one ∷ []) boxes
  posted_new mails added absent other =
      inserted engine mails boxes at is other
      ∙ ap (λ (ms : List Mail). with_value engine ms boxes) (added ∙ ap (λ (none : List Mail). none ++ one ∷ []) (sym (value_or-absent [] engine boxes absent)))
