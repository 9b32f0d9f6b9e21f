-- A message that is taken back leaves the outboxes as they were.
use Rattle.std.proofs.Common.{◌≡◌, ◌≢◌, ℕ, ◌+◌, ◌-◌, ◌<◌, ◌≤◌, Bool, true, false, not, cond, eqb, ltb, List, [], ◌∷◌, ◌++◌, length, take, get_or, set, refl, sym, ap, ◌∙◌, subst, arith}
use Rattle.std.proofs.lemmas.Bool.{eq-eqb, eqb-true, lt-ltb, le-ltb, ltb-true}
use Rattle.std.proofs.Math.Seq.{map-set_same}
use Rattle.std.proofs.lemmas.List.{length-append, length-map, take_at, length-take-le, get_or-map}
use Rattle.std.proofs.lemmas.List.Elements.{All-filter}
use Rattle.std.specs.Prelude.{slice_get, Some, None, Option}
use Rattle.std.specs.Option.{unwrap_or}
use Rattle.std.proofs.lemmas.Option.{slice_get_within, slice_get-get_or, get_or_from_slice_get}
use Rattle.rbc_maps.specs.Maps.{has, value_or, value_of, with_value, without, index_for}
use Rattle.rbc_maps.proofs.MapPlaces.{rises-with_value, value_or-here, value_or-absent}
use Rattle.rbc_maps.proofs.MapValues.{rises-without, found_here}
use Rattle.rbc_maps.proofs.MapEdits.{written}
use Rattle.rbc_settle.specs.declared.sent.Sent.{Sent}
use Rattle.rbc_desk.specs.declared.outbox.Mail.{Mail}
use Rattle.rbc_desk.specs.Held.{AreOutboxes, AreToTheEnginesOf, post_one, post_each, taken_back}
use Rattle.rbc_desk.specs.Serial.{mail}
use Rattle.rbc_desk.proofs.Runs.{fold_more}
use Rattle.rbc_desk.proofs.Posts.{later, over, value_or-with, All-with, IsFilled, same_boxes, post_one_keeps, ones_keep}

module _ {V : Type 0} where
  -- what stands under each key of a map without one
  pub value_or-without : (none : V) (key : ℕ) (pairs : List (ℕ × V)) (other : ℕ) → value_or none (without key pairs) other ≡ cond (eqb key other) none (value_or none pairs other)
  value_or-without none key [] other = same (eqb key other)
    where
      same : (b : Bool) → none ≡ cond b none none
      same true = refl
      same false = refl
  value_or-without none key (pair ∷ pairs) other =
      let rest = value_or-without none key pairs other in
      (elim (eqb pair.0 key) as (λ b. eqb pair.0 key ≡ b → value_or none (cond (not b) (pair ∷ without key pairs) (without key pairs)) other ≡ cond (eqb key other) none (cond (eqb pair.0 other) pair.1 (value_or none pairs other))) [
        | true ↦ λ is. rest ∙ over (eqb key other) none pair.1 (value_or none pairs other) ∙ ap (λ n. cond (eqb key other) none (cond (eqb n other) pair.1 (value_or none pairs other))) (sym (eqb-true pair.0 key is))
        | false ↦ λ is. later key other pair.0 none pair.1 (value_or none (without key pairs) other) (value_or none pairs other) (differs pair.0 key is) rest
      ]) refl
    where
      differs : (a b : ℕ) → eqb a b ≡ false → a ≢ b
      differs a b is same = absurd (cc (is, eq-eqb a b same))

module _ {M : Type 0} where
  none_left : (mails : List M) → ltb 1 (length mails) ≡ false → [] ≡ take (length mails - 1) mails
  none_left [] is = refl
  none_left (m ∷ []) is = refl
  none_left (m ∷ n ∷ mails) is = absurd (cc (is, lt-ltb 1 (length (m ∷ n ∷ mails)) (omega arith)))

  -- a list without its last item
  pub without_last : (mails : List M) (one : M) → take (length (mails ++ one ∷ []) - 1) (mails ++ one ∷ []) ≡ mails
  without_last mails one =
      let n : length mails ≡ length (mails ++ one ∷ []) - 1 = omega (arith, length-append mails (one ∷ [])) in
      take_at mails (one ∷ []) (length (mails ++ one ∷ []) - 1) n

  filled_still : (mails : List M) → ltb 1 (length mails) ≡ true → 1 ≤ length (take (length mails - 1) mails)
  filled_still mails is =
      let more : 1 < length mails = ltb-true 1 (length mails) is in
      omega (arith, more, length-take-le (length mails - 1) mails (omega arith))

-- what each engine has then
taken_value : (engine : ℕ) (boxes : List (ℕ × List Mail)) (other : ℕ)
    → value_or [] (taken_back engine boxes) other ≡ cond (eqb engine other) (take (length (value_or [] boxes engine) - 1) (value_or [] boxes engine)) (value_or [] boxes other)
taken_value engine boxes other =
    let mails = value_or [] boxes engine in
    let left = take (length mails - 1) mails in
    (elim (ltb 1 (length mails)) as (λ b. ltb 1 (length mails) ≡ b → value_or [] (cond b (with_value engine left boxes) (without engine boxes)) other ≡ cond (eqb engine other) left (value_or [] boxes other)) [
      | true ↦ λ is. value_or-with [] engine left boxes other
      | false ↦ λ is. value_or-without [] engine boxes other ∙ ap (λ (ms : List Mail). cond (eqb engine other) ms (value_or [] boxes other)) (none_left mails is)
    ]) refl

-- outboxes stay in order
pub taken_keeps : (engine : ℕ) (boxes : List (ℕ × List Mail)) → AreOutboxes boxes → AreOutboxes (taken_back engine boxes)
taken_keeps engine boxes h =
    let mails = value_or [] boxes engine in
    let left = take (length mails - 1) mails in
    (elim (ltb 1 (length mails)) as (λ b. ltb 1 (length mails) ≡ b → AreOutboxes (cond b (with_value engine left boxes) (without engine boxes))) [
      | true ↦ λ is. record { ascending = rises-with_value engine left 0 boxes (omega arith) h.ascending; filled = All-with IsFilled engine left boxes h.filled (filled_still mails is) }
      | false ↦ λ is. record { ascending = rises-without engine 0 boxes h.ascending; filled = All-filter (λ pair. not (eqb pair.0 engine)) IsFilled boxes h.filled }
    ]) refl

-- what was just posted is taken back
pub takes_back : (input : ℕ) (boxes : List (ℕ × List Mail)) (sent : Sent) → AreOutboxes boxes → taken_back sent.engine (post_one input boxes sent) ≡ boxes
takes_back input boxes sent h =
    let engine = sent.engine in
    let old = value_or [] boxes engine in
    let after = post_one input boxes sent in
    let keeps = taken_keeps engine after (post_one_keeps input boxes sent h) in
    let one = mail input sent.message in
    let there : value_or [] after engine ≡ old ++ one ∷ [] = value_or-with [] engine (old ++ one ∷ []) boxes engine ∙ ap (λ b. cond b (old ++ one ∷ []) old) (eq-eqb engine engine refl) in
    same_boxes 0 (taken_back engine after) boxes keeps.ascending h.ascending keeps.filled h.filled (λ other.
    taken_value engine after other
    ∙ ap (λ (ms : List Mail). cond (eqb engine other) (take (length ms - 1) ms) (value_or [] after other)) there
    ∙ ap (λ (ms : List Mail). cond (eqb engine other) ms (value_or [] after other)) (without_last old one)
    ∙ ap (λ (ms : List Mail). cond (eqb engine other) old ms) (value_or-with [] engine (old ++ one ∷ []) boxes other)
    ∙ (elim (eqb engine other) as (λ b. eqb engine other ≡ b → cond b old (cond b (old ++ one ∷ []) (value_or [] boxes other)) ≡ value_or [] boxes other) [
      | true ↦ λ is. ap (value_or [] boxes) (eqb-true engine other is)
      | false ↦ λ is. refl
    ]) refl)

-- the last of some messages
pub posted_last : (input : ℕ) (boxes : List (ℕ × List Mail)) (sent : List Sent) (n : ℕ) (one : Sent) → slice_get sent n ≡ Some one
    → post_each input boxes (take (n + 1) sent) ≡ post_one input (post_each input boxes (take n sent)) one
posted_last input boxes sent n one is =
    fold_more (post_one input) boxes sent n one (slice_get_within sent n one is) ∙ ap (post_one input (post_each input boxes (take n sent))) (get_or_from_slice_get sent n one one is)

pub posts_keep : (input : ℕ) (boxes : List (ℕ × List Mail)) (sent : List Sent) (n : ℕ) → AreOutboxes boxes → AreOutboxes (post_each input boxes (take n sent))
posts_keep input boxes sent n h = ones_keep input (take n sent) boxes h

-- ---- messages to the same engines

-- the engine of a message
abbrev pub engine_of : Sent → ℕ
engine_of sent = sent.engine

-- of messages to the same engines, two at one index go to one engine
pub same_engine : (sent messages : List Sent) (k : ℕ) (one : Sent) → AreToTheEnginesOf sent messages → slice_get messages k ≡ Some one
    → (slice_get sent k ≡ Some (get_or sent k one)) × ((get_or sent k one).engine ≡ one.engine)
same_engine sent messages k one engines there =
    let many : length messages ≡ length sent = sym (length-map messages engine_of) ∙ ap length engines ∙ length-map sent engine_of in
    let within : k < length sent = subst (λ n. k < n) many (slice_get_within messages k one there) in
    let goes : (get_or sent k one).engine ≡ one.engine =
    sym (get_or-map engine_of sent k one one.engine within)
    ∙ ap (λ (es : List ℕ). get_or es k one.engine) (sym engines)
    ∙ get_or-map engine_of messages k one one.engine (slice_get_within messages k one there)
    ∙ ap engine_of (get_or_from_slice_get messages k one one there) in
    (slice_get-get_or sent k one within, goes)

-- where a message is replaced by one to its engine, the engines stay
pub one_moved : (sent messages : List Sent) (k : ℕ) (d new : Sent) → AreToTheEnginesOf sent messages → new.engine ≡ (get_or messages k d).engine
    → AreToTheEnginesOf sent (set messages k new)
one_moved sent messages k d new engines same = map-set_same engine_of messages k new d same ∙ engines

-- messages to the same engines are as many
pub as_many : (sent messages : List Sent) → AreToTheEnginesOf sent messages → length messages ≡ length sent
as_many sent messages engines = sym (length-map messages engine_of) ∙ ap length engines ∙ length-map sent engine_of

-- ---- the place of an outbox

-- the value of a key, or none
pub value_or_of : {V : Type 0} (none : V) (pairs : List (ℕ × V)) (key : ℕ) → value_or none pairs key ≡ unwrap_or (value_of pairs key) none
value_or_of none [] key = refl
value_or_of none (pair ∷ pairs) key = elim (eqb pair.0 key) as (λ b. cond b pair.1 (value_or none pairs key) ≡ unwrap_or (cond b (Some pair.1) (value_of pairs key)) none) [
  | true ↦ refl
  | false ↦ value_or_of none pairs key
]

has_some : (engine : ℕ) (boxes : List (ℕ × List Mail)) → 1 < length (value_or [] boxes engine) → has boxes engine ≡ true
has_some engine boxes more = (elim (has boxes engine) as (λ b. has boxes engine ≡ b → b ≡ true) [
  | true ↦ λ is. refl
  | false ↦ λ is. absurd (let none = ap (λ (ms : List Mail). length ms) (value_or-absent [] engine boxes is) in omega (arith, none, more))
]) refl

-- an engine with two messages has an outbox, at its index
pub box_here : (engine : ℕ) (boxes : List (ℕ × List Mail)) → AreOutboxes boxes → 1 < length (value_or [] boxes engine)
    → (index_for engine boxes < length boxes) × ((d : ℕ × List Mail) → (get_or boxes (index_for engine boxes) d).0 ≡ engine)
box_here engine boxes h more = found_here engine boxes h.ascending (has_some engine boxes more)

-- its last message is dropped
pub dropped_there : (engine : ℕ) (boxes : List (ℕ × List Mail)) (at : ℕ) (m : ℕ × List Mail) (left : List Mail) → AreOutboxes boxes → 1 < length (value_or [] boxes engine)
    → at ≡ index_for engine boxes → m ≡ get_or boxes at m → left ≡ take (length m.1 - 1) m.1 → set boxes at (m.0, left) ≡ taken_back engine boxes
dropped_there engine boxes at m left h more is read dropped =
    let here = box_here engine boxes h more in
    let within : at < length boxes = subst (λ n. n < length boxes) (sym is) here.0 in
    let same : m.0 ≡ engine = ap (λ (p : ℕ × List Mail). p.0) (read ∙ ap (λ n. get_or boxes n m) is) ∙ here.1 m in
    let value : value_or [] boxes engine ≡ m.1 = value_or-here [] engine 0 boxes m here.0 (here.1 m) ∙ ap (λ (p : ℕ × List Mail). p.1) (sym (read ∙ ap (λ n. get_or boxes n m) is)) in
    written engine left boxes at m m is within read same read
    ∙ ap (λ (ms : List Mail). with_value engine ms boxes) (dropped ∙ ap (λ (ms : List Mail). take (length ms - 1) ms) (sym value))
    ∙ ap (λ b. cond b (with_value engine (take (length (value_or [] boxes engine) - 1) (value_or [] boxes engine)) boxes) (without engine boxes)) (sym (lt-ltb 1 (length (value_or [] boxes engine)) more))

-- an outbox with one message at most goes
pub box_gone : (engine : ℕ) (boxes : List (ℕ × List Mail)) → length (value_or [] boxes engine) ≤ 1 → without engine boxes ≡ taken_back engine boxes
box_gone engine boxes few =
    ap (λ b. cond b (with_value engine (take (length (value_or [] boxes engine) - 1) (value_or [] boxes engine)) boxes) (without engine boxes)) (sym (le-ltb 1 (length (value_or [] boxes engine)) few))

-- what is found, or nothing
pub found_mails : (boxes : List (ℕ × List Mail)) (engine : ℕ) (mails : List Mail) → Some mails ≡ value_of boxes engine → mails ≡ value_or [] boxes engine
found_mails boxes engine mails is = sym (value_or_of [] boxes engine ∙ ap (λ (o : Option (List Mail)). unwrap_or o []) (sym is))

pub no_mails : (boxes : List (ℕ × List Mail)) (engine : ℕ) → None ≡ value_of boxes engine → [] ≡ value_or [] boxes engine
no_mails boxes engine is = sym (value_or_of [] boxes engine ∙ ap (λ (o : Option (List Mail)). unwrap_or o []) (sym is))
