-- How many messages a step sends in all, and what the step of a line is.
use Rattle.std.proofs.Common.{◌≡◌, ℕ, ◌+◌, true, false, cond, not, eqb, leb, List, [], ◌∷◌, length, map, refl, sym, ap, ◌∙◌, subst, arith}
use Rattle.std.specs.List.{filter, fold}
use Rattle.std.proofs.lemmas.Bool.{eq-eqb, eqb-true, and_parts}
use Rattle.ertms_codec.specs.declared.to_train.ToTrain.{ToTrain}
use Rattle.rbc_track.specs.Plan.{Plan}
use Rattle.rbc_maps.specs.Maps.{keys, rises_from, value_or}
use Rattle.rbc_maps.proofs.MapPlaces.{absent_below, value_or-absent}
use Rattle.rbc_settle.specs.declared.sent.Sent.{Sent}
use Rattle.rbc_records.specs.declared.record.Key.{Key}
use Rattle.rbc_records.specs.declared.record.Rec.{Rec}
use Rattle.rbc_records.specs.Notes.{Whole, Extends}
use Rattle.rbc_rule.specs.declared.input.Input.{Input}
use Rattle.rbc_rule.specs.declared.outcome.Reply.{Reply}
use Rattle.rbc_rule.specs.Right.{IsRight, messages_to}
use Rattle.rbc_rule.specs.Step.{step, count_sent}
use Rattle.rbc_text.proofs.Sends.{sent_ascends}
use Rattle.rbc_text.specs.BatchText.{line_of, IsInput}
use Rattle.rbc_live.specs.declared.desk.LiveFault.{LiveFault}
use Rattle.rbc_live.specs.declared.desk.LiveFault.TheVariants.{Memory, Room}
use Rattle.rbc_live.specs.declared.desk.Answer.{Answer}
use Rattle.rbc_live.specs.History.{AreSentAt, IsFaultAt, IsFaultOf, IsFed, IsStepOf}
use Rattle.rbc_live.proofs.Steps.{may_be, same_whole}
use Rattle.std.specs.Prelude.{Option, Result, Ok, Err, IfOk, IfErr}

-- the messages to all other engines
abbrev others : ℕ → List Sent → List Sent
others engine sent = filter (λ one. not (eqb one.engine engine)) sent

abbrev texts : List Sent → List ToTrain
texts sent = map (λ one. one.message) sent

abbrev to_engine : ℕ → List Sent → List Sent
to_engine engine sent = filter (λ one. eqb one.engine engine) sent

-- each message is to the engine or to another one
parted : (engine : ℕ) (sent : List Sent) → length sent ≡ length (messages_to engine sent) + length (others engine sent)
parted engine [] = refl
parted engine (one ∷ sent) =
    let rest = parted engine sent in
    elim (eqb one.engine engine) as (λ b. length (one ∷ sent) ≡ length (texts (cond b (one ∷ to_engine engine sent) (to_engine engine sent))) + length (cond (not b) (one ∷ others engine sent) (others engine sent))) [
      | true ↦ omega (arith, rest)
      | false ↦ omega (arith, rest)
    ]

-- none of the others is to it
none_to : (engine : ℕ) (sent : List Sent) → messages_to engine (others engine sent) ≡ []
none_to engine [] = refl
none_to engine (one ∷ sent) =
    (elim (eqb one.engine engine) as (λ b. eqb one.engine engine ≡ b → messages_to engine (cond (not b) (one ∷ others engine sent) (others engine sent)) ≡ []) [
      | true ↦ λ is. none_to engine sent
      | false ↦ λ is. ap (λ b. texts (cond b (one ∷ to_engine engine (others engine sent)) (to_engine engine (others engine sent)))) is ∙ none_to engine sent
    ]) refl

-- the messages to another engine are all among the others
all_to : (engine to : ℕ) (sent : List Sent) → eqb engine to ≡ false → messages_to to (others engine sent) ≡ messages_to to sent
all_to engine to [] different = refl
all_to engine to (one ∷ sent) different =
    let rest = all_to engine to sent different in
    (elim (eqb one.engine engine) as (λ b. eqb one.engine engine ≡ b → messages_to to (cond (not b) (one ∷ others engine sent) (others engine sent)) ≡ texts (cond (eqb one.engine to) (one ∷ to_engine to sent) (to_engine to sent))) [
      | true ↦ λ is. rest ∙ sym (ap (λ b. texts (cond b (one ∷ to_engine to sent) (to_engine to sent))) (ap (λ n. eqb n to) (eqb-true one.engine engine is) ∙ different))
      | false ↦ λ is. elim (eqb one.engine to) as (λ b. texts (cond b (one ∷ to_engine to (others engine sent)) (to_engine to (others engine sent))) ≡ texts (cond b (one ∷ to_engine to sent) (to_engine to sent))) [
        | true ↦ ap (λ (ms : List ToTrain). one.message ∷ ms) rest
        | false ↦ rest
      ]
    ]) refl

not_empty : (one : ToTrain) (more : List ToTrain) → one ∷ more ≡ [] → ⊥
not_empty one more e = cc

-- where no engine has a message there is none
nobody : (sent : List Sent) → ((engine : ℕ) → messages_to engine sent ≡ []) → length sent ≡ 0
nobody [] none = refl
nobody (one ∷ sent) none =
    absurd (not_empty one.message (texts (to_engine one.engine sent))
    (sym (ap (λ b. texts (cond b (one ∷ to_engine one.engine sent) (to_engine one.engine sent))) (eq-eqb one.engine one.engine refl)) ∙ none one.engine))

-- a sum from some number on
sum_from : (n : ℕ) (sent : List (ℕ × List ToTrain)) → fold (λ (a : ℕ) (x : ℕ × List ToTrain). a + length x.1) n sent ≡ n + count_sent sent
sum_from n [] = omega arith
sum_from n (x ∷ sent) =
    let now = sum_from (n + length x.1) sent in
    let alone = sum_from (0 + length x.1) sent in
    omega (arith, now, alone)

one_more : (to : ℕ) (some : List ToTrain) (sent : List (ℕ × List ToTrain)) → length some + count_sent sent ≡ count_sent ((to, some) ∷ sent)
one_more to some sent = let e = sum_from (0 + length some) sent in omega (arith, e)

-- messages that are to each engine those of a map are as many as it has
count_all : (least : ℕ) (sent : List (ℕ × List ToTrain)) (messages : List Sent) → rises_from least (keys sent) ≡ true
    → ((engine : ℕ) → messages_to engine messages ≡ value_or [] sent engine) → length messages ≡ count_sent sent
count_all least [] messages rises same = nobody messages same
count_all least ((to, some) ∷ sent) messages rises same =
    let parts = and_parts (leb least to) (rises_from (to + 1) (keys sent)) rises in
    let first : messages_to to messages ≡ some = same to ∙ ap (λ b. cond b some (value_or [] sent to)) (eq-eqb to to refl) in
    let behind : (engine : ℕ) → messages_to engine (others to messages) ≡ value_or [] sent engine = λ engine.
    (elim (eqb to engine) as (λ b. eqb to engine ≡ b → messages_to engine (others to messages) ≡ value_or [] sent engine) [
      | true ↦ λ is. subst (λ n. messages_to n (others to messages) ≡ value_or [] sent n) (eqb-true to engine is)
          (none_to to messages ∙ sym (value_or-absent [] to sent (absent_below to (to + 1) sent (omega arith) parts.1)))
      | false ↦ λ is. all_to to engine messages is ∙ same engine ∙ ap (λ b. cond b some (value_or [] sent engine)) is
    ]) refl in
    parted to messages ∙ ap (λ (ms : List ToTrain). length ms + length (others to messages)) first
    ∙ ap (λ n. length some + n) (count_all (to + 1) sent (others to messages) parts.1 behind) ∙ one_more to some sent

-- the messages of a right outcome are as many as the step sends
pub counted : (plan : Plan) (input : Input) (old middle : List (Key × Rec)) (reply : Reply) (writes : List (Key × Option Rec)) (messages : List Sent)
    → Extends (Whole old) (Whole middle) → IsRight plan input (Whole middle) reply writes messages → AreSentAt plan input old (length messages)
counted plan input old middle reply writes messages more right = λ w are.
    let one = right w (may_be plan old middle w (same_whole old middle more) are) in
    count_all 0 (step plan w input).sent messages (sent_ascends plan w input are.well_formed.ascending) one.sent

-- a fault at the input of a line is one of the line
fault_of_line : (plan : Plan) (line : List ℕ) (input : Input) (records : List (Key × Rec)) (most : ℕ) (fault : LiveFault)
    → IsInput (line_of line) input → IsFaultAt plan input records most fault → IsFaultOf plan line records most fault
fault_of_line plan line input records most Memory is at = tt
fault_of_line plan line input records most (Room count) is at = (at.0, (input, is, at.1))

pub faults_of_line : {T : Type 0} (r : Result T LiveFault) (plan : Plan) (line : List ℕ) (input : Input) (records : List (Key × Rec)) (most : ℕ)
    → IsInput (line_of line) input → IfErr r (IsFaultAt plan input records most) → IfErr r (IsFaultOf plan line records most)
faults_of_line (Ok done) plan line input records most is at = tt
faults_of_line (Err fault) plan line input records most is at = fault_of_line plan line input records most fault is at

-- the step of the input of a line is one of the line
pub fed_by_line : {E : Type 0} (r : Result (Answer × List (Key × Option Rec)) E) (plan : Plan) (line : List ℕ) (input : Input) (old new : List (Key × Rec))
    → IsInput (line_of line) input → IfOk r (λ taken. IsStepOf plan input old new taken.0.reply taken.0.messages)
    → IfOk r (λ taken. IsFed plan line old new taken.0.reply taken.0.messages)
fed_by_line (Ok taken) plan line input old new is steps = (input, is, steps)
fed_by_line (Err fault) plan line input old new is steps = tt
