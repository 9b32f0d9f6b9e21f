-- A block has the reply and the messages of the answer that it tells of, and tells of the input by the train that sent it.
use Rattle.std.proofs.Common.{◌≡◌, ℕ, false, List, Option, Result, Ok, Err, subst, sym, ap, ◌∙◌}
use Rattle.std.specs.Prelude.{IfOk}
use Rattle.rbc_track.specs.Plan.{Plan, IsPlan}
use Rattle.rbc_settle.specs.declared.sent.Sent.{Sent}
use Rattle.rbc_records.specs.declared.record.Key.{Key}
use Rattle.rbc_records.specs.declared.record.Rec.{Rec}
use Rattle.rbc_rule.specs.declared.outcome.Reply.{Reply}
use Rattle.rbc_rule.specs.Inputs.{Fits}
use Rattle.rbc_text.specs.BatchText.{line_of, IsInput}
use Rattle.rbc_live.specs.declared.desk.Answer.{Answer}
use Rattle.rbc_live.specs.Serial.{IsSerial}
use Rattle.rbc_live.specs.History.{IsFed, IsStepOf}
use Rattle.rbc_settle.specs.declared.train.TrainRec.{TrainRec}
use Rattle.rbc_rule.specs.declared.input.Input.{Input}
use Rattle.rbc_account.specs.declared.block.Block.{Block}
use Rattle.rbc_account.specs.declared.told.Told.{Told}
use Rattle.rbc_account.specs.Blocks.{IsRightBlock}
use Rattle.rbc_account.specs.declared.told_place.ToldPlace.{ToldPlace}
use Rattle.rbc_account.specs.ToldPlaces.{kept_after}
use Rattle.rbc_account.specs.SentInputs.{Kept, inputs_after}
use Rattle.rbc_account.specs.Coming.{sender_in}
use Rattle.rbc_account.specs.Subjects.{ArePaired}
use Rattle.rbc_account.specs.Found.{IsFound, IsKnown, is_unknown, has_unknown}
use Rattle.rbc_account.proofs.StepFound.{fails_after_step}
use Rattle.rbc_account.proofs.NeverUnknown.{none_unknown}

-- the step of the input of a line is one of the line
pub fed_by_line : {E : Type 0} (r : Result Answer E) (plan : Plan) (line : List ℕ) (input : Input) (old new : List (Key × Rec))
    → IsInput (line_of line) input → IfOk r (λ answer. IsStepOf plan input old new answer.reply answer.messages)
    → IfOk r (λ answer. IsFed plan line old new answer.reply answer.messages)
fed_by_line (Ok answer) plan line input old new is steps = (input, is, steps)
fed_by_line (Err fault) plan line input old new is steps = tt

pub fed_as : {E : Type 0} (plan : Plan) (line : List ℕ) (old new : List (Key × Rec)) (reply : Reply) (messages : List Sent) (r : Result Block E)
    → IfOk r (λ block. block.reply ≡ reply) → IfOk r (λ block. block.messages ≡ messages) → IsFed plan line old new reply messages
    → IfOk r (λ block. IsFed plan line old new block.reply block.messages)
fed_as plan line old new reply messages (Ok block) is same fed =
    subst (λ (other : Reply). IsFed plan line old new other block.messages) (sym is)
    (subst (λ (others : List Sent). IsFed plan line old new reply others) (sym same) fed)
fed_as plan line old new reply messages (Err error) is same fed = tt

pub right_as : {E : Type 0} (plan : Plan) (old new : List (Key × Rec)) (input : Input) (before : Option TrainRec) (r : Result Block E)
    → IfOk r (λ block. block.input ≡ input) → before ≡ sender_in old input → IfOk r (IsRightBlock plan new before)
    → IfOk r (λ block. IsRightBlock plan new (sender_in old block.input) block)
right_as plan old new input before (Ok block) same sent right =
    subst (λ (sender : Option TrainRec). IsRightBlock plan new sender block) (sent ∙ ap (sender_in old) (sym same)) right
right_as plan old new input before (Err error) same sent right = tt

pub kept_as : {E : Type 0} (plan : Plan) (old new : ℕ → Option ToldPlace) (messages : List Sent) (r : Result Block E)
    → IfOk r (λ block. block.messages ≡ messages) → ((number : ℕ) → new number ≡ kept_after plan old messages number)
    → IfOk r (λ block. (number : ℕ) → new number ≡ kept_after plan old block.messages number)
kept_as plan old new messages (Ok block) same kept = λ number. kept number ∙ sym (ap (λ (all : List Sent). kept_after plan old all number) same)
kept_as plan old new messages (Err error) same kept = tt

pub noted_as : {E : Type 0} (input : ℕ) (old new : Kept) (messages : List Sent) (r : Result Block E)
    → IfOk r (λ block. block.messages ≡ messages) → ((number : ℕ) → new number ≡ inputs_after input old messages number)
    → IfOk r (λ block. (number : ℕ) → new number ≡ inputs_after input old block.messages number)
noted_as input old new messages (Ok block) same kept = λ number. kept number ∙ sym (ap (λ (all : List Sent). inputs_after input old all number) same)
noted_as input old new messages (Err error) same kept = tt

pub known_as : {E : Type 0} (plan : Plan) (old new : List (Key × Rec)) (input : Input) (before : Option TrainRec) (reply : Reply) (messages : List Sent) (r : Result Block E)
    → IsPlan plan → Fits input → ∥ IsSerial plan old ∥₁ → IsStepOf plan input old new reply messages → before ≡ sender_in old input → IfOk r (λ block. block.messages ≡ messages)
    → IfOk r (λ block. ArePaired (IsKnown new input before) block.messages block.told.items) → IfOk r (λ block. has_unknown block.told.items ≡ false)
known_as plan old new input before reply messages (Ok block) track fits serial step sent same known =
    let Found : Sent → Type 0 = λ sent. IsFound new input (sender_in old input) sent.engine sent.message in
    let paired : ArePaired (IsKnown new input (sender_in old input)) messages block.told.items =
    subst (λ (all : List Sent). ArePaired (IsKnown new input (sender_in old input)) all block.told.items) same
    (subst (λ (sender : Option TrainRec). ArePaired (IsKnown new input sender) block.messages block.told.items) sent known) in
    fails_after_step plan input old new reply messages (has_unknown block.told.items) track fits serial step
    (none_unknown Found (λ (one : Told). is_unknown one.what) messages block.told.items paired)
known_as plan old new input before reply messages (Err error) track fits serial step sent same known = tt
