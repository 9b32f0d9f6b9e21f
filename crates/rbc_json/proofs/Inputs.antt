-- The object of an input, by its parts.
use Rattle.std.proofs.Common.{◌≡◌, ◌∙◌, ℕ, List, ◌++◌, map, Result, IfOk, refl}
use Rattle.std.proofs.lemmas.Result.{IfOk-weaker}
use Rattle.rbc_track.specs.Plan.{Plan}
use Rattle.rbc_account.specs.declared.block.Block.{Block}
use Rattle.rbc_json.specs.Effects.{effect_object}
use Rattle.rbc_json.specs.Json.{Json, opened, closed}
use Rattle.rbc_json.specs.Lists.{IsTextOf}
use Rattle.rbc_json.specs.Messages.{AreOfMessages}
use Rattle.rbc_json.specs.Objects.{IsObjectOf, IsRefusal, input_object, not_told_at, line_fields, answer_fields}
use Rattle.rbc_json.proofs.Pieces.{whole_object}

pub input_written : {T E : Type 0} (bytes : T → List ℕ) (r : Result T E) (plan : Plan) (line : List ℕ) (block : Block) (why : Json) (sent : List Json) (front came : List ℕ)
    → IsRefusal block.reply why → AreOfMessages plan block.number block.messages block.told.items sent → front ≡ opened (line_fields block.number line)
    → came ≡ closed (answer_fields why (effect_object block.counts block.deed) sent (map not_told_at block.waiting.items))
    → IfOk r (λ one. bytes one ≡ front ++ came) → IfOk r (λ one. IsTextOf (IsObjectOf plan line block) (bytes one))
input_written bytes r plan line block why sent front came refusal are begun ended written =
    let effect = effect_object block.counts block.deed in
    let not_told = map not_told_at block.waiting.items in
    IfOk-weaker r _ _
    (λ one e. (
      input_object block.number line why effect sent not_told,
      (why, sent, refusal, are, refl),
      e ∙ whole_object (line_fields block.number line) (answer_fields why effect sent not_told) front came refl begun ended,
    ))
    written
