-- The object of a message, by what the message is and what is told of it.
use Rattle.std.proofs.Common.{◌≡◌, ◌∙◌, ℕ, false, true, List, Option, Result, IfOk, ℤ, ap, sym, subst}
use Rattle.std.proofs.lemmas.Result.{IfOk-weaker}
use Rattle.ertms_codec.specs.declared.packets.Part.{Part}
use Rattle.ertms_codec.specs.declared.to_train.Head.{Head}
use Rattle.ertms_codec.specs.declared.to_train.ToTrain.{ToTrain}
use Rattle.ertms_codec.specs.declared.to_train.ToTrain.TheVariants as message
use Rattle.rbc_track.specs.Plan.{Plan}
use Rattle.rbc_place.specs.Placing.{Place}
use Rattle.rbc_account.specs.declared.told.ToldWhat.{ToldWhat}
use Rattle.rbc_json.specs.Json.{Json, json_text}
use Rattle.rbc_json.specs.Lists.{IsTextOf}
use Rattle.rbc_json.specs.Messages.{hex_value, IsOfStopAt, IsOfStop, IsOfRevoke, IsOfGeneral, IsOfMessage}

-- a text is that of a value, which has a property by what is told
pub told_as : {T E : Type 0} (bytes : T → List ℕ) (r : Result T E) (Is : ToldWhat → Json → Type 0) (told is : ToldWhat) (value : Json) → told ≡ is → Is is value
    → IfOk r (λ text. bytes text ≡ json_text value) → IfOk r (λ text. IsTextOf (Is told) (bytes text))
told_as bytes r Is told is value same has text =
    IfOk-weaker r _ _ (λ one e. (value, subst (λ (t : ToldWhat). Is t value) (sym same) has, e)) text

-- the same for a value that has it, and something else, for some text
pub told_so : {T E : Type 0} (bytes : T → List ℕ) (r : Result T E) (Is : ToldWhat → Json → Type 0) (told is : ToldWhat) → told ≡ is
    → IfOk r (λ text. IsTextOf (Is is) (bytes text)) → IfOk r (λ text. IsTextOf (Is told) (bytes text))
told_so bytes r Is told is same has = subst (λ (t : ToldWhat). IfOk r (λ text. IsTextOf (Is t) (bytes text))) (sym same) has

-- no place is told where one is
pub none_told : {A : Type 0} (found : false ≡ true) → A
none_told found = absurd cc

module _ {T E : Type 0} (bytes : T → List ℕ) (r : Result T E) (plan : Plan) (input engine : ℕ) (place : Option Place) (sent : ToTrain) (told : ToldWhat) (hex : List ℕ)
    (spelled : hex ≡ json_text (hex_value sent)) where
  -- the text of a message, with its bytes, that is another one by name
  carried : (same : ToTrain) (Is : Json → Json → Type 0) → sent ≡ same → ((value : Json) → hex ≡ json_text value → IfOk r (λ text. IsTextOf (Is value) (bytes text)))
      → IfOk r (λ text. IsTextOf (Is (hex_value same)) (bytes text))
  carried same Is is all = all (hex_value same) (spelled ∙ ap (λ (x : ToTrain). json_text (hex_value x)) is)

  Is_sent : ToTrain → Type 0
  Is_sent x = IfOk r (λ text. IsTextOf (IsOfMessage plan input engine place x told) (bytes text))

  pub stop_at_sent : (head : Head) (id scale : ℕ) (reference : ℤ) (dir distance : ℕ) → sent ≡ message.StopAt head id scale reference dir distance
      → ((value : Json) → hex ≡ json_text value → IfOk r (λ text. IsTextOf (IsOfStopAt plan input engine place value sent head id told) (bytes text)))
      → IfOk r (λ text. IsTextOf (IsOfMessage plan input engine place sent told) (bytes text))
  unfolding Is_sent
  stop_at_sent head id scale reference dir distance is all =
      let same = message.StopAt head id scale reference dir distance in
      subst Is_sent (sym is)
      (subst (λ (x : ToTrain). IfOk r (λ text. IsTextOf (IsOfStopAt plan input engine place (hex_value same) x head id told) (bytes text))) is
      (carried same (λ value. IsOfStopAt plan input engine place value sent head id told) is all))

  pub stop_sent : (head : Head) (id : ℕ) → sent ≡ message.Stop head id
      → ((value : Json) → hex ≡ json_text value → IfOk r (λ text. IsTextOf (IsOfStop input engine place value head id told) (bytes text)))
      → IfOk r (λ text. IsTextOf (IsOfMessage plan input engine place sent told) (bytes text))
  unfolding Is_sent
  stop_sent head id is all = subst Is_sent (sym is) (carried (message.Stop head id) (λ value. IsOfStop input engine place value head id told) is all)

  pub revoke_sent : (head : Head) (id : ℕ) → sent ≡ message.Revoke head id
      → ((value : Json) → hex ≡ json_text value → IfOk r (λ text. IsTextOf (IsOfRevoke input engine place value head id told) (bytes text)))
      → IfOk r (λ text. IsTextOf (IsOfMessage plan input engine place sent told) (bytes text))
  unfolding Is_sent
  revoke_sent head id is all = subst Is_sent (sym is) (carried (message.Revoke head id) (λ value. IsOfRevoke input engine place value head id told) is all)

  pub general_sent : (head : Head) (packets : List Part) → sent ≡ message.General head packets
      → ((value : Json) → hex ≡ json_text value → IfOk r (λ text. IsTextOf (IsOfGeneral plan input engine place value head packets told) (bytes text)))
      → IfOk r (λ text. IsTextOf (IsOfMessage plan input engine place sent told) (bytes text))
  unfolding Is_sent
  general_sent head packets is all = subst Is_sent (sym is) (carried (message.General head packets) (λ value. IsOfGeneral plan input engine place value head packets told) is all)
