-- The stop or the restrictions that a message is about.
use Rattle.std.specs.Prelude.{◌≡◌, ℕ, List, [], ◌∷◌, Option, Some, option_and_then}
use Rattle.ertms_codec.specs.declared.packets.Part.{Part}
use Rattle.ertms_codec.specs.declared.packets.Part.TheVariants as part
use Rattle.ertms_codec.specs.declared.to_train.ToTrain.{ToTrain}
use Rattle.ertms_codec.specs.declared.to_train.ToTrain.TheVariants as message
use Rattle.rbc_place.specs.Placing.{Place}
use Rattle.rbc_settle.specs.declared.train.TrainRec.{TrainRec}
use Rattle.rbc_settle.specs.declared.sent.Sent.{Sent}
use Rattle.rbc_records.specs.declared.record.Key.{Key}
use Rattle.rbc_records.specs.declared.record.Rec.{Rec}
use Rattle.rbc_rule.specs.declared.input.Input.{Input}
use Rattle.rbc_rule.specs.declared.input.Input.TheVariants as input
use Rattle.rbc_account.specs.declared.told.Told.{Told}
use Rattle.rbc_account.specs.declared.told.ToldWhat.{ToldWhat}
use Rattle.rbc_account.specs.declared.told.ToldWhat.TheVariants as what
use Rattle.rbc_account.specs.declared.told.ToldRestriction.{ToldRestriction}
use Rattle.rbc_account.specs.declared.told.RestrictionTold.{RestrictionTold}
use Rattle.rbc_account.specs.declared.told.RestrictionTold.TheVariants as packet
use Rattle.rbc_live.specs.Known.{train_in, number_under}
use Rattle.rbc_account.specs.Places.{TellsPlace, TellsAtOnce, TellsRevocation, TellsPart}
use Rattle.rbc_account.specs.Whys.{IsTold}

-- the items of two lists match, one by one
abbrev pub ArePaired : {A B : Type 0} → (A → B → Type 0) → List A → List B → Type 0
ArePaired Is [] [] = Unit
ArePaired Is (x ∷ xs) (y ∷ ys) = Is x y × ArePaired Is xs ys
ArePaired Is [] (y ∷ ys) = ⊥
ArePaired Is (x ∷ xs) [] = ⊥

-- the stop, and the restriction, that an identifier of a train told before an input
abbrev pub stop_before : Option TrainRec → ℕ → Option ℕ
stop_before before id = option_and_then (λ train. number_under train.stops id) before

abbrev pub limit_before : Option TrainRec → ℕ → Option ℕ
limit_before before id = option_and_then (λ train. number_under train.limits id) before

-- The stop that is revoked under an identifier: the one that the input releases, or else the one that the identifier told before.
abbrev pub revoked_stop : Input → Option TrainRec → ℕ → Option ℕ
revoked_stop (input.Release number) before id = Some number
revoked_stop (input.Enrol engine train_length) before id = stop_before before id
revoked_stop (input.Withdraw engine) before id = stop_before before id
revoked_stop (input.Stop number segments) before id = stop_before before id
revoked_stop (input.Restrict number segment dirs speed front) before id = stop_before before id
revoked_stop (input.Lift number) before id = stop_before before id
revoked_stop (input.Received message) before id = stop_before before id
revoked_stop (input.Bad code) before id = stop_before before id

-- The restriction that is revoked under an identifier: the one that the input lifts, or else the one that the identifier told before.
abbrev pub revoked_limit : Input → Option TrainRec → ℕ → Option ℕ
revoked_limit (input.Lift number) before id = Some number
revoked_limit (input.Enrol engine train_length) before id = limit_before before id
revoked_limit (input.Withdraw engine) before id = limit_before before id
revoked_limit (input.Stop number segments) before id = limit_before before id
revoked_limit (input.Release number) before id = limit_before before id
revoked_limit (input.Restrict number segment dirs speed front) before id = limit_before before id
revoked_limit (input.Received message) before id = limit_before before id
revoked_limit (input.Bad code) before id = limit_before before id

-- what is told is about the stop with this number
abbrev pub IsOfStop : Option ℕ → ToldWhat → Type 0
IsOfStop number (what.StopBefore n told edge unit) = number ≡ Some n
IsOfStop number (what.StopAtOnce n why) = number ≡ Some n
IsOfStop number (what.StopRevoked n unanswered) = number ≡ Some n
IsOfStop number (what.Restrictions all) = ⊥
IsOfStop number what.Unknown = Unit

-- what a packet tells is about the restriction with this number
abbrev pub IsOfNumber : Option ℕ → ℕ → RestrictionTold → Type 0
IsOfNumber number n (packet.Told segment begin end unit why) = number ≡ Some n
IsOfNumber number n (packet.Revoked why) = number ≡ Some n
IsOfNumber number n packet.Unknown = Unit

-- The restriction of a packet: the one that its identifier tells after the input, or that is revoked under it.
abbrev pub limit_of : Input → Option TrainRec → TrainRec → Part → Option ℕ
limit_of one before train (part.Restrict dir scale id start length front speed) = number_under train.limits id
limit_of one before train (part.Lift dir id) = revoked_limit one before id

abbrev pub IsOfLimit : Input → Option TrainRec → TrainRec → Part → ToldRestriction → Type 0
IsOfLimit one before train part told = IsOfNumber (limit_of one before train part) told.number told.what

-- what a message 24 tells is about the restrictions of its packets, one by one
abbrev pub IsOfLimits : Input → Option TrainRec → TrainRec → List Part → ToldWhat → Type 0
IsOfLimits one before train parts (what.Restrictions all) = ArePaired (IsOfLimit one before train) parts all.items
IsOfLimits one before train parts (what.StopBefore n told edge unit) = ⊥
IsOfLimits one before train parts (what.StopAtOnce n why) = ⊥
IsOfLimits one before train parts (what.StopRevoked n unanswered) = ⊥
IsOfLimits one before train parts what.Unknown = Unit

-- What is told about a message is about its own stop or restrictions: those that its identifiers tell after the input, or that are revoked.
abbrev pub IsOf : Input → Option TrainRec → TrainRec → ToTrain → ToldWhat → Type 0
IsOf one before train (message.StopAt head id scale reference dir distance) told = IsOfStop (number_under train.stops id) told
IsOf one before train (message.Stop head id) told = IsOfStop (number_under train.stops id) told
IsOf one before train (message.Revoke head id) told = IsOfStop (revoked_stop one before id) told
IsOf one before train (message.General head packets) told = IsOfLimits one before train packets told

-- a message 24 is told with each packet as what it is
abbrev pub TellsParts : List Part → ToldWhat → Type 0
TellsParts parts (what.Restrictions all) = ArePaired TellsPart parts all.items
TellsParts parts (what.StopBefore n told edge unit) = ⊥
TellsParts parts (what.StopAtOnce n why) = ⊥
TellsParts parts (what.StopRevoked n unanswered) = ⊥
TellsParts parts what.Unknown = Unit

-- A message to a train at a place is told as what it is: its kind, and the places that it tells.
abbrev pub TellsAs : Option Place → ToTrain → ToldWhat → Type 0
TellsAs place (message.StopAt head id scale reference dir distance) told = TellsPlace place scale distance told
TellsAs place (message.Stop head id) told = TellsAtOnce told
TellsAs place (message.Revoke head id) told = TellsRevocation told
TellsAs place (message.General head packets) told = TellsParts packets told

-- A message is told rightly: to its train, as what it is, with a reason that holds, of its own stop or restrictions.
pub record IsToldOf (records : List (Key × Rec)) (one : Input) (before : Option TrainRec) (sent : Sent) (told : Told) : Type 0 where
  pub engine : told.engine ≡ sent.engine
  pub why : IsTold records before told
  pub about : (train : TrainRec) → train_in records told.engine ≡ Some train → IsOf one before train sent.message told.what
  pub kind : (train : TrainRec) → train_in records told.engine ≡ Some train → TellsAs train.place sent.message told.what
