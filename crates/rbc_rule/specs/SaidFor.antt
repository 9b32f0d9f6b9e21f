-- What a message must say to a train: what the rules give the train (own rule).
use Rattle.std.specs.Prelude.{◌≡◌, ℕ, fold, ◌+◌, ◌*◌, ◌^◌, ◌≤◌, Bool, true, false, List, [], ◌∷◌, map, Some, Result, Ok, Err}
use Rattle.ertms_codec.specs.declared.to_train.ToTrain.{ToTrain}
use Rattle.ertms_codec.specs.declared.to_train.ToTrain.TheVariants as message
use Rattle.ertms_codec.specs.Layout.{HoldValues}
use Rattle.ertms_codec.specs.ToTrain as codec
use Rattle.rbc_track.specs.Plan.{Plan, IsPlan}
use Rattle.rbc_track.specs.declared.group.Way.TheVariants.{Up}
use Rattle.rbc_place.specs.Placing.{Place}
use Rattle.rbc_place.specs.Reach.{IsAhead}
use Rattle.rbc_maps.specs.Maps.{value_of}
use Rattle.rbc_zones.specs.declared.segment.Segment.{Segment}
use Rattle.rbc_zones.specs.declared.stop_meaning.Concern.{Concern}
use Rattle.rbc_zones.specs.declared.stop_meaning.Concern.TheVariants as concern
use Rattle.rbc_zones.specs.Concerns.{distance_to, IsToldFor}
use Rattle.rbc_zones.specs.Limits.{Limit, IsToldPart}
use Rattle.rbc_settle.specs.declared.train.TrainRec.{TrainRec}
use Rattle.rbc_settle.specs.Actions.{Action, ChangesStop, ChangesLimits}
use Rattle.rbc_settle.specs.declared.change.StopChange.TheVariants as stop_change
use Rattle.rbc_settle.specs.declared.change.LimitChange.{LimitChange}
use Rattle.rbc_settle.specs.declared.change.LimitChange.TheVariants as limit_change
use Rattle.rbc_settle.specs.Settling.{Stops, Limits, last_stamp, concern_to, escalated, actions_with_stamp, group_of}
use Rattle.rbc_settle.specs.Numbers.{and_number}
use Rattle.rbc_rule.specs.declared.input.Input.{Input}
use Rattle.rbc_rule.specs.Inputs.{Fits}
use Rattle.rbc_rule.specs.World.{World}
use Rattle.rbc_rule.specs.Effect.{effect}
use Rattle.rbc_rule.specs.Step.{step}
use Rattle.rbc_rule.specs.WellFormed.{IsWellFormed}
use Rattle.rbc_rule.specs.Saying.{Spot, Stretch, Said, StopsAtOnce, StopsBefore, Restricts, RevokesStop, RevokesLimit, Says}

-- ---- what it has to say

-- the place for an edge: whole units ahead of the balise group, the way the train faces, rounded down, in the finest unit that has room
pub record IsSpotFor (p : Place) (edge : ℕ) (spot : Spot) : Type 0 where
  pub scale : ℕ
  pub units : ℕ
  pub told : IsToldFor (distance_to p.facing p.at edge) scale units
  pub on_line : spot.line ≡ p.line
  pub from_group : spot.origin ≡ p.at
  pub faces : spot.way ≡ p.facing
  pub in_units : spot.unit ≡ 10 ^ scale
  pub ahead : IsAhead p.facing p.at (units * 10 ^ scale) spot.place

-- The stretch for a restriction, by places: it covers all of the restriction that is not behind the balise group,
-- begins less than a unit before that part and ends less than a unit after it, the way the train faces, in the finest
-- unit in which its beginning and its length have room in their fields.
pub record IsStretchFor (limit : Limit) (p : Place) (stretch : Stretch) : Type 0 where
  pub scale : ℕ
  pub start : ℕ
  pub length : ℕ
  pub told : IsToldPart limit p scale start length
  pub on_line : stretch.line ≡ p.line
  pub from_group : stretch.origin ≡ p.at
  pub faces : stretch.way ≡ p.facing
  pub in_units : stretch.unit ≡ 10 ^ scale
  pub begins : stretch.begin ≡ start * 10 ^ scale
  pub ends : stretch.end ≡ (start + length) * 10 ^ scale

-- to stop before an edge
pub record IsEdgeSaid (train : TrainRec) (edge id : ℕ) (said : Said) : Type 0 where
  pub p : Place
  pub placed : train.place ≡ Some p
  pub spot : Spot
  pub is_for : IsSpotFor p edge spot
  pub is_said : said ≡ StopsBefore id spot

-- what an active stop means for the train
abbrev pub IsConcernSaid : TrainRec → Concern → ℕ → Said → Type 0
IsConcernSaid train concern.None id said = ⊥
IsConcernSaid train concern.Now id said = said ≡ StopsAtOnce id
IsConcernSaid train (concern.Before edge) id said = IsEdgeSaid train edge id said

pub record IsStopSaid (stops : Stops) (train : TrainRec) (id number : ℕ) (said : Said) : Type 0 where
  pub area : List Segment
  pub active : value_of stops.active number ≡ Some area
  pub concern : IsConcernSaid train (concern_to train (number, area)) id said

-- an active restriction, on its stretch, with its speed
pub record IsLimitSaid (limits : Limits) (train : TrainRec) (id number : ℕ) (said : Said) : Type 0 where
  pub limit : Limit
  pub active : value_of limits.active number ≡ Some limit
  pub p : Place
  pub placed : train.place ≡ Some p
  pub stretch : Stretch
  pub is_for : IsStretchFor limit p stretch
  pub is_said : said ≡ Restricts id stretch limit.front limit.speed

-- A train as its actions see it: the stops that are escalated are told at once from now on.
abbrev pub as_told : Stops → TrainRec → TrainRec
as_told stops train = record train { forced = fold (λ forced number. and_number number forced) train.forced (escalated stops train) }

-- one thing alone, which satisfies a statement
pub record IsAlone (holds : Said → Type 0) (said : List Said) : Type 0 where
  pub one : Said
  pub is : holds one
  pub alone : said ≡ one ∷ []

-- for a change to the restrictions
abbrev pub IsChangeSaid : Limits → TrainRec → LimitChange → Said → Type 0
IsChangeSaid limits train (limit_change.Revoke id) said = said ≡ RevokesLimit id
IsChangeSaid limits train (limit_change.Tell id number told) said = IsLimitSaid limits train id number said

-- for changes: one thing for each, in their order
abbrev pub AreChangesSaid : Limits → TrainRec → List LimitChange → List Said → Type 0
AreChangesSaid limits train [] [] = Unit
AreChangesSaid limits train (change ∷ changes) (one ∷ said) = IsChangeSaid limits train change one × AreChangesSaid limits train changes said
AreChangesSaid limits train [] (one ∷ said) = ⊥
AreChangesSaid limits train (change ∷ changes) [] = ⊥

-- for an action of settling a train
abbrev pub IsSaidFor : Stops → Limits → TrainRec → Action → List Said → Type 0
IsSaidFor stops limits train (ChangesStop (stop_change.Revoke id forced)) said = said ≡ RevokesStop id ∷ []
IsSaidFor stops limits train (ChangesStop (stop_change.Tell id number told)) said = IsAlone (IsStopSaid stops train id number) said
IsSaidFor stops limits train (ChangesLimits changes) said = AreChangesSaid limits train changes said

-- a message can be sent: each variable is in its range, and wide enough for its value
pub record IsSendable (message : ToTrain) : Type 0 where
  pub fits : codec.Fits message
  pub holds : HoldValues (codec.fields_of message)
  pub reference : codec.HoldsReference message

-- M_ACK, by the kind of message: a stop (messages 15 and 16) is answered by its identifier, and messages 18 and 24 ask for an answer by
-- their stamp
abbrev pub asks_for_answer : ToTrain → Bool
asks_for_answer (message.StopAt head id scale reference dir distance) = false
asks_for_answer (message.Stop head id) = false
asks_for_answer (message.Revoke head id) = true
asks_for_answer (message.General head packets) = true

-- a train to which this many more messages were sent, each with the next stamp
abbrev pub after_sending : ℕ → TrainRec → TrainRec
after_sending count train = record train { stamp = train.stamp + count }

-- A message says what it has to say for an action, and can be sent. Its stamp is the train's next one, and not the one for an unknown time;
-- M_ACK is that of its kind; and it names the balise group of the train.
pub record SaysFor (plan : Plan) (stops : Stops) (limits : Limits) (train : TrainRec) (action : Action) (message : ToTrain) : Type 0 where
  pub said : List Said
  pub says : Says plan message said
  pub is_for : IsSaidFor stops limits train action said
  pub next_stamp : (codec.head_of message).stamp ≡ train.stamp + 1
  pub known_time : (codec.head_of message).stamp ≤ last_stamp
  pub by_its_kind : (codec.head_of message).ack ≡ asks_for_answer message
  pub by_its_group : (codec.head_of message).lrbg ≡ group_of train
  pub sendable : IsSendable message

-- What is said of a stop by the place alone, which is less: it leaves open what the place lies ahead of, and in which direction.
abbrev pub by_place : Said → Said
by_place (StopsBefore id spot) = StopsBefore id (record spot { origin = 0; way = Up })
by_place (StopsAtOnce id) = StopsAtOnce id
by_place (Restricts id stretch front speed) = Restricts id stretch front speed
by_place (RevokesStop id) = RevokesStop id
by_place (RevokesLimit id) = RevokesLimit id

-- A message says, by the place alone, what it has to say for an action, whatever balise group it names.
pub record SaysByPlace (plan : Plan) (stops : Stops) (limits : Limits) (train : TrainRec) (action : Action) (message : ToTrain) : Type 0 where
  pub said : List Said
  pub wanted : List Said
  pub says : Says plan message said
  pub is_for : IsSaidFor stops limits train action wanted
  pub same : map by_place said ≡ map by_place wanted

-- A message that says what it has to say does so by the place alone too.
abbrev pub SayingIsByPlace : Type 0
SayingIsByPlace =
    (plan : Plan) (stops : Stops) (limits : Limits) (train : TrainRec) (action : Action) (message : ToTrain)
    → SaysFor plan stops limits train action message → SaysByPlace plan stops limits train action message

-- one message for each action, in order, each with the stamp after that of the one before
abbrev pub AllSay : Plan → Stops → Limits → TrainRec → List Action → List ToTrain → Type 0
AllSay plan stops limits train [] [] = Unit
AllSay plan stops limits train (action ∷ actions) (sent ∷ more) =
    SaysFor plan stops limits train action sent × AllSay plan stops limits (after_sending 1 train) actions more
AllSay plan stops limits train [] (sent ∷ more) = ⊥
AllSay plan stops limits train (action ∷ actions) [] = ⊥

-- to each train one list of messages, one for each action that settling it carries out
abbrev pub AllSayTo : Plan → Stops → Limits → List (ℕ × TrainRec) → List (ℕ × List ToTrain) → Type 0
AllSayTo plan stops limits [] [] = Unit
AllSayTo plan stops limits (train ∷ trains) (sent ∷ more) =
    (sent.0 ≡ train.0) × (AllSay plan stops limits (as_told stops train.1) (actions_with_stamp plan stops limits train.1) sent.1 × AllSayTo plan stops limits trains more)
AllSayTo plan stops limits [] (sent ∷ more) = ⊥
AllSayTo plan stops limits (train ∷ trains) [] = ⊥

-- what is sent after an input: nothing if it is refused, else what settling says to each train
abbrev pub IsSaidAfter : Plan → Result World ℕ → List (ℕ × List ToTrain) → Type 0
IsSaidAfter plan (Err code) sent = sent ≡ []
IsSaidAfter plan (Ok changed) sent = AllSayTo plan changed.stops changed.limits changed.trains sent

-- this holds of each step, from any well-formed world
abbrev pub EachStepSays : Type 0
EachStepSays =
    (plan : Plan) (w : World) (input : Input) → IsPlan plan → Fits input → IsWellFormed plan w
    → IsSaidAfter plan (effect plan input w) (step plan w input).sent

-- a message says at most one list of things
abbrev pub EachMessageSaysOneThing : Type 0
EachMessageSaysOneThing = (plan : Plan) (message : ToTrain) (a b : List Said) → Says plan message a → Says plan message b → a ≡ b
