-- What the records after an input have for each message: its stop or its restrictions, with what they mean for the train.
use Rattle.std.specs.Prelude.{◌≡◌, ℕ, Bool, true, false, List, Option, Some, None}
use Rattle.std.specs.List.{list_any, AllByRecursion}
use Rattle.std.specs.Option.{option_map_or}
use Rattle.ertms_codec.specs.declared.packets.Part.{Part as Packet}
use Rattle.ertms_codec.specs.declared.packets.Part.TheVariants as packet
use Rattle.ertms_codec.specs.declared.to_train.ToTrain.{ToTrain}
use Rattle.ertms_codec.specs.declared.to_train.ToTrain.TheVariants as message
use Rattle.rbc_place.specs.Placing.{Place}
use Rattle.rbc_maps.specs.Maps.{value_of}
use Rattle.rbc_zones.specs.declared.segment.Segment.{Segment}
use Rattle.rbc_zones.specs.declared.stop_meaning.Concern.{Concern}
use Rattle.rbc_zones.specs.declared.stop_meaning.Concern.TheVariants as concern
use Rattle.rbc_zones.specs.Concerns.{concern_of}
use Rattle.rbc_zones.specs.Limits.{Limit, is_clear}
use Rattle.rbc_settle.specs.declared.train.TrainRec.{TrainRec}
use Rattle.rbc_settle.specs.declared.sent.Sent.{Sent}
use Rattle.rbc_settle.specs.Numbers.{has_number}
use Rattle.rbc_settle.specs.Settling.{is_clear_of}
use Rattle.rbc_records.specs.declared.record.Key.{Key}
use Rattle.rbc_records.specs.declared.record.Rec.{Rec}
use Rattle.rbc_rule.specs.declared.input.Input.{Input}
use Rattle.rbc_account.specs.declared.told.Told.{Told}
use Rattle.rbc_account.specs.declared.told.ToldWhat.{ToldWhat}
use Rattle.rbc_account.specs.declared.told.ToldWhat.TheVariants as what
use Rattle.rbc_account.specs.declared.told.ToldRestriction.{ToldRestriction}
use Rattle.rbc_account.specs.declared.told.RestrictionTold.{RestrictionTold}
use Rattle.rbc_account.specs.declared.told.RestrictionTold.TheVariants as told
use Rattle.rbc_account.specs.declared.reason.StopReason.{StopReason}
use Rattle.rbc_account.specs.Reasons.{concern_by}
use Rattle.rbc_live.specs.Known.{train_in, active_stops, active_limits, number_under}
use Rattle.rbc_account.specs.Subjects.{revoked_stop, revoked_limit}

-- A stop is told under an identifier of a train, is active, and means this to the train.
abbrev pub HasStop : List (ℕ × List Segment) → TrainRec → ℕ → (Concern → Type 0) → Type 0
HasStop active train id Means =
    (number : ℕ) × (number_under train.stops id ≡ Some number)
    × ((area : List Segment) × (value_of active number ≡ Some area) × Means (concern_of area (has_number train.forced number) train.place))

abbrev pub MeansNow : Concern → Type 0
MeansNow c = c ≡ concern.Now

abbrev pub MeansBefore : Concern → Type 0
MeansBefore c = (edge : ℕ) × (c ≡ concern.Before edge)

-- A restriction is told under an identifier of a train, is active, and is not clear of the train, which has a place.
abbrev pub IsNotClear : Option Place → Limit → Type 0
IsNotClear place limit = (p : Place) × (place ≡ Some p) × (is_clear limit p ≡ false)

abbrev pub HasLimit : List (ℕ × Limit) → TrainRec → ℕ → Type 0
HasLimit active train id =
    (number : ℕ) × (number_under train.limits id ≡ Some number) × ((limit : Limit) × (value_of active number ≡ Some limit) × IsNotClear train.place limit)

-- the same for a packet, if this holds of what is revoked
abbrev pub PacketHasSubject : List (ℕ × Limit) → TrainRec → (ℕ → Type 0) → Packet → Type 0
PacketHasSubject active train Revoked (packet.Restrict dir scale id start length front speed) = HasLimit active train id
PacketHasSubject active train Revoked (packet.Lift dir id) = Revoked id

-- the same for a message
abbrev pub HasSubject : List (ℕ × List Segment) → List (ℕ × Limit) → TrainRec → (ℕ → Type 0) → (ℕ → Type 0) → ToTrain → Type 0
HasSubject stops limits train Revoked Lifted (message.StopAt head id scale reference dir distance) = HasStop stops train id MeansBefore
HasSubject stops limits train Revoked Lifted (message.Stop head id) = HasStop stops train id MeansNow
HasSubject stops limits train Revoked Lifted (message.Revoke head id) = Revoked id
HasSubject stops limits train Revoked Lifted (message.General head packets) = AllByRecursion (PacketHasSubject limits train Lifted) packets

-- a stop is revoked under an identifier by an input, which this train sent, if a train did
abbrev pub IsRevokedBy : Input → Option TrainRec → ℕ → Type 0
IsRevokedBy input before id = (number : ℕ) × (revoked_stop input before id ≡ Some number)

-- and a restriction, which is not active or is clear of the train
abbrev pub IsLiftedBy : Input → Option TrainRec → List (ℕ × Limit) → Option Place → ℕ → Type 0
IsLiftedBy input before active place id =
    (number : ℕ) × (revoked_limit input before id ≡ Some number) × (option_map_or (is_clear_of place) (value_of active number) true ≡ true)

-- The train of a message is enrolled, and the stop or the restrictions of the message are found.
abbrev pub IsFound : List (Key × Rec) → Input → Option TrainRec → ℕ → ToTrain → Type 0
IsFound records input before engine m =
    (train : TrainRec) × (train_in records engine ≡ Some train)
    × HasSubject (active_stops records) (active_limits records) train (IsRevokedBy input before) (IsLiftedBy input before (active_limits records) train.place) m

-- A stop has a reason that gives it this meaning for a train.
abbrev pub IsOfConcern : Concern → Option StopReason → Type 0
IsOfConcern c None = ⊥
IsOfConcern c (Some reason) = concern_by reason ≡ c

-- no record accounts for what a packet or a message tells
abbrev pub is_unknown_packet : RestrictionTold → Bool
is_unknown_packet (told.Told segment begin end unit why) = false
is_unknown_packet (told.Revoked why) = false
is_unknown_packet told.Unknown = true

abbrev pub is_unknown : ToldWhat → Bool
is_unknown (what.StopBefore number before edge unit) = false
is_unknown (what.StopAtOnce number why) = false
is_unknown (what.StopRevoked number unanswered) = false
is_unknown (what.Restrictions all) = list_any (λ one. is_unknown_packet one.what) all.items
is_unknown what.Unknown = true

-- what a packet tells is accounted for if its restriction is found
abbrev pub IsKnownPacket : List (Key × Rec) → Input → Option TrainRec → TrainRec → Packet → ToldRestriction → Type 0
IsKnownPacket records input before train part one =
    PacketHasSubject (active_limits records) train (IsLiftedBy input before (active_limits records) train.place) part → is_unknown_packet one.what ≡ false

-- what a message tells is accounted for if its subject is found
abbrev pub IsKnown : List (Key × Rec) → Input → Option TrainRec → Sent → Told → Type 0
IsKnown records input before sent one = IsFound records input before sent.engine sent.message → is_unknown one.what ≡ false

-- whether no record accounts for what some message tells
abbrev pub has_unknown : List Told → Bool
has_unknown told = list_any (λ one. is_unknown one.what) told
