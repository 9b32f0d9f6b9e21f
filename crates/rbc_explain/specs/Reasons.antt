-- Why a message was sent, in words (own rule). Places and lengths are in units of 10 cm.
use Rattle.std.specs.Prelude.{ℕ, Bool, List, [], ◌++◌, ◌==◌, ◌&&◌, if◌then◌else◌, Option, Some, None, codes}
use Rattle.std.specs.Fmt.{decimal}
use Rattle.std.specs.Int.{abs_diff}
use Rattle.ertms_codec.specs.declared.packets.Part.{Part}
use Rattle.ertms_codec.specs.declared.packets.Part.TheVariants as part
use Rattle.ertms_codec.specs.declared.to_train.Head.{Head}
use Rattle.ertms_codec.specs.declared.to_train.ToTrain.{ToTrain}
use Rattle.ertms_codec.specs.declared.to_train.ToTrain.TheVariants as to_train
use Rattle.rbc_track.specs.declared.group.Way.{Way}
use Rattle.rbc_track.specs.declared.group.Way.TheVariants as way
use Rattle.rbc_place.specs.Placing.{Place}
use Rattle.rbc_zones.specs.Concerns.{is_behind_group}
use Rattle.rbc_zones.specs.declared.limit.Dirs.{Dirs}
use Rattle.rbc_zones.specs.declared.limit.Dirs.TheVariants as ways
use Rattle.rbc_zones.specs.declared.segment.Segment.{Segment}
use Rattle.rbc_words.specs.Units.{km_text, metres_text}
use Rattle.rbc_account.specs.declared.told.WhyAtOnce.{WhyAtOnce}
use Rattle.rbc_account.specs.declared.told.WhyAtOnce.TheVariants as at_once
use Rattle.rbc_explain.specs.declared.packet_reason.PartTold.{PartTold}
use Rattle.rbc_explain.specs.declared.packet_reason.PartTold.TheVariants.{Exact, Rounded, Beyond}
use Rattle.rbc_account.specs.declared.told.ToldRestriction.{ToldRestriction}
use Rattle.rbc_account.specs.declared.told.RestrictionTold.{RestrictionTold}
use Rattle.rbc_account.specs.declared.told.RestrictionTold.TheVariants as told
use Rattle.rbc_account.specs.declared.told.WhyTold.{WhyTold}
use Rattle.rbc_account.specs.declared.told.WhyTold.TheVariants as why_told
use Rattle.rbc_account.specs.declared.told.WhyRevoked.{WhyRevoked}
use Rattle.rbc_account.specs.declared.told.WhyRevoked.TheVariants as why_revoked

-- ---- figures

-- the words for a way, and for the ways of the trains that a restriction is for
abbrev pub way_word : Way → List ℕ
way_word way.Up = codes "up"
way_word way.Down = codes "down"

abbrev pub ways_words : Dirs → List ℕ
ways_words ways.Up = codes "up"
ways_words ways.Down = codes "down"
ways_words ways.Both = codes "up or down"

-- a stretch of a line
abbrev pub stretch_text : Segment → List ℕ
stretch_text segment = codes "km " ++ (km_text segment.from ++ (codes " to km " ++ km_text segment.to))

-- where a train may be
abbrev pub place_text : Place → List ℕ
place_text place =
    codes "km " ++ (km_text place.lo ++ (codes " to km " ++ (km_text place.hi ++ (codes " of line " ++ (decimal place.line ++ (codes ", facing " ++ way_word place.facing))))))

-- the balise group of a place
abbrev pub group_text : Place → List ℕ
group_text place = codes "balise group " ++ (decimal place.lrbg ++ (codes " at km " ++ km_text place.at))

-- ---- messages on a stop

-- which message it is, its identifier, its stamp and what answers it
abbrev pub kind_text : ToTrain → List ℕ
kind_text (to_train.StopAt head id scale reference dir distance) =
    codes "    Message 15, conditional emergency stop, identifier " ++ (decimal id ++ (codes ", stamp " ++ (decimal head.stamp ++ codes "; answer: message 147.\n")))
kind_text (to_train.Stop head id) =
    codes "    Message 16, unconditional emergency stop, identifier " ++ (decimal id ++ (codes ", stamp " ++ (decimal head.stamp ++ codes "; answer: message 147.\n")))
kind_text (to_train.Revoke head id) =
    codes "    Message 18, revocation of emergency stop, identifier " ++ (decimal id ++ (codes ", stamp " ++ (decimal head.stamp ++ codes "; answer: message 146.\n")))
kind_text (to_train.General head packets) = []

-- where the train may be, as the first part of a reason
abbrev pub why_there : Option Place → List ℕ
why_there (Some place) = codes "    Why: it may be at " ++ (place_text place ++ codes ";\n    ")
why_there None = []

-- how far the place told is short of the edge, if it is
abbrev pub short_text : ℕ → ℕ → ℕ → List ℕ
short_text before edge unit =
    if before == edge then []
    else codes "    The place told is " ++ (metres_text (abs_diff before edge) ++ (codes " m short of the edge: the message counts in steps of " ++ (metres_text unit ++ codes " m.\n")))

-- why a train is to stop before a place
abbrev pub before_text : ToTrain → Option Place → ℕ → ℕ → ℕ → List ℕ
before_text message place before edge unit =
    kind_text message ++ (why_there place ++ (codes "km " ++ (km_text edge ++ (codes " is the nearest edge ahead of it.\n" ++ short_text before edge unit))))

-- that a train left a stop unanswered
abbrev pub unanswered_text : ℕ → ℕ → List ℕ
unanswered_text number id =
    codes "    Why: it reported three times without answering stop " ++ (decimal number ++ (codes " under identifier " ++ (decimal id ++ codes " (message 15)")))

-- that the nearest edge is behind the balise group of a place
abbrev pub behind_text : Option Place → ℕ → List ℕ
behind_text (Some place) edge = codes "the nearest edge ahead, km " ++ (km_text edge ++ (codes ", is behind " ++ (group_text place ++ codes ".\n")))
behind_text None edge = []

-- why a train is to stop at once
abbrev pub why_at_once : Option Place → ℕ → WhyAtOnce → List ℕ
why_at_once place number (at_once.Unanswered id) = unanswered_text number id ++ codes ".\n"
why_at_once place number at_once.NoPlace = codes "    Why: it has no place, so nobody knows that it is not there.\n"
why_at_once place number at_once.Rejected = codes "    Why: it rejected this stop before.\n"
why_at_once place number (at_once.Overlaps segment) = why_there place ++ (codes "this overlaps " ++ (stretch_text segment ++ codes ".\n"))
why_at_once place number (at_once.BehindGroup edge) = why_there place ++ behind_text place edge

abbrev pub at_once_text : ToTrain → Option Place → ℕ → WhyAtOnce → List ℕ
at_once_text message place number why = kind_text message ++ why_at_once place number why

-- the identifier that a message revokes because its train left the stop unanswered
abbrev pub left_under : ToTrain → Bool → Option ℕ
left_under (to_train.Revoke head id) unanswered = if unanswered then Some id else None
left_under (to_train.StopAt head id scale reference dir distance) unanswered = None
left_under (to_train.Stop head id) unanswered = None
left_under (to_train.General head packets) unanswered = None

-- why a stop is revoked: it is released, or the train left it unanswered under this identifier
abbrev pub why_stop_revoked : ℕ → Option ℕ → List ℕ
why_stop_revoked number (Some id) = unanswered_text number id ++ codes ";\n    the stop is told again under another identifier, to stop at once.\n"
why_stop_revoked number None = codes "    Why: stop " ++ (decimal number ++ codes " is released.\n")

abbrev pub revoked_text : ToTrain → ℕ → Option ℕ → List ℕ
revoked_text message number left = kind_text message ++ why_stop_revoked number left

-- ---- packets on restrictions

-- NID_PACKET and NID_TSR
abbrev pub number_of_packet : Part → ℕ
number_of_packet (part.Restrict dir scale id start length front speed) = 65
number_of_packet (part.Lift dir id) = 66

abbrev pub id_of_packet : Part → ℕ
id_of_packet (part.Restrict dir scale id start length front speed) = id
id_of_packet (part.Lift dir id) = id

-- the ends of a stretch that a train meets first and last
abbrev pub met_first : Way → Segment → ℕ
met_first way.Up segment = segment.from
met_first way.Down segment = segment.to

abbrev pub met_last : Way → Segment → ℕ
met_last way.Up segment = segment.to
met_last way.Down segment = segment.from

-- a stretch begins behind the balise group of a place
abbrev pub begins_behind : Place → Segment → Bool
begins_behind place segment = is_behind_group place.facing place.at (met_first place.facing segment)

-- a stretch that does not begin behind the balise group of a place begins and ends so far ahead of it
abbrev pub is_all : Place → Segment → ℕ → ℕ → Bool
is_all place segment begin end = begin == abs_diff place.at (met_first place.facing segment) && end == abs_diff place.at (met_last place.facing segment)

-- which part of a stretch is told to a train at a place, if what is told lies so far ahead of its balise group
abbrev pub part_told : Option Place → Segment → ℕ → ℕ → PartTold
part_told None segment begin end = Exact
part_told (Some place) segment begin end = if begins_behind place segment then Beyond else if is_all place segment begin end then Exact else Rounded

-- how the stretch that is told differs from that of the restriction, if it does
abbrev pub difference_text : PartTold → Segment → ℕ → List ℕ
difference_text Beyond segment unit =
    codes "    Only the part of " ++ (stretch_text segment ++ (codes " beyond the balise group is told, in steps of " ++ (metres_text unit ++ codes " m.\n")))
difference_text Rounded segment unit = codes "    All of " ++ (stretch_text segment ++ (codes " is told, in steps of " ++ (metres_text unit ++ codes " m.\n")))
difference_text Exact segment unit = []

-- why a restriction is told
abbrev pub told_text : WhyTold → List ℕ
told_text why_told.Overlaps = codes "the restriction overlaps its place.\n"
told_text (why_told.Ahead distance) = codes "the restriction begins " ++ (metres_text distance ++ codes " m ahead of it, within the horizon.\n")

-- why a restriction is revoked
abbrev pub lifted_text : ℕ → WhyRevoked → List ℕ
lifted_text number why_revoked.Lifted = codes "restriction " ++ (decimal number ++ codes " is lifted.\n")
lifted_text number (why_revoked.OtherLine train restriction) =
    codes "the train is on line " ++ (decimal train ++ (codes ", and the restriction on line " ++ (decimal restriction ++ codes ".\n")))
lifted_text number (why_revoked.OtherWay facing dirs) =
    codes "the train faces " ++ (way_word facing ++ (codes ", and the restriction is for trains facing " ++ (ways_words dirs ++ codes ".\n")))
lifted_text number why_revoked.Passed = codes "the train has passed it.\n"

-- Why a packet was sent, and how what it tells differs from the restriction of this number. No block has an `Unknown` packet.
abbrev pub why_packet : Option Place → ℕ → RestrictionTold → List ℕ
why_packet place number (told.Told segment begin end unit why) = told_text why ++ difference_text (part_told place segment begin end) segment unit
why_packet place number (told.Revoked why) = lifted_text number why
why_packet place number told.Unknown = codes "\n"

-- one of several packets
abbrev pub packet_text : Part → Option Place → ToldRestriction → List ℕ
packet_text packet place one =
    codes "    Packet " ++ (decimal (number_of_packet packet) ++ (codes ", identifier " ++ (decimal (id_of_packet packet) ++ (codes ".\n    Why: " ++ why_packet place one.number one.what))))

-- where the train may be, as the first part of the reason why it is told a restriction
abbrev pub there_text : Option Place → RestrictionTold → List ℕ
there_text (Some place) (told.Told segment begin end unit why) = codes "it may be at " ++ (place_text place ++ codes ";\n    ")
there_text _ _ = []

-- the packet of a message with one packet
abbrev pub single_text : Head → Part → Option Place → ToldRestriction → List ℕ
single_text head packet place one =
    codes "    Message 24 with packet " ++ (decimal (number_of_packet packet) ++ (codes ", identifier " ++ (decimal (id_of_packet packet) ++ (codes ", stamp " ++ (decimal head.stamp
    ++ (codes "; answer: message 146.\n    Why: " ++ (there_text place one.what ++ why_packet place one.number one.what)))))))

-- where a train may be, as a sentence
abbrev pub place_sentence : Option Place → List ℕ
place_sentence (Some place) = codes "    The train may be at " ++ (place_text place ++ codes ".\n")
place_sentence None = []

-- that a message has several packets
abbrev pub several_text : ℕ → Head → ℕ → Option Place → List ℕ
several_text engine head count place =
    codes "  To train " ++ (decimal engine ++ (codes ", for " ++ (decimal count ++ (codes " restrictions, in one message:\n    Message 24 with " ++ (decimal count
    ++ (codes " packets, stamp " ++ (decimal head.stamp ++ (codes "; answer: message 146.\n" ++ place_sentence place))))))))
