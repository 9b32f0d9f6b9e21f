-- The sentences of the log on messages, and on all inputs (own rule). Places are in units of 10 cm.
use Rattle.std.specs.Prelude.{ℕ, List, ◌++◌, if◌then◌else◌, codes}
use Rattle.std.specs.Fmt.{decimal}
use Rattle.rbc_words.specs.Units.{km_text, count_text}
use Rattle.rbc_account.specs.declared.account.Sums.{Sums}
use Rattle.rbc_account.specs.Sums.{input_count}
use Rattle.rbc_explain.specs.declared.said.Spot.{Spot}
use Rattle.rbc_explain.specs.declared.said.Spoken.{Spoken}
use Rattle.rbc_explain.specs.declared.said.Spoken.TheVariants.{StopAtOnce, StopBefore, StopRevoked, IdentifierRevoked, Restriction, RestrictionRevoked}

-- a place in km, with a minus sign before the beginning of the line
abbrev pub spot_text : Spot → List ℕ
spot_text spot = if spot.is_before then codes "-" ++ km_text spot.units else km_text spot.units

-- what is said
abbrev pub spoken_text : Spoken → List ℕ
spoken_text StopAtOnce = codes "stop at once."
spoken_text (StopBefore line place) = codes "stop before km " ++ (km_text place ++ (codes " of line " ++ (decimal line ++ codes ".")))
spoken_text StopRevoked = codes "the stop is revoked."
spoken_text (IdentifierRevoked id) = codes "identifier " ++ (decimal id ++ codes " is revoked.")
spoken_text (Restriction line from to speed) =
    decimal speed ++ (codes " km/h, km " ++ (spot_text from ++ (codes " to km " ++ (spot_text to ++ (codes " of line " ++ (decimal line ++ codes "."))))))
spoken_text RestrictionRevoked = codes "the restriction is revoked."

-- the sentence on a message to a train on a stop
abbrev pub stop_sentence : ℕ → ℕ → Spoken → List ℕ
stop_sentence engine number said =
    codes "  To train " ++ (decimal engine ++ (codes ", for stop " ++ (decimal number ++ (codes ": " ++ (spoken_text said ++ codes "\n")))))

-- the sentence on a message to a train on one restriction
abbrev pub restriction_sentence : ℕ → ℕ → Spoken → List ℕ
restriction_sentence engine number said =
    codes "  To train " ++ (decimal engine ++ (codes ", for restriction " ++ (decimal number ++ (codes ": " ++ (spoken_text said ++ codes "\n")))))

-- the sentence on one of several packets
abbrev pub packet_sentence : ℕ → Spoken → List ℕ
packet_sentence number said = codes "  For restriction " ++ (decimal number ++ (codes ": " ++ (spoken_text said ++ codes "\n")))

-- the first line of the end of a log: how many inputs there were, and what came of them
abbrev pub sums_text : Sums → List ℕ
sums_text sums =
    codes "AT THE END, after " ++ (count_text (input_count sums) (codes "input") ++ (codes ": " ++ (decimal sums.accepted
    ++ (codes " accepted, " ++ (decimal sums.refused ++ (codes " refused, " ++ (count_text sums.messages (codes "message") ++ codes " sent.\n")))))))
