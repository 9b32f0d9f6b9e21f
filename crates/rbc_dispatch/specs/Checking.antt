-- What `check` answers on a track file.
use Rattle.std.specs.Prelude.{◌≡◌, ◌⊎◌, ⊤, ℕ, List, Result, Ok, Err}
use Rattle.rbc_track.specs.Plan.{Plan}
use Rattle.rbc_track.specs.Reading.{IsTrackOf, RefusesTrack}
use Rattle.rbc_dispatch.specs.Running.{IsErrUnread}
use Rattle.rbc_dispatch.specs.declared.fault.Fault.{Fault}
use Rattle.rbc_dispatch.specs.declared.fault.Fault.TheVariants.{Write, OutOfMemory, Track, TrackUnreadable, TrackWarnings}

-- the text is some track
abbrev pub IsSomeTrack : List ℕ → Type 0
IsSomeTrack text = (plan : Plan) × IsTrackOf text plan

-- A text is refused by a rule exactly if it is not a track because of that rule; it is good, with warnings or without, exactly if it is a track.
abbrev pub ChecksText : {E : Type 0} → List ℕ → Result E Fault → Type 0
ChecksText text (Ok done) = IsSomeTrack text
ChecksText text (Err (TrackWarnings count)) = IsSomeTrack text
ChecksText text (Err (Track error)) = RefusesTrack text error
ChecksText text (Err (Write sent)) = ⊤
ChecksText text (Err OutOfMemory) = ⊤
ChecksText text (Err _) = ⊥

-- what comes of the track in a file: the file holds some text, or it is not read
abbrev pub Checks : {E : Type 0} → Result E Fault → Type 0
Checks {E = E} r = ((text : List ℕ) × ChecksText {E = E} text r) ⊎ IsErrUnread r

-- until there is a report to write the output is unchanged
abbrev pub IsUnreported : {E W : Type 0} → Result E Fault → W → W → Type 0
IsUnreported (Err OutOfMemory) old new = new ≡ old
IsUnreported (Err TrackUnreadable) old new = new ≡ old
IsUnreported _ old new = ⊤
