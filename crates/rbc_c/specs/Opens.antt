-- What opening a handle does (own rule).
use Rattle.std.specs.Prelude.{◌≡◌, ℕ, ◌<◌, ◌⊎◌, List, [], Option, Some, None}
use Rattle.std.specs.Str.{IsUtf8}
use Rattle.rbc_track.specs.declared.error.TrackError.{TrackError}
use Rattle.rbc_track.specs.declared.error.TrackError.TheVariants as error
use Rattle.rbc_track.specs.Reading.{IsTrackOf, RefusesTrack}
use Rattle.rbc_live.specs.declared.desk.LiveDesk.{LiveDesk}

-- the code of a track that is refused
abbrev pub code_of : TrackError → ℕ
code_of error.OutOfMemory = 1
code_of error.Text = 10
code_of error.Shape = 11
code_of error.TooManyLines = 12
code_of error.TooManyGroups = 13
code_of error.BadLength = 14
code_of error.GroupOffLine = 15
code_of error.GroupTwice = 16

-- a desk on the track of a text, with no records
abbrev pub IsNew : List ℕ → LiveDesk → Type 0
IsNew text desk = IsTrackOf text desk.track × (desk.records ≡ [])

-- the code says why no desk was opened: memory was refused, the text is not UTF-8, or it is not a track
abbrev pub IsWhyNot : List ℕ → ℕ → Type 0
IsWhyNot text code = (0 < code) × ((code ≡ 1) ⊎ (((code ≡ 5) × ¬ (IsUtf8 text)) ⊎ ((e : TrackError) × RefusesTrack text e × (code ≡ code_of e))))

-- from the desk of a handle to its desk after the call: if there is a desk already, it stays, and the code is 2
abbrev pub Opens : Option LiveDesk → List ℕ → ℕ → Option LiveDesk → Type 0
Opens (Some desk) text code after = (code ≡ 2) × (after ≡ Some desk)
Opens None text code (Some desk) = (code ≡ 0) × IsNew text desk
Opens None text code None = IsWhyNot text code
