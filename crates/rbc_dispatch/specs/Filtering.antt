-- What `encode` and `decode` do with lines, and `encode` with a text.
use Rattle.std.specs.Prelude.{◌≡◌, ◌⊎◌, ◌==◌, ◌≤◌, ⊤, ℕ, List, ◌++◌, codes, take, length, Option, Some, None, option_map, Result, Ok, Err}
use denote.Ref.{Bor}
use Rattle.std.specs.List.{slice_split}
use Rattle.std.specs.Io.KnownBytes.{Appends}
use Rattle.hex.specs.Hex.{encode_upper}
use Rattle.ertms_codec.specs.Encoding.{Encodes as EncodesMessage}
use Rattle.ertms_codec.specs.Grammar.{FirstWrong, message}
use Rattle.rbc_track.specs.Plan.{Plan}
use Rattle.rbc_track.specs.Reading.{IsTrackOf}
use Rattle.rbc_words.specs.Decoding.{Decodes}
use Rattle.rbc_words.specs.Encoding.{Encodes, IsWrongLine}
use Rattle.rbc_words.specs.Filters.{Filters}
use Rattle.rbc_words.specs.declared.line_fault.LineFault.{LineFault}
use Rattle.rbc_dispatch.specs.Running.{IsNoTrack, IsErrUnread, IsUnread}
use Rattle.rbc_dispatch.specs.declared.fault.Fault.{Fault}
use Rattle.rbc_dispatch.specs.declared.fault.Fault.TheVariants.{Lines, OutOfMemory, ReaderGone, Text, Track, Write}

-- what comes of lines with the text of messages in place of their bytes
abbrev pub DecodesLines : {E : Type 0} → Option (List ℕ) → Option (List ℕ) → Option (List ℕ) → Option (List ℕ) → Result E Fault → Type 0
DecodesLines {E = E} read_old read_new old new (Ok done) = Filters {E = E} {F = LineFault} Decodes (λ _ _. ⊥) read_old read_new old new (Ok done)
DecodesLines {E = E} read_old read_new old new (Err (Lines error)) = Filters {E = E} Decodes (λ _ _. ⊥) read_old read_new old new (Err error)
DecodesLines read_old read_new old new (Err _) = ⊥

-- what comes of lines with the bytes of messages in place of their text, with a track or without
abbrev pub EncodesLinesBy : {E : Type 0} → Option Plan → Option (List ℕ) → Option (List ℕ) → Option (List ℕ) → Option (List ℕ) → Result E Fault → Type 0
EncodesLinesBy {E = E} track read_old read_new old new (Ok done) = Filters {E = E} (Encodes track) (IsWrongLine track) read_old read_new old new (Ok done)
EncodesLinesBy {E = E} track read_old read_new old new (Err (Lines error)) = Filters {E = E} (Encodes track) (IsWrongLine track) read_old read_new old new (Err error)
EncodesLinesBy track read_old read_new old new (Err _) = ⊥

-- the same on the track that a text is, where it is one
abbrev pub EncodesLinesOn : {E : Type 0} → List ℕ → Option (List ℕ) → Option (List ℕ) → Option (List ℕ) → Option (List ℕ) → Result E Fault → Type 0
EncodesLinesOn text read_old read_new old new (Err (Track error)) = IsNoTrack text error
EncodesLinesOn {E = E} text read_old read_new old new r = (plan : Plan) × IsTrackOf text plan × EncodesLinesBy {E = E} (Some plan) read_old read_new old new r

-- on the track in a file, or without one
abbrev pub EncodesLinesFrom : {E : Type 0} → Option (List ℕ) → Option (List ℕ) → Option (List ℕ) → Option (List ℕ) → Option (List ℕ) → Result E Fault → Type 0
EncodesLinesFrom {E = E} None read_old read_new old new r = EncodesLinesBy {E = E} None read_old read_new old new r
EncodesLinesFrom {E = E} (Some file) read_old read_new old new r = (text : List ℕ) × EncodesLinesOn {E = E} text read_old read_new old new r

-- the file may not be read, and memory may run out over the arguments, before anything is read
abbrev pub EncodesLines : {E : Type 0} → Option (List ℕ) → Option (List ℕ) → Option (List ℕ) → Option (List ℕ) → Option (List ℕ) → Result E Fault → Type 0
EncodesLines {E = E} file read_old read_new old new r = EncodesLinesFrom {E = E} file read_old read_new old new r ⊎ IsErrUnread r

-- the digits of the message with this text, as a line
pub record IsLineOf (text line : List ℕ) : Type 0 where
  pub bytes : List ℕ
  pub message : EncodesMessage text bytes
  pub is : line ≡ encode_upper bytes ++ codes "\n"

-- At Ok the line is out, and nothing else; at a write fault, or where the reader went away, exactly its first bytes. A text is refused by its first wrong word.
abbrev pub EncodesText : {E : Type 0} → List ℕ → Option (List ℕ) → Option (List ℕ) → Result E Fault → Type 0
EncodesText text old new (Ok done) = (line : List ℕ) × IsLineOf text line × Appends old new line
EncodesText text old new (Err (Write sent)) = (line : List ℕ) × IsLineOf text line × (sent ≤ length line) × Appends old new (take sent line)
EncodesText text old new (Err (ReaderGone sent)) = (line : List ℕ) × IsLineOf text line × (sent ≤ length line) × Appends old new (take sent line)
EncodesText text old new (Err (Text wrong)) = FirstWrong 1 message (slice_split (λ byte. byte == 32) text) wrong
EncodesText text old new (Err OutOfMemory) = ⊤
EncodesText text old new (Err _) = ⊥

-- memory may run out over the arguments
abbrev pub DecodesAllLines : {E : Type 0} → Option (List ℕ) → Option (List ℕ) → Option (List ℕ) → Option (List ℕ) → Result E Fault → Type 0
DecodesAllLines {E = E} read_old read_new old new r = DecodesLines {E = E} read_old read_new old new r ⊎ IsErrUnread r

-- the file of this name is not read, or its text is not a track
abbrev pub IsNoTrackGiven : Option (List ℕ) → Fault → Type 0
IsNoTrackGiven None fault = ⊥
IsNoTrackGiven (Some file) (Track error) = (text : List ℕ) × IsNoTrack text error
IsNoTrackGiven (Some file) fault = IsUnread fault

-- the track of the file of this name
abbrev pub IsTrackGiven : Option (List ℕ) → Option Plan → Type 0
IsTrackGiven None None = ⊤
IsTrackGiven None (Some plan) = ⊥
IsTrackGiven (Some file) None = ⊥
IsTrackGiven (Some file) (Some plan) = (text : List ℕ) × IsTrackOf text plan

-- With the name of a track file, its faults come first.
abbrev pub EncodesTextOn : {E : Type 0} → Option (List ℕ) → List ℕ → Option (List ℕ) → Option (List ℕ) → Result E Fault → Type 0
EncodesTextOn {E = E} file text old new (Ok done) = EncodesText {E = E} text old new (Ok done)
EncodesTextOn {E = E} file text old new (Err fault) = EncodesText {E = E} text old new (Err fault) ⊎ IsNoTrackGiven file fault

-- a name that may be given
abbrev pub name_given : Option (Bor (List ℕ)) → Option (List ℕ)
name_given file = option_map (λ name. name.now) file
