-- The causes of faults, and the line that each fault prints.
use Rattle.std.specs.Prelude.{ℕ, Bool, true, false, List, ◌++◌, codes}
use Rattle.std.specs.Fmt.{decimal}
use Rattle.std.specs.declared.io.ErrorKind.{ErrorKind}
use Rattle.std.specs.declared.io.ErrorKind.TheVariants as reading
use Rattle.ertms_codec.specs.RefusalNames.{name_of}
use Rattle.ertms_codec.specs.declared.text.DescribeError.{DescribeError}
use Rattle.ertms_codec.specs.declared.text.DescribeError.TheVariants as describing
use Rattle.ertms_codec.specs.declared.wrong_word.EncodeError.{EncodeError}
use Rattle.ertms_codec.specs.declared.wrong_word.EncodeError.TheVariants as encoding
use Rattle.ertms_codec.specs.Grammar.{wrong_word_text}
use Rattle.hex.specs.declared.error.FromHexError.{FromHexError}
use Rattle.hex.specs.declared.error.FromHexError.TheVariants as hex
use Rattle.rbc_account.specs.declared.fault.TellError.{TellError}
use Rattle.rbc_account.specs.declared.fault.TellError.TheVariants as telling
use Rattle.rbc_picture.specs.declared.fault.DrawError.{DrawError}
use Rattle.rbc_picture.specs.declared.fault.DrawError.TheVariants as drawing
use Rattle.rbc_batch.specs.Process.{fault_text}
use Rattle.rbc_live.specs.Answers as prompt
use Rattle.rbc_track.specs.Plan.{name_of as name_of_track}
use Rattle.rbc_words.specs.FaultTexts.{line_fault_text}
use Rattle.rbc_words.specs.Units.{count_text}
use Rattle.rbc_words.specs.declared.filter.FilterError.TheVariants as filter
use Rattle.rbc_dispatch.specs.declared.fault.Fault.{Fault}
use Rattle.rbc_dispatch.specs.declared.fault.Fault.TheVariants.{Batch, Tell, Draw, Live, Lines, Text, BadHex, Decode, Write, ReaderGone, OutOfMemory, Track, TrackUnreadable, TrackWarnings}

-- the line of a fault, without its line feed: of a run that is not told
abbrev pub telling_text : TellError → List ℕ
telling_text (telling.Track error) = codes "track: " ++ name_of_track error
telling_text telling.Read = codes "read fault"
telling_text telling.Memory = codes "out of memory"
telling_text (telling.OnlyInputs count) = codes "only " ++ count_text count (codes "input")
telling_text (telling.Write sent) = codes "write fault after " ++ decimal sent ++ codes " bytes"
telling_text (telling.ReaderGone sent) = codes "reader gone after " ++ decimal sent ++ codes " bytes"

-- of a picture that is not drawn
abbrev pub drawing_text : DrawError → List ℕ
drawing_text (drawing.Tell error) = telling_text error
drawing_text (drawing.NoLine line) = codes "picture: no line " ++ decimal line
drawing_text (drawing.BeyondLine line) = codes "picture: the part is not on line " ++ decimal line
drawing_text (drawing.NoTrain engine) = codes "picture: no train " ++ decimal engine

-- and of any other
abbrev pub line_of : Fault → List ℕ
line_of (Batch error) = fault_text error
line_of (Tell error) = telling_text error
line_of (Draw error) = drawing_text error
line_of (Live error) = prompt.fault_text error
line_of (Lines (filter.Line number fault)) = codes "encode: line " ++ decimal number ++ line_fault_text fault
line_of (Lines filter.Read) = codes "read fault"
line_of (Lines filter.Memory) = codes "out of memory"
line_of (Lines (filter.Write sent)) = codes "write fault after " ++ decimal sent ++ codes " bytes"
line_of (Text wrong) = codes "encode: " ++ wrong_word_text wrong
line_of BadHex = codes "bad hex"
line_of (Decode error) = codes "decode: " ++ name_of error
line_of (Write sent) = codes "write fault after " ++ decimal sent ++ codes " bytes"
line_of (ReaderGone sent) = codes "reader gone after " ++ decimal sent ++ codes " bytes"
line_of OutOfMemory = codes "out of memory"
line_of (Track error) = codes "track: " ++ name_of_track error
line_of TrackUnreadable = codes "track: unreadable"
line_of (TrackWarnings count) = codes "track: " ++ count_text count (codes "warning")

-- the fault by what the hexadecimal decoder answers
abbrev pub fault_of_hex : FromHexError → Fault
fault_of_hex hex.OutOfMemory = OutOfMemory
fault_of_hex _ = BadHex

-- the fault by why a text is not encoded
abbrev pub fault_of_encoding : EncodeError → Fault
fault_of_encoding (encoding.Word wrong) = Text wrong
fault_of_encoding encoding.OutOfMemory = OutOfMemory

-- the fault by what the codec answers
abbrev pub fault_of_describing : DescribeError → Fault
fault_of_describing (describing.Decode error) = Decode error
fault_of_describing describing.OutOfMemory = OutOfMemory

-- the fault where a text for people is cut short, because its reader went away or not, after its first bytes
abbrev pub fault_of_writing : Bool → ℕ → Fault
fault_of_writing true sent = ReaderGone sent
fault_of_writing false sent = Write sent

-- the fault by what reading the track file answers
abbrev pub fault_of_reading : ErrorKind → Fault
fault_of_reading reading.OutOfMemory = OutOfMemory
fault_of_reading _ = TrackUnreadable
