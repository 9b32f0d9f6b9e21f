-- The texts of faults (own rule).
use Rattle.std.specs.Prelude.{ℕ, List, ◌++◌, codes, Option, Some, option_map}
use Rattle.std.specs.Fmt.{decimal}
use Rattle.ertms_codec.specs.Grammar.{expected_text}
use Rattle.ertms_codec.specs.Texts.{◌then◌}
use Rattle.rbc_words.specs.declared.filter.FilterError.{FilterError}
use Rattle.rbc_words.specs.declared.filter.FilterError.TheVariants as filter
use Rattle.rbc_words.specs.declared.line_fault.LineWord.{LineWord}
use Rattle.rbc_words.specs.declared.line_fault.LineWord.TheVariants.{Text, Place, Way}
use Rattle.rbc_words.specs.declared.line_fault.LineFault.{LineFault}
use Rattle.rbc_words.specs.declared.line_fault.LineFault.TheVariants.{Word, NeedsTrack, NoLine, Beyond, NoGroup}

-- the text of what can stand as a word
abbrev pub line_word_text : LineWord → List ℕ
line_word_text (Text expected) = expected_text expected
line_word_text Place = codes "LINE:PLACE"
line_word_text Way = codes "'up' or 'down'"

-- the text of a fault behind the number of its line
abbrev pub line_fault_text : LineFault → List ℕ
line_fault_text (Word index expected) = codes ", word " then decimal index then codes ": " then line_word_text expected
line_fault_text NeedsTrack = codes ": a report needs --track"
line_fault_text (NoLine line) = codes ": no line " then decimal line then codes " in the track"
line_fault_text (Beyond line end) = codes ": line " then decimal line then codes " ends at " then decimal end
line_fault_text NoGroup = codes ": no balise group at or behind the place"

-- the text of why not all lines went through, by that of the fault of a line
abbrev pub filter_error_text : {F : Type 0} → (F → Option (List ℕ)) → FilterError F → Option (List ℕ)
filter_error_text output filter.Read = Some (codes "read fault")
filter_error_text output filter.Memory = Some (codes "out of memory")
filter_error_text output (filter.Write sent) = Some (codes "write fault after " ++ decimal sent ++ codes " bytes")
filter_error_text output (filter.Line number fault) = option_map (λ text. codes "line " ++ decimal number ++ text) (output fault)
