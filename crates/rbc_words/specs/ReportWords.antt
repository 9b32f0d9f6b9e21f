-- What the words of a line `report` say (own rule).
use Rattle.std.specs.Prelude.{◌≤◌, ℕ, ◌+◌, nat_le, if◌then◌else◌, List, codes, Option, Some, None, option_map, Result, Ok, Err}
use Rattle.std.specs.List.{before_first, after_first}
use Rattle.std.specs.Option.{option_and_then}
use Rattle.std.specs.Str.{bytes_eq}
use Rattle.ertms_codec.specs.declared.wrong_word.Expected.TheVariants.{Number, End}
use Rattle.rbc_track.specs.declared.group.Way.{Way}
use Rattle.rbc_track.specs.declared.group.Way.TheVariants.{Up, Down}
use Rattle.rbc_text.specs.BatchText.{decimal_of, is_colon}
use Rattle.rbc_words.specs.declared.line_fault.LineWord.{LineWord}
use Rattle.rbc_words.specs.declared.line_fault.LineWord.TheVariants as ways
use Rattle.rbc_words.specs.declared.line_fault.LineFault.{LineFault}
use Rattle.rbc_words.specs.declared.line_fault.LineFault.TheVariants.{Word}
use Rattle.rbc_words.specs.declared.report.LinePlace.{LinePlace}
use Rattle.rbc_words.specs.declared.report.Report.{Report}
use denote.Ref.{Bor}

-- the word that a slice shows
abbrev pub word_shown : Option (Bor (List ℕ)) → Option (List ℕ)
word_shown None = None
word_shown (Some slice) = Some slice.now

-- the ? of the logic: the next step, if a value was found
infixl 10 ◌>>=◌
abbrev pub ◌>>=◌ : {A B : Type 0} → Result A LineFault → (A → Result B LineFault) → Result B LineFault
Ok x >>= next = next x
Err fault >>= next = Err fault

-- what was found, or else the word behind so many others is wrong
abbrev pub or_wrong : {A : Type 0} → ℕ → LineWord → Option A → Result A LineFault
or_wrong behind expected (Some value) = Ok value
or_wrong behind expected None = Err (Word (behind + 1) expected)

-- a decimal up to `most`
abbrev pub number_of : ℕ → Option (List ℕ) → Option ℕ
number_of most word = option_and_then (λ w. option_and_then (λ number. if nat_le number most then Some number else None) (decimal_of w)) word

-- `LINE:PLACE`, two decimals
abbrev pub place_of : Option (List ℕ) → Option LinePlace
place_of word =
    option_and_then (λ w. option_and_then (λ line. option_map (λ at. record { line = line; at = at }) (decimal_of (after_first is_colon w))) (decimal_of (before_first is_colon w))) word

-- `up` or `down`
abbrev pub way_of : Option (List ℕ) → Option Way
way_of word = option_and_then (λ w. if bytes_eq w (codes "up") then Some Up else (if bytes_eq w (codes "down") then Some Down else None)) word

abbrev pub number_at : ℕ → ℕ → Option (List ℕ) → Result ℕ LineFault
number_at most behind word = or_wrong behind (ways.Text (Number most)) (number_of most word)

abbrev pub place_at : ℕ → Option (List ℕ) → Result LinePlace LineFault
place_at behind word = or_wrong behind ways.Place (place_of word)

abbrev pub way_at : ℕ → Option (List ℕ) → Result Way LineFault
way_at behind word = or_wrong behind ways.Way (way_of word)

-- a doubt, 0 where it is left out
abbrev pub doubt_at : ℕ → Option (List ℕ) → Result ℕ LineFault
doubt_at behind None = Ok 0
doubt_at behind (Some w) = number_at 3000000 behind (Some w)

-- no word
abbrev pub end_at : ℕ → Option (List ℕ) → Result (Unit {0}) LineFault
end_at behind None = Ok tt
end_at behind (Some w) = Err (Word (behind + 1) (ways.Text End))

-- what the words of a line `report` say, each given by how many stand before it, or the first one that is wrong
abbrev pub report_of : (ℕ → Option (List ℕ)) → Result Report LineFault
report_of word_at = do
  engine ← number_at 16777215 1 (word_at 1)
  stamp ← number_at 4294967295 2 (word_at 2)
  front ← place_at 3 (word_at 3)
  facing ← way_at 4 (word_at 4)
  doubt ← doubt_at 5 (word_at 5)
  end ← end_at 6 (word_at 6)
  Ok (record { engine = engine; stamp = stamp; front = front; facing = facing; doubt = doubt })

-- the numbers of a report are in their ranges
pub record IsReport (report : Report) : Type 0 where
  pub engine : report.engine ≤ 16777215
  pub stamp : report.stamp ≤ 4294967295
  pub doubt : report.doubt ≤ 3000000
