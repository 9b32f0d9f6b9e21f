-- The lines of what was read, and the text of the answers to them (own rule).
use Rattle.std.specs.Prelude.{◌≡◌, ℕ, ◌+◌, nat_le, if◌then◌else◌, List, [], ◌∷◌, ◌++◌, map}
use Rattle.rbc_track.specs.Plan.{Plan, IsPlan}
use Rattle.rbc_records.specs.declared.record.Key.{Key}
use Rattle.rbc_records.specs.declared.record.Rec.{Rec}
use Rattle.rbc_rule.specs.declared.input.Input.{Input}
use Rattle.rbc_text.specs.Serial.{Desk, step, new_desk}
use Rattle.rbc_text.specs.OutputText.{answer_of}
use Rattle.rbc_text.specs.SaidMails.{AreSaidMails}
use Rattle.rbc_live.specs.declared.wanted.Wanted.{Wanted}
use Rattle.rbc_live.specs.Alarms.{alarms_shown}
use Rattle.rbc_live.specs.History.{Taken, posted, IsSerialOf}

-- the answer to a line of this number, if answers are written from that number on
abbrev pub shown : ℕ → ℕ → Taken → List ℕ
shown from number taken = if nat_le from number then answer_of number taken.reply taken.messages else []

-- what is written for a line of this number, whose input a desk takes: the answer, and then the alarms that change
abbrev pub written_of : Plan → Wanted → ℕ → Desk → Input → Taken → List ℕ
written_of plan wanted number desk input taken = shown wanted.from number taken ++ alarms_shown plan wanted number desk.world (step plan desk input).world

-- what is written for lines, the first of which has this number, and whose inputs a desk takes one after another
abbrev pub answers_from : Plan → Wanted → ℕ → Desk → List Input → List Taken → List ℕ
answers_from plan wanted number desk (input ∷ inputs) (taken ∷ more) = written_of plan wanted number desk input taken ++ answers_from plan wanted (number + 1) (step plan desk input) inputs more
answers_from plan wanted number desk [] taken = []
answers_from plan wanted number desk (input ∷ inputs) [] = []

-- The text is what is wanted for these lines, the first of which has number 1: the answers, the messages and the alarms
-- are those of the serial run of the lines, from a new desk.
pub record AreAnswers (plan : Plan) (wanted : Wanted) (lines : List (List ℕ)) (text : List ℕ) : Type 0 where
  pub taken : List Taken
  pub records : List (Key × Rec)
  pub inputs : List Input
  pub fed : map (λ one. one.line) taken ≡ lines
  pub serial : IsSerialOf plan inputs taken records
  pub spelled : text ≡ answers_from plan wanted 1 new_desk inputs taken

-- the text is that of the first of these lines, of some or all
pub record AreFirstAnswers (plan : Plan) (wanted : Wanted) (lines : List (List ℕ)) (text : List ℕ) : Type 0 where
  pub answered : List (List ℕ)
  pub more : List (List ℕ)
  pub parts : lines ≡ answered ++ more
  pub answers : AreAnswers plan wanted answered text

-- Whatever lines are answered, on any track, the messages in the text of the answers say what the rules give: `posted` has them by engine,
-- under the numbers of their lines, and to each engine they are those that the rules give its train. Each spells a message that reads back
-- as itself; none is lost, duplicated or out of order.
abbrev pub EachAnswerSays : Type 0
EachAnswerSays =
    (plan : Plan) (wanted : Wanted) (lines : List (List ℕ)) (text : List ℕ) (answers : AreAnswers plan wanted lines text)
    → IsPlan plan → AreSaidMails plan new_desk answers.inputs [] (posted 1 [] answers.taken)
