-- What `live` does with lines.
use Rattle.std.specs.Prelude.{◌⊎◌, ℕ, List, Option, Result, Ok, Err}
use Rattle.rbc_live.specs.Answers.{Answers}
use Rattle.rbc_live.specs.declared.prompt.PromptError.{PromptError}
use Rattle.rbc_live.specs.declared.wanted.Wanted.{Wanted}
use Rattle.rbc_track.specs.Plan.{Plan}
use Rattle.rbc_track.specs.Reading.{IsTrackOf}
use Rattle.rbc_dispatch.specs.Running.{IsErrUnread, IsNoTrack}
use Rattle.rbc_dispatch.specs.declared.fault.Fault.{Fault}
use Rattle.rbc_dispatch.specs.declared.fault.Fault.TheVariants.{Live, Track}

-- what is wanted of the answers to the lines is out, on the track that the text is
abbrev pub AnswersOn : {E : Type 0} → List ℕ → Wanted → Option (List ℕ) → Option (List ℕ) → Option (List ℕ) → Option (List ℕ) → Result E PromptError → Type 0
AnswersOn {E = E} text wanted read_old read_new old new r = (plan : Plan) × IsTrackOf text plan × Answers {E = E} plan wanted read_old read_new old new r

-- What comes of lines, on the track in a text. The lines are not answered only if the text is not a track.
abbrev pub LivesOn : {E : Type 0} → List ℕ → Wanted → Option (List ℕ) → Option (List ℕ) → Option (List ℕ) → Option (List ℕ) → Result E Fault → Type 0
LivesOn {E = E} text wanted read_old read_new old new (Ok done) = AnswersOn {E = E} text wanted read_old read_new old new (Ok done)
LivesOn {E = E} text wanted read_old read_new old new (Err (Live error)) = AnswersOn {E = E} text wanted read_old read_new old new (Err error)
LivesOn text wanted read_old read_new old new (Err (Track error)) = IsNoTrack text error
LivesOn text wanted read_old read_new old new (Err _) = ⊥

-- what comes of lines, on the track in a file: the file holds some text, or it is not read
abbrev pub Lives : {E : Type 0} → Wanted → Option (List ℕ) → Option (List ℕ) → Option (List ℕ) → Option (List ℕ) → Result E Fault → Type 0
Lives {E = E} wanted read_old read_new old new r = ((text : List ℕ) × LivesOn {E = E} text wanted read_old read_new old new r) ⊎ IsErrUnread r
