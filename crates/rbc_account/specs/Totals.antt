-- The totals of the state, over all enrolled trains (own rule).
use Rattle.std.specs.Prelude.{ℕ, ◌+◌, Bool, true, false, not, nat_lt, List, [], ◌∷◌, length}
use Rattle.std.specs.List.{filter, filter_map}
use Rattle.rbc_settle.specs.declared.train.TrainRec.{TrainRec}
use Rattle.rbc_records.specs.declared.record.Key.{Key}
use Rattle.rbc_records.specs.declared.record.Rec.{Rec}
use Rattle.rbc_live.specs.declared.waiting.Waiting.{Waiting}
use Rattle.rbc_live.specs.declared.waiting.Waits.{Waits}
use Rattle.rbc_live.specs.declared.waiting.Waits.TheVariants.{Stop, Restriction, Again}
use Rattle.rbc_account.specs.declared.state.TrainStanding.{TrainStanding}
use Rattle.rbc_live.specs.Known.{train_in, engines_in, active_stops, active_limits}
use Rattle.rbc_account.specs.Owed.{messages_owed, is_owing}
use Rattle.rbc_account.specs.Sums.{added}
use Rattle.rbc_live.specs.Waits.{stop_waits, limit_waits, is_due}

-- the sum of a count over a list; like each sum, it stays at 2 ^ 64 - 1 once it is there
abbrev pub total : {A : Type 0} → (A → ℕ) → List A → ℕ
total count [] = 0
total count (one ∷ more) = added (count one) (total count more)

-- the enrolled trains, engines ascending
abbrev pub enrolled_trains : List (Key × Rec) → List TrainRec
enrolled_trains records = filter_map (train_in records) (engines_in records)

-- how many active stops and restrictions concern a train and are not told to it
abbrev pub untold_at : ℕ → List (Key × Rec) → TrainRec → ℕ
untold_at horizon records train = length (filter (stop_waits train) (active_stops records)) + length (filter (limit_waits horizon train) (active_limits records))

-- how many active stops are told to a train, were left unanswered in three reports, and are not told again
abbrev pub again_at : List (Key × Rec) → TrainRec → ℕ
again_at records train = length (filter (λ stop. is_due train stop.0) (active_stops records))

-- the messages that wait for an answer or an acknowledgement, and the trains that owe one
abbrev pub owed_total : List (Key × Rec) → ℕ
owed_total records = total messages_owed (enrolled_trains records)

abbrev pub owing_total : List (Key × Rec) → ℕ
owing_total records = length (filter is_owing (enrolled_trains records))

-- the stops and restrictions that are not told to a train that they concern, and the stops that are not told again
abbrev pub untold_total : ℕ → List (Key × Rec) → ℕ
untold_total horizon records = total (untold_at horizon records) (enrolled_trains records)

abbrev pub again_total : List (Key × Rec) → ℕ
again_total records = total (again_at records) (enrolled_trains records)

-- ---- the same by what is told of each train

-- whether the entry is a stop that is due
abbrev pub is_again : Waits → Bool
is_again (Again number) = true
is_again (Stop number) = false
is_again (Restriction number) = false

-- how many of the entries that wait at a train are such stops, and how many are not
abbrev pub again_in : List Waiting → ℕ
again_in all = length (filter (λ waiting. is_again waiting.what) all)

abbrev pub untold_in : List Waiting → ℕ
untold_in all = length (filter (λ waiting. not (is_again waiting.what)) all)

-- the state of one train, as numbers
abbrev pub owed_told : TrainStanding → ℕ
owed_told standing = standing.acknowledgements

abbrev pub is_owing_told : TrainStanding → Bool
is_owing_told standing = nat_lt 0 standing.acknowledgements

abbrev pub untold_told : TrainStanding → ℕ
untold_told standing = untold_in standing.waiting.items

abbrev pub again_told : TrainStanding → ℕ
again_told standing = again_in standing.waiting.items
