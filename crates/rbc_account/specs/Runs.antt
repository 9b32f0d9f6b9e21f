-- What an account gives for lines that it takes one after another (own rule).
use Rattle.std.specs.Prelude.{◌≡◌, ◌+◌, ◌^◌, ◌<◌, List, [], length}
use Rattle.std.specs.List.{fold}
use Rattle.rbc_track.specs.Plan.{Plan}
use Rattle.rbc_records.specs.declared.record.Key.{Key}
use Rattle.rbc_records.specs.declared.record.Rec.{Rec}
use Rattle.rbc_live.specs.History.{Taken, IsHistory, IsSerialRunOf}
use Rattle.rbc_account.specs.declared.account.Sums.{Sums}
use Rattle.rbc_account.specs.Sums.{no_sums, counted}

-- the sums after lines
abbrev pub sums_after : Sums → List Taken → Sums
sums_after sums taken = fold (λ sums one. counted one.reply sums) sums taken

-- Lines were taken since an account was opened, each by a step of the rules, and counted.
pub record IsAccount (plan : Plan) (taken : List Taken) (records : List (Key × Rec)) (sums : Sums) : Type 0 where
  pub history : IsHistory plan [] taken records
  pub counts : sums ≡ sums_after no_sums taken

-- The records, the replies and the messages are those of the serial run of the lines' inputs, and the accepted and the
-- refused inputs add up to the lines.
pub record IsTrueAccount (plan : Plan) (taken : List Taken) (records : List (Key × Rec)) (sums : Sums) : Type 0 where
  pub serial : IsSerialRunOf plan taken records
  pub all_counted : sums.accepted + sums.refused ≡ length taken

-- this holds on each track, for all lines, each told or not
abbrev pub EachAccountIsTrue : Type 0
EachAccountIsTrue =
    (plan : Plan) (taken : List Taken) (records : List (Key × Rec)) (sums : Sums) → length taken < 2 ^ 64
    → IsAccount plan taken records sums → IsTrueAccount plan taken records sums
