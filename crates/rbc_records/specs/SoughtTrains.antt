-- Which trains a command seeks (own rule).
use Rattle.std.specs.Prelude.{nat_lt, Bool, true, false, ◌&&◌, ◌||◌, length}
use Rattle.rbc_settle.specs.Table.{is_told}
use Rattle.rbc_settle.specs.Concern.{Concern}
use Rattle.rbc_settle.specs.Concern.TheVariants as concern
use Rattle.rbc_settle.specs.declared.train.TrainRec.{TrainRec}
use Rattle.rbc_settle.specs.Numbers.{has_number}
use Rattle.rbc_settle.specs.Settling.{concern_to}
use Rattle.rbc_records.specs.declared.search.Sought.{Sought}
use Rattle.rbc_records.specs.declared.search.Sought.TheVariants as sought

-- a stop means something for a train
abbrev pub is_concern : Concern → Bool
is_concern concern.None = false
is_concern concern.Now = true
is_concern (concern.Before edge) = true

-- whether a command seeks a train
abbrev pub is_sought : Sought → TrainRec → Bool
is_sought (sought.ToldOfStop number) train = is_told train.stops number || has_number train.forced number
is_sought (sought.ToldOfLimit number) train = is_told train.limits number
is_sought (sought.Stoppable number area) train = nat_lt (length train.stops) 15 && is_concern (concern_to train (number, area.now))
