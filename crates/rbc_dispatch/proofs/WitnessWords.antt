-- What clap finds in the words of the worked cases.
use Rattle.std.proofs.Common.{refl, ap, ◌≡◌, Bool, true, false, [], ◌∷◌, Option, None, Some, codes}
use Rattle.clap.specs.Kinds.{Kinds}
use Rattle.clap.specs.declared.error.kind.ErrorKind.{ErrorKind}
use Rattle.clap.specs.declared.error.kind.ErrorKind.TheVariants as kind
use Rattle.clap.proofs.OnLiterals.{clap_on_literals}
use Rattle.rbc_account.specs.declared.log_form.LogParts.{LogParts}
use Rattle.rbc_account.specs.declared.log_form.LogParts.TheVariants as parts
use Rattle.rbc_dispatch.specs.declared.pages.Topic.TheVariants as topic
use Rattle.rbc_dispatch.specs.Witnesses.{AskFor, AskForNothing, AskForRun, AskFrom, AskToDraw, AskToExplain, on_track}
use Rattle.rbc_dispatch.specs.Words.{Asked, Asks, All, Busy, Lines, Train, Live, Explain, Decode, DecodeLines, Codes, DoNotFit, Page, whole_line}

-- words with a fault ask for nothing
faulty : (found : Kinds) (fault : ErrorKind) → found ≡ fault ∷ [] → found ≡ [] → ⊥
faulty [] fault is none = cc
faulty (k ∷ more) fault is none = cc

both_faulty : (found : Kinds) (fault other : ErrorKind) → found ≡ fault ∷ other ∷ [] → found ≡ [] → ⊥
both_faulty [] fault other is none = cc
both_faulty (k ∷ more) fault other is none = cc

-- what is asked for is asked for alone
abbrev alarms_of : Option Asked → Bool
alarms_of (Some (Live file wanted)) = wanted.alarms
alarms_of _ = false

abbrev parts_of : Option Asked → Option LogParts
parts_of (Some (Explain file wanted json)) = Some wanted.parts
parts_of _ = None

other_flag : false ≡ true → ⊥
other_flag is = cc

other_parts : Some parts.End ≡ Some parts.All → ⊥
other_parts is = cc

pub one : AskFor 1 []
unfolding clap_on_literals
one = record { taken = refl; is = refl }

pub sixteen : AskFor 16 (codes "--workers" ∷ codes "16" ∷ [])
unfolding clap_on_literals
sixteen = record { taken = refl; is = refl }

pub leading_zeros : AskFor 7 (codes "--workers=007" ∷ [])
unfolding clap_on_literals
leading_zeros = record { taken = refl; is = refl }

pub zero : AskFor 0 (codes "--workers" ∷ codes "0" ∷ [])
unfolding clap_on_literals
zero = record { taken = refl; is = refl }

pub two_by_default : AskFor 2 [] → ⊥
unfolding clap_on_literals
two_by_default is = let same = is.is in cc

pub one_whatever_is_named : AskFor 1 (codes "--workers" ∷ codes "2" ∷ []) → ⊥
unfolding clap_on_literals
one_whatever_is_named is = let same = is.is in cc

pub too_great : AskForNothing (on_track (codes "run") (codes "--workers" ∷ codes "256" ∷ []))
unfolding clap_on_literals
too_great asked is = faulty _ kind.ValueValidation refl is.taken

pub below_zero : AskForNothing (on_track (codes "run") (codes "--workers" ∷ codes "-1" ∷ []))
unfolding clap_on_literals
below_zero asked is = faulty _ kind.UnknownArgument refl is.taken

pub no_number : AskForNothing (on_track (codes "run") (codes "--workers" ∷ codes "x" ∷ []))
unfolding clap_on_literals
no_number asked is = faulty _ kind.ValueValidation refl is.taken

pub twice : AskForNothing (on_track (codes "run") (codes "--workers" ∷ codes "1" ∷ codes "--workers" ∷ codes "1" ∷ []))
unfolding clap_on_literals
twice asked is = faulty _ kind.ArgumentConflict refl is.taken

pub figures : AskForRun 1 false true false (codes "--stats" ∷ [])
unfolding clap_on_literals
figures = record { taken = refl; is = refl }

pub figures_unasked : AskForRun 1 false true false [] → ⊥
unfolding clap_on_literals
figures_unasked is = let same = is.is in cc

pub figures_of_four : AskForRun 4 false true false (codes "--stats" ∷ codes "--workers" ∷ codes "4" ∷ [])
unfolding clap_on_literals
figures_of_four = record { taken = refl; is = refl }

pub figures_twice : AskForNothing (on_track (codes "run") (codes "--stats" ∷ codes "--stats" ∷ []))
unfolding clap_on_literals
figures_twice asked is = faulty _ kind.ArgumentConflict refl is.taken

pub by_train_of_four : AskForRun 4 true false false (codes "--workers" ∷ codes "4" ∷ codes "--by-train" ∷ [])
unfolding clap_on_literals
by_train_of_four = record { taken = refl; is = refl }

pub by_train_unasked : AskForRun 1 true false false [] → ⊥
unfolding clap_on_literals
by_train_unasked is = let same = is.is in cc

pub alarms_of_four : AskForRun 4 false false true (codes "--alarms" ∷ codes "--workers" ∷ codes "4" ∷ [])
unfolding clap_on_literals
alarms_of_four = record { taken = refl; is = refl }

pub alarms_unasked : AskForRun 1 false false true [] → ⊥
unfolding clap_on_literals
alarms_unasked is = let same = is.is in cc

pub from_seven : AskFrom 7 false (codes "--from" ∷ codes "7" ∷ [])
unfolding clap_on_literals
from_seven = record { taken = refl; is = refl }

pub from_zero : AskForNothing (on_track (codes "live") (codes "--from" ∷ codes "0" ∷ []))
unfolding clap_on_literals
from_zero asked is = faulty _ kind.ValueValidation refl is.taken

pub alarms_from_seven : AskFrom 7 true (codes "--alarms" ∷ codes "--from" ∷ codes "7" ∷ [])
unfolding clap_on_literals
alarms_from_seven = record { taken = refl; is = refl }

pub from_seven_alarms : AskFrom 7 true (codes "--from" ∷ codes "7" ∷ codes "--alarms" ∷ [])
unfolding clap_on_literals
from_seven_alarms = record { taken = refl; is = refl }

pub live_alarms_unasked : AskFrom 1 true [] → ⊥
unfolding clap_on_literals
live_alarms_unasked is = other_flag (ap alarms_of is.is)

pub live_alarms_twice : AskForNothing (on_track (codes "live") (codes "--alarms" ∷ codes "--alarms" ∷ []))
unfolding clap_on_literals
live_alarms_twice asked is = faulty _ kind.ArgumentConflict refl is.taken

pub from_last : AskToExplain 18446744073709551615 None parts.All false (codes "--from" ∷ codes "18446744073709551615" ∷ [])
unfolding clap_on_literals
from_last = record { taken = refl; is = refl }

pub from_zero_telling : AskForNothing (on_track (codes "explain") (codes "--from" ∷ codes "0" ∷ []))
unfolding clap_on_literals
from_zero_telling asked is = faulty _ kind.ValueValidation refl is.taken

pub to_nine : AskToExplain 1 (Some 9) parts.All false (codes "--to" ∷ codes "9" ∷ [])
unfolding clap_on_literals
to_nine = record { taken = refl; is = refl }

pub to_nine_from_nine : AskToExplain 9 (Some 9) parts.All false (codes "--to" ∷ codes "9" ∷ codes "--from" ∷ codes "9" ∷ [])
unfolding clap_on_literals
to_nine_from_nine = record { taken = refl; is = refl }

pub ended_before : DoNotFit (on_track (codes "explain") (codes "--from" ∷ codes "9" ∷ codes "--to" ∷ codes "8" ∷ []))
unfolding clap_on_literals
ended_before = record { taken = refl; none = refl }

pub refused : AskToExplain 1 None parts.Refused false (codes "--refused" ∷ [])
unfolding clap_on_literals
refused = record { taken = refl; is = refl }

pub end : AskToExplain 1 None parts.End false (codes "--end" ∷ [])
unfolding clap_on_literals
end = record { taken = refl; is = refl }

pub end_as_object : AskToExplain 1 None parts.End true (codes "--end" ∷ codes "--json" ∷ [])
unfolding clap_on_literals
end_as_object = record { taken = refl; is = refl }

pub refused_end : DoNotFit (on_track (codes "explain") (codes "--refused" ∷ codes "--end" ∷ []))
unfolding clap_on_literals
refused_end = record { taken = refl; none = refl }

pub all_for_the_end : AskToExplain 1 None parts.All false (codes "--end" ∷ []) → ⊥
unfolding clap_on_literals
all_for_the_end is = other_parts (ap parts_of is.is)

pub at_first : AskToDraw (Some 0) All (codes "--after" ∷ codes "0" ∷ [])
unfolding clap_on_literals
at_first = record { taken = refl; is = refl }

pub at_last : AskToDraw (Some 18446744073709551615) All (codes "--after" ∷ codes "18446744073709551615" ∷ [])
unfolding clap_on_literals
at_last = record { taken = refl; is = refl }

pub before_first : AskForNothing (on_track (codes "picture") (codes "--after" ∷ codes "-1" ∷ []))
unfolding clap_on_literals
before_first asked is = faulty _ kind.UnknownArgument refl is.taken

pub all_for_the_first : AskToDraw None All (codes "--after" ∷ codes "0" ∷ []) → ⊥
unfolding clap_on_literals
all_for_the_first is = let same = is.is in cc

pub two_lines : AskToDraw None (Lines (whole_line 3 ∷ whole_line 0 ∷ [])) (codes "--line" ∷ codes "3" ∷ codes "--line" ∷ codes "0" ∷ [])
unfolding clap_on_literals
two_lines = record { taken = refl; is = refl }

pub part : AskToDraw None (Lines (record { line = 2; part = Some (84000, 175000) } ∷ [])) (codes "--line" ∷ codes "2" ∷ codes "--km" ∷ codes "8.4-17.5" ∷ [])
unfolding clap_on_literals
part = record { taken = refl; is = refl }

pub falling : DoNotFit (on_track (codes "picture") (codes "--line" ∷ codes "2" ∷ codes "--km" ∷ codes "9-8.5" ∷ []))
unfolding clap_on_literals
falling = record { taken = refl; none = refl }

pub no_line : DoNotFit (on_track (codes "picture") (codes "--km" ∷ codes "8-9" ∷ []))
unfolding clap_on_literals
no_line = record { taken = refl; none = refl }

pub train : AskToDraw None (Train 7) (codes "--train" ∷ codes "7" ∷ [])
unfolding clap_on_literals
train = record { taken = refl; is = refl }

pub busy : AskToDraw None Busy (codes "--busy" ∷ [])
unfolding clap_on_literals
busy = record { taken = refl; is = refl }

pub busy_train : DoNotFit (on_track (codes "picture") (codes "--busy" ∷ codes "--train" ∷ codes "7" ∷ []))
unfolding clap_on_literals
busy_train = record { taken = refl; none = refl }

pub all_for_a_train : AskToDraw None All (codes "--train" ∷ codes "7" ∷ []) → ⊥
unfolding clap_on_literals
all_for_a_train is = let same = is.is in cc

pub all_codes : Asks (Codes None false) (codes "codes" ∷ [])
unfolding clap_on_literals
all_codes = record { taken = refl; is = refl }

pub code_twelve : Asks (Codes (Some 12) false) (codes "codes" ∷ codes "12" ∷ [])
unfolding clap_on_literals
code_twelve = record { taken = refl; is = refl }

pub another_code : Asks (Codes (Some 13) false) (codes "codes" ∷ codes "12" ∷ []) → ⊥
unfolding clap_on_literals
another_code is = let same = is.is in cc

pub code_zero : AskForNothing (codes "codes" ∷ codes "0" ∷ [])
unfolding clap_on_literals
code_zero asked is = faulty _ kind.ValueValidation refl is.taken

pub code_seventeen : AskForNothing (codes "codes" ∷ codes "17" ∷ [])
unfolding clap_on_literals
code_seventeen asked is = faulty _ kind.ValueValidation refl is.taken

pub objects : Asks (Codes None true) (codes "codes" ∷ codes "--json" ∷ [])
unfolding clap_on_literals
objects = record { taken = refl; is = refl }

pub one_object : DoNotFit (codes "codes" ∷ codes "12" ∷ codes "--json" ∷ [])
unfolding clap_on_literals
one_object = record { taken = refl; none = refl }

pub lines : Asks DecodeLines (codes "decode" ∷ [])
unfolding clap_on_literals
lines = record { taken = refl; is = refl }

pub message : Asks (Decode (codes "00") false) (codes "decode" ∷ codes "00" ∷ [])
unfolding clap_on_literals
message = record { taken = refl; is = refl }

pub long_lines : DoNotFit (codes "decode" ∷ codes "--long" ∷ [])
unfolding clap_on_literals
long_lines = record { taken = refl; none = refl }

pub batch_page : Asks (Page topic.Batch) (codes "help" ∷ codes "batch" ∷ [])
unfolding clap_on_literals
batch_page = record { taken = refl; is = refl }

pub track_page : Asks (Page topic.Track) (codes "help" ∷ codes "track" ∷ [])
unfolding clap_on_literals
track_page = record { taken = refl; is = refl }

pub help_of_run : AskForNothing (codes "help" ∷ codes "run" ∷ [])
unfolding clap_on_literals
help_of_run asked is = both_faulty _ kind.DisplayHelp kind.InvalidSubcommand refl is.taken

pub page_and_more : AskForNothing (codes "help" ∷ codes "batch" ∷ codes "batch" ∷ [])
unfolding clap_on_literals
page_and_more asked is = both_faulty _ kind.DisplayHelp kind.InvalidSubcommand refl is.taken
