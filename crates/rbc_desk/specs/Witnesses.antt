-- A worked case of the law on mails. Places and lengths are in units of 10 cm.
use Rattle.std.specs.Prelude.{ℕ, List, [], ◌∷◌}
use Rattle.rbc_rule.specs.declared.input.Input.{Input}
use Rattle.rbc_rule.specs.declared.input.Input.TheVariants as input
use Rattle.rbc_rule_laws.specs.Witnesses.{track_a, facing_up, on_line_0, only_train_7, stop_before, revoke}
use Rattle.rbc_desk.specs.declared.outbox.Mail.{Mail}
use Rattle.rbc_desk.specs.Serial.{Desk, mail}
use Rattle.rbc_desk.specs.SaidMails.{IsSaidMail, AreSaidMails}

-- train 7 stands 200 m beyond balise group 5 and faces up, and nothing was told to it
abbrev pub desk_7 : Desk
desk_7 = record { world = only_train_7 facing_up; results = []; outboxes = [] }

-- stop 1 of 20000 to 21000 becomes active, and is released
abbrev pub stop_and_release : List Input
stop_and_release = input.Stop 1 (on_line_0 20000 21000 ∷ []) ∷ input.Release 1 ∷ []

-- what the train is told of each
abbrev pub stop_told : Mail
stop_told = mail 1 (stop_before 1 0 10000)

abbrev pub stop_revoked : Mail
stop_revoked = mail 2 (revoke 0)

-- what the law says of a mail to an engine in this run, and of outboxes after it
abbrev pub IsSaidThere : ℕ → Mail → Type 0
IsSaidThere engine sent = IsSaidMail track_a desk_7 stop_and_release engine sent

abbrev pub AreSaidThere : List (ℕ × List Mail) → List (ℕ × List Mail) → Type 0
AreSaidThere old new = AreSaidMails track_a desk_7 stop_and_release old new
