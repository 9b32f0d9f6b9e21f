-- What a message makes of its train, and what is kept of it (own rule).
use Rattle.std.specs.Prelude.{◌≡◌, ℕ, true, [], length, Ok, IsTrue}
use Rattle.ertms_codec.specs.declared.from_train.FromTrain.{FromTrain}
use Rattle.rbc_settle.specs.declared.train.TrainRec.{TrainRec}
use Rattle.rbc_settle.specs.Settling.{settled, messages_of, to_engine}
use Rattle.rbc_records.specs.Notes.{same_key}
use Rattle.rbc_rule.specs.declared.outcome.Reply.TheVariants.{Done, Refused}
use Rattle.rbc_rule.specs.Effect.{heard}
use Rattle.rbc_rule.specs.Records.{list_of}
use Rattle.rbc_rule.specs.Lists.{is_list}
use Rattle.rbc_rule.specs.Gathered.{AreSendable}
use Rattle.rbc_window.specs.declared.kept.Kept.{Kept}
use Rattle.rbc_window.specs.declared.hearing.Scene.{Scene}
use Rattle.rbc_window.specs.Messages.{Setting}

-- the setting that is lent to a share
abbrev pub setting : Scene → Setting
setting scene = record { track = scene.track.now; stops = scene.stops.now; limits = scene.limits.now }

-- A message is refused with a code: nothing is sent, and its train stays in its list.
pub record IsRefused (code : ℕ) (kept : Kept) : Type 0 where
  pub result : kept.answer.result ≡ Refused code
  pub messages : kept.answer.messages.items ≡ []
  pub stays : same_key kept.left kept.entered ≡ true
  pub left : IsTrue (is_list kept.left)
  pub entered : IsTrue (is_list kept.entered)

-- a message is accepted: its train after it, settled, with its answer, and the lists that the train leaves and comes into
pub record IsHeard (s : Setting) (message : FromTrain) (old after : TrainRec) (kept : Kept) : Type 0 where
  pub train : TrainRec
  pub was_heard : Ok train ≡ heard s.track message old
  pub settled_is : after ≡ settled s.track s.stops s.limits train
  pub result : kept.answer.result ≡ Done (length (messages_of s.track s.stops s.limits train))
  pub messages : kept.answer.messages.items ≡ to_engine train.engine (messages_of s.track s.stops s.limits train)
  pub sendable : AreSendable kept.answer.messages.items
  pub left_is : kept.left ≡ list_of old
  pub entered_is : kept.entered ≡ list_of train
  pub left : IsTrue (is_list kept.left)
  pub entered : IsTrue (is_list kept.entered)
