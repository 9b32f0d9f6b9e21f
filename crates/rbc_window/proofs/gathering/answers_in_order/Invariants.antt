use Rattle.std.proofs.Common.{◌≡◌, All, length, take}
use Rattle.rbc_records.specs.Notes.{record_in}
use Rattle.rbc_window.specs.Messages.{Setting}
use Rattle.rbc_window.specs.Gathering.{IsMessage, HaveTrains, KeepRest}
use Rattle.rbc_window.proofs.Gathers.{IsGathered}
use Rattle.rbc_window.proofs.gathering.answers_in_order.Given as goal

-- the answers so far are gathered
abbrev pub invariant-loop-input : goal.invariant-loop-input
invariant-loop-input l = record {
  gathered : (s : Setting) → KeepRest s (record_in l.store) l.inputs l.fn.all.items → IsGathered s (record_in l.store) l.inputs l.input-index l.all.items l.lists l.answers.items;
  trains : (s : Setting) → HaveTrains s (record_in l.store) l.inputs l.fn.all.items → HaveTrains s (record_in l.store) l.inputs l.all.items;
  count : length l.all.items ≡ length l.fn.all.items;
  messages : All IsMessage (take l.input-index l.inputs);
}
