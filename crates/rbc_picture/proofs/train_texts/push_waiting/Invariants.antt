use Rattle.std.proofs.Common.{map, string_bytes, take}
use Rattle.rbc_live.specs.declared.waiting.Waiting.{Waiting}
use Rattle.rbc_picture.specs.Shown.{IsShownOn}
use Rattle.rbc_picture.specs.Titles.{waiting_sentence}
use Rattle.rbc_picture.proofs.train_texts.push_waiting.Given as goal

abbrev pub invariant-loop-one : goal.invariant-loop-one
invariant-loop-one l = IsShownOn (map (λ (one : Waiting). waiting_sentence one.what) (take l.one-index l.waiting))
    (string_bytes l.initial.document) (string_bytes l.document)
