use Rattle.std.proofs.Common.{◌≡◌, ◌++◌, map, length, string_bytes}
use Rattle.std.specs.List.{flat_map}
use Rattle.rbc_dispatch.specs.TextWords.{spaced, spaced_text, texts_in}
use Rattle.rbc_dispatch.proofs.encode.spaced_text.Given as goal

-- what is put and what is left make the whole
abbrev pub invariant-loop-word : goal.invariant-loop-word
invariant-loop-word l = l.text.items ++ flat_map spaced (texts_in l.next (map string_bytes l.left)) ≡ spaced_text (map string_bytes l.words)

abbrev pub decreases-loop-word : goal.decreases-loop-word
decreases-loop-word l = length l.left
