use Rattle.std.proofs.Common.{◌≡◌, ◌++◌, option_map}
use Rattle.rbc_text.specs.BatchText.{segments_of, words_of}
use Rattle.ertms_codec.specs.Pieces.{pieces_behind, length_left}
use Rattle.rbc_text.proofs.words.segments.Given as goal

-- the segments so far, and those of the words that are left, are those of all
abbrev pub invariant-loop-rest : goal.invariant-loop-rest
invariant-loop-rest l = option_map (λ more. l.segments ++ more) (segments_of (pieces_behind 32 l.rest)) ≡ segments_of (words_of l.fn.text)

abbrev pub decreases-loop-rest : goal.decreases-loop-rest
decreases-loop-rest l = length_left l.rest
