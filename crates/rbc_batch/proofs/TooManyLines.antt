-- The first lines of a text, one more than a run may have.
use Rattle.std.proofs.Common.{◌≡◌, ℕ, ◌+◌, ◌<◌, ◌≤◌, List, length, take, ap, ◌∙◌, arith}
use Rattle.std.proofs.lemmas.List.{take_all, length-take}

-- where more lines are there than wanted, the text has more
pub too_many : (most : ℕ) (lines whole : List (List ℕ)) → lines ≡ take (most + 1) whole → most < length lines → most < length whole
too_many most lines whole first many =
    let taken = length-take (most + 1) whole in
    let same : length lines ≡ length (take (most + 1) whole) = ap length first in
    omega (arith, taken, same, many)

-- where no more are there, they are all lines of it
pub all_of_them : (most : ℕ) (lines whole : List (List ℕ)) → lines ≡ take (most + 1) whole → length lines ≤ most → lines ≡ whole
all_of_them most lines whole first few =
    let taken = length-take (most + 1) whole in
    let same : length lines ≡ length (take (most + 1) whole) = ap length first in
    first ∙ take_all (most + 1) whole (omega (arith, taken, same, few))
