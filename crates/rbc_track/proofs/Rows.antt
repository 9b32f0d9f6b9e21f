-- Reading the rows of an array one after another.
use Rattle.std.proofs.Common.{List, ◌++◌, Option, option_map}

-- what was read so far in front of what is read in the rest
abbrev pub behind : {A : Type 0} → List A → Option (List A) → Option (List A)
behind done rest = option_map (λ more. done ++ more) rest
