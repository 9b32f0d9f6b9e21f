-- The shares of trains add up to the trains.
use Rattle.std.proofs.Common.{◌≡◌, ◌+◌, List, [], ◌∷◌, length, refl, arith}
use Rattle.rbc_account.specs.declared.counts.Share.{Share}
use Rattle.rbc_account.specs.declared.counts.Share.TheVariants.{Told, Untold, Unplaced, Unconcerned}
use Rattle.rbc_account.specs.Counting.{how_many}

pub all_shared : (shares : List Share) → how_many Told shares + how_many Untold shares + how_many Unplaced shares + how_many Unconcerned shares ≡ length shares
all_shared [] = refl
all_shared (Told ∷ shares) = let rest = all_shared shares in omega (arith, rest)
all_shared (Untold ∷ shares) = let rest = all_shared shares in omega (arith, rest)
all_shared (Unplaced ∷ shares) = let rest = all_shared shares in omega (arith, rest)
all_shared (Unconcerned ∷ shares) = let rest = all_shared shares in omega (arith, rest)
