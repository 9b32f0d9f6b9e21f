-- Words that ask for a page of help ask for nothing else: clap refuses them.
use Rattle.std.proofs.Common.{refl, ◌≡◌, [], ◌∷◌, codes}
use Rattle.clap.specs.Kinds.{Kinds}
use Rattle.clap.specs.Words.{fault_of}
use Rattle.clap.specs.declared.error.kind.ErrorKind.{ErrorKind}
use Rattle.clap.specs.declared.error.kind.ErrorKind.TheVariants as kind
use Rattle.clap.proofs.OnLiterals.{clap_on_literals}
use Rattle.rbc_dispatch.specs.CommandLine.{command_line}

-- words with a fault have one
faulty : (found : Kinds) (fault : ErrorKind) (others : Kinds) → found ≡ fault ∷ others → found ≡ [] → ⊥
faulty [] fault others is none = cc
faulty (k ∷ more) fault others is none = cc

track_refused : fault_of command_line (codes "help" ∷ codes "track" ∷ []) ≡ [] → ⊥
unfolding clap_on_literals
track_refused none = faulty _ kind.DisplayHelp (kind.InvalidSubcommand ∷ []) refl none
