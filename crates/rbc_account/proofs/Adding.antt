-- The sums of an account add up to its lines.
use Rattle.std.proofs.Common.{◌≡◌, ℕ, ◌+◌, ◌^◌, ◌<◌, List, [], ◌∷◌, length, ap, ◌∙◌, arith}
use Rattle.rbc_rule.specs.declared.outcome.Reply.{Reply}
use Rattle.rbc_rule.specs.declared.outcome.Reply.TheVariants.{Done, Refused}
use Rattle.rbc_live.specs.History.{Taken}
use Rattle.rbc_account.specs.declared.account.Sums.{Sums}
use Rattle.rbc_account.specs.Sums.{no_sums, counted}
use Rattle.rbc_account.specs.Runs.{sums_after}

one_more : (reply : Reply) (sums : Sums) (rest : ℕ) → sums.accepted + sums.refused + (rest + 1) < 2 ^ 64
    → (counted reply sums).accepted + (counted reply sums).refused ≡ sums.accepted + sums.refused + 1
one_more (Done sent) sums rest few = omega (arith, few)
one_more (Refused code) sums rest few = omega (arith, few)

all_from : (taken : List Taken) (sums : Sums) → sums.accepted + sums.refused + length taken < 2 ^ 64
    → (sums_after sums taken).accepted + (sums_after sums taken).refused ≡ sums.accepted + sums.refused + length taken
all_from [] sums few = omega arith
all_from (one ∷ taken) sums few =
    let here = one_more one.reply sums (length taken) (omega (arith, few)) in
    let rest = all_from taken (counted one.reply sums) (omega (arith, few, here)) in
    omega (arith, here, rest)

pub all_counted : (taken : List Taken) (sums : Sums) → length taken < 2 ^ 64 → sums ≡ sums_after no_sums taken → sums.accepted + sums.refused ≡ length taken
all_counted taken sums few is = ap (λ (s : Sums). s.accepted + s.refused) is ∙ all_from taken no_sums (omega (arith, few)) ∙ omega arith
