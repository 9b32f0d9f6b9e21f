use Rattle.std.proofs.Common.{All, subst}
use Rattle.std.proofs.lemmas.List.Elements.{All-head, All-tail, All-set}
use Rattle.rbc_window.specs.Shares.{HasTakenIfDone}
use Rattle.rbc_window.proofs.shares.put_all.Goals as goal

-- the next share comes to its place
pub loop-share-preserved-then-place-len : goal.loop-share-preserved-then-place-len
loop-share-preserved-then-place-len c s records inputs shares all =
    let right = HasTakenIfDone s records inputs in
    let kept = c.loop-share.invariant s records inputs shares all in
    let left = subst (All right) c.in-Some.ensures.steps.0 kept.0 in
    (All-tail right _ _ left, All-set right _ _ _ (All-head right _ _ left) kept.1)

-- or it has none
pub loop-share-preserved : goal.loop-share-preserved
loop-share-preserved c s records inputs shares all =
    let right = HasTakenIfDone s records inputs in
    let kept = c.loop-share.invariant s records inputs shares all in
    (All-tail right _ _ (subst (All right) c.in-Some.ensures.steps.0 kept.0), kept.1)
