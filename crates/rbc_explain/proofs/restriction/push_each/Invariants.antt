use Rattle.rbc_explain.proofs.Told.{IsEachTold}
use Rattle.rbc_explain.proofs.restriction.push_each.Given as goal

-- the packets before this one are told
abbrev pub invariant-loop-index : goal.invariant-loop-index
invariant-loop-index l = IsEachTold l.fn.track l.fn.lrbg l.fn.place l.fn.packets l.fn.all l.index l.fn.log.items l.log.items
