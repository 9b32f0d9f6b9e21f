-- What stays known while records are read.
use Rattle.std.proofs.Common.{ℕ, ◌<◌, ◌+◌, List, length, take, get_or, IsTrue, refl, sym, subst, ◌∙◌}
use Rattle.std.specs.List.{All}
use Rattle.std.proofs.lemmas.List.{take_more}
use Rattle.std.proofs.lemmas.List.Elements.{All-push, All-weaker}
use Rattle.rbc_records.specs.declared.record.Key.TheVariants as key
use Rattle.rbc_records.specs.Notes.{Notes, Extends, Learns, knows}

-- where nothing is read, all stays known
pub extends_same : {notes : Notes} → Extends notes notes
extends_same = record { stays_known = λ k known. known; stays_noted = λ k known. refl }

-- what stays known twice stays known
pub extends_on : {old middle new : Notes} → Extends old middle → Extends middle new → Extends old new
extends_on first second = record {
  stays_known = λ k known. second.stays_known k (first.stays_known k known);
  stays_noted = λ k known. second.stays_noted k (first.stays_known k known) ∙ first.stays_noted k known;
}

-- the trains of so many engines are known, and then that of one more
pub one_more_known : (old new : Notes) (engines : List ℕ) (i d : ℕ) → i < length engines → All (λ engine. IsTrue (knows old (key.Train engine))) (take i engines)
    → Learns old (key.Train (get_or engines i d)) new → All (λ engine. IsTrue (knows new (key.Train engine))) (take (i + 1) engines)
one_more_known old new engines i d within known learns =
    let now : All (λ engine. IsTrue (knows new (key.Train engine))) (take i engines) =
    All-weaker (λ engine. IsTrue (knows old (key.Train engine))) (λ engine. IsTrue (knows new (key.Train engine))) (λ engine k. learns.extends.stays_known (key.Train engine) k) (take i engines) known in
    subst (All (λ engine. IsTrue (knows new (key.Train engine)))) (sym (take_more engines i d within))
    (All-push (λ engine. IsTrue (knows new (key.Train engine))) (take i engines) (get_or engines i d) now learns.known)
