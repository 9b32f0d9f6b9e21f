use Rattle.std.proofs.Common.{◌≡◌, List, Option, Result, Ok, Err, ◌++◌, ◌∷◌, [], sym, subst, rules, OnOk, OnErr}
use Rattle.std.specs.Prelude.{IfSome}
use Rattle.std.proofs.lemmas.List.Elements.{All-append}
use Rattle.rbc_records.specs.declared.record.Key.{Key}
use Rattle.rbc_versions.specs.Log.{IsOf, LogName, Shown}
use Rattle.rbc_versions.specs.Entries.{AreOf}
use Rattle.rbc_engine.proofs.recorder.RecorderReader.fetch.Goals as goal

-- one note more, or none, is of the log as well
kept : {E : Type 0} (log : LogName) (old new : List (Key × Option Shown)) (key : Key) (ticket : Option Shown) (result : Result Unit E)
    → AreOf log old → IfSome ticket (IsOf log) → OnOk result (new ≡ old ++ (key, ticket) ∷ []) → OnErr result (new ≡ old) → AreOf log new
kept log old new key ticket (Ok done) are is ok err = subst (AreOf log) (sym ok) (All-append (λ (entry : Key × Option Shown). IfSome entry.1 (IsOf log)) old ((key, ticket) ∷ []) are (search rules))
kept log old new key ticket (Err e) are is ok err = subst (AreOf log) (sym err) are

pub invariant_of-self-2 : goal.invariant_of-self-2
invariant_of-self-2 g c = (c.self.invariant.0, kept g.N.RunName.log c.self.inside.notes c.add.new.self c.args.key c.in-Some.ticket c.add.result c.self.invariant.1 c.in-Some.ensures.here c.add.ensures.ok c.add.ensures.err)
