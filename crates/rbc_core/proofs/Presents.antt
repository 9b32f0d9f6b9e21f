-- The present tickets after a publication show what stands after its writes.
use Rattle.std.proofs.Common.{◌≡◌, ℕ, Bool, true, false, cond, List, [], ◌∷◌, length, Option, refl, sym, ap, ◌∙◌, subst}
use Rattle.std.specs.Prelude.{IfSome, replicate}
use Rattle.std.proofs.lemmas.List.Elements.{All-head, All-tail}
use Rattle.rbc_records.specs.declared.record.Key.{Key}
use Rattle.rbc_records.specs.Notes.{same_key, record_in}
use Rattle.rbc_records.proofs.Keys.{same_key_is}
use Rattle.rbc_versions.specs.Log.{LogName, Shown, IsOf}
use Rattle.rbc_versions.specs.Entries.{AreKeyedOf, StandIn, ticket_in, tickets_after}
use Rattle.rbc_desk.specs.Held.{Held, Standing, standing}
use Rattle.rbc_core.specs.declared.stage.Stage.TheVariants.{Free}
use Rattle.rbc_core.specs.Runs.{Run, IsGoodRun}
use Rattle.rbc_core.specs.Core.{Try}
use Rattle.rbc_core.specs.declared.stage.Stage.{Stage}
use Rattle.rbc_core.specs.Books.{ArePresent, IsKept, IsBook, IsCarriedOut, number_now, record_now}
use Rattle.rbc_core.proofs.Agreeing.{records_taken_over}
use Rattle.rbc_core.proofs.Books.{opens}

-- a ticket under a key is of the log, and its version was published under that key
abbrev IsFor : LogName → Key → Option Shown → Type 0
IsFor log k ticket = IfSome ticket (λ t. IsOf log t × (t.value.key ≡ k))

over : (log : LogName) (k : Key) (entry : Key × Option Shown) (b : Bool) → same_key k entry.0 ≡ b → IsFor log entry.0 entry.1 → (old : Option Shown) → IsFor log k old → IsFor log k (cond b entry.1 old)
over log k entry true is new old h = subst (λ other. IsFor log other entry.1) (sym (same_key_is k entry.0 is)) new
over log k entry false is new old h = h

stand_after : (log : LogName) (entries : List (Key × Option Shown)) (tickets : Key → Option Shown) → AreKeyedOf log entries → ((k : Key) → IsFor log k (tickets k)) → (k : Key) → IsFor log k (tickets_after entries tickets k)
stand_after log [] tickets keyed stand k = stand k
stand_after log (entry ∷ entries) tickets keyed stand k =
    let P : Key × Option Shown → Type 0 = λ (e : Key × Option Shown). IfSome e.1 (λ t. IsOf log t × (t.value.key ≡ e.0)) in
    stand_after log entries (λ other. cond (same_key other entry.0) entry.1 (tickets other)) (All-tail P entry entries keyed)
    (λ other. over log other entry (same_key other entry.0) refl (All-head P entry entries keyed) (tickets other) (stand other)) k

-- what is present after a commit
pub present_after : (run : Run) (log : LogName) (index : ℕ) (stage : Stage Try) (fresh : Bool) (old new : Standing) (before now : List (Key × Shown)) → ArePresent log before old.records
    → IsCarriedOut run log index stage fresh old new before now → ArePresent log now new.records
present_after run log index stage fresh old new before now present done = record {
  stand = λ k. subst (IsFor log k) (sym (done.tickets k)) (stand_after log done.entries (ticket_in before) done.is_outcome.published present.stand k);
  show = λ k.
      records_taken_over done.entries before now done.outcome.writes old.records done.is_outcome.writes done.tickets present.show k
      ∙ sym (ap (λ (s : Standing). s.records k) done.taken_over);
}

-- a book that was just opened
pub opens_book : (run : Run) (log : LogName) (held : Held) (tickets : List (Key × Shown)) (stages : List (Stage Try)) → IsGoodRun run → held ≡ run.opening → stages ≡ replicate (length run.inputs) Free
    → StandIn log tickets → ((k : Key) → record_now tickets k ≡ record_in held.records k)
    → IsBook run log (record { desk = held; present = tickets; stages = stages; committed = 0; taken = 0; recomputed = 0; closed = false })
opens_book run log held tickets stages good opening free stand show = record {
  kept = subst (IsKept run) (λ i. record { desk = standing (sym opening i); present = number_now tickets; stages = sym free i; committed = 0; taken = 0; recomputed = 0; closed = false }) (opens run (number_now tickets) good);
  present = record { stand = stand; show = show };
}

-- what is present where nothing changed
pub present_still : (log : LogName) (before now : List (Key × Shown)) (old new : Held) → standing new ≡ standing old → now ≡ before → ArePresent log before (record_in old.records) → ArePresent log now (record_in new.records)
present_still log before now old new same tickets present =
    subst (λ (t : List (Key × Shown)). ArePresent log t (record_in new.records)) (sym tickets) (subst (ArePresent log before) (sym (ap (λ (s : Standing). s.records) same)) present)
