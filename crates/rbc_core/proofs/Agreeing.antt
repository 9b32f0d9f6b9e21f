-- What was read, and what stands there.
use Rattle.std.proofs.Common.{◌≡◌, ℕ, ◌+◌, ◌||◌, Bool, true, false, cond, option_map, List, [], ◌∷◌, Option, Some, Result, Ok, Err, refl, sym, ap, ◌∙◌, subst}
use Rattle.std.specs.Bool.{OnTrue}
use Rattle.std.specs.Prelude.{IfOk}
use Rattle.std.proofs.lemmas.List.Elements.{All-head, All-tail}
use Rattle.rbc_track.specs.Plan.{Plan}
use Rattle.rbc_records.specs.declared.record.Key.{Key}
use Rattle.rbc_records.specs.declared.record.Rec.{Rec}
use Rattle.rbc_records.proofs.Keys.{same_key_is}
use Rattle.rbc_records.specs.Notes.{Part, same_key, note_in, is_noted, AreNow}
use Rattle.rbc_records.specs.Writes.{written}
use Rattle.rbc_versions.specs.Log.{LogName, Shown}
use Rattle.rbc_versions.specs.Entries.{NumberedRec, AreOfWrites, AreKeyedOf, numbered, record_of, records_of, shown, ticket_in, tickets_after}
use Rattle.rbc_rule.specs.declared.input.Input.{Input}
use Rattle.rbc_rule.specs.declared.outcome.Outcome.{Outcome}
use Rattle.rbc_rule.specs.declared.outcome.RuleFault.{RuleFault}
use Rattle.rbc_rule.specs.Right.{IsRight}
use Rattle.rbc_desk.specs.Held.{IsOutcomeOf}
use Rattle.rbc_core.specs.declared.stage.Stage.{Stage}
use Rattle.rbc_core.specs.declared.stage.Stage.TheVariants.{Free, Out, Tried, Void}
use Rattle.rbc_core.specs.Runs.{Run, IsInput}
use Rattle.rbc_core.specs.Core.{Try, IsRightTry}
use Rattle.rbc_core.specs.Books.{ArePresent, Judges, IsOutcomeAt, record_now}

-- where each note is what stands there, a key that is noted has what was noted
noted_now : (records : Key → Option Rec) (notes : List (Key × Option Rec)) (k : Key) → AreNow notes records → is_noted notes k ≡ true → note_in notes k ≡ records k
noted_now records [] k now known = absurd (cc known)
noted_now records (note ∷ notes) k now known =
    (elim (same_key k note.0) as (λ b. same_key k note.0 ≡ b → (b || is_noted notes k) ≡ true → cond b note.1 (note_in notes k) ≡ records k) [
      | true ↦ λ is h. sym (ap records (same_key_is k note.0 is) ∙ All-head (λ (n : Key × Option Rec). records n.0 ≡ n.1) note notes now)
      | false ↦ λ is h. noted_now records notes k (All-tail (λ (n : Key × Option Rec). records n.0 ≡ n.1) note notes now) h
    ]) refl known

-- an outcome that is right for notes is that of a world that has what was noted
pub right_here : (track : Plan) (input : Input) (notes : List (Key × Option Rec)) (records : Key → Option Rec) (outcome : Outcome)
    → IsRight track input (Part notes) outcome.result outcome.writes outcome.messages → AreNow notes records → IsOutcomeOf track input records outcome
right_here track input notes records outcome right now w are =
    right w (record { well_formed = are.well_formed; agrees = λ k known. noted_now records notes k now known ∙ are.same k })

-- a fresh attempt has the outcome of its input
pub right_outcome : (run : Run) (a : Try) (index : ℕ) (records : Key → Option Rec) → IsRightTry run a → a.number ≡ index + 1 → AreNow (records_of a.notes) records
    → (input : Input) × IsInput run (index + 1) input × IsOutcomeOf run.track input records a.outcome
right_outcome run a index records right number now = (
  right.input,
  subst (λ n. IsInput run n right.input) number right.is_input,
  right_here run.track right.input (records_of a.notes) records a.outcome right.right now,
)

-- an attempt whose numbers are the present ones has the records that they show
pub fresh_records : (log : LogName) (tickets : List (Key × Shown)) (records : Key → Option Rec) (a : Try) → ArePresent log tickets records → Judges tickets (Tried a) (Some true) → AreNow (records_of a.notes) records
fresh_records log tickets records a present judged = subst (AreNow (records_of a.notes)) (λ i k. present.show k i) judged.1

pub fresh_outcome : (run : Run) (log : LogName) (stage : Stage Try) (a : Try) (index : ℕ) (fresh : Bool) (tickets : List (Key × Shown)) (records : Key → Option Rec) (outcome : Outcome) (entries : List (Key × Option Shown))
    → stage ≡ Tried a → fresh ≡ true → ArePresent log tickets records → Judges tickets stage (Some fresh) → IsRightTry run a → a.number ≡ index + 1 → outcome ≡ a.outcome → numbered entries ≡ a.writes → AreKeyedOf log entries
    → IsOutcomeAt run log index stage fresh records outcome entries
fresh_outcome run log stage a index fresh tickets records outcome entries is set_true present judged right number same named keyed =
    let stands : Judges tickets (Tried a) (Some true) = subst (λ (s : Stage Try). Judges tickets s (Some true)) is (subst (λ b. Judges tickets stage (Some b)) set_true judged) in
    let here = right_outcome run a index records right number (fresh_records log tickets records a present stands) in
    let writes : AreOfWrites a.writes outcome.writes = subst (λ (o : Outcome). AreOfWrites a.writes o.writes) (sym same) right.writes in
    record {
      input = here.0;
      is_input = here.1;
      right = subst (IsOutcomeOf run.track here.0 records) (sym same) here.2;
      published = keyed;
      writes = subst (λ (e : List (Key × NumberedRec)). AreOfWrites e outcome.writes) (sym named) writes;
      attempt = of_attempt fresh set_true;
    }
  where
    of_attempt : (b : Bool) → b ≡ true → OnTrue b ((x : Try) × (stage ≡ Tried x) × (outcome ≡ x.outcome) × (numbered entries ≡ x.writes))
    of_attempt true e = (a, is, same, named)
    of_attempt false e = absurd (cc e)

pub computed_outcome : (run : Run) (log : LogName) (stage : Stage Try) (index : ℕ) (fresh : Bool) (records : Key → Option Rec) (input : Input) (outcome : Outcome) (entries : List (Key × Option Shown)) → fresh ≡ false
    → IsInput run (index + 1) input → IsOutcomeOf run.track input records outcome → AreKeyedOf log entries → AreOfWrites (numbered entries) outcome.writes
    → IsOutcomeAt run log index stage fresh records outcome entries
computed_outcome run log stage index fresh records input outcome entries unset is right keyed writes = record {
  input = input;
  is_input = is;
  right = right;
  published = keyed;
  writes = writes;
  attempt = none fresh unset;
}
  where
    none : (b : Bool) → b ≡ false → OnTrue b ((x : Try) × (stage ≡ Tried x) × (outcome ≡ x.outcome) × (numbered entries ≡ x.writes))
    none true e = absurd (cc e)
    none false e = tt

pub computed_outcomes : (run : Run) (log other : LogName) (track : Plan) (stage : Stage Try) (index : ℕ) (fresh : Bool) (records : Key → Option Rec) (input : Input)
    (done : Result (Outcome × List (Key × Option Shown)) RuleFault) → fresh ≡ false → track ≡ run.track → other ≡ log → IsInput run (index + 1) input → IfOk done (λ d. IsOutcomeOf track input records d.0) → IfOk done (λ d. AreKeyedOf other d.1)
    → IfOk done (λ d. AreOfWrites (numbered d.1) d.0.writes) → IfOk done (λ d. IsOutcomeAt run log index stage fresh records d.0 d.1)
computed_outcomes run log other track stage index fresh records input (Ok done) unset of_track of_log is right keyed writes =
    computed_outcome run log stage index fresh records input done.0 done.1 unset is (subst (λ (t : Plan). IsOutcomeOf t input records done.0) of_track right) (subst (λ (l : LogName). AreKeyedOf l done.1) of_log keyed) writes
computed_outcomes run log other track stage index fresh records input (Err fault) unset of_track of_log is right keyed writes = tt

-- only an attempt is fresh
pub not_fresh : (tickets : List (Key × Shown)) (stage : Stage Try) (fresh : Bool) → Judges tickets stage (Some fresh) → ((a : Try) → stage ≡ Tried a → ⊥) → fresh ≡ false
not_fresh tickets (Tried a) fresh judged other = absurd (other a refl)
not_fresh tickets Void true judged other = absurd judged
not_fresh tickets Void false judged other = refl
not_fresh tickets Free fresh judged other = absurd judged
not_fresh tickets Out fresh judged other = absurd judged

-- ---- the records that tickets show

-- after a publication they are the records after what it shows
record_after : (entries : List (Key × Option Shown)) (tickets : Key → Option Shown) (k : Key) → option_map record_of (tickets_after entries tickets k) ≡ written (shown entries) (λ other. option_map record_of (tickets other)) k
record_after [] tickets k = refl
record_after (entry ∷ entries) tickets k =
    record_after entries (λ other. cond (same_key other entry.0) entry.1 (tickets other)) k
    ∙ ap (λ (records : Key → Option Rec). written (shown entries) records k) (λ i other. over (same_key other entry.0) (tickets other) i)
  where
    over : (b : Bool) (ticket : Option Shown) → option_map record_of (cond b entry.1 ticket) ≡ cond b (option_map record_of entry.1) (option_map record_of ticket)
    over true ticket = refl
    over false ticket = refl

-- so a publication of writes leads from the records to those after the writes
pub records_taken_over : (entries : List (Key × Option Shown)) (before now : List (Key × Shown)) (writes : List (Key × Option Rec)) (records : Key → Option Rec)
    → AreOfWrites (numbered entries) writes → ((k : Key) → ticket_in now k ≡ tickets_after entries (ticket_in before) k) → ((k : Key) → record_now before k ≡ records k)
    → (k : Key) → record_now now k ≡ written writes records k
records_taken_over entries before now writes records are same show k =
    ap (option_map record_of) (same k) ∙ (record_after entries (ticket_in before) k ∙ (are (record_now before) k ∙ ap (λ (r : Key → Option Rec). written writes r k) (λ i other. show other i)))
