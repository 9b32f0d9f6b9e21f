-- What a look-up by key finds among entries with tickets.
use Rattle.std.proofs.Common.{ℕ, ◌≡◌, sym, ap, ◌∙◌, refl, List, [], ◌∷◌, ◌++◌, Option, Some, None, is_some, IfSome, Bool, true, false, cond, subst}
use Rattle.std.proofs.lemmas.List.Elements.{All-head, All-tail}
use Rattle.std.specs.Map.{lookup}
use Rattle.std.specs.Option.{option_map}
use Rattle.rbc_records.proofs.Keys.{eq_is, same_key_is}
use Rattle.rbc_versions.proofs.Learning.{found_is_noted, found_is_note}
use Rattle.rbc_records.specs.declared.record.Key.{Key}
use Rattle.rbc_records.specs.declared.record.Rec.{Rec}
use Rattle.rbc_records.specs.contracts.record.KeyPartialEq.TheImpl.{eq-value}
use Rattle.rbc_records.specs.Notes.{note_in, is_noted, same_key, IsNotedOnce}
use Rattle.rbc_versions.specs.Log.{LogName, Shown, IsOf, number_of}
use Rattle.rbc_versions.specs.Entries.{AreOf, shown, record_of, numbered, number_for}

-- among the records that the tickets show it finds what the found ticket shows
found_shown : (entries : List (Key × Option Shown)) (k : Key) → lookup (eq-value.it k) (shown entries) ≡ option_map (option_map record_of) (lookup (eq-value.it k) entries)
found_shown [] k = refl
found_shown (entry ∷ entries) k = by (eq-value.it k entry.0) (found_shown entries k)
  where
    by : (b : Bool) → lookup (eq-value.it k) (shown entries) ≡ option_map (option_map record_of) (lookup (eq-value.it k) entries)
        → cond b (Some (option_map record_of entry.1)) (lookup (eq-value.it k) (shown entries)) ≡ option_map (option_map record_of) (cond b (Some entry.1) (lookup (eq-value.it k) entries))
    by true rest = refl
    by false rest = rest

found_mapped : {X Y : Type 0} (f : X → Y) (found : Option X) → is_some (option_map f found) ≡ is_some found
found_mapped f None = refl
found_mapped f (Some x) = refl

-- it finds something just where the key is noted
pub ticket_is_noted : (entries : List (Key × Option Shown)) (k : Key) → is_some (lookup (eq-value.it k) entries) ≡ is_noted (shown entries) k
ticket_is_noted entries k =
    sym (found_mapped (option_map record_of) (lookup (eq-value.it k) entries)) ∙ ap is_some (sym (found_shown entries k)) ∙ found_is_noted (shown entries) k

-- and the ticket that it finds shows the note
pub ticket_is_note : (entries : List (Key × Option Shown)) (k : Key) (ticket : Option Shown) → lookup (eq-value.it k) entries ≡ Some ticket → option_map record_of ticket ≡ note_in (shown entries) k
ticket_is_note entries k ticket found =
    sym (found_is_note (shown entries) k (option_map record_of ticket) (found_shown entries k ∙ ap (option_map (option_map record_of)) found))

absent_is_none : {X : Type 0} (found : Option X) → is_some found ≡ false → found ≡ None
absent_is_none None h = refl
absent_is_none (Some x) h = cc

pub no_ticket : (entries : List (Key × Option Shown)) (k : Key) → is_noted (shown entries) k ≡ false → lookup (eq-value.it k) entries ≡ None
no_ticket entries k absent = absent_is_none (lookup (eq-value.it k) entries) (ticket_is_noted entries k ∙ absent)

-- what it finds is of the log, if all are
pub ticket_is_of : (log : LogName) (entries : List (Key × Option Shown)) (k : Key) (ticket : Option Shown) → AreOf log entries → lookup (eq-value.it k) entries ≡ Some ticket → IfSome ticket (IsOf log)
ticket_is_of log [] k ticket all found = cc
ticket_is_of log (entry ∷ entries) k ticket all found =
    by (eq-value.it k entry.0) found (ticket_is_of log entries k ticket (All-tail (λ (e : Key × Option Shown). IfSome e.1 (IsOf log)) entry entries all))
  where
    own : IfSome entry.1 (IsOf log)
    own = All-head (λ (e : Key × Option Shown). IfSome e.1 (IsOf log)) entry entries all

    some : {X : Type 0} (x y : X) → Some x ≡ Some y → x ≡ y
    some x y h = cc

    by : (b : Bool) → cond b (Some entry.1) (lookup (eq-value.it k) entries) ≡ Some ticket → (lookup (eq-value.it k) entries ≡ Some ticket → IfSome ticket (IsOf log)) → IfSome ticket (IsOf log)
    by true here rest = subst (λ t. IfSome t (IsOf log)) (some entry.1 ticket here) own
    by false here rest = rest here

-- what tickets show behind one another
pub shown_append : (entries more : List (Key × Option Shown)) → shown (entries ++ more) ≡ shown entries ++ shown more
shown_append [] more = refl
shown_append (entry ∷ entries) more = ap (λ (rest : List (Key × Option Rec)). (entry.0, option_map record_of entry.1) ∷ rest) (shown_append entries more)

-- where each key stands once, it finds the ticket whose number the entries put under the key
or_else : (o : Option ℕ) (b : Bool) (n : ℕ) → b ≡ false → elim o as (λ _. Option ℕ) [ Some number ↦ Some number | None ↦ cond b (Some n) None ] ≡ o
or_else (Some number) b n is = refl
or_else None true n is = cc
or_else None false n is = refl

pub number_found : (entries : List (Key × Option Shown)) (k : Key) → IsNotedOnce (shown entries) → number_for (numbered entries) k ≡ option_map number_of (lookup (eq-value.it k) entries)
number_found [] k once = refl
number_found (entry ∷ entries) k once =
    by (same_key k entry.0) refl (number_found entries k once.1) ∙ ap (λ (b : Bool). option_map number_of (cond b (Some entry.1) (lookup (eq-value.it k) entries))) (sym (eq_is k entry.0))
  where
    by : (b : Bool) → same_key k entry.0 ≡ b → number_for (numbered entries) k ≡ option_map number_of (lookup (eq-value.it k) entries)
        → elim (number_for (numbered entries) k) as (λ _. Option ℕ) [ Some number ↦ Some number | None ↦ cond b (Some (number_of entry.1)) None ] ≡ option_map number_of (cond b (Some entry.1) (lookup (eq-value.it k) entries))
    by true is rest =
        let absent : is_noted (shown entries) k ≡ false = ap (is_noted (shown entries)) (same_key_is k entry.0 is) ∙ once.0 in
        let none : number_for (numbered entries) k ≡ None = rest ∙ ap (option_map number_of) (no_ticket entries k absent) in
        ap (λ (o : Option ℕ). elim o as (λ _. Option ℕ) [ Some number ↦ Some number | None ↦ Some (number_of entry.1) ]) none
    by false is rest = or_else (number_for (numbered entries) k) false (number_of entry.1) refl ∙ rest

pub put_number : (entries all : List (Key × Option Shown)) (k : Key) (found : Option (Option Shown)) → found ≡ lookup (eq-value.it k) entries → entries ≡ all → IsNotedOnce (shown entries)
    → option_map number_of found ≡ number_for (numbered all) k
put_number entries all k found is same once = ap (option_map number_of) is ∙ (sym (number_found entries k once) ∙ ap (λ (e : List (Key × Option Shown)). number_for (numbered e) k) same)
