-- Tickets under keys, of which the first with a key counts.
use Rattle.std.proofs.Common.{◌≡◌, sym, ap, subst, ◌∙◌, refl, List, [], ◌∷◌, Option, Some, None, IfSome, Bool, true, false, cond, ℕ, ◌+◌, ◌<◌, ◌≤◌, length, take, drop, get_or, slice_get, arith}
use Rattle.std.proofs.lemmas.List.{at_drop_more, drop_all, get_or-map, length-map}
use Rattle.std.proofs.lemmas.List.Elements.{All-map, All-more}
use Rattle.std.proofs.lemmas.Option.{get_or_from_slice_get}
use Rattle.std.specs.List.{All}
use Rattle.std.specs.Map.{lookup}
use Rattle.std.specs.Option.{option_map}
use Rattle.rbc_records.proofs.Keys.{eq_is, same_key_is, same_key_sym}
use Rattle.rbc_records.specs.declared.record.Key.{Key}
use Rattle.rbc_records.specs.declared.record.Rec.{Rec}
use Rattle.rbc_records.specs.contracts.record.KeyPartialEq.TheImpl.{eq-value}
use Rattle.rbc_records.specs.Notes.{AreNow, record_in, same_key}
use Rattle.rbc_versions.specs.Log.{LogName, Shown, IsOf, number_of}
use Rattle.rbc_versions.specs.Entries.{StandIn, AreCurrent, NumberedRec, numbered, numbered_of, shown, record_of, ticket_in, tickets_after}

-- a look-up by `==` gives the ticket that stands first
ticket_is : (tickets : List (Key × Shown)) (k : Key) → lookup (eq-value.it k) tickets ≡ ticket_in tickets k
ticket_is [] k = refl
ticket_is (entry ∷ tickets) k = λ i. cond (eq_is k entry.0 i) (Some entry.1) (ticket_is tickets k i)

-- what is looked up among the tickets is the one that stands there
pub found_in : (entries tickets : List (Key × Shown)) (k : Key) (found : Option Shown) → found ≡ lookup (eq-value.it k) entries → entries ≡ tickets → found ≡ ticket_in tickets k
found_in entries tickets k found is same = is ∙ ticket_is entries k ∙ ap (λ all. ticket_in all k) same

-- where a map answers like another after one change, so do the tickets of their entries
pub ticket_put : (old new : List (Key × Shown)) (k : Key) (ticket : Option Shown) → ((q : Key) → lookup (eq-value.it q) new ≡ cond (eq-value.it k q) ticket (lookup (eq-value.it q) old))
    → (q : Key) → ticket_in new q ≡ cond (same_key q k) ticket (ticket_in old q)
ticket_put old new k ticket h q =
    sym (ticket_is new q) ∙ h q ∙ (λ i. cond ((eq_is k q ∙ same_key_sym k q) i) ticket (ticket_is old q i))

-- tickets that stand in a log stand there with one more
pub stands_put : (log : LogName) (old new : List (Key × Shown)) (k : Key) (ticket : Option Shown) → StandIn log old
    → IfSome ticket (λ t. IsOf log t × (t.value.key ≡ k)) → ((q : Key) → ticket_in new q ≡ cond (same_key q k) ticket (ticket_in old q)) → StandIn log new
stands_put log old new k ticket stand own put q = by (same_key q k) refl (put q)
  where
    Stands : Option Shown → Type 0
    Stands t = IfSome t (λ t. IsOf log t × (t.value.key ≡ q))

    by : (b : Bool) → same_key q k ≡ b → ticket_in new q ≡ cond b ticket (ticket_in old q) → Stands (ticket_in new q)
    by true is put = subst Stands (sym put) (subst (λ (other : Key). IfSome ticket (λ t. IsOf log t × (t.value.key ≡ other))) (sym (same_key_is q k is)) own)
    by false is put = subst Stands (sym put) (stand q)

-- no tickets stand in every log, and show the records behind the last one
pub none_stand : (log : LogName) (tickets : List (Key × Shown)) → tickets ≡ [] → StandIn log tickets
none_stand log tickets none = subst (StandIn log) (sym none) (λ k. tt)

pub none_shown : (store : List (Key × Rec)) (n : ℕ) (tickets : List (Key × Shown)) → tickets ≡ [] → length store ≤ n → (k : Key) → option_map record_of (ticket_in tickets k) ≡ record_in (drop n store) k
none_shown store n tickets none past k =
    ap (λ (all : List (Key × Shown)). option_map record_of (ticket_in all k)) none ∙ sym (ap (λ (left : List (Key × Rec)). record_in left k) (drop_all n store past))

-- the ticket under a key is of the log
pub stands_of : (log : LogName) (tickets : List (Key × Shown)) (k : Key) → StandIn log tickets → IfSome (ticket_in tickets k) (IsOf log)
stands_of log tickets k stand = by (ticket_in tickets k) (stand k)
  where
    by : (ticket : Option Shown) → IfSome ticket (λ t. IsOf log t × (t.value.key ≡ k)) → IfSome ticket (IsOf log)
    by None h = tt
    by (Some t) h = h.0

-- tickets with one more give what the entry before the others gave
pub after_put : (entries : List (Key × Option Shown)) (i : ℕ) (k : Key) (ticket : Option Shown) (old new : Key → Option Shown) → i < length entries → slice_get entries i ≡ Some (k, ticket)
    → ((q : Key) → new q ≡ cond (same_key q k) ticket (old q)) → (q : Key) → tickets_after (drop (i + 1) entries) new q ≡ tickets_after (drop i entries) old q
after_put entries i k ticket old new within at put q =
    let entry : get_or entries i (k, ticket) ≡ (k, ticket) = get_or_from_slice_get entries i (k, ticket) (k, ticket) at in
    ap (λ (tickets : Key → Option Shown). tickets_after (drop (i + 1) entries) tickets q) (λ j other. put other j)
    ∙ ap (λ (e : Key × Option Shown). tickets_after (e ∷ drop (i + 1) entries) old q) (sym entry)
    ∙ sym (at_drop_more (λ (left : List (Key × Option Shown)). tickets_after left old q) entries i (k, ticket) within)

-- with the ticket of a record before those that are in, what is in are the records from that one on
pub records_put : (store : List (Key × Rec)) (i : ℕ) (k : Key) (rec : Rec) (ticket : Shown) (old new : List (Key × Shown)) → i < length store → slice_get store i ≡ Some (k, rec) → record_of ticket ≡ rec
    → ((q : Key) → ticket_in new q ≡ cond (same_key q k) (Some ticket) (ticket_in old q)) → ((q : Key) → option_map record_of (ticket_in old q) ≡ record_in (drop (i + 1) store) q)
    → (q : Key) → option_map record_of (ticket_in new q) ≡ record_in (drop i store) q
records_put store i k rec ticket old new within at same put held q =
    let entry : get_or store i (k, rec) ≡ (k, rec) = get_or_from_slice_get store i (k, rec) (k, rec) at in
    ap (option_map record_of) (put q)
    ∙ by (same_key q k) (held q)
    ∙ ap (λ (e : Key × Rec). record_in (e ∷ drop (i + 1) store) q) (sym entry)
    ∙ sym (at_drop_more (λ (left : List (Key × Rec)). record_in left q) store i (k, rec) within)
  where
    by : (b : Bool) → option_map record_of (ticket_in old q) ≡ record_in (drop (i + 1) store) q
        → option_map record_of (cond b (Some ticket) (ticket_in old q)) ≡ cond b (Some rec) (record_in (drop (i + 1) store) q)
    by true h = ap Some same
    by false h = h

-- a note that has the present number, and one that shows the present record
abbrev pub HasNumber : (Key → ℕ) → Key × Option Shown → Type 0
HasNumber numbers note = number_of note.1 ≡ numbers note.0

abbrev pub ShowsRecord : (Key → Option Rec) → Key × Option Shown → Type 0
ShowsRecord records note = records note.0 ≡ option_map record_of note.1

-- notes of which each has the present number are current
pub all_current : (notes : List (Key × Option Shown)) (numbers : Key → ℕ) → All (HasNumber numbers) notes → AreCurrent (numbered notes) numbers
all_current notes numbers each =
    All-map (λ (entry : Key × NumberedRec). entry.1.number ≡ numbers entry.0) (λ (entry : Key × Option Shown). (entry.0, numbered_of entry.1)) notes each

-- and in notes that are current each has it
pub each_current : (notes : List (Key × Option Shown)) (numbers : Key → ℕ) (i : ℕ) (k : Key) (ticket : Option Shown) → AreCurrent (numbered notes) numbers
    → i < length notes → slice_get notes i ≡ Some (k, ticket) → number_of ticket ≡ numbers k
each_current notes numbers i k ticket current within at =
    let entry : get_or notes i (k, ticket) ≡ (k, ticket) = get_or_from_slice_get notes i (k, ticket) (k, ticket) at in
    let long : length (numbered notes) ≡ length notes = length-map notes (λ (entry : Key × Option Shown). (entry.0, numbered_of entry.1)) in
    let here : get_or (numbered notes) i (k, numbered_of ticket) ≡ (k, numbered_of ticket) =
    get_or-map (λ (entry : Key × Option Shown). (entry.0, numbered_of entry.1)) notes i (k, ticket) (k, numbered_of ticket) within
    ∙ ap (λ (entry : Key × Option Shown). (entry.0, numbered_of entry.1)) entry in
    subst (λ (entry : Key × NumberedRec). entry.1.number ≡ numbers entry.0) here (current i (k, numbered_of ticket) (omega arith))

-- notes of which each shows the present record are what stands there now
pub all_now : (notes : List (Key × Option Shown)) (records : Key → Option Rec) → All (ShowsRecord records) notes → AreNow (shown notes) records
all_now notes records each =
    All-map (λ (note : Key × Option Rec). records note.0 ≡ note.1) (λ (entry : Key × NumberedRec). (entry.0, entry.1.rec)) (numbered notes)
    (All-map (λ (entry : Key × NumberedRec). records entry.0 ≡ entry.1.rec) (λ (entry : Key × Option Shown). (entry.0, numbered_of entry.1)) notes each)

-- what holds of the notes before one, and of that, holds of all up to it
pub one_more : (P : Key × Option Shown → Type 0) (notes : List (Key × Option Shown)) (i : ℕ) (note : Key × Option Shown) → i < length notes → slice_get notes i ≡ Some note
    → All P (take i notes) → P note → All P (take (i + 1) notes)
one_more P notes i note within at before own = All-more P notes i note within before (subst P (sym (get_or_from_slice_get notes i note note at)) own)
