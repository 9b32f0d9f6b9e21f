-- What it does to the entries of a publication to put one more ticket among them.
use Rattle.std.proofs.Common.{◌≡◌, sym, ap, subst, ◌∙◌, refl, List, [], ◌∷◌, Option, Some, IfSome, Bool, true, false, cond, ◌||◌, ◌+◌, ◌<◌, ℕ, length, drop, get_or, slice_get}
use Rattle.std.proofs.lemmas.List.{at_drop_more}
use Rattle.std.proofs.lemmas.List.Elements.{All-nil, All-cons, All-head, All-tail}
use Rattle.std.proofs.lemmas.Option.{get_or_from_slice_get}
use Rattle.std.specs.Option.{option_map}
use Rattle.std.proofs.lemmas.Bool.{or_parts}
use Rattle.indexmap.specs.IndexMap.{insert_entry}
use Rattle.rbc_records.proofs.Keys.{same_key_is, same_key_sym}
use Rattle.rbc_records.specs.declared.record.Key.{Key}
use Rattle.rbc_records.specs.declared.record.Rec.{Rec}
use Rattle.rbc_records.specs.Notes.{IsNotedOnce, is_noted, same_key}
use Rattle.rbc_records.specs.Writes.{written, write_over}
use Rattle.rbc_versions.specs.Log.{LogName, Shown, IsOf}
use Rattle.rbc_versions.specs.Entries.{AreKeyedOf, shown, record_of}

abbrev Note : Type 0
Note = Key × Option Rec

-- what is written under a key hangs on what stood under that key alone
written_at : (notes : List Note) (one other : Key → Option Rec) (k : Key) → one k ≡ other k → written notes one k ≡ written notes other k
written_at [] one other k same = same
written_at (note ∷ notes) one other k same =
    written_at notes (write_over note one) (write_over note other) k (ap (λ (rec : Option Rec). cond (same_key k note.0) note.1 rec) same)

-- and a key that is not named keeps what stood there
written_elsewhere : (notes : List Note) (records : Key → Option Rec) (k : Key) → is_noted notes k ≡ false → written notes records k ≡ records k
written_elsewhere [] records k absent = refl
written_elsewhere (note ∷ notes) records k absent =
    let parts = or_parts (same_key k note.0) (is_noted notes k) absent in
    written_elsewhere notes (write_over note records) k parts.1 ∙ ap (λ b. cond b note.1 (records k)) parts.0

-- the first entry is replaced
written_first : (note : Note) (notes : List Note) (rec : Option Rec) (records : Key → Option Rec) (q : Key) → is_noted notes note.0 ≡ false
    → written notes (write_over (note.0, rec) records) q ≡ write_over (note.0, rec) (written notes (write_over note records)) q
written_first note notes rec records q once = by (same_key q note.0) refl
  where
    by : (b : Bool) → same_key q note.0 ≡ b → written notes (write_over (note.0, rec) records) q ≡ write_over (note.0, rec) (written notes (write_over note records)) q
    by true is =
        let same : q ≡ note.0 = same_key_is q note.0 is in
        let absent : is_noted notes q ≡ false = ap (is_noted notes) same ∙ once in
        written_elsewhere notes (write_over (note.0, rec) records) q absent
        ∙ ap (λ b. cond b rec (records q)) is
        ∙ sym (ap (λ b. cond b rec (written notes (write_over note records) q)) is)
    by false is =
        written_at notes (write_over (note.0, rec) records) (write_over note records) q (ap (λ b. cond b rec (records q)) is ∙ sym (ap (λ b. cond b note.1 (records q)) is))
        ∙ sym (ap (λ b. cond b rec (written notes (write_over note records) q)) is)

-- notes with one more do what they did, and then its write
pub written_put : (notes : List Note) (k : Key) (rec : Option Rec) (records : Key → Option Rec) (q : Key) → IsNotedOnce notes
    → written (insert_entry same_key notes k rec) records q ≡ write_over (k, rec) (written notes records) q
written_put [] k rec records q once = refl
written_put (note ∷ notes) k rec records q once = by (same_key k note.0) refl (written_put notes k rec (write_over note records) q once.1)
  where
    by : (b : Bool) → same_key k note.0 ≡ b → written (insert_entry same_key notes k rec) (write_over note records) q ≡ write_over (k, rec) (written notes (write_over note records)) q
        → written (cond b ((note.0, rec) ∷ notes) (note ∷ insert_entry same_key notes k rec)) records q ≡ write_over (k, rec) (written notes (write_over note records)) q
    by true is rest =
        written_first note notes rec records q once.0
        ∙ ap (λ (other : Key). write_over (other, rec) (written notes (write_over note records)) q) (sym (same_key_is k note.0 is))
    by false is rest = rest

-- the key of one more is noted with the others, and no other key comes with it
not_put : (notes : List Note) (k : Key) (rec : Option Rec) (q : Key) → is_noted notes q ≡ false → same_key q k ≡ false → is_noted (insert_entry same_key notes k rec) q ≡ false
not_put [] k rec q absent differ = ap (λ b. b || false) differ
not_put (note ∷ notes) k rec q absent differ =
    let parts = or_parts (same_key q note.0) (is_noted notes q) absent in
    by (same_key k note.0) parts.0 parts.1 (not_put notes k rec q parts.1 differ)
  where
    by : (b : Bool) → same_key q note.0 ≡ false → is_noted notes q ≡ false → is_noted (insert_entry same_key notes k rec) q ≡ false
        → is_noted (cond b ((note.0, rec) ∷ notes) (note ∷ insert_entry same_key notes k rec)) q ≡ false
    by true first absent rest = ap (λ b. b || is_noted notes q) first ∙ absent
    by false first absent rest = ap (λ b. b || is_noted (insert_entry same_key notes k rec) q) first ∙ rest

-- each key stands once still
pub once_put : (notes : List Note) (k : Key) (rec : Option Rec) → IsNotedOnce notes → IsNotedOnce (insert_entry same_key notes k rec)
once_put [] k rec once = (refl, tt)
once_put (note ∷ notes) k rec once = by (same_key k note.0) refl (once_put notes k rec once.1)
  where
    by : (b : Bool) → same_key k note.0 ≡ b → IsNotedOnce (insert_entry same_key notes k rec) → IsNotedOnce (cond b ((note.0, rec) ∷ notes) (note ∷ insert_entry same_key notes k rec))
    by true is rest = (once.0, once.1)
    by false is rest = (not_put notes k rec note.0 once.0 (same_key_sym note.0 k ∙ is), rest)

-- entries show what they showed, with the record of one more put among it
pub shown_put : (entries : List (Key × Option Shown)) (k : Key) (ticket : Option Shown) → shown (insert_entry same_key entries k ticket) ≡ insert_entry same_key (shown entries) k (option_map record_of ticket)
shown_put [] k ticket = refl
shown_put (entry ∷ entries) k ticket = by (same_key k entry.0) (shown_put entries k ticket)
  where
    by : (b : Bool) → shown (insert_entry same_key entries k ticket) ≡ insert_entry same_key (shown entries) k (option_map record_of ticket)
        → shown (cond b ((entry.0, ticket) ∷ entries) (entry ∷ insert_entry same_key entries k ticket))
        ≡ cond b ((entry.0, option_map record_of ticket) ∷ shown entries) ((entry.0, option_map record_of entry.1) ∷ insert_entry same_key (shown entries) k (option_map record_of ticket))
    by true rest = refl
    by false rest = ap (λ (notes : List Note). (entry.0, option_map record_of entry.1) ∷ notes) rest

-- the ticket of an entry is of the log, and was published under its key
abbrev pub IsKeyed : LogName → Key × Option Shown → Type 0
IsKeyed log entry = IfSome entry.1 (λ ticket. IsOf log ticket × (ticket.value.key ≡ entry.0))

-- where nothing was put yet
pub none_once : (entries : List (Key × Option Shown)) → entries ≡ [] → IsNotedOnce (shown entries)
none_once entries none = subst (λ (e : List (Key × Option Shown)). IsNotedOnce (shown e)) (sym none) tt

pub none_left : (writes : List Note) (entries : List (Key × Option Shown)) (records : Key → Option Rec) (q : Key) → entries ≡ [] → written writes (written (shown entries) records) q ≡ written writes records q
none_left writes entries records q none = ap (λ (e : List (Key × Option Shown)). written writes (written (shown e) records) q) none

pub none_keyed : (log : LogName) (entries : List (Key × Option Shown)) → entries ≡ [] → AreKeyedOf log entries
none_keyed log entries none = subst (AreKeyedOf log) (sym none) (All-nil (IsKeyed log))

-- tickets that were published under their keys stay so
pub keyed_put : (log : LogName) (entries : List (Key × Option Shown)) (k : Key) (ticket : Option Shown) → AreKeyedOf log entries → IsKeyed log (k, ticket) → AreKeyedOf log (insert_entry same_key entries k ticket)
keyed_put log [] k ticket all own = All-cons (IsKeyed log) (k, ticket) [] own (All-nil (IsKeyed log))
keyed_put log (entry ∷ entries) k ticket all own = by (same_key k entry.0) refl (keyed_put log entries k ticket (All-tail (IsKeyed log) entry entries all) own)
  where
    by : (b : Bool) → same_key k entry.0 ≡ b → AreKeyedOf log (insert_entry same_key entries k ticket) → AreKeyedOf log (cond b ((entry.0, ticket) ∷ entries) (entry ∷ insert_entry same_key entries k ticket))
    by true is rest =
        All-cons (IsKeyed log) (entry.0, ticket) entries (subst (λ (other : Key). IsKeyed log (other, ticket)) (same_key_is k entry.0 is) own) (All-tail (IsKeyed log) entry entries all)
    by false is rest =
        All-cons (IsKeyed log) entry (insert_entry same_key entries k ticket) (All-head (IsKeyed log) entry entries all) rest

-- the next write is published: behind the entries the writes that are left do what they did before
pub left_put : (entries : List (Key × Option Shown)) (writes : List Note) (i : ℕ) (k : Key) (rec : Option Rec) (ticket : Option Shown) (records : Key → Option Rec) (q : Key)
    → i < length writes → slice_get writes i ≡ Some (k, rec) → option_map record_of ticket ≡ rec → IsNotedOnce (shown entries)
    → written (drop (i + 1) writes) (written (shown (insert_entry same_key entries k ticket)) records) q ≡ written (drop i writes) (written (shown entries) records) q
left_put entries writes i k rec ticket records q within at same once =
    let write : get_or writes i (k, rec) ≡ (k, rec) = get_or_from_slice_get writes i (k, rec) (k, rec) at in
    let rest : List Note = drop (i + 1) writes in
    written_at rest _ _ q
    (ap (λ (notes : List Note). written notes records q) (shown_put entries k ticket)
    ∙ written_put (shown entries) k (option_map record_of ticket) records q once
    ∙ ap (λ (r : Option Rec). write_over (k, r) (written (shown entries) records) q) same)
    ∙ ap (λ (w : Note). written rest (write_over w (written (shown entries) records)) q) (sym write)
    ∙ sym (at_drop_more (λ (left : List Note). written left (written (shown entries) records) q) writes i (k, rec) within)
