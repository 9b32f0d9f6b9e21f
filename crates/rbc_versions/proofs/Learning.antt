-- Notes that grow at their end, and what is looked up in them.
use Rattle.std.proofs.Common.{◌≡◌, refl, sym, ap, ◌∙◌, List, [], ◌∷◌, ◌++◌, Option, Some, is_some, Bool, true, false, ◌||◌, cond}
use Rattle.std.proofs.Math.Bool.{or_comm}
use Rattle.std.proofs.lemmas.Bool.{or_parts}
use Rattle.std.proofs.lemmas.List.Folds.{list_any-append}
use Rattle.std.specs.Map.{lookup}
use Rattle.rbc_records.proofs.Keys.{eq_is, same_key_sym, same_key_own}
use Rattle.rbc_records.specs.declared.record.Key.{Key}
use Rattle.rbc_records.specs.declared.record.Rec.{Rec}
use Rattle.rbc_records.specs.contracts.record.KeyPartialEq.TheImpl.{eq-value}
use Rattle.rbc_records.specs.Notes.{Part, Learns, IsNotedOnce, note_in, is_noted, same_key}

-- a key is noted with one note more where it was, or where that note has it
noted_with : (notes : List (Key × Option Rec)) (more : Key × Option Rec) (k : Key) → is_noted (notes ++ more ∷ []) k ≡ (is_noted notes k || (same_key k more.0 || false))
noted_with notes more k = list_any-append (λ (note : Key × Option Rec). same_key k note.0) notes (more ∷ [])

noted_more : (notes : List (Key × Option Rec)) (more : Key × Option Rec) (k : Key) → is_noted notes k ≡ true → is_noted (notes ++ more ∷ []) k ≡ true
noted_more notes more k h = noted_with notes more k ∙ ap (λ b. b || (same_key k more.0 || false)) h

noted_last : (notes : List (Key × Option Rec)) (k : Key) (rec : Option Rec) → is_noted (notes ++ (k, rec) ∷ []) k ≡ true
noted_last notes k rec = noted_with notes (k, rec) k ∙ ap (λ b. is_noted notes k || (b || false)) (same_key_own k) ∙ or_comm (is_noted notes k) true

note_stays : (notes : List (Key × Option Rec)) (more : Key × Option Rec) (k : Key) → is_noted notes k ≡ true → note_in (notes ++ more ∷ []) k ≡ note_in notes k
note_stays [] more k h = cc
note_stays (note ∷ notes) more k h = by (same_key k note.0) h (note_stays notes more k)
  where
    by : (b : Bool) → (b || is_noted notes k) ≡ true → (is_noted notes k ≡ true → note_in (notes ++ more ∷ []) k ≡ note_in notes k) → cond b note.1 (note_in (notes ++ more ∷ []) k) ≡ cond b note.1 (note_in notes k)
    by true h rest = refl
    by false h rest = rest h

-- notes with one more at their end have learned its key
pub learned : (notes : List (Key × Option Rec)) (k : Key) (rec : Option Rec) → Learns (Part notes) k (Part (notes ++ (k, rec) ∷ []))
learned notes k rec = record {
  known = noted_last notes k rec;
  extends = record {
    stays_known = noted_more notes (k, rec);
    stays_noted = note_stays notes (k, rec);
  };
}

-- a look-up finds something just where a key is noted
pub found_is_noted : (notes : List (Key × Option Rec)) (k : Key) → is_some (lookup (eq-value.it k) notes) ≡ is_noted notes k
found_is_noted [] k = refl
found_is_noted (note ∷ notes) k = ap (λ (b : Bool). is_some (cond b (Some note.1) (lookup (eq-value.it k) notes))) (eq_is k note.0) ∙ by (same_key k note.0) (found_is_noted notes k)
  where
    by : (b : Bool) → is_some (lookup (eq-value.it k) notes) ≡ is_noted notes k → is_some (cond b (Some note.1) (lookup (eq-value.it k) notes)) ≡ (b || is_noted notes k)
    by true h = refl
    by false h = h

-- and finds its note
pub found_is_note : (notes : List (Key × Option Rec)) (k : Key) (rec : Option Rec) → lookup (eq-value.it k) notes ≡ Some rec → note_in notes k ≡ rec
found_is_note [] k rec h = cc
found_is_note (note ∷ notes) k rec h = by (same_key k note.0) (ap (λ (b : Bool). cond b (Some note.1) (lookup (eq-value.it k) notes)) (sym (eq_is k note.0)) ∙ h) (found_is_note notes k rec)
  where
    by : (b : Bool) → cond b (Some note.1) (lookup (eq-value.it k) notes) ≡ Some rec → (lookup (eq-value.it k) notes ≡ Some rec → note_in notes k ≡ rec) → cond b note.1 (note_in notes k) ≡ rec
    by true h rest = cc
    by false h rest = rest h

-- with a new key at their end each key of the notes stands once still
pub once_more : (notes : List (Key × Option Rec)) (k : Key) (rec : Option Rec) → IsNotedOnce notes → is_noted notes k ≡ false → IsNotedOnce (notes ++ (k, rec) ∷ [])
once_more [] k rec once absent = (refl, tt)
once_more (note ∷ notes) k rec once absent =
    let parts = or_parts (same_key k note.0) (is_noted notes k) absent in
    let differ = same_key_sym note.0 k ∙ parts.0 in
    (noted_with notes (k, rec) note.0 ∙ (λ i. once.0 i || (differ i || false)), once_more notes k rec once.1 parts.1)
