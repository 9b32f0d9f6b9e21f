-- What the present numbers mean.
use Rattle.std.proofs.Common.{◌≡◌, ℕ, Bool, true, false, cond, List, [], ◌∷◌, Option, sym, ap, ◌∙◌}
use Rattle.std.proofs.lemmas.List.Elements.{All-nil, All-cons, All-head, All-tail}
use Rattle.rbc_records.specs.declared.record.Key.{Key}
use Rattle.rbc_records.specs.declared.record.Rec.{Rec}
use Rattle.rbc_records.specs.Notes.{same_key, AreNow}
use Rattle.rbc_records.specs.Writes.{written, write_over}
use Rattle.rbc_versions.specs.Entries.{NumberedRec, AreCurrent, AreOfWrites, records_of, numbers_after}
use Rattle.rbc_core.specs.Events.{Meaning, record_at, AreMeant}

-- each key has a number that means the record that stands there
abbrev pub Mean : Meaning → (Key → ℕ) → (Key → Option Rec) → Type 0
Mean means numbers records = (k : Key) → record_at means (numbers k) ≡ records k

module _ (means : Meaning) where
  -- the number of an entry means its record
  abbrev MeansRecord : Key × NumberedRec → Type 0
  MeansRecord entry = record_at means entry.1.number ≡ entry.1.rec

  -- numbers that are the present ones mean the records that stand there
  pub current_now : (entries : List (Key × NumberedRec)) (numbers : Key → ℕ) (records : Key → Option Rec) → Mean means numbers records → AreMeant means entries → AreCurrent entries numbers → AreNow (records_of entries) records
  current_now [] numbers records mean meant current = All-nil (λ (note : Key × Option Rec). records note.0 ≡ note.1)
  current_now (entry ∷ entries) numbers records mean meant current =
      let number : entry.1.number ≡ numbers entry.0 = All-head (λ (e : Key × NumberedRec). e.1.number ≡ numbers e.0) entry entries current in
      let said : record_at means entry.1.number ≡ entry.1.rec = All-head MeansRecord entry entries meant in
      All-cons (λ (note : Key × Option Rec). records note.0 ≡ note.1) (entry.0, entry.1.rec) (records_of entries)
      (sym (mean entry.0) ∙ (ap (record_at means) (sym number) ∙ said))
      (current_now entries numbers records mean (All-tail MeansRecord entry entries meant) (All-tail (λ (e : Key × NumberedRec). e.1.number ≡ numbers e.0) entry entries current))

  -- after entries they mean the records after what the entries mean
  mean_after : (entries : List (Key × NumberedRec)) (numbers : Key → ℕ) (records : Key → Option Rec) → Mean means numbers records → AreMeant means entries → Mean means (numbers_after entries numbers) (written (records_of entries) records)
  mean_after [] numbers records mean meant k = mean k
  mean_after (entry ∷ entries) numbers records mean meant k =
      mean_after entries (λ other. cond (same_key other entry.0) entry.1.number (numbers other)) (write_over (entry.0, entry.1.rec) records) (λ other. over (same_key other entry.0) other)
      (All-tail MeansRecord entry entries meant) k
    where
      over : (b : Bool) (other : Key) → record_at means (cond b entry.1.number (numbers other)) ≡ cond b entry.1.rec (records other)
      over true other = All-head MeansRecord entry entries meant
      over false other = mean other

  -- so after a commit they mean what stands there then
  pub mean_committed : (entries : List (Key × NumberedRec)) (writes : List (Key × Option Rec)) (numbers : Key → ℕ) (records : Key → Option Rec) → Mean means numbers records → AreMeant means entries → AreOfWrites entries writes
      → Mean means (λ k. numbers_after entries numbers k) (written writes records)
  mean_committed entries writes numbers records mean meant are k = mean_after entries numbers records mean meant k ∙ are records k
