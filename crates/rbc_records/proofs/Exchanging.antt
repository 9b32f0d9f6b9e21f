-- Writes done one after another, with what they replaced left in their places.
use Rattle.std.proofs.Common.{◌≡◌, ℕ, ◌+◌, ◌<◌, List, [], ◌∷◌, ◌++◌, Option, length, get_or, set, take, drop, sym, ap, ◌∙◌, append_assoc, arith}
use Rattle.std.proofs.lemmas.List.{take_more_set, drop-set-lt, at_drop_more}
use Rattle.rbc_records.specs.declared.record.Key.{Key}
use Rattle.rbc_records.specs.declared.record.Rec.{Rec}
use Rattle.rbc_records.specs.Writes.{written, write_over, replaced}

-- the next write is done
module _ (all : List (Key × Option Rec)) (i : ℕ) (write : Key × Option Rec) (within : i < length all) (at : write ≡ get_or all i write)
    (old new : Key → Option Rec) (over : (k : Key) → new k ≡ write_over write old k) where
  -- what is left of the writes gives what it gave with this one
  pub written_more : (rec : Option Rec) (k : Key) → written (drop (i + 1) (set all i (write.0, rec))) new k ≡ written (drop i all) old k
  written_more rec k =
      ap (λ (writes : List (Key × Option Rec)). written writes new k) (drop-set-lt (i + 1) all i (write.0, rec) (omega arith))
      ∙ ap (λ (records : Key → Option Rec). written (drop (i + 1) all) records k) (λ j q. over q j)
      ∙ ap (λ (w : Key × Option Rec). written (drop (i + 1) all) (write_over w old) k) at
      ∙ sym (at_drop_more (λ (writes : List (Key × Option Rec)). written writes old k) all i write within)

  -- and what this one replaced stands in its place
  pub replaced_more : let more = set all i (write.0, old write.0) in take (i + 1) more ++ replaced (drop (i + 1) more) new ≡ take i all ++ replaced (drop i all) old
  replaced_more =
      let rest = drop (i + 1) all in
      ap (λ (front : List (Key × Option Rec)). front ++ replaced (drop (i + 1) (set all i (write.0, old write.0))) new) (take_more_set all i (write.0, old write.0) within)
      ∙ ap (λ (writes : List (Key × Option Rec)). (take i all ++ (write.0, old write.0) ∷ []) ++ replaced writes new) (drop-set-lt (i + 1) all i (write.0, old write.0) (omega arith))
      ∙ ap (λ (records : Key → Option Rec). (take i all ++ (write.0, old write.0) ∷ []) ++ replaced rest records) (λ j q. over q j)
      ∙ append_assoc (take i all) ((write.0, old write.0) ∷ []) (replaced rest (write_over write old))
      ∙ ap (λ (w : Key × Option Rec). take i all ++ replaced (w ∷ rest) old) at
      ∙ ap (λ (writes : List (Key × Option Rec)). take i all ++ writes) (sym (at_drop_more (λ (writes : List (Key × Option Rec)). replaced writes old) all i write within))
