-- What becomes of alarms, one after another.
use Rattle.std.proofs.Common.{◌≡◌, ℕ, zero, suc, ◌+◌, ◌<◌, ◌≤◌, List, [], ◌∷◌, ◌++◌, map, drop, get_or, length, refl, sym, ap, ◌∙◌, arith}
use Rattle.std.specs.List.{flat_map}
use Rattle.std.proofs.lemmas.List.{get_or_default}
use Rattle.rbc_live.specs.declared.alarm.Alarm.{Alarm}
use Rattle.rbc_live.specs.declared.alarm.Change.{Change}
use Rattle.rbc_live.specs.declared.alarm.Change.TheVariants.{Raised}
use Rattle.rbc_live.specs.Alarms.{and_then, change_line, changes}
use Rattle.rbc_settle.proofs.SettleLoop.{left_at}

module _ (input engine : ℕ) where
  abbrev pub lines : List Change → List ℕ
  lines all = flat_map (change_line input engine) all

drop_past : {X : Type 0} (xs : List X) (i : ℕ) → length xs ≤ i → drop i xs ≡ []
drop_past [] zero past = refl
drop_past [] (suc i) past = refl
drop_past (x ∷ xs) zero past = absurd (omega (arith, past))
drop_past (x ∷ xs) (suc i) past = drop_past xs i (omega (arith, past))

module _ (input engine : ℕ) (old : List Alarm) (i : ℕ) (all : List ℕ) where
  -- what becomes of one more
  pub one_more_changed : (d : Alarm) (text new : List ℕ) (left now : List Alarm) → i < length old
      → ((later : List Alarm → List Change) → new ++ lines input engine (later now) ≡ text ++ lines input engine (and_then (get_or old i d) later left))
      → text ++ lines input engine (changes (drop i old) left) ≡ all → new ++ lines input engine (changes (drop (i + 1) old) now) ≡ all
  one_more_changed d text new left now within each before =
      each (changes (drop (i + 1) old))
      ∙ ap (λ (rest : List Alarm). text ++ lines input engine (changes rest left)) (sym (left_at old i (get_or old i d) within (get_or_default old i d (get_or old i d) within))) ∙ before

  -- nothing that stood is left
  pub all_changed : (text new : List ℕ) (left : List Alarm) → length old ≤ i → new ≡ text ++ lines input engine (map Raised left)
      → text ++ lines input engine (changes (drop i old) left) ≡ all → new ≡ all
  all_changed text new left past raised before =
      raised ∙ ap (λ (rest : List Alarm). text ++ lines input engine (changes rest left)) (sym (drop_past old i past)) ∙ before
