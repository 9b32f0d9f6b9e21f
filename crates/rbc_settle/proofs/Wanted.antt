-- The numbers that are to be told: those of active entries that are not told, and concern the train.
use Rattle.std.proofs.Common.{◌≡◌, ℕ, ◌+◌, ◌≤◌, ◌⊎◌, Bool, true, false, cond, leb, List, [], ◌∷◌, Option, Some, None, refl, ap, ◌∙◌, arith, inl, inr}
use Rattle.std.specs.List.{filter_map, cons_option, AllByRecursion}
use Rattle.std.specs.Option.{option_map}
use Rattle.std.proofs.lemmas.Bool.{and_from, and_parts, leb-true}
use Rattle.rbc_maps.specs.Maps.{keys, rises_from}
use Rattle.rbc_maps.proofs.MapFacts.{rises_from-lower}
use Rattle.rbc_ids.specs.Table.{Slots, is_told}

-- an entry that is not told, with what it is told as
abbrev pub to_tell : {X T : Type 0} → Slots → (ℕ × X → Option T) → ℕ × X → Option (ℕ × T)
to_tell slots what entry = cond (is_told slots entry.0) None (option_map (λ told. (entry.0, told)) (what entry))

module _ {X T : Type 0} (slots : Slots) (what : ℕ × X → Option T) where
  -- all such entries
  abbrev pub wanted_of : List (ℕ × X) → List (ℕ × T)
  wanted_of active = filter_map (to_tell slots what) active

  -- they ascend
  pub wanted-rises : (least : ℕ) (active : List (ℕ × X)) → rises_from least (keys active) ≡ true → rises_from least (keys (wanted_of active)) ≡ true
  wanted-rises least [] rises = refl
  wanted-rises least (entry ∷ active) rises =
      let parts = and_parts (leb least entry.0) (rises_from (entry.0 + 1) (keys active)) rises in
      let above : least ≤ entry.0 = leb-true least entry.0 parts.0 in
      let rest = wanted-rises (entry.0 + 1) active parts.1 in
      let lower = rises_from-lower least (entry.0 + 1) (keys (wanted_of active)) (omega (arith, above)) rest in
      elim (is_told slots entry.0) as (λ b. rises_from least (keys (cons_option (cond b None (option_map (λ told. (entry.0, told)) (what entry))) (wanted_of active))) ≡ true) [
        | true ↦ lower
        | false ↦ elim (what entry) as (λ o. rises_from least (keys (cons_option (option_map (λ told. (entry.0, told)) o) (wanted_of active))) ≡ true) [
          | None ↦ lower
          | Some told ↦ and_from (leb least entry.0) (rises_from (entry.0 + 1) (keys (wanted_of active))) parts.0 rest
        ]
      ]

  -- what holds of each entry that is to be told holds of what is wanted
  pub all_wanted : (P : ℕ → Type 0) (active : List (ℕ × X)) → AllByRecursion (λ entry. is_told slots entry.0 ≡ false → (told : T) → what entry ≡ Some told → P entry.0) active → AllByRecursion (λ w. P w.0) (wanted_of active)
  all_wanted P [] all = tt
  all_wanted P (entry ∷ active) all =
      let rest = all_wanted P active all.1 in
      (elim (is_told slots entry.0) as (λ b. is_told slots entry.0 ≡ b → AllByRecursion (λ w. P w.0) (cons_option (cond b None (option_map (λ told. (entry.0, told)) (what entry))) (wanted_of active))) [
        | true ↦ λ is. rest
        | false ↦ λ untold. (elim (what entry) as (λ o. what entry ≡ o → AllByRecursion (λ w. P w.0) (cons_option (option_map (λ told. (entry.0, told)) o) (wanted_of active))) [
          | None ↦ λ is. rest
          | Some told ↦ λ is. (all.0 untold told is, rest)
        ]) refl
      ]) refl

  -- and the other way round
  pub each_wanted : (P : ℕ → Type 0) (active : List (ℕ × X)) → AllByRecursion (λ w. P w.0) (wanted_of active) → AllByRecursion (λ entry. is_told slots entry.0 ≡ false → (told : T) → what entry ≡ Some told → P entry.0) active
  each_wanted P [] all = tt
  each_wanted P (entry ∷ active) all =
      (elim (is_told slots entry.0) as (λ b. is_told slots entry.0 ≡ b → AllByRecursion (λ w. P w.0) (cons_option (cond b None (option_map (λ told. (entry.0, told)) (what entry))) (wanted_of active)) → (is_told slots entry.0 ≡ false → (told : T) → what entry ≡ Some told → P entry.0) × AllByRecursion (λ other. is_told slots other.0 ≡ false → (told : T) → what other ≡ Some told → P other.0) active) [
        | true ↦ λ is h. (λ untold told some. absurd (let bad : is_told slots entry.0 ≡ true = is in cc), each_wanted P active h)
        | false ↦ λ untold. (elim (what entry) as (λ o. what entry ≡ o → AllByRecursion (λ w. P w.0) (cons_option (option_map (λ told. (entry.0, told)) o) (wanted_of active)) → (is_told slots entry.0 ≡ false → (told : T) → what entry ≡ Some told → P entry.0) × AllByRecursion (λ other. is_told slots other.0 ≡ false → (told : T) → what other ≡ Some told → P other.0) active) [
          | None ↦ λ is h. (λ not_told told some. absurd (let bad : what entry ≡ None = is in cc), each_wanted P active h)
          | Some told ↦ λ is h. (λ not_told other some. h.0, each_wanted P active h.1)
        ]) refl
      ]) refl all

  -- no entry that is to be told is told
  pub wanted-untold : (active : List (ℕ × X)) → AllByRecursion (λ w. is_told slots w.0 ≡ false) (wanted_of active)
  wanted-untold active = all_wanted (λ n. is_told slots n ≡ false) active (each active)
    where
      each : (entries : List (ℕ × X)) → AllByRecursion (λ entry. is_told slots entry.0 ≡ false → (told : T) → what entry ≡ Some told → is_told slots entry.0 ≡ false) entries
      each [] = tt
      each (entry ∷ entries) = (λ untold told some. untold, each entries)

  -- where each entry is nothing to the train or told, none is wanted
  pub none_wanted : (active : List (ℕ × X)) → AllByRecursion (λ entry. (what entry ≡ None) ⊎ (is_told slots entry.0 ≡ true)) active → wanted_of active ≡ []
  none_wanted [] all = refl
  none_wanted (entry ∷ active) all = elim all.0 [
    | inl nothing ↦ (elim (is_told slots entry.0) as (λ b. cons_option (cond b None (option_map (λ told. (entry.0, told)) (what entry))) (wanted_of active) ≡ []) [
      | true ↦ none_wanted active all.1
      | false ↦ ap (λ (o : Option T). cons_option (option_map (λ told. (entry.0, told)) o) (wanted_of active)) nothing ∙ none_wanted active all.1
    ])
    | inr told ↦ ap (λ (b : Bool). cons_option (cond b None (option_map (λ told. (entry.0, told)) (what entry))) (wanted_of active)) told ∙ none_wanted active all.1
  ]
