-- The first wrong word of a text, as it goes on.
use Rattle.std.proofs.Common.{◌≡◌, ℕ, ◌+◌, ◌≤◌, ◌<◌, List, [], ◌∷◌, ◌++◌, length, sym, ap, subst, inl, inr, arith}
use Rattle.ertms_codec.specs.Grammar.{Grammar, Ends, Word, Stops, Fills}
use Rattle.ertms_codec.specs.declared.wrong_word.Expected.{Expected}
use Rattle.ertms_codec.specs.declared.wrong_word.WrongWord.{WrongWord}

-- where it stands
pub stops_within : (index : ℕ) (grammar : Grammar) (words : List (List ℕ)) (wrong : WrongWord) → Stops index grammar words wrong → (index ≤ wrong.index) × (wrong.index ≤ index + length words)
stops_within index Ends [] wrong is = absurd is
stops_within index Ends (word ∷ words) wrong is = let at = ap (λ (w : WrongWord). w.index) is in (omega (arith, at), omega (arith, at))
stops_within index (Word may_end expected next) [] wrong is = let at = ap (λ (w : WrongWord). w.index) is.1 in (omega (arith, at), omega (arith, at))
stops_within index (Word may_end expected next) (word ∷ words) wrong (inl (fails, is)) = let at = ap (λ (w : WrongWord). w.index) is in (omega (arith, at), omega (arith, at))
stops_within index (Word may_end expected next) (word ∷ words) wrong (inr (fills, behind)) =
    let rest = stops_within (index + 1) (next word) words wrong behind in
    let low = rest.0 in
    let high = rest.1 in
    (omega (arith, low), omega (arith, high))

-- a word before others is the first that is wrong, whatever they are
pub stops_before : (index : ℕ) (grammar : Grammar) (front behind other : List (List ℕ)) (wrong : WrongWord) → Stops index grammar (front ++ behind) wrong → wrong.index < index + length front
    → Stops index grammar (front ++ other) wrong
stops_before index grammar [] behind other wrong is before = let low = (stops_within index grammar behind wrong is).0 in absurd (omega (arith, low, before))
stops_before index Ends (word ∷ front) behind other wrong is before = is
stops_before index (Word may_end expected next) (word ∷ front) behind other wrong (inl fails) before = inl fails
stops_before index (Word may_end expected next) (word ∷ front) behind other wrong (inr (fills, rest)) before =
    inr (fills, stops_before (index + 1) (next word) front behind other wrong rest (omega (arith, before)))

-- a word that is wrong, and another in its place that is wrong too
pub stops_at : (index : ℕ) (grammar : Grammar) (front : List (List ℕ)) (last other : List ℕ) (behind more : List (List ℕ)) (wrong : WrongWord) → Stops index grammar (front ++ last ∷ behind) wrong
    → wrong.index ≡ index + length front → (Fills wrong.expected other → ⊥) → Stops index grammar (front ++ other ∷ more) wrong
stops_at index Ends [] last other behind more wrong is here never = is
stops_at index (Word may_end expected next) [] last other behind more wrong (inl (fails, is)) here never =
    inl ((λ fills. never (subst (λ (e : Expected). Fills e other) (sym (ap (λ (w : WrongWord). w.expected) is)) fills)), is)
stops_at index (Word may_end expected next) [] last other behind more wrong (inr (fills, rest)) here never =
    let low = (stops_within (index + 1) (next last) behind wrong rest).0 in absurd (omega (arith, low, here))
stops_at index Ends (word ∷ front) last other behind more wrong is here never = is
stops_at index (Word may_end expected next) (word ∷ front) last other behind more wrong (inl fails) here never = inl fails
stops_at index (Word may_end expected next) (word ∷ front) last other behind more wrong (inr (fills, rest)) here never =
    inr (fills, stops_at (index + 1) (next word) front last other behind more wrong rest (omega (arith, here)) never)
