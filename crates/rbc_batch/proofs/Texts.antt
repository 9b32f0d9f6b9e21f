-- Texts, one behind the other.
use Rattle.std.proofs.Common.{◌≡◌, ◌∙◌, sym, ap, subst, ℕ, ◌+◌, ◌≤◌, List, [], ◌∷◌, ◌++◌, length, take, drop, Option, Some, append-nil, append_assoc, length-append, arith}
use Rattle.std.specs.Prelude.{slice_get}
use Rattle.std.specs.Io.KnownBytes.{Appends}
use Rattle.std.specs.declared.vec.Vec.{Vec}
use Rattle.std.specs.declared.alloc.Global.{Global}
use Rattle.std.proofs.Math.Seq.{take-append-add}
use Rattle.std.proofs.lemmas.List.{take_more, take_all, take-append-drop, take-append-le}
use Rattle.std.proofs.lemmas.List.Concat.{flat_map-append}
use Rattle.std.proofs.lemmas.Option.{get_or_from_slice_get, slice_get_within}
use Rattle.std.proofs.KnownBytes.{Appends-trans}
use Rattle.rbc_batch.specs.Parts.{joined}

abbrev Text : Type 0
Text = Vec ℕ Global

abbrev bytes : Text → List ℕ
bytes text = text.items

-- one more text
pub joined_more : (texts : List Text) (i : ℕ) (text : Text) → slice_get texts i ≡ Some text → joined (take (i + 1) texts) ≡ joined (take i texts) ++ text.items
joined_more texts i text at =
    let more : take (i + 1) texts ≡ take i texts ++ text ∷ [] = take_more texts i text (slice_get_within texts i text at) ∙ ap (λ t. take i texts ++ t ∷ []) (get_or_from_slice_get texts i text text at) in
    ap joined more ∙ flat_map-append bytes (take i texts) (text ∷ []) ∙ ap (λ xs. joined (take i texts) ++ xs) (append-nil text.items)

-- what is before a text, the text, and what is behind it
joined_here : (texts : List Text) (i : ℕ) (text : Text) → slice_get texts i ≡ Some text → joined texts ≡ joined (take i texts) ++ (text.items ++ joined (drop (i + 1) texts))
joined_here texts i text at =
    ap joined (sym (take-append-drop (i + 1) texts)) ∙ flat_map-append bytes (take (i + 1) texts) (drop (i + 1) texts)
    ∙ ap (λ xs. xs ++ joined (drop (i + 1) texts)) (joined_more texts i text at) ∙ append_assoc (joined (take i texts)) text.items (joined (drop (i + 1) texts))

-- no text ends behind them all
pub ends_within : (texts : List Text) (i : ℕ) (text : Text) → slice_get texts i ≡ Some text → length (joined (take i texts)) + length text.items ≤ length (joined texts)
ends_within texts i text at =
    let all = ap length (joined_here texts i text at) in
    let first = length-append (joined (take i texts)) (text.items ++ joined (drop (i + 1) texts)) in
    let second = length-append text.items (joined (drop (i + 1) texts)) in
    omega (arith, all, first, second)

-- the first bytes of a text are out, behind the texts before it
pub out_so_far : (old mid new : Option (List ℕ)) (texts : List Text) (i : ℕ) (text : Text) (sent more : ℕ) → slice_get texts i ≡ Some text → sent ≡ length (joined (take i texts)) → more ≤ length text.items
    → Appends old mid (joined (take i texts)) → Appends mid new (take more text.items) → Appends old new (take (sent + more) (joined texts))
out_so_far old mid new texts i text sent more at is few first second =
    let before = joined (take i texts) in
    let behind = joined (drop (i + 1) texts) in
    let cut : take (sent + more) (joined texts) ≡ before ++ take more text.items =
    (λ j. take (is j + more) (joined_here texts i text at j)) ∙ take-append-add before (text.items ++ behind) more ∙ ap (λ xs. before ++ xs) (take-append-le more text.items behind few) in
    subst (Appends old new) (sym cut) (Appends-trans old mid new before (take more text.items) first second)

-- behind the last text
pub all_joined : (texts : List Text) (i : ℕ) → length texts ≤ i → joined (take i texts) ≡ joined texts
all_joined texts i behind = ap joined (take_all i texts behind)
