-- The texts of parts, one behind the other, are the lines of all outboxes.
use Rattle.std.proofs.Common.{◌≡◌, ℕ, zero, suc, ◌+◌, ◌-◌, ◌*◌, ◌/◌, ◌<◌, ◌≤◌, List, [], ◌∷◌, ◌++◌, length, take, drop, Result, Ok, Err, IfOk, refl, sym, ap, ap₂, subst, ◌∙◌, append_assoc, append-nil, arith}
use Rattle.std.specs.Prelude.{slice_index_or}
use Rattle.std.specs.List.{flat_map}
use Rattle.std.specs.declared.vec.Vec.{Vec}
use Rattle.std.specs.declared.alloc.AllocError.{AllocError}
use Rattle.std.specs.declared.alloc.Global.{Global}
use Rattle.std.proofs.lemmas.List.{drop-drop, drop_all, take-append-drop}
use Rattle.std.proofs.lemmas.List.Concat.{flat_map-append}
use Rattle.std.proofs.lemmas.Nat.{mul-le, mul-add-lt, div-mul-add, div-add-mod', div_below, row-Below, le-div}
use Rattle.rbc_engine.specs.Mail.{Mail}
use Rattle.rbc_text.specs.OutputText.{outbox_lines}
use Rattle.rbc_batch.specs.Parts.{part_start, lines_of_part, bytes_of, AreMade}

-- no part begins behind the last outbox
pub start_within : (outboxes parts part : ℕ) → 0 < parts → part ≤ parts → part_start outboxes parts part ≤ outboxes
start_within outboxes parts part some within =
    let fits = mul-le outboxes part outboxes parts (omega arith) within in
    let room = mul-add-lt outboxes parts 0 (outboxes + 1) (omega arith) some in
    let below = (row-Below (outboxes * part) parts parts (outboxes + 1) (omega (arith, fits, room)) (omega arith)).1 in
    omega (arith, below)

-- each part begins at or behind the one before it
pub start_ascends : (outboxes parts part : ℕ) → 0 < parts → part_start outboxes parts part ≤ part_start outboxes parts (part + 1)
start_ascends outboxes parts part some =
    let whole = div-add-mod' (outboxes * part) parts in
    let more = mul-le outboxes part outboxes (part + 1) (omega arith) (omega arith) in
    le-div (outboxes * part / parts) (outboxes * (part + 1)) parts some (omega (arith, whole, more))

-- the first part begins with the first outbox
start_first : (outboxes parts : ℕ) → 0 < parts → part_start outboxes parts 0 ≡ 0
start_first outboxes parts some =
    let below = div_below (outboxes * 0) parts 1 some (omega (arith, some)) in
    omega (arith, below)

-- behind the last part there is no outbox
start_last : (outboxes parts : ℕ) → 0 < parts → part_start outboxes parts parts ≡ outboxes
start_last outboxes parts some =
    let same : outboxes * parts ≡ outboxes * parts + 0 = omega arith in
    ap (λ (n : ℕ). n / parts) same ∙ div-mul-add outboxes parts 0 some

-- so many texts, one behind the other
abbrev spread : (ℕ → List ℕ) → ℕ → List ℕ
spread lines zero = []
spread lines (suc n) = lines 0 ++ spread (λ i. lines (i + 1)) n

one_more : (n : ℕ) → n + 1 ≡ suc n
one_more n = omega arith

-- the texts of parts, of which each was made
all_bytes : (texts : List (Result (Vec ℕ Global) AllocError)) (lines : ℕ → List ℕ) → AreMade texts
    → ((i : ℕ) (d : Result (Vec ℕ Global) AllocError) → i < length texts → IfOk (slice_index_or texts i d) (λ text. text.items ≡ lines i)) → flat_map bytes_of texts ≡ spread lines (length texts)
all_bytes [] lines made each = refl
all_bytes (Ok text ∷ texts) lines made each =
    ap₂ (λ (xs ys : List ℕ). xs ++ ys) (each 0 (Ok text) (omega arith))
    (all_bytes texts (λ i. lines (i + 1)) made
    (λ i d within. subst (λ (k : ℕ). IfOk (slice_index_or (Ok text ∷ texts) k d) (λ t. t.items ≡ lines (i + 1))) (one_more i) (each (i + 1) d (omega (arith, within)))))
all_bytes (Err refused ∷ texts) lines made each = absurd made

-- the lines of ranges that follow one another, and those behind the last of them
ranges : {X : Type 0} (line : X → List ℕ) (xs : List X) (start : ℕ → ℕ) (n : ℕ) → ((i : ℕ) → start i ≤ start (i + 1))
    → spread (λ i. flat_map line (take (start (i + 1) - start i) (drop (start i) xs))) n ++ flat_map line (drop (start n) xs) ≡ flat_map line (drop (start 0) xs)
ranges line xs start zero ascends = refl
ranges {X} line xs start (suc n) ascends =
    let from = start 0 in
    let count = start 1 - start 0 in
    let rest : List X = drop from xs in
    let first = flat_map line (take count rest) in
    let others = spread (λ i. flat_map line (take (start (i + 1 + 1) - start (i + 1)) (drop (start (i + 1)) xs))) n in
    let up = ascends 0 in
    let next : start 1 ≡ from + count = omega (arith, up) in
    append_assoc first others (flat_map line (drop (start (suc n)) xs))
    ∙ ap (λ (k : ℕ). first ++ (others ++ flat_map line (drop (start k) xs))) (sym (one_more n))
    ∙ ap (λ (ys : List ℕ). first ++ ys) (ranges line xs (λ i. start (i + 1)) n (λ i. ascends (i + 1)))
    ∙ ap (λ (k : ℕ). first ++ flat_map line (drop k xs)) next
    ∙ ap (λ (ys : List X). first ++ flat_map line ys) (sym (drop-drop count from xs))
    ∙ sym (flat_map-append line (take count rest) (drop count rest))
    ∙ ap (λ (ys : List X). flat_map line ys) (take-append-drop count rest)

-- the lines of all parts are those of all outboxes
all_parts : (outboxes : List (ℕ × List Mail)) (parts : ℕ) → 0 < parts → spread (lines_of_part outboxes parts) parts ≡ flat_map outbox_lines outboxes
all_parts outboxes parts some =
    let start : ℕ → ℕ = part_start (length outboxes) parts in
    let lines = spread (lines_of_part outboxes parts) parts in
    let last : length outboxes ≤ start parts = omega (arith, start_last (length outboxes) parts some) in
    sym (append-nil lines)
    ∙ ap (λ (ys : List (ℕ × List Mail)). lines ++ flat_map outbox_lines ys) (sym (drop_all (start parts) outboxes last))
    ∙ ranges outbox_lines outboxes start parts (λ i. start_ascends (length outboxes) parts i some)
    ∙ ap (λ (k : ℕ). flat_map outbox_lines (drop k outboxes)) (start_first (length outboxes) parts some)

-- the texts of all parts behind the lines of the results are the output text
pub output_joined : (outboxes : List (ℕ × List Mail)) (parts : ℕ) (texts : List (Result (Vec ℕ Global) AllocError)) (results old new : List ℕ) → 0 < parts → length texts ≡ parts
    → ((i : ℕ) (d : Result (Vec ℕ Global) AllocError) → i < parts → IfOk (slice_index_or texts i d) (λ text. text.items ≡ lines_of_part outboxes parts i))
    → AreMade texts → old ≡ results → new ≡ old ++ flat_map bytes_of texts → new ≡ results ++ flat_map outbox_lines outboxes
output_joined outboxes parts texts results old new some count each made same behind =
    let bytes = all_bytes texts (lines_of_part outboxes parts) made (λ i d within. each i d (omega (arith, count, within))) in
    behind
    ∙ ap₂ (λ (xs ys : List ℕ). xs ++ ys) same (bytes ∙ ap (λ (n : ℕ). spread (lines_of_part outboxes parts) n) count ∙ all_parts outboxes parts some)
