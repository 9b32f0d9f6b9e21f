-- The rows of a message, from its first bit to its last.
use Rattle.std.proofs.Common.{refl, sym, ap, subst, arith, ◌∙◌, ◌≡◌, ℕ, zero, suc, ◌+◌, ◌-◌, ◌≤◌, List, [], ◌∷◌, ◌++◌, length, drop, codes, length-drop, append-nil, append_assoc}
use Rattle.std.specs.List.{flat_map}
use Rattle.ertms_bits.specs.Bits.{AreBits, bits_of, bits_of_bytes, number_of}
use Rattle.ertms_bits.proofs.Numbers.{AreBits-drop}
use Rattle.ertms_codec.proofs.Fields.{front_is}
use Rattle.rbc_dispatch.specs.Long.{line_of, long_text}
use Rattle.rbc_dispatch.specs.Variables.{after, beginning, due, row_at, rows_from, width_of}
use Rattle.rbc_dispatch.specs.declared.stand.Row.{Row}
use Rattle.rbc_dispatch.specs.declared.stand.Stand.{Stand}
use Rattle.rbc_dispatch.specs.declared.variable.Variable.{Variable}
use Rattle.rbc_dispatch.specs.declared.variable.Variable.TheVariants.{NidMessage, LMessage, TTrain, MAck, NidLrbg, NidEngine, TTrainAcked, NidEm, QEmergencystop, QScale, DRef, QDir, DEmergencystop, NidPacket, LPacket, NidTsr, DTsr, LTsr, QFront, VTsr, NidPrvlrbg, DLrbg, QDirlrbg, QDlrbg, LDoubtover, LDoubtunder, QLength, LTrainint, VTrain, QDirtrain, MMode, MLevel, NidNtc, Passed, Fill}

-- each takes a bit at least
width_some : (variable : Variable) (left : ℕ) → 1 ≤ width_of variable left
width_some NidMessage left = omega arith
width_some LMessage left = omega arith
width_some TTrain left = omega arith
width_some MAck left = omega arith
width_some NidLrbg left = omega arith
width_some NidEngine left = omega arith
width_some TTrainAcked left = omega arith
width_some NidEm left = omega arith
width_some QEmergencystop left = omega arith
width_some QScale left = omega arith
width_some DRef left = omega arith
width_some QDir left = omega arith
width_some DEmergencystop left = omega arith
width_some NidPacket left = omega arith
width_some LPacket left = omega arith
width_some NidTsr left = omega arith
width_some DTsr left = omega arith
width_some LTsr left = omega arith
width_some QFront left = omega arith
width_some VTsr left = omega arith
width_some NidPrvlrbg left = omega arith
width_some DLrbg left = omega arith
width_some QDirlrbg left = omega arith
width_some QDlrbg left = omega arith
width_some LDoubtover left = omega arith
width_some LDoubtunder left = omega arith
width_some QLength left = omega arith
width_some LTrainint left = omega arith
width_some VTrain left = omega arith
width_some QDirtrain left = omega arith
width_some MMode left = omega arith
width_some MLevel left = omega arith
width_some NidNtc left = omega arith
width_some Passed left = omega arith
width_some Fill left = omega arith

-- the width of a row
abbrev taken : ℕ → Stand → List ℕ → ℕ
taken place at bits = (row_at place at bits).width

taken_some : (place : ℕ) (at : Stand) (bit : ℕ) (bits : List ℕ) → 1 ≤ taken place at (bit ∷ bits)
taken_some place at bit bits =
    let some = width_some (due at.next (length (bit ∷ bits))) at.left in
    omega (arith, some)

taken_within : (place : ℕ) (at : Stand) (bits : List ℕ) → taken place at bits ≤ length bits
taken_within place at bits = omega arith

-- how many rows are looked for at most makes no difference where it is enough
same_rows : (most others place : ℕ) (at : Stand) (bits : List ℕ) → length bits ≤ most → length bits ≤ others → rows_from most place at bits ≡ rows_from others place at bits
unfolding rows_from
same_rows zero zero place at [] few also = refl
same_rows zero (suc others) place at [] few also = refl
same_rows (suc most) zero place at [] few also = refl
same_rows (suc most) (suc others) place at [] few also = refl
same_rows zero others place at (bit ∷ bits) few also = absurd (omega (arith, few))
same_rows (suc most) zero place at (bit ∷ bits) few also = absurd (omega (arith, also))
same_rows (suc most) (suc others) place at (bit ∷ bits) few also =
    let width = taken place at (bit ∷ bits) in
    let some = taken_some place at bit bits in
    let left = length-drop width (bit ∷ bits) in
    ap (λ (rows : List Row). row_at place at (bit ∷ bits) ∷ rows)
    (same_rows most others (place + width) (after at (row_at place at (bit ∷ bits))) (drop width (bit ∷ bits)) (omega (arith, some, left, few)) (omega (arith, some, left, also)))

-- the rows of bits show each of them
pub shown : (most place : ℕ) (at : Stand) (bits : List ℕ) → AreBits bits → length bits ≤ most
    → flat_map (λ row. bits_of row.width row.value) (rows_from most place at bits) ≡ bits
unfolding rows_from
shown zero place at [] are few = refl
shown (suc most) place at [] are few = refl
shown zero place at (bit ∷ bits) are few = absurd (omega (arith, few))
shown (suc most) place at (bit ∷ bits) are few =
    let width = taken place at (bit ∷ bits) in
    let some = taken_some place at bit bits in
    let left = length-drop width (bit ∷ bits) in
    let rest = shown most (place + width) (after at (row_at place at (bit ∷ bits))) (drop width (bit ∷ bits)) (AreBits-drop width (bit ∷ bits) are) (omega (arith, some, left, few)) in
    ap (λ (xs : List ℕ). bits_of width (number_of width (bit ∷ bits)) ++ xs) rest
    ∙ sym (front_is width (bit ∷ bits) are (taken_within place at (bit ∷ bits)))

-- before the first row
pub begun : (bytes text : List ℕ) (at : Stand) (bits : List ℕ) → text ≡ codes "  bit width  variable             value  meaning\n" → at ≡ beginning → bits ≡ bits_of_bytes bytes
    → (most : ℕ) → length bits ≤ most → text ++ flat_map line_of (rows_from most 0 at bits) ≡ long_text bytes
begun bytes text at bits is_text is_at is_bits most few =
    let enough = subst (λ (b : List ℕ). length b ≤ most) is_bits few in
    rw (is_text, is_at, is_bits)
    (ap (λ (rows : List Row). codes "  bit width  variable             value  meaning\n" ++ flat_map line_of rows) (same_rows most (length (bits_of_bytes bytes)) 0 beginning (bits_of_bytes bytes) enough (omega arith)))

-- behind a row
one_more : (whole text new : List ℕ) (place : ℕ) (at : Stand) (bits : List ℕ) → 1 ≤ length bits → new ≡ text ++ line_of (row_at place at bits)
    → ((most : ℕ) → length bits ≤ most → text ++ flat_map line_of (rows_from most place at bits) ≡ whole)
    → (most : ℕ) → length (drop (taken place at bits) bits) ≤ most
    → new ++ flat_map line_of (rows_from most (place + taken place at bits) (after at (row_at place at bits)) (drop (taken place at bits) bits)) ≡ whole
unfolding rows_from
one_more whole text new place at [] some is so_far most few = absurd (omega (arith, some))
one_more whole text new place at (bit ∷ bits) some is so_far most few =
    let row = row_at place at (bit ∷ bits) in
    let width = taken place at (bit ∷ bits) in
    let rest = drop width (bit ∷ bits) in
    let left = length-drop width (bit ∷ bits) in
    let plenty = length (bit ∷ bits) + most in
    let before : text ++ (line_of row ++ flat_map line_of (rows_from plenty (place + width) (after at row) rest)) ≡ whole = so_far (suc plenty) (omega arith) in
    ap (λ (t : List ℕ). t ++ flat_map line_of (rows_from most (place + width) (after at row) rest)) is
    ∙ (ap (λ (rows : List Row). (text ++ line_of row) ++ flat_map line_of rows) (same_rows most plenty (place + width) (after at row) rest few (omega (arith, left)))
    ∙ (append_assoc text (line_of row) (flat_map line_of (rows_from plenty (place + width) (after at row) rest)) ∙ before))

pub behind_row : (whole text new : List ℕ) (place next_place : ℕ) (at next_at : Stand) (row : Row) (bits rest : List ℕ) → 1 ≤ length bits
    → row ≡ row_at place at bits → rest ≡ drop row.width bits → next_at ≡ after at row → next_place ≡ place + row.width → new ≡ text ++ line_of row
    → ((most : ℕ) → length bits ≤ most → text ++ flat_map line_of (rows_from most place at bits) ≡ whole)
    → (most : ℕ) → length rest ≤ most → new ++ flat_map line_of (rows_from most next_place next_at rest) ≡ whole
behind_row whole text new place next_place at next_at row bits rest some is_row is_rest is_at is_place is_new so_far most few =
    let enough = subst (λ (b : List ℕ). length b ≤ most) (is_rest ∙ ap (λ (r : Row). drop r.width bits) is_row) few in
    rw (is_rest, is_at, is_place, is_row)
    (one_more whole text new place at bits some (is_new ∙ ap (λ (r : Row). text ++ line_of r) is_row) so_far most enough)

-- behind the last row
pub all_rows : (whole text : List ℕ) (place : ℕ) (at : Stand) (bits : List ℕ) → length bits ≤ 0
    → ((most : ℕ) → length bits ≤ most → text ++ flat_map line_of (rows_from most place at bits) ≡ whole) → text ≡ whole
unfolding rows_from
all_rows whole text place at [] none so_far = sym (append-nil text) ∙ so_far 0 none
all_rows whole text place at (bit ∷ bits) none so_far = absurd (omega (arith, none))
