-- Lists of fields in parts.
use Rattle.std.proofs.Common.{◌≡◌, ℕ, ◌+◌, ◌∙◌, List, [], ◌∷◌, ◌++◌, length, drop, refl, sym, ap, subst, arith, length-append, drop-drop}
use Rattle.ertms_bits.specs.Bits.{number_of}
use Rattle.ertms_bits.proofs.Bits.{length-bits_of}
use Rattle.ertms_codec.specs.Layout.{Field, width_of, bits_of_fields}
use Rattle.ertms_codec.proofs.Fields.{AreAt, width_of-cons}

-- fields have as many bits as their widths say
pub length-bits_of_fields : (fields : List Field) → length (bits_of_fields fields) ≡ width_of fields
length-bits_of_fields [] = refl
length-bits_of_fields (f ∷ fields) =
    rw (length-append, length-bits_of f.width f.value, length-bits_of_fields fields) (sym (width_of-cons f fields))

-- fields behind others
pub AreAt-append : (xs ys : List Field) (place : ℕ) (bits : List ℕ) → AreAt place xs bits → AreAt (place + width_of xs) ys bits → AreAt place (xs ++ ys) bits
AreAt-append [] ys place bits at behind =
    let here : place + 0 ≡ place = omega arith in subst (λ n. AreAt n ys bits) here behind
AreAt-append (x ∷ xs) ys place bits at behind =
    let next : place + width_of (x ∷ xs) ≡ place + x.width + width_of xs = omega (arith, width_of-cons x xs) in
    (at.0, AreAt-append xs ys (place + x.width) bits at.1 (subst (λ n. AreAt n ys bits) next behind))

-- fields at places of what stands behind a start
pub AreAt-drop : (fields : List Field) (start place : ℕ) (bits : List ℕ) → AreAt place fields (drop start bits) → AreAt (start + place) fields bits
AreAt-drop [] start place bits at = tt
AreAt-drop (f ∷ fields) start place bits at =
    let next : start + (place + f.width) ≡ start + place + f.width = omega arith in
    (at.0 ∙ ap (number_of f.width) (drop-drop place start bits), subst (λ n. AreAt n fields bits) next (AreAt-drop fields start (place + f.width) bits at.1))

-- and back
pub AreAt-under : (fields : List Field) (start place : ℕ) (bits : List ℕ) → AreAt (start + place) fields bits → AreAt place fields (drop start bits)
AreAt-under [] start place bits at = tt
AreAt-under (f ∷ fields) start place bits at =
    let next : start + place + f.width ≡ start + (place + f.width) = omega arith in
    (at.0 ∙ sym (ap (number_of f.width) (drop-drop place start bits)), AreAt-under fields start (place + f.width) bits (subst (λ n. AreAt n fields bits) next at.1))
