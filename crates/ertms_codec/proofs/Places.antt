-- Lemmas on variables at places.
use Rattle.std.proofs.Common.{◌≡◌, ℕ, ◌+◌, ◌/◌, ◌%◌, ◌^◌, ◌∙◌, List, drop, refl, sym, ap, arith, drop-drop, length-drop}
use Rattle.ertms_bits.specs.Bits.{number_of}
use Rattle.ertms_bits.proofs.Numbers.{AreBits-drop, number_of-first, number_of-last, number_of-below}
use Rattle.ertms_codec.specs.Layout.{value_at}
use Rattle.ertms_codec.specs.Reading.{Takes}

-- a variable that was taken stands at the place that the reader was at, and the reader is behind it now
pub takes_at : {width taken : ℕ} {before after : List ℕ} (whole : List ℕ) (place : ℕ) → before ≡ drop place whole → Takes width before taken after → (taken ≡ value_at place width whole) × (after ≡ drop (place + width) whole)
takes_at {width} whole place at t =
    (t.value ∙ ap (number_of width) at, t.rest ∙ ap (drop width) at ∙ drop-drop width place whole)

-- the same, where the next place is written in another way
pub takes_to : {width taken : ℕ} {before after : List ℕ} (whole : List ℕ) (place next : ℕ) → place + width ≡ next → before ≡ drop place whole → Takes width before taken after → (taken ≡ value_at place width whole) × (after ≡ drop next whole)
takes_to whole place next to at t =
    let taken = takes_at whole place at t in
    (taken.0, taken.1 ∙ ap (λ n. drop n whole) to)

-- of two variables that were taken as one, the first was taken, and then the second
pub takes_first : (first second : ℕ) {both taken : ℕ} {before after : List ℕ} → taken ≡ both / 2 ^ second → Takes (first + second) before both after → Takes first before taken (drop first before)
takes_first first second {both} {taken} {before} {after} part t =
    let is : taken ≡ number_of first before = part ∙ ap (λ n. n / 2 ^ second) t.value ∙ number_of-first first second before t.bits in
    record {
      value = is;
      small = rw is (number_of-below first before t.bits);
      rest = refl;
      left = rw length-drop (omega (arith, t.left));
      bits = t.bits;
    }

pub takes_second : (first second : ℕ) {both taken : ℕ} {before after : List ℕ} → taken ≡ both % 2 ^ second → Takes (first + second) before both after → Takes second (drop first before) taken after
takes_second first second {both} {taken} {before} {after} part t =
    let is : taken ≡ number_of second (drop first before) = part ∙ ap (λ n. n % 2 ^ second) t.value ∙ number_of-last first second before t.bits in
    let are = AreBits-drop first before t.bits in
    record {
      value = is;
      small = rw is (number_of-below second (drop first before) are);
      rest = t.rest ∙ sym (drop-drop second first before);
      left = rw length-drop (omega (arith, t.left));
      bits = are;
    }

-- bits behind a place, and then behind some more
pub further : (whole before after : List ℕ) (place count next : ℕ) → place + count ≡ next → before ≡ drop place whole → after ≡ drop count before → after ≡ drop next whole
further whole before after place count next to at behind =
    behind ∙ ap (drop count) at ∙ drop-drop count place whole ∙ ap (λ n. drop n whole) to
