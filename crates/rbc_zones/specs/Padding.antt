-- The fields of an area follow from its segments.
use Rattle.std.specs.Prelude.{◌≡◌, ℕ, ◌-◌, ◌+◌, ◌≤◌, List, take, length, replicate}
use Rattle.std.proofs.Common.{sym, ap, ◌∙◌, le_trans, le_of_eq, add-sub_of_le, length-append}
use Rattle.std.proofs.lemmas.List.{length-take-le, length-replicate}
use Rattle.rbc_zones.specs.declared.area.Area.TheInside.{Inside}
use Rattle.rbc_zones.specs.declared.segment.Segment.{Segment}
use Rattle.rbc_zones.specs.Inside.{padded, no_segment, IsAreaIn}

-- padded segments fill the array
all_8 : (segments : List Segment) → length segments ≤ 8 → length (padded segments) ≡ 8
all_8 segments few =
    length-append segments (replicate (8 - length segments) no_segment)
    ∙ ap (λ n. length segments + n) (length-replicate (8 - length segments) no_segment)
    ∙ add-sub_of_le few

-- the count is the number of segments that come first
counted : (all : List Segment) (count : ℕ) → count ≤ 8 → length (take count all) ≤ 8 → all ≡ padded (take count all) → length (take count all) ≡ count
counted all count within few e = length-take-le count all (le_trans within (le_of_eq (sym (ap length e ∙ all_8 (take count all) few))))

abbrev inside : List Segment → ℕ → Inside
inside all count = record { segments = all; count = count }

pub inverse_ok : (a : Inside) → IsAreaIn a → record { segments = padded (take a.count a.segments); count = length (take a.count a.segments) } ≡ a
inverse_ok a h =
    ap (λ all. inside all (length (take a.count a.segments))) (sym h.padded)
    ∙ ap (inside a.segments) (counted a.segments a.count h.few h.sound.few h.padded)
