-- The fields of a new area.
use Rattle.std.proofs.Common.{◌≡◌, List, ◌++◌, length, take, drop, replicate, sym, ap, ◌∙◌, subst}
use Rattle.std.proofs.lemmas.List.{drop-replicate}
use Rattle.std.proofs.Math.Seq.{take-append_seam}
use Rattle.rbc_zones.specs.declared.area.Area.TheInside.{Inside}
use Rattle.rbc_zones.specs.declared.segment.Segment.{Segment}
use Rattle.rbc_zones.specs.Segments.{AreSegments}
use Rattle.rbc_zones.specs.Inside.{padded, no_segment, IsAreaIn}

abbrev filled_with : List Segment → List Segment → Inside
filled_with front segments = record { segments = front ++ drop (length segments) (replicate 8 no_segment); count = length segments }

filled_is : (segments : List Segment) → AreSegments segments → IsAreaIn (filled_with segments segments)
filled_is segments h =
    let all = segments ++ drop (length segments) (replicate 8 no_segment) in
    let front : take (length segments) all ≡ segments = take-append_seam segments _ in
    record {
      few = h.few;
      padded = ap (λ rest. segments ++ rest) (drop-replicate (length segments) 8 no_segment) ∙ sym (ap padded front);
      sound = subst AreSegments (sym front) h;
    }

-- segments copied before padding are an area
pub is_area : (segments front : List Segment) → AreSegments segments → front ≡ segments → IsAreaIn (filled_with front segments)
is_area segments front h e = subst (λ (front : List Segment). IsAreaIn (filled_with front segments)) (sym e) (filled_is segments h)
