use Rattle.std.proofs.Common.{◌≡◌, ◌&&◌, rules, tests, sym, ap, ◌∙◌}
use Rattle.std.specs.List.{list_all}
use Rattle.std.proofs.lemmas.Bool.{le-leb}
use Rattle.std.proofs.lemmas.Iterator.{YieldsList-from_slice}
use Rattle.std.proofs.lemmas.Iterator.Search.{all_from_yields_List}
use Rattle.rbc_zones.specs.Segments.{is_good_segment}
use Rattle.rbc_zones.proofs.area.is_good_area.Goals as goal

pub returns-then-segments-le-MAX_SEGMENTS-clause-good : goal.returns-then-segments-le-MAX_SEGMENTS-clause-good
returns-then-segments-le-MAX_SEGMENTS-clause-good c =
    let good = list_all (is_good_segment c.args.track.now) c.args.segments.now in
    let all : c.all.result ≡ good =
    all_from_yields_List (is_good_segment c.args.track.now) _ _ _ c.all.ensures.ran (YieldsList-from_slice c.args.segments.now cc) (λ x b q k. search (rules, tests)) in
    all ∙ sym (ap (λ few. few && good) (le-leb _ _ c.if-segments-le-MAX_SEGMENTS.true))
