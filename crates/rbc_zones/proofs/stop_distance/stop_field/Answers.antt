use Rattle.std.proofs.Common.{◌≡◌, ℕ, rules, sym, subst}
use Rattle.rbc_zones.specs.Concerns.{told_distance, IsToldFor}
use Rattle.rbc_zones.proofs.ToldStops.{told_rightly}
use Rattle.rbc_zones.proofs.stop_distance.stop_field.Goals as goal

pub returns-clause-told : goal.returns-clause-told
returns-clause-told c =
    let P : ℕ × ℕ → Type 0 = λ told. IsToldFor c.args.distance told.0 told.1 in
    let e : c.if-distance-le-MAX_UNITS.scale ≡ told_distance c.args.distance = search rules in
    subst P (sym e) (told_rightly c.args.distance c.requires)
