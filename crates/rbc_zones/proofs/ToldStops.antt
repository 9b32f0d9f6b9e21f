-- What is told of a distance.
use Rattle.std.proofs.Common.{◌≡◌, ℕ, zero, suc, inl, inr, ◌/◌, ◌^◌, ◌<◌, ◌≤◌, sym, subst, arith}
use Rattle.std.proofs.lemmas.Bool.{cases_lt}
use Rattle.std.proofs.lemmas.Grind.{common_steps}
use Rattle.rbc_zones.specs.Concerns.{told_distance, IsToldFor}

in_tenths : (distance : ℕ) → distance ≤ 32766 → IsToldFor distance 0 distance
in_tenths distance h = record {
  not_spare = omega arith;
  in_field = h;
  not_beyond = omega arith;
  near = omega arith;
  finest = λ finer under. absurd (omega arith);
}

finer_than_1 : (distance finer : ℕ) → 32766 < distance → finer < 1 → 32766 < distance / 10 ^ finer
finer_than_1 distance zero above under = omega arith
finer_than_1 distance (suc n) above under = absurd (omega arith)

in_metres : (distance : ℕ) → 32766 < distance → distance / 10 ≤ 32766 → IsToldFor distance 1 (distance / 10)
in_metres distance above h = record {
  not_spare = omega arith;
  in_field = h;
  not_beyond = omega arith;
  near = omega arith;
  finest = λ finer under. finer_than_1 distance finer above under;
}

finer_than_2 : (distance finer : ℕ) → 32766 < distance / 10 → finer < 2 → 32766 < distance / 10 ^ finer
finer_than_2 distance zero above under = omega arith
finer_than_2 distance (suc zero) above under = above
finer_than_2 distance (suc (suc n)) above under = absurd (omega arith)

in_tens : (distance : ℕ) → 32766 < distance / 10 → distance ≤ 3000000 → IsToldFor distance 2 (distance / 100)
in_tens distance above within = record {
  not_spare = omega arith;
  in_field = omega arith;
  not_beyond = omega arith;
  near = omega arith;
  finest = λ finer under. finer_than_2 distance finer above under;
}

scale_0 : (distance : ℕ) → distance ≤ 32766 → told_distance distance ≡ (0, distance)
scale_0 distance h = grind (arith, common_steps)

scale_1 : (distance : ℕ) → 32766 < distance → distance / 10 ≤ 32766 → told_distance distance ≡ (1, distance / 10)
scale_1 distance above h = grind (arith, common_steps)

scale_2 : (distance : ℕ) → 32766 < distance / 10 → told_distance distance ≡ (2, distance / 100)
scale_2 distance above = grind (arith, common_steps)

-- what is told is told rightly
pub told_rightly : (distance : ℕ) → distance ≤ 3000000 → IsToldFor distance (told_distance distance).0 (told_distance distance).1
told_rightly distance within =
    let P : ℕ × ℕ → Type 0 = λ told. IsToldFor distance told.0 told.1 in
    elim (cases_lt 32766 distance) [
      | inl above ↦ elim (cases_lt 32766 (distance / 10)) [
        | inl far ↦ subst P (sym (scale_2 distance far)) (in_tens distance far within)
        | inr near ↦ subst P (sym (scale_1 distance above near)) (in_metres distance above near)
      ]
      | inr few ↦ subst P (sym (scale_0 distance few)) (in_tenths distance few)
    ]
