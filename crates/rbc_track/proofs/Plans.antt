-- A plan is sound where the rules on whole lists hold.
use Rattle.std.proofs.Common.{◌≡◌, ℕ, ◌+◌, ◌≤◌, ◌<◌, zero, suc, true, false, leb, List, [], ◌∷◌, length, get_or, fold, Option, Some, None, nat_cmp, refl, sym, ap, subst, arith}
use Rattle.std.specs.BTreeMap.{insert_entry}
use Rattle.std.specs.List.{list_all, All, AllByRecursion, slice_get}
use Rattle.std.specs.List.Sorted.{IsStrictlySortedBy}
use Rattle.std.specs.Map.{keys_of}
use Rattle.std.specs.Option.{option_map_or}
use Rattle.std.proofs.lemmas.Bool.{and_parts, leb-true}
use Rattle.std.proofs.lemmas.List.Sums.{AllPass-from_list_all}
use Rattle.std.proofs.lemmas.Map.Keys.{IsStrictlyIncreasing-from_sorted}
use Rattle.std.proofs.lemmas.Option.{slice_get_within}
use Rattle.rbc_track.specs.declared.document.Site.{Site}
use Rattle.rbc_track.specs.declared.group.Group.{Group}
use Rattle.rbc_track.specs.Plan.{Plan, IsPlan, IsPlaced, IsLength}
use Rattle.rbc_track.specs.Reading.{is_length, is_on, group_at, by_number}
use Rattle.rbc_track.proofs.Entries.{EachEntry, EachEntry-insert, EachEntry-lookup, length-insert}

IsLength-from : (n : ℕ) → is_length n ≡ true → IsLength n
IsLength-from n e =
    let parts = and_parts (leb 1 n) (leb n 3000000) e in
    record { low = leb-true 1 n parts.0; high = leb-true n 3000000 parts.1 }

IsLength-at : (lengths : List ℕ) → list_all is_length lengths ≡ true → (line n : ℕ) → slice_get lengths line ≡ Some n → IsLength n
IsLength-at [] all line n found = absurd (cc)
IsLength-at (x ∷ lengths) all zero n found =
    let same : x ≡ n = cc in
    subst IsLength same (IsLength-from x (and_parts (is_length x) (list_all is_length lengths) all).0)
IsLength-at (x ∷ lengths) all (suc line) n found = IsLength-at lengths (and_parts (is_length x) (list_all is_length lengths) all).1 line n found

on_found : (o : Option ℕ) (at : ℕ) → option_map_or (λ n. leb at n) o false ≡ true → (n : ℕ) × (o ≡ Some n) × (at ≤ n)
on_found None at e = absurd (cc)
on_found (Some n) at e = (n, refl, leb-true at n e)

IsPlaced-from : (plan : Plan) (site : Site) → site.nid ≤ 16777214 → is_on plan.lines site ≡ true → IsPlaced plan site.nid (group_at site)
IsPlaced-from plan site number on =
    let (n, line, place) = on_found (slice_get plan.lines site.line) site.at on in
    record { number = number; length = n; line = line; place = place }

module _ (plan : Plan) where
  placed : (sites : List Site) → All (λ site. site.nid ≤ 16777214) sites → list_all (is_on plan.lines) sites ≡ true
      → AllByRecursion (λ site. IsPlaced plan site.nid (group_at site)) sites
  placed [] numbers on = tt
  placed (site ∷ sites) numbers on =
      let parts = and_parts (is_on plan.lines site) (list_all (is_on plan.lines) sites) on in
      (IsPlaced-from plan site (numbers 0 site (omega arith)) parts.0, placed sites (λ k d within. numbers (suc k) d (omega arith)) parts.1)

  each_put : (groups : List (ℕ × Group)) (sites : List Site) → EachEntry (IsPlaced plan) groups → AllByRecursion (λ site. IsPlaced plan site.nid (group_at site)) sites
      → EachEntry (IsPlaced plan) (fold (λ more site. insert_entry nat_cmp more site.nid (group_at site)) groups sites)
  each_put groups [] old new = old
  each_put groups (site ∷ sites) old new =
      each_put (insert_entry nat_cmp groups site.nid (group_at site)) sites (EachEntry-insert (IsPlaced plan) groups site.nid (group_at site) new.0 old) new.1

length_put : (groups : List (ℕ × Group)) (sites : List Site) → length (fold (λ more site. insert_entry nat_cmp more site.nid (group_at site)) groups sites) ≤ length groups + length sites
length_put groups [] = omega arith
length_put groups (site ∷ sites) =
    omega (arith, length_put (insert_entry nat_cmp groups site.nid (group_at site)) sites, length-insert groups site.nid (group_at site))

-- a plan of lists on which the rules hold
pub IsPlan-from : (horizon : ℕ) (lines : List ℕ) (sites : List Site) (groups : List (ℕ × Group)) → IsLength horizon → length lines ≤ 64 → length sites ≤ 8000
    → list_all is_length lines ≡ true → list_all (is_on lines) sites ≡ true → All (λ site. site.nid ≤ 16777214) sites
    → groups ≡ by_number sites → IsStrictlySortedBy nat_cmp (keys_of groups)
    → IsPlan (record { horizon = horizon; lines = lines; groups = groups })
IsPlan-from horizon lines sites groups far few_lines few_sites lengths on numbers is ascending =
    let plan : Plan = record { horizon = horizon; lines = lines; groups = groups } in
    let each : EachEntry (IsPlaced plan) groups = subst (EachEntry (IsPlaced plan)) (sym is) (each_put plan [] sites tt (placed plan sites numbers on)) in
    record {
      horizon = far;
      few_lines = few_lines;
      lines = IsLength-at lines lengths;
      few_groups = omega (arith, length_put [] sites, ap length is);
      ascending = IsStrictlyIncreasing-from_sorted (keys_of groups) ascending;
      groups = λ nid group found. EachEntry-lookup (IsPlaced plan) groups nid group each found;
    }

-- a balise group that is on one of at most 64 lines has a line number below 256
pub lines_below : (lines : List ℕ) (sites : List Site) → length lines ≤ 64 → list_all (is_on lines) sites ≡ true → All (λ site. site.line < 256) sites
lines_below lines sites few on k d within =
    let here = AllPass-from_list_all (is_on lines) sites on k d within in
    let (n, line, place) = on_found (slice_get lines (get_or sites k d).line) (get_or sites k d).at here in
    omega (arith, slice_get_within lines (get_or sites k d).line n line)
