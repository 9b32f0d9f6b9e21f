-- Balise groups are put into a map one after another, until two have the same number.
use Rattle.std.proofs.Common.{◌≡◌, ℕ, ◌+◌, ◌<◌, ◌≤◌, Bool, true, false, not, ◌&&◌, ◌||◌, eqb, cond, List, [], ◌∷◌, length, get_or, drop, fold, Option, Some, None, is_some, nat_cmp, refl, sym, ap, ◌∙◌}
use Rattle.std.specs.BTreeMap.{insert_entry, is_at}
use Rattle.std.specs.List.{list_any, list_all}
use Rattle.std.specs.Map.{lookup, keys_of}
use Rattle.std.proofs.lemmas.List.{drop_more}
use Rattle.std.proofs.Math.ListN.{drop_of_length-le}
use Rattle.rbc_track.specs.declared.document.Site.{Site}
use Rattle.rbc_track.specs.declared.group.Group.{Group}
use Rattle.rbc_track.specs.Reading.{group_at, are_apart, numbers_of, by_number}
use Rattle.rbc_track.proofs.Entries.{any-insert, found_is}

-- these groups and those of the sites, or nothing where a number is there already
abbrev pub numbered : List (ℕ × Group) → List Site → Option (List (ℕ × Group))
numbered groups [] = Some groups
numbered groups (site ∷ sites) =
    cond (is_some (lookup (is_at (nat_cmp site.nid)) groups)) None
    (numbered (insert_entry nat_cmp groups site.nid (group_at site)) sites)

-- the same, for whole lists: none of these numbers is among those
abbrev are_new : List ℕ → List ℕ → Bool
are_new there numbers = list_all (λ number. not (list_any (λ other. eqb other number) there)) numbers

abbrev all_put : List (ℕ × Group) → List Site → List (ℕ × Group)
all_put groups sites = fold (λ more site. insert_entry nat_cmp more site.nid (group_at site)) groups sites

one_more : (x l r b : Bool) → (not (x || l) && (r && not b)) ≡ ((not l && r) && not (x || b))
one_more true true r b = refl
one_more true false true b = refl
one_more true false false b = refl
one_more false true r b = refl
one_more false false true b = refl
one_more false false false b = refl

are_new-insert : (groups : List (ℕ × Group)) (k : ℕ) (v : Group) (numbers : List ℕ)
    → are_new (keys_of (insert_entry nat_cmp groups k v)) numbers ≡ (are_new (keys_of groups) numbers && not (list_any (λ other. eqb k other) numbers))
are_new-insert groups k v [] = refl
are_new-insert groups k v (n ∷ numbers) =
    ap (λ b. not b && are_new (keys_of (insert_entry nat_cmp groups k v)) numbers) (any-insert (λ other. eqb other n) groups k v)
    ∙ ap (λ b. not (eqb k n || list_any (λ other. eqb other n) (keys_of groups)) && b) (are_new-insert groups k v numbers)
    ∙ one_more (eqb k n) (list_any (λ other. eqb other n) (keys_of groups)) (are_new (keys_of groups) numbers) (list_any (λ other. eqb k other) numbers)

regroup : (a r b p : Bool) (x : List (ℕ × Group)) → cond a None (cond ((r && not b) && p) (Some x) None) ≡ cond ((not a && r) && (not b && p)) (Some x) None
regroup true r b p x = refl
regroup false true true p x = refl
regroup false true false p x = refl
regroup false false b p x = refl

numbered_from : (groups : List (ℕ × Group)) (sites : List Site)
    → numbered groups sites ≡ cond (are_new (keys_of groups) (numbers_of sites) && are_apart (numbers_of sites)) (Some (all_put groups sites)) None
numbered_from groups [] = refl
numbered_from groups (site ∷ sites) =
    let next = insert_entry nat_cmp groups site.nid (group_at site) in
    let here = list_any (λ other. eqb other site.nid) (keys_of groups) in
    ap (λ b. cond b None (numbered next sites)) (found_is site.nid groups)
    ∙ ap (λ o. cond here None o) (numbered_from next sites)
    ∙ ap (λ b. cond here None (cond (b && are_apart (numbers_of sites)) (Some (all_put next sites)) None)) (are_new-insert groups site.nid (group_at site) (numbers_of sites))
    ∙ regroup here (are_new (keys_of groups) (numbers_of sites)) (list_any (λ other. eqb site.nid other) (numbers_of sites)) (are_apart (numbers_of sites)) (all_put next sites)

all_new : (numbers : List ℕ) → are_new [] numbers ≡ true
all_new [] = refl
all_new (n ∷ numbers) = all_new numbers

-- all are put into the map exactly where no two have the same number
pub numbered_all : (sites : List Site) → numbered [] sites ≡ cond (are_apart (numbers_of sites)) (Some (by_number sites)) None
numbered_all sites =
    numbered_from [] sites ∙ ap (λ b. cond (b && are_apart (numbers_of sites)) (Some (by_number sites)) None) (all_new (numbers_of sites))

apart_if : (b : Bool) (x : List (ℕ × Group)) → cond b (Some x) None ≡ None → b ≡ false
apart_if true x e = absurd (cc)
apart_if false x e = refl

pub twice_from_none : (sites : List Site) → numbered [] sites ≡ None → are_apart (numbers_of sites) ≡ false
twice_from_none sites none = apart_if (are_apart (numbers_of sites)) (by_number sites) (sym (numbered_all sites) ∙ none)

both_if : (b : Bool) (x y : List (ℕ × Group)) → cond b (Some x) None ≡ Some y → (b ≡ true) × (y ≡ x)
both_if true x y e = (refl, cc)
both_if false x y e = absurd (cc)

pub apart_from_some : (sites : List Site) (groups : List (ℕ × Group)) → numbered [] sites ≡ Some groups → (are_apart (numbers_of sites) ≡ true) × (groups ≡ by_number sites)
apart_from_some sites groups some = both_if (are_apart (numbers_of sites)) (by_number sites) groups (sym (numbered_all sites) ∙ some)

module _ (groups : List (ℕ × Group)) (sites : List Site) (i : ℕ) where
  more : (d : Site) → i < length sites
      → numbered groups (drop i sites)
      ≡ cond (is_some (lookup (is_at (nat_cmp (get_or sites i d).nid)) groups)) None
      (numbered (insert_entry nat_cmp groups (get_or sites i d).nid (group_at (get_or sites i d))) (drop (i + 1) sites))
  more d within = ap (numbered groups) (drop_more sites i d within)

  -- the next site has a number that is there
  pub twice_at : (d : Site) → i < length sites → is_some (lookup (is_at (nat_cmp (get_or sites i d).nid)) groups) ≡ true
      → numbered groups (drop i sites) ≡ numbered [] sites → are_apart (numbers_of sites) ≡ false
  twice_at d within there so_far =
      let rest = numbered (insert_entry nat_cmp groups (get_or sites i d).nid (group_at (get_or sites i d))) (drop (i + 1) sites) in
      twice_from_none sites (sym so_far ∙ more d within ∙ ap (λ b. cond b None rest) there)

  -- the next site has a new number
  pub numbered_more : (d : Site) (next : List (ℕ × Group)) → i < length sites → is_some (lookup (is_at (nat_cmp (get_or sites i d).nid)) groups) ≡ false
      → next ≡ insert_entry nat_cmp groups (get_or sites i d).nid (group_at (get_or sites i d))
      → numbered groups (drop i sites) ≡ numbered [] sites → numbered next (drop (i + 1) sites) ≡ numbered [] sites
  numbered_more d next within new is so_far =
      let rest = numbered (insert_entry nat_cmp groups (get_or sites i d).nid (group_at (get_or sites i d))) (drop (i + 1) sites) in
      ap (λ es. numbered es (drop (i + 1) sites)) is ∙ sym (more d within ∙ ap (λ b. cond b None rest) new) ∙ so_far

  -- no site is left
  pub numbered_end : length sites ≤ i → numbered groups (drop i sites) ≡ numbered [] sites → (are_apart (numbers_of sites) ≡ true) × (groups ≡ by_number sites)
  numbered_end past so_far =
      apart_from_some sites groups (sym so_far ∙ ap (numbered groups) (drop_of_length-le sites past))
