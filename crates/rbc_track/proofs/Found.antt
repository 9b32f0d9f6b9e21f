-- What is found under a number in a plan is what the text has under that number.
use Rattle.std.proofs.Common.{◌≡◌, ℕ, Bool, true, false, not, eqb, ltb, cond, List, [], ◌∷◌, length, fold, Option, Some, None, option_map, Result, Ok, Err, IfOk, Ordering, Less, Equal, Greater, nat_cmp, is_eq, refl, sym, ap, ◌∙◌, subst, inl, inr}
use Rattle.std.specs.BTreeMap.{insert_entry}
use Rattle.std.specs.List.{list_any, list_all, find}
use Rattle.std.specs.Map.{lookup}
use Rattle.std.specs.Option.{option_map_or}
use Rattle.std.specs.Ordering.{match_ordering}
use Rattle.std.proofs.lemmas.Bool.{cases_Bool, and_parts, or_parts, eqb-true, eq-eqb, false≢true}
use Rattle.toml.specs.Data.{Members}
use Rattle.toml.specs.Parse.{parse_document}
use Rattle.rbc_track.specs.declared.document.Site.{Site}
use Rattle.rbc_track.specs.declared.group.Group.{Group}
use Rattle.rbc_track.specs.declared.error.TrackError.{TrackError}
use Rattle.rbc_track.specs.declared.error.TrackError.TheVariants.{TooManyLines, TooManyGroups, BadLength, GroupOffLine, GroupTwice}
use Rattle.rbc_track.specs.Plan.{Plan, group_of}
use Rattle.rbc_track.specs.Document.{Written, written_in}
use Rattle.rbc_track.specs.Reading.{group_at, is_length, is_on, are_apart, numbers_of, by_number, plan_of, plan_or_shape, plan_or_text, track_of, sites_in_document, FindsItsGroups, IsUnlessMemory}
use Rattle.rbc_track.proofs.Entries.{at_is, same_from_equal}

abbrev at_number : ℕ → List (ℕ × Group) → Option Group
at_number q es = lookup (λ number. eqb number q) es

abbrev written_at : ℕ → List Site → Option Site
written_at q sites = find (λ site. eqb site.nid q) sites

twice : (b : Bool) (x y : Group) (rest : Option Group) → cond b (Some x) rest ≡ cond b (Some x) (cond b (Some y) rest)
twice true x y rest = refl
twice false x y rest = refl

either : (a b : Bool) (x y : Group) (rest : Option Group) → (a ≡ true → b ≡ true → ⊥) → cond a (Some x) (cond b (Some y) rest) ≡ cond b (Some y) (cond a (Some x) rest)
either true true x y rest apart = absurd (apart refl refl)
either true false x y rest apart = refl
either false b x y rest apart = refl

put_at : (q : ℕ) (o : Ordering) (e : ℕ × Group) (es : List (ℕ × Group)) (k : ℕ) (v : Group) → o ≡ nat_cmp k e.0
    → at_number q (insert_entry nat_cmp es k v) ≡ cond (eqb k q) (Some v) (at_number q es)
    → at_number q (match_ordering o ((k, v) ∷ e ∷ es) ((e.0, v) ∷ es) (e ∷ insert_entry nat_cmp es k v)) ≡ cond (eqb k q) (Some v) (cond (eqb e.0 q) (Some e.1) (at_number q es))
put_at q Less e es k v is more = refl
put_at q Equal e es k v is more = rw (same_from_equal k e.0 Equal is refl) (twice (eqb e.0 q) v e.1 (at_number q es))
put_at q Greater e es k v is more =
    rw more (either (eqb e.0 q) (eqb k q) e.1 v (at_number q es) (λ here there.
    let same : k ≡ e.0 = eqb-true k q there ∙ sym (eqb-true e.0 q here) in
    false≢true (ap is_eq is ∙ at_is k e.0 ∙ eq-eqb k e.0 same)))

at_number-insert : (q : ℕ) (es : List (ℕ × Group)) (k : ℕ) (v : Group) → at_number q (insert_entry nat_cmp es k v) ≡ cond (eqb k q) (Some v) (at_number q es)
at_number-insert q [] k v = refl
at_number-insert q (e ∷ es) k v = put_at q (nat_cmp k e.0) e es k v refl (at_number-insert q es k v)

-- no other of these numbers is that one
none_other : (k q : ℕ) (sites : List Site) → eqb k q ≡ true → list_any (λ other. eqb k other) (numbers_of sites) ≡ false → written_at q sites ≡ None
none_other k q [] here none = refl
none_other k q (site ∷ sites) here none =
    let parts = or_parts (eqb k site.nid) (list_any (λ other. eqb k other) (numbers_of sites)) none in
    elim (cases_Bool (eqb site.nid q)) [
      | inl there ↦ absurd (false≢true (sym parts.0 ∙ eq-eqb k site.nid (eqb-true k q here ∙ sym (eqb-true site.nid q there))))
      | inr elsewhere ↦ rw elsewhere (none_other k q sites here parts.1)
    ]

abbrev or_else : Option Group → Option Group → Option Group
or_else None b = b
or_else (Some x) b = Some x

not_false : (b : Bool) → not b ≡ true → b ≡ false
not_false true e = absurd (false≢true e)
not_false false e = refl

all_at : (q : ℕ) (es : List (ℕ × Group)) (sites : List Site) → are_apart (numbers_of sites) ≡ true
    → at_number q (fold (λ more site. insert_entry nat_cmp more site.nid (group_at site)) es sites) ≡ or_else (option_map group_at (written_at q sites)) (at_number q es)
all_at q es [] apart = refl
all_at q es (site ∷ sites) apart =
    let parts = and_parts (not (list_any (λ other. eqb site.nid other) (numbers_of sites))) (are_apart (numbers_of sites)) apart in
    let next = all_at q (insert_entry nat_cmp es site.nid (group_at site)) sites parts.1 in
    let put = at_number-insert q es site.nid (group_at site) in
    elim (cases_Bool (eqb site.nid q)) [
      | inl here ↦
          next ∙ ap (λ o. or_else (option_map group_at o) (at_number q (insert_entry nat_cmp es site.nid (group_at site)))) (none_other site.nid q sites here (not_false _ parts.0))
          ∙ put ∙ ap (λ b. cond b (Some (group_at site)) (at_number q es)) here
          ∙ sym (ap (λ b. or_else (option_map group_at (cond b (Some site) (written_at q sites))) (at_number q es)) here)
      | inr elsewhere ↦
          next ∙ ap (λ o. or_else (option_map group_at (written_at q sites)) o) (put ∙ ap (λ b. cond b (Some (group_at site)) (at_number q es)) elsewhere)
          ∙ sym (ap (λ b. or_else (option_map group_at (cond b (Some site) (written_at q sites))) (at_number q es)) elsewhere)
    ]

or_none : (o : Option Group) → or_else o None ≡ o
or_none None = refl
or_none (Some x) = refl

by_number_at : (q : ℕ) (sites : List Site) → are_apart (numbers_of sites) ≡ true → at_number q (by_number sites) ≡ option_map group_at (written_at q sites)
by_number_at q sites apart = all_at q [] sites apart ∙ or_none _

-- no rule was broken
all_passed : (a b c d e : Bool) (t u v w x : TrackError) (made plan : Plan)
    → cond a (Err t) (cond b (Err u) (cond c (Err v) (cond d (Err w) (cond e (Err x) (Ok made))))) ≡ Ok plan → (e ≡ false) × (made ≡ plan)
all_passed true b c d e t u v w x made plan is = absurd (cc)
all_passed false true c d e t u v w x made plan is = absurd (cc)
all_passed false false true d e t u v w x made plan is = absurd (cc)
all_passed false false false true e t u v w x made plan is = absurd (cc)
all_passed false false false false true t u v w x made plan is = absurd (cc)
all_passed false false false false false t u v w x made plan is = (refl, cc)

not_true : (b : Bool) → not b ≡ false → b ≡ true
not_true true e = refl
not_true false e = absurd (false≢true (sym e))

finds : (written : Written) (plan : Plan) → plan_of written ≡ Ok plan → (nid : ℕ) → group_of plan nid ≡ option_map group_at (written_at nid written.sites)
finds written plan is nid =
    let made : Plan = record { horizon = written.horizon; lines = written.lengths; groups = by_number written.sites } in
    let (apart, same) =
    all_passed (ltb 64 (length written.lengths)) (ltb 8000 (length written.sites)) (not (list_all is_length written.lengths))
    (not (list_all (is_on written.lengths) written.sites)) (not (are_apart (numbers_of written.sites)))
    TooManyLines TooManyGroups BadLength GroupOffLine GroupTwice made plan is in
    subst (λ (p : Plan). group_of p nid ≡ option_map group_at (written_at nid written.sites)) same
    (by_number_at nid written.sites (not_true (are_apart (numbers_of written.sites)) apart))

finds_if_written : (written : Option Written) (plan : Plan) → plan_or_shape written ≡ Ok plan
    → (nid : ℕ) → group_of plan nid ≡ option_map group_at (written_at nid (option_map_or (λ w. w.sites) written []))
finds_if_written None plan is nid = absurd (cc)
finds_if_written (Some written) plan is nid = finds written plan is nid

finds_if_read : (document : Option Members) (plan : Plan) → plan_or_text document ≡ Ok plan
    → (nid : ℕ) → group_of plan nid ≡ option_map group_at (written_at nid (sites_in_document document))
finds_if_read None plan is nid = absurd (cc)
finds_if_read (Some members) plan is nid = finds_if_written (written_in members) plan is nid

-- a track that is read has the balise groups of its text
pub found_if_ok : (text : List ℕ) (result : Result Plan TrackError) → IsUnlessMemory (track_of text) result → IfOk result (FindsItsGroups text)
found_if_ok text (Ok plan) ends = elim ends [
  | inl read ↦ finds_if_read (parse_document text) plan (sym read)
  | inr memory ↦ absurd (cc)
]
found_if_ok text (Err error) ends = tt
