-- Texts that are gathered from lists.
use Rattle.std.proofs.Common.{◌≡◌, ◌+◌, ◌||◌, ℕ, suc, Bool, true, false, Some, option_map, List, [], ◌∷◌, ◌++◌, map, filter, refl, ap, ◌∙◌, if◌then◌else◌}
use Rattle.std.specs.List.{flat_map, fold, slice_get, list_any, count_by, find}
use Rattle.std.specs.Option.{IfSome}

-- the images of images
pub map-map : {A B C : Type 0} (g : B → C) (f : A → B) (items : List A) → map (λ item. g (f item)) items ≡ map g (map f items)
map-map g f [] = refl
map-map g f (item ∷ items) = ap (λ rest. g (f item) ∷ rest) (map-map g f items)

-- what is gathered from images is what is gathered through the image
pub flat_map-map : {A B : Type 0} (texts : B → List (List ℕ)) (f : A → B) (items : List A) → flat_map (λ item. texts (f item)) items ≡ flat_map texts (map f items)
flat_map-map texts f [] = refl
flat_map-map texts f (item ∷ items) = ap (λ (ts : List (List ℕ)). texts (f item) ++ ts) (flat_map-map texts f items)

-- what is gathered from those that pass a test on their images
pub gathered : {A B : Type 0} (texts : B → List (List ℕ)) (f : A → B) (test : B → Bool) (items : List A)
    → flat_map (λ item. texts (f item)) (filter (λ item. test (f item)) items) ≡ flat_map texts (filter test (map f items))
gathered texts f test [] = refl
gathered {A} {B} texts f test (item ∷ items) = by_test (test (f item)) (gathered texts f test items) where
  by_test : (b : Bool) → flat_map (λ item. texts (f item)) (filter (λ item. test (f item)) items) ≡ flat_map texts (filter test (map f items))
      → flat_map (λ (one : A). texts (f one)) (if b then item ∷ filter (λ one. test (f one)) items else filter (λ one. test (f one)) items)
      ≡ flat_map texts (if b then f item ∷ filter test (map f items) else filter test (map f items))
  by_test true rest = ap (λ (ts : List (List ℕ)). texts (f item) ++ ts) rest
  by_test false rest = rest

-- the texts of items, each of which has the texts of its image
pub each_gathered : {A B : Type 0} (f : A → List (List ℕ)) (texts : B → List (List ℕ)) (g : A → B) (items : List A)
    → ((n : ℕ) → IfSome (slice_get items n) (λ item. f item ≡ texts (g item))) → flat_map f items ≡ flat_map texts (map g items)
each_gathered f texts g [] each = refl
each_gathered f texts g (item ∷ items) each =
    ap (λ (ts : List (List ℕ)). ts ++ flat_map f items) (each 0)
    ∙ ap (λ (ts : List (List ℕ)). texts (g item) ++ ts) (each_gathered f texts g items (λ n. each (suc n)))

-- tests, counts and searches through an image
pub any_through : {A B : Type 0} (test : B → Bool) (f : A → B) (items : List A) → list_any test (map f items) ≡ list_any (λ item. test (f item)) items
any_through test f [] = refl
any_through test f (item ∷ items) = ap (λ (b : Bool). test (f item) || b) (any_through test f items)

fold_through : {A B C : Type 0} (step : C → B → C) (f : A → B) (start : C) (items : List A) → fold step start (map f items) ≡ fold (λ now item. step now (f item)) start items
fold_through step f start [] = refl
fold_through step f start (item ∷ items) = fold_through step f (step start (f item)) items

pub count_through : {A B : Type 0} (test : B → Bool) (f : A → B) (items : List A) → count_by test (map f items) ≡ count_by (λ item. test (f item)) items
count_through {A} {B} test f items = fold_through (λ (count : ℕ) (item : B). count + (if test item then 1 else 0)) f 0 items

pub found_through : {A B : Type 0} (test : B → Bool) (f : A → B) (items : List A) → find test (map f items) ≡ option_map f (find (λ item. test (f item)) items)
found_through test f [] = refl
found_through {A} test f (item ∷ items) = by_test (test (f item)) (found_through test f items) where
  by_test : (b : Bool) → find test (map f items) ≡ option_map f (find (λ (one : A). test (f one)) items)
      → (if b then Some (f item) else find test (map f items)) ≡ option_map f (if b then Some item else find (λ (one : A). test (f one)) items)
  by_test true rest = refl
  by_test false rest = rest
