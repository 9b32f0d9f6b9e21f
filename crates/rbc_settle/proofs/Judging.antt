-- What is found in a table decides what is told and what is revoked.
use Rattle.std.proofs.Common.{◌≡◌, ℕ, Bool, true, false, not, ◌||◌, cond, eqb, List, [], ◌∷◌, map, Option, Some, None, is_none, is_some, option_copied, Bor, refl, sym, ap}
use Rattle.std.specs.List.{zip}
use Rattle.std.specs.Prelude.{slice_get}
use Rattle.rbc_maps.specs.Maps.{has, value_of}

none_next : {V : Type 0} (here : Bool) (value : V) (rest : Option V) (more : Bool) → is_none rest ≡ not more → is_none (cond here (Some value) rest) ≡ not (here || more)
none_next true value rest more e = refl
none_next false value rest more e = e

-- no value is found where the map does not have the key
pub value_is_none : {V : Type 0} (pairs : List (ℕ × V)) (key : ℕ) → is_none (value_of pairs key) ≡ not (has pairs key)
value_is_none [] key = refl
value_is_none (pair ∷ pairs) key = none_next (eqb pair.0 key) pair.1 (value_of pairs key) (has pairs key) (value_is_none pairs key)

some_behind : {V : Type 0} (here : Bool) (value : V) (rest : Option V) (more : Bool) → is_some rest ≡ more → is_some (cond here (Some value) rest) ≡ (here || more)
some_behind true value rest more e = refl
some_behind false value rest more e = e

-- a value is found where the map has the key
pub value_is_some : {V : Type 0} (pairs : List (ℕ × V)) (key : ℕ) → is_some (value_of pairs key) ≡ has pairs key
value_is_some [] key = refl
value_is_some (pair ∷ pairs) key = some_behind (eqb pair.0 key) pair.1 (value_of pairs key) (has pairs key) (value_is_some pairs key)

-- nothing is paired where there is no first identifier
none_zipped : {A K : Type 0} (make : K × ℕ → A) (wanted : List K) (free : List ℕ) → None ≡ slice_get free 0 → [] ≡ map make (zip wanted free)
none_zipped make [] free e = refl
none_zipped make (one ∷ wanted) [] e = refl
none_zipped make (one ∷ wanted) (id ∷ free) e = absurd (cc e)

pub none_paired : {A K : Type 0} (make : K × ℕ → A) (wanted : List K) (free : List ℕ) (first : Option ℕ) (gone : Bool) → is_some first ≡ not gone → gone ≡ true → first ≡ slice_get free 0 → [] ≡ map make (zip wanted free)
none_paired make wanted free None gone found none e = none_zipped make wanted free e
none_paired make wanted free (Some id) true found none e = absurd (cc found)
none_paired make wanted free (Some id) false found none e = absurd (cc none)

-- one map after another
pub map_of_map : {A B C : Type 0} (g : B → C) (f : A → B) (xs : List A) → map g (map f xs) ≡ map (λ x. g (f x)) xs
map_of_map g f [] = refl
map_of_map g f (x ∷ xs) = ap (λ rest. g (f x) ∷ rest) (map_of_map g f xs)

-- nothing is found behind a reference where nothing is found
pub gone_where_none : {V : Type 0} (gone : Bool) (found : Option (Bor V)) → is_some found ≡ not gone → gone ≡ is_none (option_copied found)
gone_where_none true None e = refl
gone_where_none false None e = cc
gone_where_none true (Some value) e = cc
gone_where_none false (Some value) e = refl

-- and something where something is
pub there_where_some : {V : Type 0} (there : Bool) (found : Option (Bor V)) → is_some found ≡ there → there ≡ is_some (option_copied found)
there_where_some there None e = sym e
there_where_some there (Some value) e = sym e
