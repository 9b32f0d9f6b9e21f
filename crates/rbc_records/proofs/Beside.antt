-- Columns that stay beside the records they tell of.
use Rattle.std.proofs.Common.{◌≡◌, ℕ, ◌+◌, ◌-◌, ◌<◌, ◌≤◌, Bool, true, false, not, cond, if◌then◌else◌, List, [], ◌∷◌, ◌++◌, Some, map, length, get_or, set, slice_get, take, suc, refl, sym, ap, ◌∙◌, arith}
use Rattle.std.proofs.lemmas.List.{take-map, get_or-map, length-map, map-set}
use Rattle.std.proofs.lemmas.List.Quantifiers.{position-Some}
use Rattle.std.proofs.lemmas.Option.{slice_get-map, get_or_from_slice_get}
use Rattle.std.proofs.lemmas.Map.Entries.{length-keys_of}
use Rattle.std.specs.List.{position, position_or_len, swap_remove}
use Rattle.std.specs.Option.{option_map, option_map_or}
use Rattle.std.specs.Map.{keys_of}
use Rattle.indexmap.specs.IndexMap.{insert_entry, swap_remove_entry}
use Rattle.rbc_records.specs.declared.record.Key.{Key}
use Rattle.rbc_records.specs.declared.record.Rec.{Rec}
use Rattle.rbc_records.specs.declared.told_bits.ToldBits.{ToldBits}
use Rattle.rbc_records.specs.declared.extent.Extent.{Extent}
use Rattle.rbc_records.specs.contracts.record.KeyPartialEq.TheImpl.{eq-value}
use Rattle.rbc_records.specs.Columns.{told_bits_of, extent_of, column_of, AreBeside}

module _ {K V B : Type 0} (eq : K → K → Bool) (f : V → B) where
  -- the column that tells f of each value
  abbrev column : List (K × V) → List B
  column entries = map {B = B} (λ (entry : K × V). f entry.1) entries

  module _ (k : K) (v : V) where
    -- a value in the place of another changes the column there
    over : (entries : List (K × V)) → position_or_len (eq k) (keys_of entries) < length entries
        → column (insert_entry eq entries k v) ≡ set (column entries) (position_or_len (eq k) (keys_of entries)) (f v)
    over [] h = absurd (omega (arith, h))
    over (entry ∷ entries) h = by (eq k entry.0) h (over entries)
      where
        by : (b : Bool) → cond (not b) (1 + position_or_len (eq k) (keys_of entries)) 0 < length (entry ∷ entries)
            → (position_or_len (eq k) (keys_of entries) < length entries → column (insert_entry eq entries k v) ≡ set (column entries) (position_or_len (eq k) (keys_of entries)) (f v))
            → column (if b then (entry.0, v) ∷ entries else entry ∷ insert_entry eq entries k v) ≡ set (column (entry ∷ entries)) (cond (not b) (1 + position_or_len (eq k) (keys_of entries)) 0) (f v)
        by true h rest_is = refl
        by false h rest_is =
            let next : 1 + position_or_len (eq k) (keys_of entries) ≡ suc (position_or_len (eq k) (keys_of entries)) = omega arith in
            ap (λ (rest : List B). f entry.1 ∷ rest) (rest_is (omega arith)) ∙ sym (ap (λ (i : ℕ). set (column (entry ∷ entries)) i (f v)) next)

    -- a value under a new key stands at the end
    behind : (entries : List (K × V)) → length entries ≤ position_or_len (eq k) (keys_of entries)
        → column (insert_entry eq entries k v) ≡ column entries ++ f v ∷ []
    behind [] h = refl
    behind (entry ∷ entries) h = by (eq k entry.0) h (behind entries)
      where
        by : (b : Bool) → length (entry ∷ entries) ≤ cond (not b) (1 + position_or_len (eq k) (keys_of entries)) 0
            → (length entries ≤ position_or_len (eq k) (keys_of entries) → column (insert_entry eq entries k v) ≡ column entries ++ f v ∷ [])
            → column (if b then (entry.0, v) ∷ entries else entry ∷ insert_entry eq entries k v) ≡ column (entry ∷ entries) ++ f v ∷ []
        by true h rest_is = absurd (omega (arith, h))
        by false h rest_is = ap (λ (rest : List B). f entry.1 ∷ rest) (rest_is (omega arith))

  -- the last one takes the place of one that is removed
  removed : (entries : List (K × V)) (i : ℕ) (p : K × V) (b : B) → i < length entries
      → column (swap_remove entries i p) ≡ swap_remove (column entries) i b
  removed entries i p b h =
      let g : K × V → B = λ (entry : K × V). f entry.1 in
      let last = length entries - 1 in
      let same : length (map g entries) - 1 ≡ last = ap (λ (n : ℕ). n - 1) (length-map entries g) in
      let end : get_or (map g entries) last b ≡ g (get_or entries last p) = get_or-map g entries last p b (omega arith) in
      sym (take-map g last (set entries i (get_or entries last p)))
      ∙ ap (λ (rest : List B). take last rest) (map-set g entries i (get_or entries last p) ∙ ap (λ (x : B). set (map g entries) i x) (sym end))
      ∙ sym (ap (λ (n : ℕ). take n (set (map g entries) i (get_or (map g entries) n b))) same)

-- what is left is the list with its last one in the place that was found
left_by : {K V : Type 0} (test : K → Bool) (entries : List (K × V)) (index : ℕ) → position test (keys_of entries) ≡ Some index
    → (entry : K × V) × (swap_remove_entry test entries ≡ swap_remove entries index entry)
left_by test [] index at = cc
left_by test (entry ∷ entries) index at = (entry, ap (λ found. option_map_or (λ i. swap_remove (entry ∷ entries) i entry) found (entry ∷ entries)) at)

-- the place that was found is one of the list
found_within : {K V : Type 0} (test : K → Bool) (entries : List (K × V)) (index : ℕ) → position test (keys_of entries) ≡ Some index → index < length entries
found_within test [] index at = cc
found_within test (entry ∷ entries) index at =
    let place = position-Some test (keys_of (entry ∷ entries)) index entry.0 at in
    omega (arith, place.0, length-keys_of (entry ∷ entries))

-- a column is as long as the list of the records
pub as_long : {B : Type 0} (f : Rec → B) (entries : List (Key × Rec)) (column : List B) → column ≡ column_of f entries → length column ≡ length entries
as_long f entries column are = ap length are ∙ length-map entries (λ (entry : Key × Rec). f entry.1)

-- what a column tells at the index of an entry
pub told_there : {B : Type 0} (f : Rec → B) (entries : List (Key × Rec)) (told : List B) → told ≡ column_of f entries
    → (index : ℕ) (entry : Key × Rec) → slice_get entries index ≡ Some entry → (d : B) → get_or told index d ≡ f entry.1
told_there f entries told are index entry at d =
    let tell = λ (e : Key × Rec). f e.1 in
    let there : slice_get (column_of f entries) index ≡ Some (f entry.1) = slice_get-map tell entries index ∙ ap (λ found. option_map tell found) at in
    ap (λ (all : List _). get_or all index d) are ∙ get_or_from_slice_get (column_of f entries) index (f entry.1) d there

module _ (entries new : List (Key × Rec)) where
  module _ (k : Key) (rec : Rec) (put : new ≡ insert_entry eq-value.it entries k rec) (index : ℕ) (place : index ≡ position_or_len (eq-value.it k) (keys_of entries)) where
    -- what a column tells of a record put there
    set_over : {B : Type 0} (f : Rec → B) (column : List B) → column ≡ column_of f entries → index < length entries → (x : B) → x ≡ f rec → set column index x ≡ column_of f new
    set_over f column are within x is =
        let held = rw place at within in
        (λ j. set (are j) (place j) (is j)) ∙ sym (over eq-value.it f k rec entries held) ∙ ap (column_of f) (sym put)

    set_behind : {B : Type 0} (f : Rec → B) (column : List B) → column ≡ column_of f entries → length entries ≤ index → (x : B) → x ≡ f rec → column ++ x ∷ [] ≡ column_of f new
    set_behind f column are beyond x is =
        let held = rw place at beyond in
        (λ j. are j ++ is j ∷ []) ∙ sym (behind eq-value.it f k rec entries held) ∙ ap (column_of f) (sym put)

    module _ (stops limits least most : List ℕ) (beside : AreBeside entries stops limits least most)
        (told : ToldBits) (told_is : told ≡ told_bits_of rec) (extent : Extent) (extent_is : extent ≡ extent_of rec) where
      pub put_over : index < length entries → AreBeside new (set stops index told.stops) (set limits index told.limits) (set least index extent.least) (set most index extent.most)
      put_over within = record {
        stops_are = set_over (λ (r : Rec). (told_bits_of r).stops) stops beside.stops_are within told.stops (ap (λ (t : ToldBits). t.stops) told_is);
        limits_are = set_over (λ (r : Rec). (told_bits_of r).limits) limits beside.limits_are within told.limits (ap (λ (t : ToldBits). t.limits) told_is);
        least_are = set_over (λ (r : Rec). (extent_of r).least) least beside.least_are within extent.least (ap (λ (e : Extent). e.least) extent_is);
        most_are = set_over (λ (r : Rec). (extent_of r).most) most beside.most_are within extent.most (ap (λ (e : Extent). e.most) extent_is);
      }

      pub put_behind : length entries ≤ index → AreBeside new (stops ++ told.stops ∷ []) (limits ++ told.limits ∷ []) (least ++ extent.least ∷ []) (most ++ extent.most ∷ [])
      put_behind beyond = record {
        stops_are = set_behind (λ (r : Rec). (told_bits_of r).stops) stops beside.stops_are beyond told.stops (ap (λ (t : ToldBits). t.stops) told_is);
        limits_are = set_behind (λ (r : Rec). (told_bits_of r).limits) limits beside.limits_are beyond told.limits (ap (λ (t : ToldBits). t.limits) told_is);
        least_are = set_behind (λ (r : Rec). (extent_of r).least) least beside.least_are beyond extent.least (ap (λ (e : Extent). e.least) extent_is);
        most_are = set_behind (λ (r : Rec). (extent_of r).most) most beside.most_are beyond extent.most (ap (λ (e : Extent). e.most) extent_is);
      }

  module _ (test : Key → Bool) (index : ℕ) (at : Some index ≡ position test (keys_of entries)) (taken : new ≡ swap_remove_entry test entries) where
    -- what a column tells of what is left
    without : {B : Type 0} (f : Rec → B) (column : List B) → column ≡ column_of f entries → (x : B) → swap_remove column index x ≡ column_of f new
    without f column are x =
        let within = found_within test entries index (sym at) in
        let left = left_by test entries index (sym at) in
        ap (λ (all : List _). swap_remove all index x) are ∙ sym (removed eq-value.it f entries index left.0 x within) ∙ ap (column_of f) (sym (taken ∙ left.1))

    pub taken_out : (stops limits least most : List ℕ) (beside : AreBeside entries stops limits least most) (a b c d : ℕ)
        → AreBeside new (swap_remove stops index a) (swap_remove limits index b) (swap_remove least index c) (swap_remove most index d)
    taken_out stops limits least most beside a b c d = record {
      stops_are = without (λ (r : Rec). (told_bits_of r).stops) stops beside.stops_are a;
      limits_are = without (λ (r : Rec). (told_bits_of r).limits) limits beside.limits_are b;
      least_are = without (λ (r : Rec). (extent_of r).least) least beside.least_are c;
      most_are = without (λ (r : Rec). (extent_of r).most) most beside.most_are d;
    }
