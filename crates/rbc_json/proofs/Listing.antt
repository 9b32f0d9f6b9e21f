-- A list with one value more, and a list with its end.
use Rattle.std.proofs.Common.{◌≡◌, ◌∙◌, ℕ, false, List, [], ◌∷◌, ◌++◌, Option, Some, Result, Ok, Err, append_assoc, append-nil, ap, sym, subst, refl, codes, ◌+◌, take, map, string_bytes}
use Rattle.std.specs.Result.{OnOk}
use Rattle.std.specs.Prelude.{slice_get}
use Rattle.std.specs.Fmt.{AppendsText}
use Rattle.std.proofs.lemmas.List.{take_more, map-append}
use Rattle.std.proofs.lemmas.Option.{slice_get_within, get_or_from_slice_get}
use Rattle.rbc_json.specs.Json.{Json, json_text, values_text, values_of, array}
use Rattle.rbc_json.specs.Lists.{more_text, front_text, has_none, comma_behind, IsListOf}
use Rattle.rbc_json.specs.declared.list.ListText.{ListText}

more_behind : (values : List Json) (added : Json) → more_text (values ++ added ∷ []) ≡ more_text values ++ 44 ∷ json_text added
more_behind [] added = ap (λ text. 44 ∷ text) (append-nil (json_text added))
more_behind (value ∷ more) added =
    ap (λ text. 44 ∷ (json_text value ++ text)) (more_behind more added) ∙ ap (λ text. 44 ∷ text) (sym (append_assoc (json_text value) (more_text more) (44 ∷ json_text added)))

front_behind : (values : List Json) (added : Json) → front_text (values ++ added ∷ []) ≡ (front_text values ++ comma_behind (has_none values)) ++ json_text added
front_behind [] added = append-nil (json_text added)
front_behind (value ∷ more) added =
    ap (λ text. json_text value ++ text) (more_behind more added)
    ∙ sym (append_assoc (json_text value) (more_text more) (44 ∷ json_text added))
    ∙ sym (append_assoc (json_text value ++ more_text more) (codes ",") (json_text added))

none_behind : (values : List Json) (added : Json) → has_none (values ++ added ∷ []) ≡ false
none_behind [] added = refl
none_behind (value ∷ more) added = refl

-- one value more
one_more : (values : List Json) (added : Json) (old : ListText) (text : List ℕ) (new : ListText) → IsListOf values old
    → text ≡ string_bytes old.text ++ comma_behind old.is_empty → string_bytes new.text ≡ text ++ json_text added → new.is_empty ≡ false
    → IsListOf (values ++ added ∷ []) new
one_more values added old text new is comma written begun = record {
  text =
      written
      ∙ ap (λ before. before ++ json_text added) (comma ∙ ap (λ before. before ++ comma_behind old.is_empty) is.text ∙ ap (λ empty. (91 ∷ front_text values) ++ comma_behind empty) is.empty)
      ∙ ap (λ rest. 91 ∷ rest) (sym (front_behind values added));
  empty = begun ∙ sym (none_behind values added);
}

-- one value more, if there was memory for it
pub list_added : {E : Type 0} (r : Result (Unit {0}) E) (values : List Json) (added : Json) (old : ListText) (text : List ℕ) (new : ListText) (output : Option (List ℕ))
    → text ≡ string_bytes old.text ++ comma_behind old.is_empty → new.is_empty ≡ false → OnOk r (AppendsText text (string_bytes new.text) output)
    → IsListOf values old → output ≡ Some (json_text added) → OnOk r (IsListOf (values ++ added ∷ []) new)
list_added (Ok done) values added old text new output comma begun written is shown =
    one_more values added old text new is comma (subst (λ (o : Option (List ℕ)). AppendsText text (string_bytes new.text) o) shown written) begun
list_added (Err refused) values added old text new output comma begun written is shown = tt

more_ended : (values : List Json) → more_text values ++ 93 ∷ [] ≡ values_text (codes ",") (values_of values)
more_ended [] = refl
more_ended (value ∷ more) =
    ap (λ text. 44 ∷ text) (append_assoc (json_text value) (more_text more) (93 ∷ []) ∙ ap (λ rest. json_text value ++ rest) (more_ended more))

-- the end of a list
list_ended : (values : List Json) → front_text values ++ 93 ∷ [] ≡ values_text [] (values_of values)
list_ended [] = refl
list_ended (value ∷ more) = append_assoc (json_text value) (more_text more) (93 ∷ []) ∙ ap (λ rest. json_text value ++ rest) (more_ended more)

-- the whole list
pub whole_list : (values : List Json) (list : ListText) (text : List ℕ) → IsListOf values list → text ≡ string_bytes list.text ++ codes "]" → text ≡ json_text (array values)
whole_list values list text is ended =
    ended ∙ ap (λ before. before ++ codes "]") is.text ∙ ap (λ rest. 91 ∷ rest) (list_ended values)

-- the values of one element more
pub mapped_more : {A : Type 0} (f : A → Json) (all : List A) (i : ℕ) (x : A) (list : ListText) → slice_get all i ≡ Some x → IsListOf (map f (take i all) ++ f x ∷ []) list
    → IsListOf (map f (take (i + 1) all)) list
mapped_more {A} f all i x list there is =
    let more : take (i + 1) all ≡ take i all ++ x ∷ [] =
    take_more all i x (slice_get_within all i x there) ∙ ap (λ (y : A). take i all ++ y ∷ []) (get_or_from_slice_get all i x x there) in
    subst (λ (values : List Json). IsListOf values list) (sym (ap (map f) more ∙ map-append f (take i all) (x ∷ []))) is
