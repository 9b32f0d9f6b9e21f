-- Texts in a document that grows.
use Rattle.std.proofs.Common.{◌≡◌, ◌<◌, ◌+◌, ℕ, List, [], ◌∷◌, ◌++◌, length, take, get_or, map, Result, Ok, Err, OnOk, refl, sym, ap, subst, ◌∙◌, append_assoc, append-nil, if◌then◌else◌}
use Rattle.std.specs.List.{flat_map}
use Rattle.std.specs.Result.{is_ok}
use Rattle.std.proofs.lemmas.List.{get_or_default, map_push, take_more}
use Rattle.std.proofs.lemmas.List.Concat.{flat_map-append}
use Rattle.rbc_picture.specs.Shown.{StandIn, IsShownOn}

-- what stands in the second of two texts stands in both together
stand_after : (texts : List (List ℕ)) (first second : List ℕ) → StandIn texts second → StandIn texts (first ++ second)
stand_after [] first second stand = tt
stand_after (text ∷ texts) first second stand =
    (first ++ stand.0, stand.1, ap (λ (t : List ℕ). first ++ t) stand.2 ∙ sym (append_assoc first stand.0 (text ++ stand.1)), stand.3)

-- what stands in each of two texts stands in both together
stand_then : (texts more : List (List ℕ)) (first second : List ℕ) → StandIn texts first → StandIn more second → StandIn (texts ++ more) (first ++ second)
stand_then [] more first second one two = stand_after more first second two
stand_then (text ∷ texts) more first second one two = (
  one.0,
  one.1 ++ second,
  ap (λ (t : List ℕ). t ++ second) one.2 ∙ append_assoc one.0 (text ++ one.1) second ∙ ap (λ (t : List ℕ). one.0 ++ t) (append_assoc text one.1 second),
  stand_then texts more one.1 second one.3 two,
)

-- a document that is added to twice
pub shown_then : (texts more : List (List ℕ)) (first second third : List ℕ) → IsShownOn texts first second → IsShownOn more second third → IsShownOn (texts ++ more) first third
shown_then texts more first second third one two =
    (one.0 ++ two.0, two.1 ∙ ap (λ (t : List ℕ). t ++ two.0) one.1 ∙ append_assoc first one.0 two.0, stand_then texts more one.0 two.0 one.2 two.2)

-- texts, and then a piece
pub then_piece : (texts : List (List ℕ)) (first second third : List ℕ) → IsShownOn texts first second → IsShownOn [] second third → IsShownOn texts first third
then_piece texts first second third one two =
    subst (λ (ts : List (List ℕ)). IsShownOn ts first third) (append-nil texts) (shown_then texts [] first second third one two)

-- the same where the piece may lack memory
pub ends : {T E : Type 0} (r : Result T E) (texts : List (List ℕ)) (first second third : List ℕ) → IsShownOn texts first second → OnOk r (IsShownOn [] second third)
    → OnOk r (IsShownOn texts first third)
ends (Ok done) texts first second third one two = then_piece texts first second third one two
ends (Err fault) texts first second third one two = tt

-- the same where texts may lack memory
pub ends_with : {T E : Type 0} (r : Result T E) (texts more : List (List ℕ)) (first second third : List ℕ) → IsShownOn texts first second → OnOk r (IsShownOn more second third)
    → OnOk r (IsShownOn (texts ++ more) first third)
ends_with (Ok done) texts more first second third one two = shown_then texts more first second third one two
ends_with (Err fault) texts more first second third one two = tt

-- texts between two pieces
pub around : {T E : Type 0} (r : Result T E) (texts : List (List ℕ)) (first second third last : List ℕ)
    → IsShownOn [] first second → IsShownOn texts second third → OnOk r (IsShownOn [] third last) → OnOk r (IsShownOn texts first last)
around r texts first second third last one two more = ends r texts first third last (shown_then [] texts first second third one two) more

-- a piece is added
pub shown_piece : {T E : Type 0} (r : Result T E) (old piece new : List ℕ) → new ≡ (if is_ok r then old ++ piece else old) → OnOk r (IsShownOn [] old new)
shown_piece (Ok done) old piece new is = (piece, is, tt)
shown_piece (Err fault) old piece new is = tt

-- a text is added
pub shown_text : {T E : Type 0} (r : Result T E) (old text new : List ℕ) → new ≡ (if is_ok r then old ++ text else old) → OnOk r (IsShownOn (text ∷ []) old new)
shown_text (Ok done) old text new is = (text, is, ([], [], sym (append-nil text), tt))
shown_text (Err fault) old text new is = tt

-- One item more: a loop reads it from a list that is the same as all items.
pub record IsNext {A : Type 0} (items : List A) (index : ℕ) (item : A) : Type 0 where
  pub seen : List A
  pub same : seen ≡ items
  pub within : index < length seen
  pub is : item ≡ get_or seen index item

-- the items up to it
pub up_to : {A : Type 0} (items : List A) (index : ℕ) (item : A) → IsNext items index item → take (index + 1) items ≡ take index items ++ item ∷ []
up_to items index item next =
    ap (take (index + 1)) (sym next.same) ∙ take_more next.seen index item next.within
    ∙ ap (λ one. take index next.seen ++ one ∷ []) (sym next.is) ∙ ap (λ all. take index all ++ item ∷ []) next.same

-- an item that is copied out of the list
pub is_next : {A : Type 0} (items : List A) (index : ℕ) (other : A) → index < length items → IsNext items index (get_or items index other)
is_next items index other within = record {
  seen = items;
  same = refl;
  within = within;
  is = get_or_default items index other (get_or items index other) within;
}

-- the texts of one item more
pub more_texts : {A : Type 0} (f : A → List (List ℕ)) (items : List A) (index : ℕ) (item : A) (old now new : List ℕ) → IsNext items index item
    → IsShownOn (flat_map f (take index items)) old now → IsShownOn (f item) now new → IsShownOn (flat_map f (take (index + 1) items)) old new
more_texts f items index item old now new next one two =
    subst (λ (ts : List (List ℕ)). IsShownOn ts old new)
    (sym (ap (flat_map f) (up_to items index item next) ∙ flat_map-append f (take index items) (item ∷ [])
    ∙ ap (λ (ts : List (List ℕ)). flat_map f (take index items) ++ ts) (append-nil (f item))))
    (shown_then (flat_map f (take index items)) (f item) old now new one two)

-- the text of one item more
pub more_text : {A : Type 0} (f : A → List ℕ) (items : List A) (index : ℕ) (item : A) (old now new : List ℕ) → IsNext items index item
    → IsShownOn (map f (take index items)) old now → IsShownOn (f item ∷ []) now new → IsShownOn (map f (take (index + 1) items)) old new
more_text f items index item old now new next one two =
    subst (λ (ts : List (List ℕ)). IsShownOn ts old new)
    (sym (ap (map f) (up_to items index item next) ∙ map_push f (take index items) item))
    (shown_then (map f (take index items)) (f item ∷ []) old now new one two)

-- the title of a train
pub train_joined : {T E : Type 0} (r : Result T E) (title : List ℕ) (waiting : List (List ℕ)) (first second third fourth last : List ℕ)
    → IsShownOn (title ∷ []) first second → IsShownOn [] second third → IsShownOn waiting third fourth → OnOk r (IsShownOn [] fourth last)
    → OnOk r (IsShownOn (title ∷ waiting) first last)
train_joined r title waiting first second third fourth last one two three four =
    ends r (title ∷ waiting) first fourth last
    (shown_then (title ∷ []) waiting first third fourth (then_piece (title ∷ []) first second third one two) three) four

-- a panel: its heading, stops, trains and restrictions, with a piece before the first, before and behind the second, and behind the last
pub panel_joined : {T E : Type 0} (r : Result T E) (heading : List ℕ) (stops trains limits : List (List ℕ)) (a b c d e f g h last : List ℕ)
    → IsShownOn [] a b → IsShownOn (heading ∷ []) b c → IsShownOn [] c d → IsShownOn stops d e → IsShownOn [] e f → IsShownOn trains f g → IsShownOn limits g h
    → OnOk r (IsShownOn [] h last) → OnOk r (IsShownOn (heading ∷ (stops ++ (trains ++ limits))) a last)
panel_joined r heading stops trains limits a b c d e f g h last before top above closed below placed restricted end =
    let head : IsShownOn (heading ∷ []) a d = then_piece (heading ∷ []) a c d (shown_then [] (heading ∷ []) a b c before top) above in
    let bands : IsShownOn stops d f = then_piece stops d e f closed below in
    let rest : IsShownOn (trains ++ limits) f h = shown_then trains limits f g h placed restricted in
    ends r (heading ∷ (stops ++ (trains ++ limits))) a h last
    (shown_then (heading ∷ []) (stops ++ (trains ++ limits)) a d h head (shown_then stops (trains ++ limits) d f h bands rest)) end

-- the texts of a document that begins as nothing
pub all_stand : (texts : List (List ℕ)) (old new : List ℕ) → old ≡ [] → IsShownOn texts old new → StandIn texts new
all_stand texts old new empty shown = subst (StandIn texts) (sym (shown.1 ∙ ap (λ (t : List ℕ). t ++ shown.0) empty)) shown.2

-- a text that is written is the one that is wanted
pub of_text : (written text old new : List ℕ) → written ≡ text → IsShownOn (written ∷ []) old new → IsShownOn (text ∷ []) old new
of_text written text old new is shown = subst (λ (t : List ℕ). IsShownOn (t ∷ []) old new) is shown

-- the texts of one item more, with a piece before it
pub more_behind : {A : Type 0} (f : A → List (List ℕ)) (items : List A) (index : ℕ) (item : A) (old now mid new : List ℕ) → IsNext items index item
    → IsShownOn (flat_map f (take index items)) old now → IsShownOn [] now mid → IsShownOn (f item) mid new
    → IsShownOn (flat_map f (take (index + 1) items)) old new
more_behind f items index item old now mid new next one piece two =
    more_texts f items index item old mid new next (then_piece (flat_map f (take index items)) old now mid one piece) two

-- texts, a piece, and texts that may lack memory
pub then_more : {T E : Type 0} (r : Result T E) (texts more : List (List ℕ)) (first second third last : List ℕ)
    → IsShownOn texts first second → IsShownOn [] second third → OnOk r (IsShownOn more third last) → OnOk r (IsShownOn (texts ++ more) first last)
then_more r texts more first second third last one piece two = ends_with r texts more first third last (then_piece texts first second third one piece) two

-- a whole document: a piece, the texts above the panels, the texts that it has to show below them, and a piece
pub whole : (head texts wanted : List (List ℕ)) (none first second third last : List ℕ) → none ≡ [] → texts ≡ wanted
    → IsShownOn [] none first → IsShownOn head first second → IsShownOn texts second third → IsShownOn [] third last → StandIn (head ++ wanted) last
whole head texts wanted none first second third last empty are before top shown behind =
    subst (λ (ts : List (List ℕ)). StandIn (head ++ ts) last) are
    (all_stand (head ++ texts) none last empty
    (then_piece (head ++ texts) none third last
    (shown_then head texts none second third (shown_then [] head none first second before top) shown) behind))

-- a text that stands twice, between three pieces
twice : {T E : Type 0} (r : Result T E) (text : List ℕ) (a b c d e last : List ℕ)
    → IsShownOn [] a b → IsShownOn (text ∷ []) b c → IsShownOn [] c d → IsShownOn (text ∷ []) d e → OnOk r (IsShownOn [] e last)
    → OnOk r (IsShownOn (text ∷ text ∷ []) a last)
twice r text a b c d e last before one between two behind =
    let first : IsShownOn (text ∷ []) a d = then_piece (text ∷ []) a c d (shown_then [] (text ∷ []) a b c before one) between in
    ends r (text ∷ text ∷ []) a e last (shown_then (text ∷ []) (text ∷ []) a d e first two) behind

-- the head of a selection: what is left out stands in it twice
pub head_joined : {T E : Type 0} (r : Result T E) (text left : List ℕ) (a b c d e last : List ℕ) → text ≡ left
    → IsShownOn [] a b → IsShownOn (text ∷ []) b c → IsShownOn [] c d → IsShownOn (text ∷ []) d e → OnOk r (IsShownOn [] e last)
    → OnOk r (IsShownOn (left ∷ left ∷ []) a last)
head_joined r text left a b c d e last is before one between two behind =
    subst (λ (t : List ℕ). OnOk r (IsShownOn (t ∷ t ∷ []) a last)) is (twice r text a b c d e last before one between two behind)
