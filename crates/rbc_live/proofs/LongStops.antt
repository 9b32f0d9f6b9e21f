-- A stop of too many segments.
use Rattle.std.proofs.Common.{◌≡◌, ℕ, suc, ◌+◌, ◌*◌, ◌<◌, ◌≤◌, Bool, true, false, cond, ◌&&◌, List, [], ◌∷◌, ◌++◌, length, Option, Some, None, Err, inl, inr, refl, sym, ap, ap₂, ◌∙◌, subst, append_assoc, arith, length-append}
use Rattle.std.specs.Prelude.{codes, nat_le, option_map}
use Rattle.std.specs.Option.{unwrap_or}
use Rattle.std.specs.List.{list_all}
use Rattle.std.proofs.lemmas.Bool.{cases_lt}
use Rattle.std.proofs.lemmas.Bool.Decides.{nat_tests}
use Rattle.rbc_track.specs.Plan.{Plan}
use Rattle.rbc_zones.specs.declared.segment.Segment.{Segment}
use Rattle.rbc_zones.specs.Segments.{is_good_area, is_good_segment}
use Rattle.rbc_rule.specs.declared.input.Input.{Input}
use Rattle.rbc_rule.specs.declared.input.Input.TheVariants.{Stop, Bad}
use Rattle.rbc_rule.specs.declared.refuse.Refusal.TheVariants.{NumberUsed, BadArea}
use Rattle.rbc_rule.specs.Bounds.{max_stops}
use Rattle.rbc_rule.specs.Codes.{code_of}
use Rattle.rbc_rule.specs.World.{World}
use Rattle.rbc_rule.specs.Effect.{then_do, after_adding}
use Rattle.rbc_rule.specs.Step.{after, step}
use Rattle.rbc_text.specs.BatchText.{Line, Spelled, is_space, words_of, decimal_of, segment_of, onto_all, segments_of, stop_from, stop_of, line_of_words, line_of, IsInput}
use Rattle.rbc_live.specs.GoingOn.{ActsAs, GoesOnAs, is_stop}
use Rattle.rbc_text.specs.EndedLines.{joined}
use Rattle.rbc_text.proofs.LinePieces.{one_piece_more}
use Rattle.rbc_text.proofs.LastSpaces.{at_space}
use Rattle.rbc_live.proofs.Words.{room_of, room_of_pieces, long_decimal, long_segment}
use Rattle.rbc_live.proofs.Alike.{acts_same, acts_at, bad_whatever_follows}
use Rattle.ertms_codec.proofs.Cuts.{split_is_cons}

-- ---- the rule

too_many : (count : ℕ) → 8 < count → nat_le count 8 ≡ false
too_many count many = grind (arith, nat_tests)

no_good_area : (plan : Plan) (segments : List Segment) → 8 < length segments → is_good_area plan segments ≡ false
no_good_area plan segments many = ap (λ b. b && list_all (is_good_segment plan) segments) (too_many (length segments) many)

handed_on : (plan : Plan) (w : World) (number : ℕ) (segments : List Segment) (b : Bool)
    → after plan w (then_do (λ stops. record w { stops = stops }) (cond b (Err (code_of NumberUsed)) (Err (code_of BadArea)))) ≡ after plan w (cond b (Err (code_of NumberUsed)) (Err (code_of BadArea)))
handed_on plan w number segments true = refl
handed_on plan w number segments false = refl

step_refused : (plan : Plan) (w : World) (number : ℕ) (segments : List Segment) → 8 < length segments
    → step plan w (Stop number segments) ≡ after plan w (cond (nat_le number w.stops.last) (Err (code_of NumberUsed)) (Err (code_of BadArea)))
step_refused plan w number segments many =
    ap (λ good. after plan w (then_do (λ stops. record w { stops = stops }) (after_adding max_stops good number segments w.stops))) (no_good_area plan segments many)
    ∙ handed_on plan w number segments (nat_le number w.stops.last)

-- two stops of too many segments under one number
both_refused : (number : ℕ) (few many : List Segment) → 8 < length few → 8 < length many → ActsAs (Spelled (Stop number few)) (Spelled (Stop number many))
both_refused number few many a b = λ input is.
    (Stop number many, refl, λ plan w. step_refused plan w number many b ∙ sym (step_refused plan w number few a) ∙ ap (step plan w) (sym is))

-- ---- the words

onto_nothing : (segment : Option Segment) → onto_all segment None ≡ None
onto_nothing None = refl
onto_nothing (Some segment) = refl

-- a word among others that is no segment
bad_among : (words : List (List ℕ)) (word : List ℕ) (more : List (List ℕ)) → segment_of word ≡ None → segments_of (words ++ word ∷ more) ≡ None
bad_among [] word more bad = ap (λ (o : Option Segment). onto_all o (segments_of more)) bad
bad_among (first ∷ words) word more bad = ap (onto_all (segment_of first)) (bad_among words word more bad) ∙ onto_nothing (segment_of first)

-- a segment that is there does not make good what is not
still_nothing : (segment : Option Segment) (segments more : Option (List Segment)) → (segments ≡ None → more ≡ None) → onto_all segment segments ≡ None → onto_all segment more ≡ None
still_nothing None segments more then none = refl
still_nothing (Some segment) None more then none = ap (onto_all (Some segment)) (then refl)
still_nothing (Some segment) (Some segments) more then none = cc none

none_joined : (words more : List (List ℕ)) → segments_of words ≡ None → segments_of (words ++ more) ≡ None
none_joined [] more none = cc none
none_joined (word ∷ words) more none = still_nothing (segment_of word) (segments_of words) (segments_of (words ++ more)) (none_joined words more) none

onto_both : (segment : Option Segment) (words : Option (List Segment)) (more : Option (List Segment)) (segments : List Segment) (both : Option (List Segment))
    → ((front : List Segment) → words ≡ Some front → both ≡ option_map (λ behind. front ++ behind) more) → onto_all segment words ≡ Some segments
    → onto_all segment both ≡ option_map (λ behind. segments ++ behind) more
onto_both None words more segments both joins is = cc is
onto_both (Some segment) None more segments both joins is = cc is
onto_both (Some segment) (Some front) None segments both joins is = ap (onto_all (Some segment)) (joins front refl)
onto_both (Some segment) (Some front) (Some behind) segments both joins is =
    ap (onto_all (Some segment)) (joins front refl) ∙ ap (λ (o : Option (List Segment)). option_map (λ all. all ++ behind) o) is

-- the segments of two lists of words
pub both_joined : (words more : List (List ℕ)) (segments : List Segment) → segments_of words ≡ Some segments → segments_of (words ++ more) ≡ option_map (λ behind. segments ++ behind) (segments_of more)
both_joined [] more segments is = start (segments_of more) (ap (λ (o : Option (List Segment)). unwrap_or o []) is)
  where
    start : (o : Option (List Segment)) → [] ≡ segments → o ≡ option_map (λ behind. segments ++ behind) o
    start None e = refl
    start (Some behind) e = ap (λ (front : List Segment). Some (front ++ behind)) e
both_joined (word ∷ words) more segments is = onto_both (segment_of word) (segments_of words) (segments_of more) segments (segments_of (words ++ more)) (both_joined words more) is

no_segments : (number : Option ℕ) → stop_from number None ≡ None
no_segments None = refl
no_segments (Some number) = refl

-- a long word among them
stop_with_long_word : (words : List (List ℕ)) (word : List ℕ) (more : List (List ℕ)) → 32 < length word → stop_of (words ++ word ∷ more) ≡ None
stop_with_long_word [] word [] long = refl
stop_with_long_word [] word (next ∷ more) long = ap (λ (o : Option ℕ). stop_from o (segments_of (next ∷ more))) (long_decimal word (omega (arith, long)))
stop_with_long_word (number ∷ []) word more long = ap (stop_from (decimal_of number)) (bad_among [] word more (long_segment word long)) ∙ no_segments (decimal_of number)
stop_with_long_word (number ∷ first ∷ words) word more long = ap (stop_from (decimal_of number)) (bad_among (first ∷ words) word more (long_segment word long)) ∙ no_segments (decimal_of number)

-- a stop that lacks its number or a segment
lacking : (number : Option ℕ) (segments more : Option (List Segment)) → (segments ≡ None → more ≡ None) → stop_from number segments ≡ None → stop_from number more ≡ None
lacking None segments more then none = refl
lacking (Some number) None more then none = ap (stop_from (Some number)) (then refl)
lacking (Some number) (Some segments) more then none = cc none

no_stop_joined : (words more : List (List ℕ)) → 200 < room_of words → stop_of words ≡ None → stop_of (words ++ more) ≡ None
no_stop_joined [] more long none = absurd (omega (arith, long))
no_stop_joined (number ∷ []) [] long none = refl
no_stop_joined (number ∷ []) (next ∷ more) long none = ap (λ (o : Option ℕ). stop_from o (segments_of (next ∷ more))) (long_decimal number (omega (arith, long)))
no_stop_joined (number ∷ first ∷ words) more long none =
    lacking (decimal_of number) (segments_of (first ∷ words)) (segments_of ((first ∷ words) ++ more)) (none_joined (first ∷ words) more) none

-- a stop that words spell
abbrev pub IsStopOf : List (List ℕ) → Type 0
IsStopOf words = (number : List ℕ) × (first : List ℕ) × (rest : List (List ℕ)) × (value : ℕ) × (segments : List Segment)
    × (words ≡ number ∷ first ∷ rest) × (decimal_of number ≡ Some value) × (segments_of (first ∷ rest) ≡ Some segments)

stop_parts : (number first : List ℕ) (rest : List (List ℕ)) (n : Option ℕ) (s : Option (List Segment)) (input : Input) → decimal_of number ≡ n → segments_of (first ∷ rest) ≡ s
    → IsInput (unwrap_or (option_map Spelled (stop_from n s)) (Spelled (Bad 1))) input → is_stop input ≡ true → IsStopOf (number ∷ first ∷ rest)
stop_parts number first rest None s input a b is stop = absurd (let bad : false ≡ true = sym (ap is_stop is) ∙ stop in cc)
stop_parts number first rest (Some value) None input a b is stop = absurd (let bad : false ≡ true = sym (ap is_stop is) ∙ stop in cc)
stop_parts number first rest (Some value) (Some segments) input a b is stop = (number, first, rest, value, segments, refl, a, b)

stop_is : (words : List (List ℕ)) (input : Input) → IsInput (unwrap_or (option_map Spelled (stop_of words)) (Spelled (Bad 1))) input → is_stop input ≡ true → IsStopOf words
stop_is [] input is stop = absurd (let bad : false ≡ true = sym (ap is_stop is) ∙ stop in cc)
stop_is (number ∷ []) input is stop = absurd (let bad : false ≡ true = sym (ap is_stop is) ∙ stop in cc)
stop_is (number ∷ first ∷ rest) input is stop = stop_parts number first rest (decimal_of number) (segments_of (first ∷ rest)) input refl refl is stop

no_stop_is : (o : Option Input) (input : Input) → IsInput (unwrap_or (option_map Spelled o) (Spelled (Bad 1))) input → is_stop input ≡ false → ((i : Input) → o ≡ Some i → is_stop i ≡ true) → o ≡ None
no_stop_is None input is other each = refl
no_stop_is (Some found) input is other each = absurd (let bad : false ≡ true = sym other ∙ ap is_stop is ∙ each found refl in cc)

from_is_stop : (n : Option ℕ) (s : Option (List Segment)) (i : Input) → stop_from n s ≡ Some i → is_stop i ≡ true
from_is_stop None s i e = cc e
from_is_stop (Some n) None i e = cc e
from_is_stop (Some n) (Some s) i e = sym (ap (λ (o : Option Input). is_stop (unwrap_or o (Stop n s))) e)

each_is_stop : (words : List (List ℕ)) (i : Input) → stop_of words ≡ Some i → is_stop i ≡ true
each_is_stop [] i e = cc e
each_is_stop (number ∷ []) i e = cc e
each_is_stop (number ∷ first ∷ rest) i e = from_is_stop (decimal_of number) (segments_of (first ∷ rest)) i e

-- ---- lengths

short_segment : (word : List ℕ) (segment : Segment) → segment_of word ≡ Some segment → length word ≤ 32
short_segment word segment is =
    elim (cases_lt 32 (length word)) [
      | inl long ↦ absurd (let bad = sym is ∙ long_segment word long in cc)
      | inr short ↦ short
    ]

short_decimal : (word : List ℕ) (value : ℕ) → decimal_of word ≡ Some value → length word ≤ 10
short_decimal word value is =
    elim (cases_lt 10 (length word)) [
      | inl long ↦ absurd (let bad = sym is ∙ long_decimal word long in cc)
      | inr short ↦ short
    ]

each_short : (word : List ℕ) (words : List (List ℕ)) (o : Option Segment) (s : Option (List Segment)) (segments : List Segment) → segment_of word ≡ o → segments_of words ≡ s
    → ((more : List Segment) → segments_of words ≡ Some more → room_of words ≤ 33 * length more) → onto_all o s ≡ Some segments → room_of (word ∷ words) ≤ 33 * length segments
each_short word words None s segments a b rest is = cc is
each_short word words (Some segment) None segments a b rest is = cc is
each_short word words (Some segment) (Some more) segments a b rest is =
    let few = short_segment word segment a in
    let others = rest more b in
    let count = ap (λ (o : Option (List Segment)). length (unwrap_or o [])) is in
    omega (arith, few, others, count)

room_of_segments : (words : List (List ℕ)) (segments : List Segment) → segments_of words ≡ Some segments → room_of words ≤ 33 * length segments
room_of_segments [] segments is = omega arith
room_of_segments (word ∷ words) segments is = each_short word words (segment_of word) (segments_of words) segments refl refl (room_of_segments words) is

-- ---- the lines

stop_line : (line word more : List ℕ) (front arguments : List (List ℕ)) → words_of line ≡ front ++ word ∷ [] → front ≡ codes "stop" ∷ arguments
    → line_of (line ++ more) ≡ unwrap_or (option_map Spelled (stop_of (arguments ++ joined word (words_of more)))) (Spelled (Bad 1))
stop_line line word more front arguments e is =
    ap (λ (words : List (List ℕ)). unwrap_or (line_of_words words) (Spelled (Bad 1)))
    (one_piece_more is_space line more front word e ∙ ap (λ (ws : List (List ℕ)). ws ++ joined word (words_of more)) is)

-- no stop, whatever follows
pub no_stop : (kept line front word : List ℕ) (arguments : List (List ℕ)) → kept ≡ 32 ∷ [] → words_of line ≡ words_of front ++ word ∷ [] → words_of front ≡ codes "stop" ∷ arguments
    → ((first : List ℕ) (more : List (List ℕ)) → stop_of (arguments ++ (word ++ first) ∷ more) ≡ None) → GoesOnAs kept line
no_stop kept line front word arguments is e parts never = bad_whatever_follows kept line is (λ more.
    let next = split_is_cons is_space more in
    stop_line line word more (words_of front) arguments e parts
    ∙ ap (λ (words : List (List ℕ)). unwrap_or (option_map Spelled (stop_of (arguments ++ joined word words))) (Spelled (Bad 1))) next.2
    ∙ ap (λ (o : Option Input). unwrap_or (option_map Spelled o) (Spelled (Bad 1))) (never next.0 next.1))

-- its last word is too long
pub long_last_word : (kept line front word : List ℕ) (arguments : List (List ℕ)) → kept ≡ 32 ∷ [] → words_of line ≡ words_of front ++ word ∷ [] → words_of front ≡ codes "stop" ∷ arguments
    → 64 < length word → GoesOnAs kept line
long_last_word kept line front word arguments is e parts long = no_stop kept line front word arguments is e parts (λ first more.
    let whole = length-append word first in
    stop_with_long_word arguments (word ++ first) more (omega (arith, whole, long)))

front_line : (front : List ℕ) (arguments : List (List ℕ)) → words_of front ≡ codes "stop" ∷ arguments → line_of front ≡ unwrap_or (option_map Spelled (stop_of arguments)) (Spelled (Bad 1))
front_line front arguments parts = ap (λ (words : List (List ℕ)). unwrap_or (line_of_words words) (Spelled (Bad 1))) parts

room_of_front : (front : List ℕ) (arguments : List (List ℕ)) → words_of front ≡ codes "stop" ∷ arguments → 65000 < length front → 60000 < room_of arguments
room_of_front front arguments parts long =
    let room : 5 + room_of arguments ≡ suc (length front) = sym (ap room_of parts) ∙ room_of_pieces is_space front in
    omega (arith, room, long)

-- what stands before its last word is no stop
pub no_stop_before : (kept line front word : List ℕ) (arguments : List (List ℕ)) (input : Input) → kept ≡ 32 ∷ [] → words_of line ≡ words_of front ++ word ∷ [] → words_of front ≡ codes "stop" ∷ arguments
    → 65000 < length front → IsInput (line_of front) input → is_stop input ≡ false → GoesOnAs kept line
no_stop_before kept line front word arguments input is e parts long read other =
    let room = room_of_front front arguments parts long in
    let none = no_stop_is (stop_of arguments) input (subst (λ (l : Line). IsInput l input) (front_line front arguments parts) read) other (each_is_stop arguments) in
    no_stop kept line front word arguments is e parts (λ first more. no_stop_joined arguments ((word ++ first) ∷ more) (omega (arith, room)) none)

abbrev pub nine : List ℕ
nine = codes " 0:0-0 0:0-0 0:0-0 0:0-0 0:0-0 0:0-0 0:0-0 0:0-0 0:0-0 "

abbrev eight_words : List (List ℕ)
eight_words = codes "0:0-0" ∷ codes "0:0-0" ∷ codes "0:0-0" ∷ codes "0:0-0" ∷ codes "0:0-0" ∷ codes "0:0-0" ∷ codes "0:0-0" ∷ codes "0:0-0" ∷ []

abbrev nine_words : List (List ℕ)
nine_words = codes "0:0-0" ∷ eight_words

-- the words of the short line
short_words : (kept number word : List ℕ) → kept ≡ ((codes "stop " ++ number) ++ nine) ++ word → words_of number ≡ number ∷ [] → words_of word ≡ word ∷ []
    → words_of kept ≡ (codes "stop" ∷ number ∷ nine_words) ++ word ∷ []
short_words kept number word is one last =
    let whole : kept ≡ codes "stop " ++ (number ++ (nine ++ word)) = is ∙ append_assoc (codes "stop " ++ number) nine word ∙ append_assoc (codes "stop ") number (nine ++ word) in
    let inside = at_space number (codes "0:0-0 0:0-0 0:0-0 0:0-0 0:0-0 0:0-0 0:0-0 0:0-0 0:0-0 " ++ word) in
    ap words_of whole ∙ ap (λ (words : List (List ℕ)). codes "stop" ∷ words)
    (inside ∙ ap₂ (λ (a b : List (List ℕ)). a ++ (nine_words ++ b)) one last)

acts_by : (value : ℕ) (few many : List Segment) (more : Option (List Segment)) → 8 < length few → 8 < length many
    → ActsAs (unwrap_or (option_map Spelled (stop_from (Some value) (option_map (λ behind. few ++ behind) more))) (Spelled (Bad 1)))
    (unwrap_or (option_map Spelled (stop_from (Some value) (option_map (λ behind. many ++ behind) more))) (Spelled (Bad 1)))
acts_by value few many None a b = acts_same (Spelled (Bad 1)) (Spelled (Bad 1)) refl
acts_by value few many (Some behind) a b =
    let first = length-append few behind in
    let second = length-append many behind in
    both_refused value (few ++ behind) (many ++ behind) (omega (arith, first, a)) (omega (arith, second, b))

stop_at : (number first : List ℕ) (rest more : List (List ℕ)) (value : ℕ) (segments : List Segment) → decimal_of number ≡ Some value → segments_of (first ∷ rest) ≡ Some segments
    → unwrap_or (option_map Spelled (stop_of ((number ∷ first ∷ rest) ++ more))) (Spelled (Bad 1))
    ≡ unwrap_or (option_map Spelled (stop_from (Some value) (option_map (λ behind. segments ++ behind) (segments_of more)))) (Spelled (Bad 1))
stop_at number first rest more value segments a b =
    ap₂ (λ (n : Option ℕ) (s : Option (List Segment)). unwrap_or (option_map Spelled (stop_from n s)) (Spelled (Bad 1))) a (both_joined (first ∷ rest) more segments b)

-- the number of a stop is short
pub short_number : (front second : List ℕ) (arguments : List (List ℕ)) (input : Input) → words_of front ≡ codes "stop" ∷ arguments → IsInput (line_of front) input → is_stop input ≡ true
    → ((first other : List ℕ) (more : List (List ℕ)) → words_of front ≡ first ∷ other ∷ more → (second ≡ other) × (words_of second ≡ second ∷ [])) → length second ≤ 10
short_number front second arguments input parts read stop chosen =
    let (number, first, rest, value, segments, words, a, b) = stop_is arguments input (subst (λ (l : Line). IsInput l input) (front_line front arguments parts) read) stop in
    let picked = chosen (codes "stop") number (first ∷ rest) (parts ∙ ap (λ (ws : List (List ℕ)). codes "stop" ∷ ws) words) in
    subst (λ (word : List ℕ). length word ≤ 10) (sym picked.0) (short_decimal number value a)

abbrev nine_segments : List Segment
nine_segments = unwrap_or (segments_of nine_words) []

-- a stop of nine segments stands in for one of more
pub nine_for_more : (kept line front word second : List ℕ) (arguments : List (List ℕ)) (input : Input) → words_of line ≡ words_of front ++ word ∷ [] → words_of front ≡ codes "stop" ∷ arguments
    → words_of word ≡ word ∷ [] → 65000 < length front → IsInput (line_of front) input → is_stop input ≡ true
    → ((first other : List ℕ) (more : List (List ℕ)) → words_of front ≡ first ∷ other ∷ more → (second ≡ other) × (words_of second ≡ second ∷ []))
    → kept ≡ ((codes "stop " ++ second) ++ nine) ++ word → GoesOnAs kept line
nine_for_more kept line front word second arguments input e parts last long read stop chosen is =
    let room = room_of_front front arguments parts long in
    let (number, first, rest, value, segments, words, a, b) = stop_is arguments input (subst (λ (l : Line). IsInput l input) (front_line front arguments parts) read) stop in
    let all = parts ∙ ap (λ (ws : List (List ℕ)). codes "stop" ∷ ws) words in
    let picked = chosen (codes "stop") number (first ∷ rest) all in
    let whole : words_of kept ≡ (codes "stop" ∷ number ∷ nine_words) ++ word ∷ [] =
    subst (λ (n : List ℕ). words_of kept ≡ (codes "stop" ∷ n ∷ nine_words) ++ word ∷ []) picked.0 (short_words kept second word is picked.1 last) in
    let room_is : 60000 < suc (length number) + room_of (first ∷ rest) = subst (λ (ws : List (List ℕ)). 60000 < room_of ws) words room in
    let count : length nine_segments ≡ 9 = refl in
    let few = short_decimal number value a in
    let each = room_of_segments (first ∷ rest) segments b in
    λ more.
    let next = joined word (words_of more) in
    acts_at (line_of (kept ++ more)) (line_of (line ++ more)) _ _
    (stop_line kept word more (codes "stop" ∷ number ∷ nine_words) (number ∷ nine_words) whole refl ∙ stop_at number (codes "0:0-0") eight_words next value nine_segments a refl)
    (stop_line line word more (words_of front) (number ∷ first ∷ rest) e all ∙ stop_at number first rest next value segments a b)
    (acts_by value nine_segments segments (segments_of next) (omega (arith, count)) (omega (arith, room_is, few, each)))
