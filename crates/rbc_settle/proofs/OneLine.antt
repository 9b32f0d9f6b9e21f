-- What lies on a train's line is all that it has to be told of.
use Rattle.std.proofs.Common.{◌≡◌, ℕ, Bool, true, false, cond, List, [], ◌∷◌, map, length, Option, Some, None, option_map, refl, sym, ap, ◌∙◌, arith}
use Rattle.std.specs.List.{filter, filter_map, cons_option, zip, All}
use Rattle.std.proofs.lemmas.List.Elements.{All-head, All-tail}
use Rattle.rbc_zones.specs.Placing.{Place}
use Rattle.rbc_maps.specs.OnLines.{mark_of, has_mark, marked}
use Rattle.rbc_ids.specs.Table.{is_told}
use Rattle.rbc_zones.specs.declared.segment.Segment.{Segment}
use Rattle.rbc_zones.specs.declared.stop_meaning.Concern.TheVariants as concern
use Rattle.rbc_zones.specs.Segments.{AreSegments}
use Rattle.rbc_zones.specs.Concerns.{concern_of}
use Rattle.rbc_zones.specs.Limits.{Limit}
use Rattle.rbc_zones.specs.Marks.{stop_marks, limit_marks}
use Rattle.rbc_zones.proofs.Marks.{stop_elsewhere, limit_elsewhere}
use Rattle.rbc_settle.specs.declared.train.TrainRec.{TrainRec}
use Rattle.rbc_settle.specs.declared.change.ToldStop.{ToldStop}
use Rattle.rbc_settle.specs.Told.{Part}
use Rattle.rbc_settle.specs.Numbers.{has_number}
use Rattle.rbc_settle.specs.Settling.{told_stop, told_limit, concern_to, stop_to_tell, limit_told_to, limit_to_tell}
use Rattle.rbc_settle.specs.OneLine.{IsJudgedOnLine}

-- what is left out by a test, and would give nothing, is not missed
module _ {X Y : Type 0} (test : X → Bool) (f : X → Option Y) where
  one_more : (here : Bool) (found : Option Y) (x : X) (passed xs : List X) → f x ≡ found → (here ≡ false → found ≡ None) → filter_map f passed ≡ filter_map f xs
      → filter_map f (cond here (x ∷ passed) passed) ≡ cons_option found (filter_map f xs)
  one_more true found x passed xs is nothing rest = ap (λ o. cons_option o (filter_map f passed)) is ∙ ap (cons_option found) rest
  one_more false found x passed xs is nothing rest = rest ∙ sym (ap (λ o. cons_option o (filter_map f xs)) (nothing refl))

  pub none_missed : (P : X → Type 0) → ((x : X) → P x → test x ≡ false → f x ≡ None) → (xs : List X) → All P xs → filter_map f (filter test xs) ≡ filter_map f xs
  none_missed P nothing [] all = refl
  none_missed P nothing (x ∷ xs) all =
      one_more (test x) (f x) x (filter test xs) xs refl (nothing x (All-head P x xs all)) (none_missed P nothing xs (All-tail P x xs all))

-- what is nothing to a train is not told to it
untold_stop : (train : TrainRec) (stop : ℕ × List Segment) → told_stop train.place (concern_to train stop) ≡ None → stop_to_tell train stop ≡ None
untold_stop train stop e =
    elim (is_told train.stops stop.0) as (λ b. cond {A = Option (ℕ × ToldStop)} b None (option_map (λ (told : ToldStop). (stop.0, told)) (told_stop train.place (concern_to train stop))) ≡ None) [
      | true ↦ refl
      | false ↦ ap (option_map (λ (told : ToldStop). (stop.0, told))) e
    ]

pub untold_limit : (horizon : ℕ) (train : TrainRec) (limit : ℕ × Limit) → limit_told_to horizon train.place limit.1 ≡ None → limit_to_tell horizon train limit ≡ None
untold_limit horizon train limit e =
    elim (is_told train.limits limit.0) as (λ b. cond {A = Option (ℕ × Part)} b None (option_map (λ (told : Part). (limit.0, told)) (limit_told_to horizon train.place limit.1)) ≡ None) [
      | true ↦ refl
      | false ↦ ap (option_map (λ (told : Part). (limit.0, told))) e
    ]

stop_passed_by : (train : TrainRec) (line : ℕ) → IsJudgedOnLine train line → (stop : ℕ × List Segment) → AreSegments stop.1 → has_mark (mark_of line) (stop_marks stop.1) ≡ false → stop_to_tell train stop ≡ None
stop_passed_by train line h stop segments elsewhere =
    let no_mark : has_mark (mark_of h.place.line) (stop_marks stop.1) ≡ false = ap (λ (l : ℕ). has_mark (mark_of l) (stop_marks stop.1)) h.on_line ∙ elsewhere in
    let nothing : concern_to train stop ≡ concern.None =
    ap (λ (forced : List ℕ). concern_of stop.1 (has_number forced stop.0) train.place) h.none_forced
    ∙ ap (concern_of stop.1 false) h.placed
    ∙ stop_elsewhere h.place stop.1 segments.few no_mark in
    untold_stop train stop (ap (told_stop train.place) nothing ∙ ap (λ (p : Option Place). told_stop p concern.None) h.placed)

-- a train that is judged on its line has to be told of the stops there alone
pub stops_on_line : (train : TrainRec) (line : ℕ) → IsJudgedOnLine train line → (stops : List (ℕ × List Segment)) → All (λ stop. AreSegments stop.1) stops
    → filter_map (stop_to_tell train) (marked stop_marks (mark_of line) stops) ≡ filter_map (stop_to_tell train) stops
stops_on_line train line h stops each =
    none_missed (λ stop. has_mark (mark_of line) (stop_marks stop.1)) (stop_to_tell train) (λ stop. AreSegments stop.1) (stop_passed_by train line h) stops each

limit_passed_by : (horizon : ℕ) (train : TrainRec) (p : Place) → train.place ≡ Some p → (limit : ℕ × Limit) → has_mark (mark_of p.line) (limit_marks limit.1) ≡ false → limit_to_tell horizon train limit ≡ None
limit_passed_by horizon train p placed limit elsewhere =
    untold_limit horizon train limit
    (ap (λ (o : Option Place). limit_told_to horizon o limit.1) placed
    ∙ ap (λ b. cond b (Some (told_limit limit.1 p)) None) (limit_elsewhere p limit.1 horizon elsewhere))

-- so has each train that has a place of the restrictions
pub limits_on_line : (horizon : ℕ) (train : TrainRec) (p : Place) → train.place ≡ Some p → (limits : List (ℕ × Limit))
    → filter_map (limit_to_tell horizon train) (marked limit_marks (mark_of p.line) limits) ≡ filter_map (limit_to_tell horizon train) limits
limits_on_line horizon train p placed limits =
    none_missed (λ limit. has_mark (mark_of p.line) (limit_marks limit.1)) (limit_to_tell horizon train) (λ limit. Unit) (λ limit any. limit_passed_by horizon train p placed limit) limits (λ k d within. tt)

-- without a place nothing is told of any
pub limits_nowhere : (horizon : ℕ) (train : TrainRec) → train.place ≡ None → (limits : List (ℕ × Limit)) → filter_map (limit_to_tell horizon train) limits ≡ []
limits_nowhere horizon train placed [] = refl
limits_nowhere horizon train placed (limit ∷ limits) =
    ap (λ o. cons_option o (filter_map (limit_to_tell horizon train) limits)) (untold_limit horizon train limit (ap (λ (o : Option Place). limit_told_to horizon o limit.1) placed))
    ∙ limits_nowhere horizon train placed limits

-- nothing is told where nothing is to be told
pub nothing_zipped : {A K : Type 0} (make : K × ℕ → A) (wanted : List K) (free : List ℕ) → wanted ≡ [] → [] ≡ map make (zip wanted free)
nothing_zipped make wanted free e = sym (ap (λ some. map make (zip some free)) e ∙ none_zipped free)
  where
    none_zipped : (free : List ℕ) → map make (zip [] free) ≡ []
    none_zipped [] = refl
    none_zipped (id ∷ free) = refl

pub none_active : {X : Type 0} (xs : List X) → length xs ≡ 0 → xs ≡ []
none_active [] e = refl
none_active (x ∷ xs) e = absurd (omega (arith, e))
