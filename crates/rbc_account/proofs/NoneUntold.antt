-- A stop or a restriction that is untold to no train comes to wait at none.
use Rattle.std.proofs.Common.{◌≡◌, ℕ, Bool, true, false, cond, List, [], ◌∷◌, length, Option, Some, None, is_none, option_map, option_and_then, refl, ap, ◌∙◌}
use Rattle.std.specs.List.{filter, filter_map, cons_option}
use Rattle.std.specs.Option.{option_map_or}
use Rattle.rbc_maps.specs.Maps.{value_of}
use Rattle.rbc_place.specs.Placing.{Place}
use Rattle.rbc_ids.specs.Table.{is_told}
use Rattle.rbc_zones.specs.declared.segment.Segment.{Segment}
use Rattle.rbc_zones.specs.Limits.{Limit}
use Rattle.rbc_settle.specs.declared.train.TrainRec.{TrainRec}
use Rattle.rbc_settle.specs.Settling.{stop_to_tell, limit_to_tell, limit_told_to}
use Rattle.rbc_settle.proofs.ToTell.{stop_told_already, limit_told_already}
use Rattle.rbc_settle.proofs.OneLine.{untold_limit}
use Rattle.rbc_records.specs.declared.record.Key.{Key}
use Rattle.rbc_records.specs.declared.record.Rec.{Rec}
use Rattle.rbc_rule.specs.declared.input.Input.{Input}
use Rattle.rbc_rule.specs.declared.input.Input.TheVariants as input
use Rattle.rbc_rule.specs.declared.outcome.Reply.{Reply}
use Rattle.rbc_rule.specs.declared.outcome.Reply.TheVariants.{Done, Refused}
use Rattle.rbc_live.specs.declared.waiting.Waiting.{Waiting}
use Rattle.rbc_account.specs.declared.counts.Counts.{Counts}
use Rattle.rbc_account.specs.declared.counts.Share.{Share}
use Rattle.rbc_account.specs.declared.counts.Share.TheVariants.{Told, Untold, Unplaced, Unconcerned}
use Rattle.rbc_live.specs.Known.{train_in, engines_in, active_stops, active_limits}
use Rattle.rbc_live.specs.Waits.{stop_waits, limit_waits, waiting_stop, waiting_limit}
use Rattle.rbc_account.specs.Coming.{come_to_wait, stop_come, limit_come, stop_come_at, limit_come_at, stop_at, limit_at}
use Rattle.rbc_account.specs.Counting.{is_share, how_many, stop_share, limit_share, counts_of, counts_after, stop_shares, limit_shares, stop_counts, limit_counts}
use Rattle.rbc_live.proofs.Causing.{none_waits}
use Rattle.rbc_live.proofs.NothingWaits.{one_only}

-- ---- at one train

-- it comes to wait, or not
abbrev come_if : Bool → ℕ → Waiting → Option (ℕ × Waiting)
come_if b engine waiting = cond b (Some (engine, waiting)) None

stop_none : (stop : ℕ × List Segment) (engine : ℕ) (train : TrainRec) → is_share Untold (stop_share stop train) ≡ false → stop_at stop engine train ≡ None
stop_none stop engine train =
    (elim (stop_waits train stop) as (λ b. stop_waits train stop ≡ b → is_share Untold (cond (is_told train.stops stop.0) Told (cond b Untold Unconcerned)) ≡ false
    → come_if b engine (waiting_stop train stop.0) ≡ None) [
      | true ↦ λ waits.
          (elim (is_told train.stops stop.0) as (λ t. is_told train.stops stop.0 ≡ t → is_share Untold (cond t Told Untold) ≡ false → come_if true engine (waiting_stop train stop.0) ≡ None) [
            | true ↦ λ told untold. absurd (none_waits (stop_to_tell train stop) (stop_told_already train stop told) waits)
            | false ↦ λ told untold. absurd (one_only true refl untold)
          ]) refl
      | false ↦ λ waits untold. refl
    ]) refl

no_place : (horizon : ℕ) (place : Option Place) (limit : Limit) → is_none place ≡ true → limit_told_to horizon place limit ≡ None
no_place horizon None limit none = refl
no_place horizon (Some place) limit none = absurd (one_only false none refl)

limit_none : (horizon : ℕ) (limit : ℕ × Limit) (engine : ℕ) (train : TrainRec) → is_share Untold (limit_share horizon limit train) ≡ false → limit_at horizon limit engine train ≡ None
limit_none horizon limit engine train =
    (elim (limit_waits horizon train limit) as (λ b. limit_waits horizon train limit ≡ b
    → is_share Untold (cond (is_told train.limits limit.0) Told (cond (is_none train.place) Unplaced (cond b Untold Unconcerned))) ≡ false
    → come_if b engine (waiting_limit train limit.0) ≡ None) [
      | true ↦ λ waits.
          (elim (is_told train.limits limit.0) as (λ t. is_told train.limits limit.0 ≡ t → is_share Untold (cond t Told (cond (is_none train.place) Unplaced Untold)) ≡ false
          → come_if true engine (waiting_limit train limit.0) ≡ None) [
            | true ↦ λ told untold. absurd (none_waits (limit_to_tell horizon train limit) (limit_told_already horizon train limit told) waits)
            | false ↦ λ told.
                (elim (is_none train.place) as (λ p. is_none train.place ≡ p → is_share Untold (cond p Unplaced Untold) ≡ false → come_if true engine (waiting_limit train limit.0) ≡ None) [
                  | true ↦ λ none untold. absurd (none_waits (limit_to_tell horizon train limit) (untold_limit horizon train limit (no_place horizon train.place limit.1 none)) waits)
                  | false ↦ λ none untold. absurd (one_only true refl untold)
                ]) refl
          ]) refl
      | false ↦ λ waits untold. refl
    ]) refl

-- ---- at all trains

module _ (records : List (Key × Rec)) (share : TrainRec → Share) (come : ℕ → TrainRec → Option (ℕ × Waiting)) (none : (engine : ℕ) (train : TrainRec) → is_share Untold (share train) ≡ false → come engine train ≡ None) where
  abbrev shares : List ℕ → List Share
  shares engines = filter_map (λ engine. option_map share (train_in records engine)) engines

  abbrev all_come : List ℕ → List (ℕ × Waiting)
  all_come engines = filter_map (λ engine. option_and_then (come engine) (train_in records engine)) engines

  one_none : (engine : ℕ) (rest : List ℕ) (train : TrainRec) → how_many Untold (share train ∷ shares rest) ≡ 0 → (how_many Untold (shares rest) ≡ 0 → all_come rest ≡ []) → cons_option (come engine train) (all_come rest) ≡ []
  one_none engine rest train =
      (elim (is_share Untold (share train)) as (λ b. is_share Untold (share train) ≡ b → length (cond b (share train ∷ filter (is_share Untold) (shares rest)) (filter (is_share Untold) (shares rest))) ≡ 0
      → (how_many Untold (shares rest) ≡ 0 → all_come rest ≡ []) → cons_option (come engine train) (all_come rest) ≡ []) [
        | true ↦ λ untold zero more. absurd (cc zero)
        | false ↦ λ untold zero more. ap (λ (one : Option (ℕ × Waiting)). cons_option one (all_come rest)) (none engine train untold) ∙ more zero
      ]) refl

  none_come : (engines : List ℕ) → how_many Untold (shares engines) ≡ 0 → all_come engines ≡ []
  none_come [] zero = refl
  none_come (engine ∷ rest) zero =
      (elim (train_in records engine) as (λ found. how_many Untold (cons_option (option_map share found) (shares rest)) ≡ 0 → cons_option (option_and_then (come engine) found) (all_come rest) ≡ []) [
        | None ↦ λ left. none_come rest left
        | Some train ↦ λ left. one_none engine rest train left (none_come rest)
      ]) zero

-- ---- by an input

module _ (horizon : ℕ) (records : List (Key × Rec)) (before : Option TrainRec) (counts : Counts) (zero : counts.untold ≡ 0) where
  untold_of : (all : List Share) → Some (counts_of all) ≡ Some counts → how_many Untold all ≡ 0
  untold_of all same = (let e : counts_of all ≡ counts = cc in ap (λ (c : Counts). c.untold) e) ∙ zero

  by_stop : (number : ℕ) → stop_counts records number ≡ Some counts → stop_come records number ≡ []
  by_stop number =
      elim (value_of (active_stops records) number) as (λ found. option_map (λ area. counts_of (stop_shares records (number, area))) found ≡ Some counts
      → option_map_or (λ area. filter_map (stop_come_at records (number, area)) (engines_in records)) found [] ≡ []) [
        | None ↦ λ same. refl
        | Some area ↦ λ same.
            none_come records (stop_share (number, area)) (stop_at (number, area)) (stop_none (number, area)) (engines_in records) (untold_of (stop_shares records (number, area)) same)
      ]

  by_limit : (number : ℕ) → limit_counts records horizon number ≡ Some counts → limit_come records horizon number ≡ []
  by_limit number =
      elim (value_of (active_limits records) number) as (λ found. option_map (λ limit. counts_of (limit_shares records horizon (number, limit))) found ≡ Some counts
      → option_map_or (λ limit. filter_map (limit_come_at records horizon (number, limit)) (engines_in records)) found [] ≡ []) [
        | None ↦ λ same. refl
        | Some limit ↦ λ same.
            none_come records (limit_share horizon (number, limit)) (limit_at horizon (number, limit)) (limit_none horizon (number, limit)) (engines_in records)
            (untold_of (limit_shares records horizon (number, limit)) same)
      ]

  uncounted : None ≡ Some counts → ⊥
  uncounted e = cc

  pub none_come_to_wait : (input : Input) (reply : Reply) → counts_after horizon records input reply ≡ Some counts → come_to_wait horizon records before input reply ≡ []
  none_come_to_wait (input.Stop number segments) (Done sent) same = by_stop number same
  none_come_to_wait (input.Restrict number segment dirs speed front) (Done sent) same = by_limit number same
  none_come_to_wait (input.Enrol engine length) (Done sent) same = absurd (uncounted same)
  none_come_to_wait (input.Withdraw engine) (Done sent) same = absurd (uncounted same)
  none_come_to_wait (input.Release number) (Done sent) same = absurd (uncounted same)
  none_come_to_wait (input.Lift number) (Done sent) same = absurd (uncounted same)
  none_come_to_wait (input.Received message) (Done sent) same = absurd (uncounted same)
  none_come_to_wait (input.Bad code) (Done sent) same = absurd (uncounted same)
  none_come_to_wait input (Refused code) same = refl
