-- The end of a log in objects, in pieces.
use Rattle.std.proofs.Common.{◌≡◌, ◌∙◌, ℕ, List, [], ◌++◌, Result, Ok, Err, if◌then◌else◌, is_ok, sym, ap, append_assoc, append-nil}
use Rattle.std.specs.Prelude.{OnOk}
use Rattle.std.proofs.lemmas.Result.{on_ok_weaker}
use Rattle.rbc_records.specs.declared.record.Key.{Key}
use Rattle.rbc_records.specs.declared.record.Rec.{Rec}
use Rattle.rbc_account.specs.LogSections.{IsPushed}
use Rattle.rbc_account.specs.declared.account.Sums.{Sums}
use Rattle.rbc_json.specs.Json.{json_text}
use Rattle.rbc_json.specs.Lists.{IsAny}
use Rattle.rbc_json.specs.Objects.{HasSums, sums_object}

-- nothing was added
pub none_more : (old : List ℕ) → IsPushed IsAny old old
none_more old = ([], sym (append-nil old), tt)

-- one text more
pub one_more : (old now new : List ℕ) → IsPushed IsAny old now → IsPushed IsAny now new → IsPushed IsAny old new
one_more old now new before more =
    (before.0 ++ more.0, more.1 ∙ ap (λ (t : List ℕ). t ++ more.0) before.1 ∙ append_assoc old before.0 more.0, tt)

-- what is added if there was memory for it
pub added : {T E : Type 0} (r : Result T E) (new now more : List ℕ) → new ≡ (if is_ok r then now ++ more else now) → OnOk r (new ≡ now ++ more)
added (Ok done) new now more e = e
added (Err refused) new now more e = tt

-- two pieces
pub two_more : {T E : Type 0} (r : Result T E) (old now new first second : List ℕ) → now ≡ old ++ first → new ≡ (if is_ok r then now ++ second else now)
    → OnOk r (IsPushed IsAny old new)
two_more r old now new first second one two =
    on_ok_weaker r (λ e. (first ++ second, e ∙ ap (λ (t : List ℕ). t ++ second) one ∙ append_assoc old first second, tt)) (added r new now second two)

module _ (horizon : ℕ) (records : List (Key × Rec)) (sums : Sums) where
  -- the sums in the front of a text
  has_more : (head more : List ℕ) → HasSums horizon records sums head → HasSums horizon records sums (head ++ more)
  has_more head more has = (
    has.0,
    has.1 ++ more,
    has.2,
    has.3,
    ap (λ (t : List ℕ). t ++ more) has.4
        ∙ append_assoc has.0 (json_text (sums_object sums has.2) ++ has.1) more
        ∙ ap (λ (t : List ℕ). has.0 ++ t) (append_assoc (json_text (sums_object sums has.2)) has.1 more),
  )

  -- the head, the trains, and what closes the object
  pub end_pushed : {T E : Type 0} (r : Result T E) (old one two new head close : List ℕ) → HasSums horizon records sums head → one ≡ old ++ head → IsPushed IsAny one two
      → new ≡ (if is_ok r then two ++ close else two) → OnOk r (IsPushed (HasSums horizon records sums) old new)
  end_pushed r old one two new head close has first trains last =
      on_ok_weaker r
      (λ e. (
        head ++ (trains.0 ++ close),
        e
            ∙ ap (λ (t : List ℕ). t ++ close) (trains.1 ∙ ap (λ (t : List ℕ). t ++ trains.0) first)
            ∙ append_assoc (old ++ head) trains.0 close
            ∙ append_assoc old head (trains.0 ++ close),
        has_more head (trains.0 ++ close) has,
      ))
      (added r new two close last)
