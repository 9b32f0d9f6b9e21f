-- What is kept of told places after one message more.
use Rattle.std.proofs.Common.{◌≡◌, ℕ, ◌+◌, ◌==◌, cond, List, [], ◌∷◌, ◌++◌, take, Option, Some, None, refl, sym, ap, ◌∙◌}
use Rattle.std.specs.Prelude.{slice_get}
use Rattle.std.proofs.lemmas.List.{take_more}
use Rattle.std.proofs.lemmas.Option.{slice_get_within, get_or_from_slice_get}
use Rattle.rbc_track.specs.Plan.{Plan}
use Rattle.rbc_settle.specs.declared.sent.Sent.{Sent}
use Rattle.rbc_account.specs.declared.told_place.ToldPlace.{ToldPlace}
use Rattle.rbc_account.specs.ToldPlaces.{told_by, number_of, kept_with, kept_after}

same_kept : (engine number : ℕ) (told : Option (ℕ × ToldPlace)) (one other : ℕ → Option ToldPlace) → one number ≡ other number → kept_with engine told one number ≡ kept_with engine told other number
same_kept engine number None one other same = same
same_kept engine number (Some told) one other same = ap (λ (kept : Option ToldPlace). cond (number_of engine told.0 == number) (Some told.1) kept) same

module _ (plan : Plan) where
  kept_behind : (kept : ℕ → Option ToldPlace) (messages : List Sent) (last : Sent) (number : ℕ)
      → kept_after plan kept (messages ++ last ∷ []) number ≡ kept_with last.engine (told_by plan last.message) (kept_after plan kept messages) number
  kept_behind kept [] last number = refl
  kept_behind kept (first ∷ messages) last number = kept_behind (kept_with first.engine (told_by plan first.message) kept) messages last number

  pub kept_more : (old now new : ℕ → Option ToldPlace) (messages : List Sent) (i : ℕ) (sent : Sent) → slice_get messages i ≡ Some sent
      → ((number : ℕ) → now number ≡ kept_after plan old (take i messages) number)
      → ((number : ℕ) → new number ≡ kept_with sent.engine (told_by plan sent.message) now number)
      → (number : ℕ) → new number ≡ kept_after plan old (take (i + 1) messages) number
  kept_more old now new messages i sent there before one number =
      let more : take (i + 1) messages ≡ take i messages ++ sent ∷ [] =
      take_more messages i sent (slice_get_within messages i sent there) ∙ ap (λ (x : Sent). take i messages ++ x ∷ []) (get_or_from_slice_get messages i sent sent there) in
      one number
      ∙ same_kept sent.engine number (told_by plan sent.message) now (kept_after plan old (take i messages)) (before number)
      ∙ sym (kept_behind old (take i messages) sent number)
      ∙ sym (ap (λ (all : List Sent). kept_after plan old all number) more)
