-- Lines that are encoded on the track that is given.
use Rattle.std.proofs.Common.{◌≡◌, ℕ, List, Option, Some, None, Result, Ok, Err, inl, inr, sym, subst}
use Rattle.std.specs.Prelude.{option_map}
use denote.Ref.{Bor}
use Rattle.std.specs.Result.{IsErrAnd}
use Rattle.rbc_words.specs.Encoding.{plan_given}
use Rattle.rbc_track.specs.Plan.{Plan}
use Rattle.rbc_dispatch.specs.Filtering.{EncodesLines, EncodesLinesBy, IsNoTrackGiven, IsTrackGiven}
use Rattle.rbc_dispatch.specs.declared.fault.Fault.{Fault}
use Rattle.rbc_dispatch.specs.declared.fault.Fault.TheVariants.{Track}

not_given : (E : Type 0) (file : Option (List ℕ)) (fault : Fault) (read_old read_new old new : Option (List ℕ)) → IsNoTrackGiven file fault → EncodesLines {E = E} file read_old read_new old new (Err fault)
not_given E None fault read_old read_new old new none = absurd none
not_given E (Some file) (Track error) read_old read_new old new none = inl (none.0, none.1)
not_given E (Some file) _ read_old read_new old new none = inr none

-- the track is not read
pub no_track : (E : Type 0) (file : Option (List ℕ)) (fault : Fault) (r : Result E Fault) (read_old read_new old new : Option (List ℕ)) → IsErrAnd r (λ x. x ≡ fault) → IsNoTrackGiven file fault → EncodesLines {E = E} file read_old read_new old new r
no_track E file fault (Ok done) read_old read_new old new is none = absurd is
no_track E file fault (Err x) read_old read_new old new is none =
    subst (λ (f : Fault). EncodesLines {E = E} file read_old read_new old new (Err f)) (sym is) (not_given E file fault read_old read_new old new none)

on_track : (E : Type 0) (text : List ℕ) (plan : Plan) (r : Result E Fault) (read_old read_new old new : Option (List ℕ)) → IsTrackGiven (Some text) (Some plan) → EncodesLinesBy {E = E} (Some plan) read_old read_new old new r → EncodesLines {E = E} (Some text) read_old read_new old new r
on_track E text plan (Ok done) read_old read_new old new given lines = inl (given.0, (plan, given.1, lines))
on_track E text plan (Err (Track error)) read_old read_new old new given lines = absurd lines
on_track E text plan (Err _) read_old read_new old new given lines = inl (given.0, (plan, given.1, lines))

-- it is read, or none is given
pub with_track : (E : Type 0) (file : Option (List ℕ)) (plan : Option Plan) (r : Result E Fault) (read_old read_new old new : Option (List ℕ)) → IsTrackGiven file plan → EncodesLinesBy {E = E} plan read_old read_new old new r → EncodesLines {E = E} file read_old read_new old new r
with_track E None None r read_old read_new old new given lines = inl lines
with_track E None (Some plan) r read_old read_new old new given lines = absurd given
with_track E (Some file) None r read_old read_new old new given lines = absurd given
with_track E (Some file) (Some plan) r read_old read_new old new given lines = on_track E file plan r read_old read_new old new given lines

-- the track that a reference shows
pub plan_is : (track : Option (Bor Plan)) (plan : Option Plan) → option_map (λ t. t.now) track ≡ plan → plan_given track ≡ plan
plan_is None plan is = is
plan_is (Some track) plan is = is
