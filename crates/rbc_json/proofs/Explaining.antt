-- What comes of explaining lines in objects.
use Rattle.std.proofs.Common.{◌≡◌, ◌⊎◌, ℕ, List, [], Option, Result, Ok, Err, inl, inr, refl, sym, subst}
use Rattle.std.specs.Prelude.{IsErrAnd}
use Rattle.rbc_track.specs.Reading.{IsTrackOf, RefusesTrack}
use Rattle.rbc_track.specs.declared.error.TrackError.{TrackError}
use Rattle.rbc_track.specs.declared.error.TrackError.TheVariants as track
use Rattle.rbc_account.specs.declared.account.Account.{Account}
use Rattle.rbc_account.specs.declared.fault.TellError.{TellError}
use Rattle.rbc_account.specs.declared.fault.TellError.TheVariants.{Track, Read, Memory, OnlyInputs, Write, ReaderGone}
use Rattle.rbc_account.specs.declared.log_form.LogWanted.{LogWanted}
use Rattle.rbc_account.specs.RunLogs.{IsOpenLog, IsWholeLog}
use Rattle.rbc_account.specs.Runs.{EachAccountIsTrue}
use Rattle.rbc_account.specs.Sums.{no_sums}
use Rattle.rbc_account.specs.Telling.{ArePartTold, TellsLines}
use Rattle.rbc_json.specs.Log.{ExplainsInObjects, IsSomeLogOf, IsPartInObjects, IsInObjects}
use Rattle.rbc_json.proofs.InObjects.{log_so_far, whole_log}

module _ (text : List ℕ) (wanted : LogWanted) (start : Account) (read_old read_new old new : Option (List ℕ)) (law : EachAccountIsTrue) (is : IsTrackOf text start.desk.track)
    (empty : start.desk.records ≡ []) (none : start.sums ≡ no_sums) where
  -- a log of some first lines, whole or not
  either : (lines : List (List ℕ)) (log : List ℕ) → (IsOpenLog IsInObjects wanted start lines log ⊎ IsWholeLog IsInObjects wanted start lines log) → IsSomeLogOf start.desk.track wanted lines log
  either lines log (inl open_log) = inl (log_so_far start.desk.track wanted start lines open_log.0 open_log.1 log law refl empty none open_log.2).told
  either lines log (inr whole) = inr (whole_log start.desk.track wanted start lines log law refl empty none whole)

  part_told : (sent : ℕ) → ArePartTold IsInObjects wanted start read_old read_new old new sent → IsPartInObjects text wanted read_old read_new old new sent
  part_told sent tells = (start.desk.track, is, (tells.0, tells.1, tells.2, tells.3, tells.4, tells.5, either tells.2 tells.1 tells.6, tells.7))

  -- lines that are told in objects are explained
  pub explained : {T : Type 0} (r : Result T TellError) → TellsLines IsInObjects wanted start read_old read_new old new r → ExplainsInObjects text wanted read_old read_new old new r
  explained (Ok done) tells =
      (start.desk.track, is, (tells.0, tells.1, tells.2, whole_log start.desk.track wanted start tells.0 tells.1 law refl empty none tells.3, tells.4))
  explained (Err (Track error)) tells = absurd tells
  explained (Err Read) tells =
      (start.desk.track, is, (tells.0, tells.1, tells.2, (log_so_far start.desk.track wanted start _ tells.3.0 tells.3.1 tells.1 law refl empty none tells.3.2).told, tells.4))
  explained (Err Memory) tells = (
    start.desk.track,
    is,
    (
      tells.0,
      tells.1,
      tells.2,
      tells.3,
      tells.4,
      tells.5,
      (log_so_far start.desk.track wanted start tells.2 tells.6.0 tells.6.1 tells.1 law refl empty none tells.6.2).told,
      tells.7,
    ),
  )
  explained (Err (OnlyInputs count)) tells = tells
  explained (Err (Write sent)) tells = part_told sent tells
  explained (Err (ReaderGone sent)) tells = part_told sent tells

-- the track is refused
pub track_refused : {T : Type 0} (text : List ℕ) (wanted : LogWanted) (read_old read_new old new : Option (List ℕ)) (r : Result T TellError) (error : TrackError)
    → IsErrAnd r (λ fault. fault ≡ Track error) → (error ≡ track.OutOfMemory) ⊎ RefusesTrack text error → ExplainsInObjects text wanted read_old read_new old new r
track_refused text wanted read_old read_new old new (Ok done) error bad refused = absurd bad
track_refused {T} text wanted read_old read_new old new (Err fault) error same refused =
    subst (λ (f : TellError). ExplainsInObjects {T = T} text wanted read_old read_new old new (Err f)) (sym same) refused
