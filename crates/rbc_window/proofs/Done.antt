-- What all shares have taken in, and what is then written.
use Rattle.std.proofs.Common.{◌≡◌, ℕ, ◌++◌, List, [], length, Option, false, refl, sym, ap, subst, ◌∙◌, slice_get, Some, IsTrue}
use Rattle.rbc_track.specs.Plan.{Plan, IsPlan}
use Rattle.rbc_records.specs.declared.record.Key.{Key}
use Rattle.rbc_records.specs.declared.record.Rec.{Rec}
use Rattle.rbc_records.specs.Writes.{written}
use Rattle.rbc_rule.specs.declared.input.Input.{Input}
use Rattle.rbc_rule.specs.Lists.{is_list}
use Rattle.rbc_rule.specs.World.{World}
use Rattle.rbc_rule.proofs.AllGathered.{written-append}
use Rattle.rbc_desk.specs.declared.answer.Answer.{Answer}
use Rattle.rbc_desk.specs.Held.{Standing, Holds, AreOutboxes, AreRecordsOf}
use Rattle.rbc_desk.specs.Answers.{after_answers}
use Rattle.rbc_desk.specs.Serial.{Desk, serial}
use Rattle.rbc_desk.proofs.EachAnswer.{all_answered}
use Rattle.rbc_desk.proofs.Runs.{All-get}
use Rattle.rbc_window.specs.declared.share.Share.{Share}
use Rattle.rbc_window.specs.Messages.{Records, Setting, records_after}
use Rattle.rbc_window.specs.Moving.{list_or}
use Rattle.rbc_window.specs.Shares.{AreInPlaces, HasTaken, HasTakenIfDone, HaveTakenIfDone}
use Rattle.rbc_window.specs.Gathering.{HaveTrains, KeepRest}
use Rattle.rbc_window.specs.Answers.{AreDone, setting_of}
use Rattle.rbc_window.proofs.Serial.{all_messages}
use Rattle.rbc_window.proofs.Shared.{all_train_writes, all_written}

module _ (s : Setting) (records : Records) (inputs : List Input) (all : List Share) (taken : HaveTakenIfDone s records inputs all) (places : AreInPlaces all) where
  at_place : (place : ℕ) (share : Share) → slice_get all place ≡ Some share → HasTaken s place records inputs share.trains share.kept.items
  at_place place share is =
      let here = places place share is in
      subst (λ n. HasTaken s n records inputs share.trains share.kept.items) here.0 (All-get (HasTakenIfDone s records inputs) all place share taken is here.1)

  pub keep_all : KeepRest s records inputs all
  keep_all place share is = (at_place place share is).keeps

  pub have_trains : HaveTrains s records inputs all
  have_trains place share is = (at_place place share is).trained

-- first the lists are written, and then the trains
pub written_after : (s : Setting) (records : Records) (inputs : List Input) (all : List Share) (lists : List (Key × List ℕ)) (none first writes : List (Key × Option Rec)) → length all ≡ 32 → HaveTrains s records inputs all
    → ((k : Key) → IsTrue (is_list k) → list_or lists records k ≡ records_after s records inputs k) → ((k : Key) → is_list k ≡ false → list_or lists records k ≡ records k)
    → none ≡ [] → ((base : Records) (k : Key) → written first base k ≡ list_or lists (written none base) k) → writes ≡ first ++ all_train_writes all
    → (k : Key) → written writes records k ≡ records_after s records inputs k
written_after s records inputs all lists none first writes count trains are_lists others is_none wrote all_are k =
    let lists_first : (j : Key) → written first records j ≡ list_or lists records j = λ j. wrote records j ∙ ap (λ (ws : List (Key × Option Rec)). list_or lists (written ws records) j) is_none in
    ap (λ (ws : List (Key × Option Rec)). written ws records k) all_are
    ∙ written-append first (all_train_writes all) records k
    ∙ (λ i. written (all_train_writes all) (λ j. lists_first j i) k)
    ∙ all_written s records inputs all (λ j. list_or lists records j) count trains are_lists others k

-- a setting in which a world is settled
pub in_world : (track : Plan) (w : World) (s : Setting) → s.track ≡ track → s.stops ≡ w.stops → s.limits ≡ w.limits → s ≡ setting_of track w
in_world track w s same_track same_stops same_limits = λ i. record { track = same_track i; stops = same_stops i; limits = same_limits i }

-- all of it is taken over
pub taken_over : (track : Plan) (inputs : List Input) (held new : Standing) (answers : List Answer) (writes : List (Key × Option Rec)) → IsPlan track → AreOutboxes held.outboxes
    → ((w : World) → AreRecordsOf track held.records w → AreDone track w held.records inputs answers writes) → new ≡ after_answers held answers writes
    → (desk : Desk) → Holds track held desk → Holds track new (serial track desk inputs)
taken_over track inputs held new answers writes good boxes done is desk h =
    let d = done desk.world h.world in
    subst (λ (standing : Standing). Holds track standing (serial track desk inputs)) (sym is)
    (all_answered track held answers (records_after (setting_of track desk.world) held.records inputs) writes (serial track desk inputs) d.leaves
    (all_messages (setting_of track desk.world) good inputs held desk answers d.are_messages boxes h refl refl d.are_answers))
