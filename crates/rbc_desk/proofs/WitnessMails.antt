-- What follows of worked mails.
use Rattle.std.proofs.Common.{◌≡◌, ◌⊎◌, ℕ, zero, suc, ◌+◌, List, [], ◌∷◌, ◌++◌, map, take, Some, None, Ok, inl, inr, refl, sym, ap, ◌∙◌, subst, ⊎_elim, arith}
use Rattle.std.specs.Prelude.{Contains, slice_get}
use Rattle.std.proofs.lemmas.List.Elements.{All-contains}
use Rattle.std.proofs.lemmas.Option.{same_Some}
use Rattle.ertms_codec.specs.declared.to_train.ToTrain.{ToTrain}
use Rattle.rbc_maps.specs.Numbered.{none_numbered}
use Rattle.rbc_settle.specs.declared.train.TrainRec.{TrainRec}
use Rattle.rbc_settle.specs.Actions.{Action, ChangesStop}
use Rattle.rbc_settle.specs.declared.change.StopChange.TheVariants as stop_change
use Rattle.rbc_settle.specs.declared.change.ToldStop.{ToldStop}
use Rattle.rbc_settle.specs.declared.change.ToldStop.TheVariants.{Before}
use Rattle.rbc_track.specs.Plan.{Plan}
use Rattle.rbc_settle.specs.Settling.{Stops, Limits, actions_with_stamp}
use Rattle.rbc_rule.specs.declared.input.Input.{Input}
use Rattle.rbc_rule.specs.declared.input.Input.TheVariants as input
use Rattle.rbc_rule.specs.World.{World}
use Rattle.rbc_rule.specs.Effect.{effect}
use Rattle.rbc_rule.specs.Saying.{RevokesStop}
use Rattle.rbc_rule.specs.SaidFor.{SaysFor, AllSay, after_sending, as_told, IsSendable}
use Rattle.rbc_rule.proofs.EachChanges.{one_of}
use Rattle.rbc_rule_laws.specs.Witnesses.{track_a, facing_up, on_line_0, train_7, stop_1, told_as_0, told_world, world_of, world_released, stop_before, revoke}
use Rattle.rbc_zones.proofs.ToldStops.{told_rightly}
use Rattle.rbc_track.specs.declared.group.Way.TheVariants.{Up}
use Rattle.rbc_rule_laws.proofs.WitnessSays.{differ, stop_before_sendable, revoke_sendable, right_stop, from_5, counted_from_5}
use Rattle.rbc_desk.specs.declared.outbox.Mail.{Mail}
use Rattle.rbc_desk.specs.Serial.{serial, mail}
use Rattle.rbc_desk.specs.SaidMails.{IsSaidTo, AreSaidInTurn}
use Rattle.rbc_desk.specs.Witnesses.{desk_7, stop_and_release, stop_told, stop_revoked, IsSaidThere}
use Rattle.rbc_desk.proofs.Spelled.{spells_itself}

-- the train before the first mail, and the world with the stop
abbrev pub waiting : TrainRec
waiting = train_7 (Some facing_up) 1000 []

abbrev pub with_stop : World
with_stop = world_of waiting (stop_1 (on_line_0 20000 21000)) none_numbered

-- and the train that was told it
abbrev pub told_train : TrainRec
told_train = train_7 (Some facing_up) 1001 (told_as_0 1)

-- how the stop is told
abbrev pub told_stop : ToldStop
told_stop = Before (record { dir = 1; scale = 0; distance = 10000 })

-- a mail of that run has number 1 or 2, and is said in the world of that input
module _ (engine : ℕ) (sent : Mail) where
  abbrev pub IsOneOf : Type 0
  IsOneOf = ((sent.input ≡ 1) × IsSaidTo track_a with_stop engine sent.message) ⊎ ((sent.input ≡ 2) × IsSaidTo track_a world_released engine sent.message)

  at_input : (before : ℕ) (one : Input) (changed : World) → slice_get stop_and_release before ≡ Some one → sent.input ≡ 0 + before + 1
      → effect track_a one (serial track_a desk_7 (take before stop_and_release)).world ≡ Ok changed → IsSaidTo track_a changed engine sent.message → IsOneOf
  at_input zero one changed there numbered is said =
      let same : input.Stop 1 (on_line_0 20000 21000 ∷ []) ≡ one = same_Some _ _ there in
      let made : Ok with_stop ≡ Ok changed = ap (λ (i : Input). effect track_a i desk_7.world) same ∙ is in
      let world : with_stop ≡ changed = cc in
      inl (numbered, subst (λ (w : World). IsSaidTo track_a w engine sent.message) (sym world) said)
  at_input (suc zero) one changed there numbered is said =
      let same : input.Release 1 ≡ one = same_Some _ _ there in
      let made : Ok world_released ≡ Ok changed = ap (λ (i : Input). effect track_a i told_world) same ∙ is in
      let world : world_released ≡ changed = cc in
      inr (numbered, subst (λ (w : World). IsSaidTo track_a w engine sent.message) (sym world) said)
  at_input (suc (suc n)) one changed there numbered is said = absurd (cc there)

  pub said_of_one : IsSaidThere engine sent → IsOneOf
  said_of_one said = at_input said.before said.input said.changed said.is_input said.numbered said.is_effect said.said

-- the only train, and what is done to it
module _ (train : TrainRec) (stops : Stops) (action : Action) (engine : ℕ) (message : ToTrain) (acts : actions_with_stamp track_a stops none_numbered train ≡ action ∷ [])
    (said : IsSaidTo track_a (world_of train stops none_numbered) engine message) where
  is_only : ◌≡◌ {A = ℕ × TrainRec} (7, train) (engine, said.train)
  is_only =
      let P : ℕ × TrainRec → Type 0 = λ one. ◌≡◌ {A = ℕ × TrainRec} (7, train) one in
      All-contains P ((7, train) ∷ []) (engine, said.train) (one_of P (7, train) refl) said.is_train

  pub to_7 : engine ≡ 7
  to_7 = sym (ap (λ (one : ℕ × TrainRec). one.0) is_only)

  -- it is the first and only one
  first_alone : (before : ℕ) (one : Action) → slice_get (action ∷ []) before ≡ Some one → SaysFor track_a stops none_numbered (after_sending before (as_told stops train)) one message
      → SaysFor track_a stops none_numbered (after_sending 0 (as_told stops train)) action message
  first_alone zero one is says = subst (λ (a : Action). SaysFor track_a stops none_numbered (after_sending 0 (as_told stops train)) a message) (sym (same_Some action one is)) says
  first_alone (suc before) one is says = absurd (let bad : None ≡ Some one = is in cc)

  pub says_for : SaysFor track_a stops none_numbered (after_sending 0 (as_told stops train)) action message
  says_for =
      let its : train ≡ said.train = ap (λ (one : ℕ × TrainRec). one.1) is_only in
      let there : slice_get (action ∷ []) said.before ≡ Some said.action =
      subst (λ (actions : List Action). slice_get actions said.before ≡ Some said.action) acts
      (subst (λ (t : TrainRec). slice_get (actions_with_stamp track_a stops none_numbered t) said.before ≡ Some said.action) (sym its) said.is_action) in
      first_alone said.before said.action there (subst (λ (t : TrainRec). SaysFor track_a stops none_numbered (after_sending said.before (as_told stops t)) said.action message) (sym its) said.says)

-- each mail under number 1 tells that stop, and each under number 2 revokes it
module _ (engine : ℕ) (message : ToTrain) where
  first_of : (sent : Mail) → sent.input ≡ 1 → IsSaidThere engine sent → IsSaidTo track_a with_stop engine sent.message
  first_of sent one said = ⊎_elim (λ (first : (sent.input ≡ 1) × IsSaidTo track_a with_stop engine sent.message). first.1) (λ (second : (sent.input ≡ 2) × IsSaidTo track_a world_released engine sent.message). absurd (differ 1 2 refl (sym one ∙ second.0))) (said_of_one engine sent said)

  second_of : (sent : Mail) → sent.input ≡ 2 → IsSaidThere engine sent → IsSaidTo track_a world_released engine sent.message
  second_of sent two said = ⊎_elim (λ (first : (sent.input ≡ 1) × IsSaidTo track_a with_stop engine sent.message). absurd (differ 2 1 refl (sym two ∙ first.0))) (λ (second : (sent.input ≡ 2) × IsSaidTo track_a world_released engine sent.message). second.1) (said_of_one engine sent said)

  pub first_to_7 : IsSaidThere engine (mail 1 message) → engine ≡ 7
  first_to_7 said = to_7 waiting with_stop.stops (ChangesStop (stop_change.Tell 0 1 told_stop)) engine message refl (first_of (mail 1 message) refl said)

  pub tells_stop : IsSaidThere engine (mail 1 message) → SaysFor track_a with_stop.stops none_numbered waiting (ChangesStop (stop_change.Tell 0 1 told_stop)) message
  tells_stop said = says_for waiting with_stop.stops (ChangesStop (stop_change.Tell 0 1 told_stop)) engine message refl (first_of (mail 1 message) refl said)

  pub revokes_stop : IsSaidThere engine (mail 2 message) → SaysFor track_a world_released.stops none_numbered told_train (ChangesStop (stop_change.Revoke 0 None)) message
  revokes_stop said = says_for told_train world_released.stops (ChangesStop (stop_change.Revoke 0 None)) engine message refl (second_of (mail 2 message) refl said)

  pub no_third : IsSaidThere engine (mail 3 message) → ⊥
  no_third said =
      ⊎_elim (λ (first : (3 ≡ 1) × IsSaidTo track_a with_stop engine message). differ 3 1 refl first.0) (λ (second : (3 ≡ 2) × IsSaidTo track_a world_released engine message). differ 3 2 refl second.0)
      (said_of_one engine (mail 3 message) said)

-- ---- the right ones

one_train : (train : TrainRec) → Contains {X = ℕ × TrainRec} ((7, train) ∷ []) (7, train)
one_train train = (0, omega arith, refl)

stop_sendable : IsSendable (stop_before 1 0 10000)
stop_sendable = stop_before_sendable 1 0 10000 (omega arith) (omega arith) (omega arith)

revocation_sendable : IsSendable (revoke 0)
revocation_sendable = revoke_sendable 0 (omega arith)

-- each message says what it has to
stop_said : SaysFor track_a with_stop.stops none_numbered waiting (ChangesStop (stop_change.Tell 0 1 told_stop)) (stop_before 1 0 10000)
stop_said =
    right_stop facing_up (on_line_0 20000 21000) 1 0 10000 told_stop 20000 (from_5 Up 20000 1) refl stop_sendable refl (counted_from_5 1 0 10000 Up 20000 1 refl refl refl)
    (record { scale = 0; units = 10000; told = told_rightly 10000 (omega arith); on_line = refl; from_group = refl; faces = refl; in_units = refl; ahead = refl })

revocation_said : SaysFor track_a world_released.stops none_numbered told_train (ChangesStop (stop_change.Revoke 0 None)) (revoke 0)
revocation_said =
    record { said = RevokesStop 0 ∷ []; says = refl; is_for = refl; next_stamp = refl; known_time = omega arith; by_its_kind = refl; by_its_group = refl; sendable = revocation_sendable }

pub stop_is_told : IsSaidThere 7 stop_told
stop_is_told = record {
  before = 0;
  input = input.Stop 1 (on_line_0 20000 21000 ∷ []);
  is_input = refl;
  numbered = refl;
  changed = with_stop;
  is_effect = refl;
  said = record {
    train = waiting;
    is_train = one_train waiting;
    before = 0;
    action = ChangesStop (stop_change.Tell 0 1 told_stop);
    is_action = refl;
    says = stop_said;
  };
  fits = stop_sendable.fits;
  spelled = spells_itself (stop_before 1 0 10000) stop_sendable.fits stop_sendable.holds stop_sendable.reference;
}

pub stop_is_revoked : IsSaidThere 7 stop_revoked
stop_is_revoked = record {
  before = 1;
  input = input.Release 1;
  is_input = refl;
  numbered = refl;
  changed = world_released;
  is_effect = refl;
  said = record {
    train = told_train;
    is_train = one_train told_train;
    before = 0;
    action = ChangesStop (stop_change.Revoke 0 None);
    is_action = refl;
    says = revocation_said;
  };
  fits = revocation_sendable.fits;
  spelled = spells_itself (revoke 0) revocation_sendable.fits revocation_sendable.holds revocation_sendable.reference;
}

-- ---- all mails of that run

-- one message for one action
one_for : (plan : Plan) (stops : Stops) (limits : Limits) (train : TrainRec) (action : Action) (messages : List ToTrain) → AllSay plan stops limits train (action ∷ []) messages → (one : ToTrain) × (messages ≡ one ∷ [])
one_for plan stops limits train action [] say = absurd say
one_for plan stops limits train action (one ∷ []) say = (one, refl)
one_for plan stops limits train action (one ∷ other ∷ messages) say = absurd say.1

-- they are a mail of the first input, and then one of the second
pub two_mails : (mails : List Mail) → AreSaidInTurn track_a 7 desk_7 stop_and_release mails → (first : ToTrain) × (second : ToTrain) × (mails ≡ mail 1 first ∷ mail 2 second ∷ [])
two_mails mails turn =
    let later = turn.4 in
    let first = one_for track_a with_stop.stops none_numbered (as_told with_stop.stops waiting) (ChangesStop (stop_change.Tell 0 1 told_stop)) turn.0 turn.3 in
    let second = one_for track_a world_released.stops none_numbered (as_told world_released.stops told_train) (ChangesStop (stop_change.Revoke 0 None)) later.0 later.3 in
    let none : later.1 ≡ [] = later.4 in
    let behind : turn.1 ≡ mail 2 second.0 ∷ [] = later.2 ∙ ap (λ (ms : List ToTrain). map (mail 2) ms ++ later.1) second.1 ∙ ap (λ (ms : List Mail). mail 2 second.0 ∷ ms) none in
    (first.0, second.0, turn.2 ∙ ap (λ (ms : List ToTrain). map (mail 1) ms ++ turn.1) first.1 ∙ ap (λ (ms : List Mail). mail 1 first.0 ∷ ms) behind)

pub in_turn_here : AreSaidInTurn track_a 7 desk_7 stop_and_release (stop_told ∷ stop_revoked ∷ [])
in_turn_here = (
  stop_told.message ∷ [],
  stop_revoked ∷ [],
  refl,
  (stop_said, tt),
  (stop_revoked.message ∷ [], [], refl, (revocation_said, tt), refl),
)
