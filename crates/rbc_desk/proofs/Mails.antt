-- The mails of a run say what the rules give.
use Rattle.std.proofs.Common.{◌≡◌, ℕ, suc, ◌+◌, true, false, cond, eqb, List, [], ◌∷◌, ◌++◌, map, length, Some, Result, Ok, Err, refl, sym, ap, ◌∙◌, subst, arith, append_assoc}
use Rattle.std.specs.Prelude.{Contains, slice_get}
use Rattle.std.specs.List.{All}
use Rattle.std.proofs.lemmas.Bool.{eqb-true}
use Rattle.std.proofs.lemmas.List.{append-nil, length-append}
use Rattle.std.proofs.lemmas.List.Elements.{All-nil, All-cons, All-head, All-tail, All-append, All-map, All-weaker, All-contains_itself}
use Rattle.ertms_codec.specs.declared.to_train.ToTrain.{ToTrain}
use Rattle.rbc_track.specs.Plan.{Plan, IsPlan}
use Rattle.rbc_maps.specs.Maps.{value_of, value_or}
use Rattle.rbc_settle.specs.declared.train.TrainRec.{TrainRec}
use Rattle.rbc_settle.specs.Actions.{Action}
use Rattle.rbc_settle.specs.Settling.{Stops, Limits, actions_with_stamp}
use Rattle.rbc_rule.specs.declared.input.Input.{Input}
use Rattle.rbc_rule.specs.Inputs.{Fits}
use Rattle.rbc_rule.specs.World.{World}
use Rattle.rbc_rule.specs.Effect.{effect}
use Rattle.rbc_rule.specs.Step as rule
use Rattle.rbc_rule.specs.SaidFor.{SaysFor, after_sending, as_told, AllSay, AllSayTo, IsSaidAfter}
use Rattle.rbc_rule.specs.WellFormed.{IsWellFormed}
use Rattle.rbc_rule_laws.proofs.Says.{step_says}
use Rattle.rbc_desk.specs.declared.outbox.Mail.{Mail}
use Rattle.rbc_desk.specs.Serial.{Desk, step, serial, mail}
use Rattle.rbc_desk.specs.SaidMails.{IsSaidTo, IsSaidMail, AreSaidTo, AreSaidAfter, AreMailsOf, EachRunSays}
use Rattle.rbc_desk.proofs.Kept.{step_keeps}
use Rattle.rbc_desk.proofs.Sends.{sent_ascends}
use Rattle.rbc_desk.proofs.Spelled.{spells_itself}
use Rattle.rbc_desk.proofs.Posts.{all_posted}

module _ (track : Plan) where
  -- a message for each action is one for some action, behind those for the actions before it
  abbrev IsForSome : Stops → Limits → TrainRec → List Action → ToTrain → Type 0
  IsForSome stops limits train whole message = (before : ℕ) × (action : Action) × (slice_get whole before ≡ Some action) × SaysFor track stops limits (after_sending before train) action message

  each_for_some : (stops : Stops) (limits : Limits) (train : TrainRec) (whole actions : List Action) (at : ℕ) (sent : List ToTrain) → ((k : ℕ) → slice_get whole (at + k) ≡ slice_get actions k)
      → AllSay track stops limits (record train { stamp = train.stamp + at }) actions sent → All (IsForSome stops limits train whole) sent
  each_for_some stops limits train whole [] at [] there say = All-nil (IsForSome stops limits train whole)
  each_for_some stops limits train whole [] at (one ∷ sent) there say = absurd say
  each_for_some stops limits train whole (action ∷ actions) at [] there say = absurd say
  each_for_some stops limits train whole (action ∷ actions) at (one ∷ sent) there say =
      let here : at ≡ at + 0 = omega arith in
      let sums : train.stamp + at + 1 ≡ train.stamp + (at + 1) = omega arith in
      All-cons (IsForSome stops limits train whole) one sent (at, action, ap (slice_get whole) here ∙ there 0, say.0)
      (each_for_some stops limits train whole actions (at + 1) sent (λ k. let next : at + 1 + k ≡ at + suc k = omega arith in ap (slice_get whole) next ∙ there (suc k))
      (subst (λ (stamp : ℕ). AllSay track stops limits (record train { stamp = stamp }) actions sent) sums say.1))

  -- so each message to an engine is said to its train
  said_to : (w : World) (engine : ℕ) (trains : List (ℕ × TrainRec)) (sent : List (ℕ × List ToTrain)) → All (Contains w.trains) trains → AllSayTo track w.stops w.limits trains sent
      → All (IsSaidTo track w engine) (value_or [] sent engine)
  said_to w engine [] [] within say = All-nil (IsSaidTo track w engine)
  said_to w engine [] (one ∷ sent) within say = absurd say
  said_to w engine (train ∷ trains) [] within say = absurd say
  said_to w engine (train ∷ trains) (one ∷ sent) within say =
      let there : Contains w.trains train = All-head (Contains w.trains) train trains within in
      let rest = said_to w engine trains sent (All-tail (Contains w.trains) train trains within) say.1.1 in
      let actions = actions_with_stamp track w.stops w.limits train.1 in
      let seen = as_told w.stops train.1 in
      let begins : train.1.stamp ≡ train.1.stamp + 0 = omega arith in
      let first = each_for_some w.stops w.limits seen actions actions 0 one.1 (λ k. let same : 0 + k ≡ k = omega arith in ap (slice_get actions) same)
      (subst (λ (stamp : ℕ). AllSay track w.stops w.limits (record seen { stamp = stamp }) actions one.1) begins say.1.0) in
      (elim (eqb one.0 engine) as (λ b. eqb one.0 engine ≡ b → All (IsSaidTo track w engine) (cond b one.1 (value_or [] sent engine))) [
        | true ↦ λ is.
            let key : train.0 ≡ engine = sym say.0 ∙ eqb-true one.0 engine is in
            All-weaker (IsForSome w.stops w.limits seen actions) (IsSaidTo track w engine)
            (λ message for. record { train = train.1; is_train = subst (λ e. Contains w.trains (e, train.1)) key there; before = for.0; action = for.1; is_action = for.2; says = for.3 }) one.1 first
        | false ↦ λ is. rest
      ]) refl

  -- and all messages to an engine are those to its train
  all_to : (w : World) (engine : ℕ) (trains : List (ℕ × TrainRec)) (sent : List (ℕ × List ToTrain)) → AllSayTo track w.stops w.limits trains sent
      → AreSaidTo track w (value_of trains engine) (value_or [] sent engine)
  all_to w engine [] [] say = refl
  all_to w engine [] (one ∷ sent) say = absurd say
  all_to w engine (train ∷ trains) [] say = absurd say
  all_to w engine (train ∷ trains) (one ∷ sent) say =
      let rest = all_to w engine trains sent say.1.1 in
      subst (λ (key : ℕ). AreSaidTo track w (cond (eqb key engine) (Some train.1) (value_of trains engine)) (cond (eqb one.0 engine) one.1 (value_or [] sent engine))) say.0
      (elim (eqb one.0 engine) as (λ b. AreSaidTo track w (cond b (Some train.1) (value_of trains engine)) (cond b one.1 (value_or [] sent engine))) [ true ↦ say.1.0 | false ↦ rest ])

  -- what is sent after an input
  abbrev IsSaidIn : Result World ℕ → ℕ → ToTrain → Type 0
  IsSaidIn result engine message = (changed : World) × (result ≡ Ok changed) × IsSaidTo track changed engine message

  said_after : (result : Result World ℕ) (engine : ℕ) (sent : List (ℕ × List ToTrain)) → IsSaidAfter track result sent → All (IsSaidIn result engine) (value_or [] sent engine)
  said_after (Err code) engine sent say = subst (λ (s : List (ℕ × List ToTrain)). All (IsSaidIn (Err code) engine) (value_or [] s engine)) (sym say) (All-nil (IsSaidIn (Err code) engine))
  said_after (Ok changed) engine sent say =
      All-weaker (IsSaidTo track changed engine) (IsSaidIn (Ok changed) engine) (λ message said. (changed, refl, said)) (value_or [] sent engine) (said_to changed engine changed.trains sent (All-contains_itself changed.trains) say)

  all_after : (result : Result World ℕ) (engine : ℕ) (sent : List (ℕ × List ToTrain)) → IsSaidAfter track result sent → AreSaidAfter track engine result (value_or [] sent engine)
  all_after (Err code) engine sent say = ap (λ (s : List (ℕ × List ToTrain)). value_or [] s engine) say
  all_after (Ok changed) engine sent say = all_to changed engine changed.trains sent say

  -- the mails of the first input
  first_said : (desk : Desk) (input : Input) (inputs : List Input) (engine : ℕ) (messages : List ToTrain) → All (IsSaidIn (effect track input desk.world) engine) messages
      → All (IsSaidMail track desk (input ∷ inputs) engine) (map (mail (length desk.results + 1)) messages)
  first_said desk input inputs engine messages said =
      let P = IsSaidMail track desk (input ∷ inputs) engine in
      let number = length desk.results + 1 in
      All-map P (mail number) messages (All-weaker (IsSaidIn (effect track input desk.world) engine) (λ message. P (mail number message))
      (λ message s.
      let sendable = s.2.says.sendable in
      record {
        before = 0;
        input = input;
        is_input = refl;
        numbered = omega arith;
        changed = s.0;
        is_effect = s.1;
        said = s.2;
        fits = sendable.fits;
        spelled = spells_itself message sendable.fits sendable.holds sendable.reference;
      }) messages said)

  -- a mail of the other inputs
  later_said : (desk : Desk) (input : Input) (inputs : List Input) (engine : ℕ) (one : Mail) → IsSaidMail track (step track desk input) inputs engine one → IsSaidMail track desk (input ∷ inputs) engine one
  later_said desk input inputs engine one said =
      let more = length-append desk.results ((rule.step track desk.world input).reply ∷ []) in
      let numbered = said.numbered in
      record {
        before = suc said.before;
        input = said.input;
        is_input = said.is_input;
        numbered = omega (arith, more, numbered);
        changed = said.changed;
        is_effect = said.is_effect;
        said = said.said;
        fits = said.fits;
        spelled = said.spelled;
      }

  run_says : (desk : Desk) (inputs : List Input) (engine : ℕ) → IsPlan track → IsWellFormed track desk.world → All Fits inputs
      → (more : List Mail) × (value_or [] (serial track desk inputs).outboxes engine ≡ value_or [] desk.outboxes engine ++ more) × AreMailsOf track desk inputs engine more
  run_says desk [] engine good well fit = ([], sym (append-nil (value_or [] desk.outboxes engine)), record { each = All-nil (IsSaidMail track desk [] engine); in_turn = refl })
  run_says desk (input ∷ inputs) engine good well fit =
      let fits = All-head Fits input inputs fit in
      let next = step track desk input in
      let rest = run_says next inputs engine good (step_keeps track desk.world input good fits well) (All-tail Fits input inputs fit) in
      let sent = (rule.step track desk.world input).sent in
      let messages = value_or [] sent engine in
      let mails = map (mail (length desk.results + 1)) messages in
      let posted : value_or [] next.outboxes engine ≡ value_or [] desk.outboxes engine ++ mails = all_posted (length desk.results + 1) 0 sent desk.outboxes engine (sent_ascends track desk.world input well.ascending) in
      let says = step_says track desk.world input good fits well in
      let P = IsSaidMail track desk (input ∷ inputs) engine in (
        mails ++ rest.0,
        rest.1 ∙ ap (λ (ms : List Mail). ms ++ rest.0) posted ∙ append_assoc (value_or [] desk.outboxes engine) mails rest.0,
        record {
          each = All-append P mails rest.0 (first_said desk input inputs engine messages (said_after (effect track input desk.world) engine sent says))
              (All-weaker (IsSaidMail track next inputs engine) P (later_said desk input inputs engine) rest.0 rest.2.each);
          in_turn = (messages, rest.0, refl, all_after (effect track input desk.world) engine sent says, rest.2.in_turn);
        },
      )

pub each_run_says : EachRunSays
each_run_says track desk inputs good well fit engine = run_says track desk inputs engine good well fit
