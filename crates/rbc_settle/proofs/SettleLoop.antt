-- Carrying out actions, one after another: what was done so far, and what is left, is what was to be done.
use Rattle.std.proofs.Common.{◌≡◌, ℕ, suc, ◌+◌, ◌-◌, ◌<◌, ◌≤◌, min, List, [], ◌∷◌, ◌++◌, length, map, take, drop, get_or, Option, Some, None, IfSome, IfNone, refl, sym, ap, ◌∙◌, subst, arith, drop-cons}
use Rattle.std.specs.List.{All, fold, scan}
use Rattle.std.proofs.lemmas.List.{length-map, length-take, length-append, take_min, drop_min, append_assoc, append-nil, map-append}
use Rattle.std.proofs.lemmas.List.Sums.{fold-append}
use Rattle.std.proofs.lemmas.List.Elements.{All-push}
use Rattle.ertms_codec.specs.declared.to_train.ToTrain.{ToTrain}
use Rattle.ertms_codec.specs.ToTrain.{Fits}
use Rattle.rbc_track.specs.Plan.{Plan}
use Rattle.rbc_maps.specs.Numbered.{AreNumbered}
use Rattle.rbc_settle.specs.declared.train.TrainRec.{TrainRec}
use Rattle.rbc_settle.specs.declared.change.StopChange.{StopChange}
use Rattle.rbc_settle.specs.declared.change.StopChange.TheVariants as stop_change
use Rattle.rbc_settle.specs.declared.change.LimitChange.{LimitChange}
use Rattle.rbc_settle.specs.declared.sent.Sent.{Sent}
use Rattle.rbc_settle.specs.Actions.{Action, ChangesStop, ChangesLimits, groups}
use Rattle.rbc_settle.specs.Settling.{Stops, Limits, last_stamp, actions, actions_with_stamp, in_messages, carried_out, message_of, settled, messages_of, to_engine}
use Rattle.rbc_settle.specs.Following.{Allows, CanFollow}
use Rattle.rbc_settle.specs.Sending.{CanTake, HasTaken, AreBehind}
use Rattle.rbc_settle.specs.UpToDate.{HasTables, IsUpToDateOrAtTheEnd}
use Rattle.rbc_settle.proofs.Follows.{can_follow, can_follow-take, follows_first, follows_then}
use Rattle.rbc_settle.proofs.Achieves.{up_to_date}
use Rattle.rbc_settle.proofs.Carrying.{keeps_tables}
use Rattle.rbc_settle.proofs.Carried.{next_stamp, stamp_after}
use Rattle.rbc_settle.proofs.Few.{few_messages}
use Rattle.rbc_settle.proofs.Groups.{groups_cons}

pub same_engine : (train : TrainRec) (action : Action) → (carried_out train action).engine ≡ train.engine
same_engine train (ChangesStop (stop_change.Revoke id number)) = refl
same_engine train (ChangesStop (stop_change.Tell id number told)) = refl
same_engine train (ChangesLimits changes) = refl

pub same_engine_after : (train : TrainRec) (acts : List Action) → (fold carried_out train acts).engine ≡ train.engine
same_engine_after train [] = refl
same_engine_after train (action ∷ acts) = same_engine_after (carried_out train action) acts ∙ same_engine train action

scan-append : {S X Y : Type 0} (next : S → X → S) (out : S → X → Y) (start : S) (xs ys : List X) → scan next out start (xs ++ ys) ≡ scan next out start xs ++ scan next out (fold next start xs) ys
scan-append next out start [] ys = refl
scan-append next out start (x ∷ xs) ys = ap (λ zs. out start x ∷ zs) (scan-append next out (next start x) xs ys)

tables_after : (train : TrainRec) (acts : List Action) → HasTables train → CanFollow train acts → HasTables (fold carried_out train acts)
tables_after train [] tables can = tables
tables_after train (action ∷ acts) tables can = tables_after (carried_out train action) acts (keeps_tables train action tables can.0) can.1

-- ---- the first actions, and those behind them

module _ (train : TrainRec) (first more : List Action) (can : CanTake train (first ++ more)) where
  counted : length (first ++ more) ≡ length first + length more
  counted = length-append first more

  pub can_take_first : CanTake train first
  can_take_first = record { tables = can.tables; follows = follows_first train first more can.follows; stamps = let all = can.stamps in omega (arith, all, counted) }

  pub can_take_then : CanTake (fold carried_out train first) more
  can_take_then = record {
    tables = tables_after train first can.tables (follows_first train first more can.follows);
    follows = follows_then train first more can.follows;
    stamps = let all = can.stamps in let after = stamp_after train first in omega (arith, all, counted, after);
  }

-- so where the changes to stops were made, those to restrictions can be
pub after_stops : (train : TrainRec) (stops its_stops : List StopChange) (limits its_limits : List LimitChange) (now : TrainRec) → its_stops ≡ stops → its_limits ≡ limits
    → now ≡ fold carried_out train (map ChangesStop its_stops) → CanTake train (in_messages stops limits) → CanTake now (map ChangesLimits (groups its_limits))
after_stops train stops its_stops limits its_limits now same_stops same_limits is can =
    subst (λ (t : TrainRec). CanTake t (map ChangesLimits (groups its_limits))) (sym (is ∙ ap (λ (cs : List StopChange). fold carried_out train (map ChangesStop cs)) same_stops))
    (subst (λ (cs : List LimitChange). CanTake (fold carried_out train (map ChangesStop stops)) (map ChangesLimits (groups cs))) (sym same_limits)
    (can_take_then train (map ChangesStop stops) (map ChangesLimits (groups limits)) can))

pub taken_both : (train middle now : TrainRec) (first more : List Action) (before between sent : List Sent) → HasTaken train first before middle between → HasTaken middle more between now sent
    → HasTaken train (first ++ more) before now sent
taken_both train middle now first more before between sent one other =
    let sent_first = scan carried_out message_of train first in
    let sent_more = scan carried_out message_of (fold carried_out train first) more in
    let engine : middle.engine ≡ train.engine = ap (λ (t : TrainRec). t.engine) one.train ∙ same_engine_after train first in
    record {
      train = other.train ∙ ap (λ (t : TrainRec). fold carried_out t more) one.train ∙ sym (fold-append carried_out train first more);
      told =
          other.told
          ∙ (λ i. one.told i ++ to_engine (engine i) (scan carried_out message_of (one.train i) more))
          ∙ append_assoc before (to_engine train.engine sent_first) (to_engine train.engine sent_more)
          ∙ ap (λ (sents : List Sent). before ++ sents) (sym (map-append (λ (message : ToTrain). record { engine = train.engine; message = message }) sent_first sent_more))
          ∙ ap (λ (messages : List ToTrain). before ++ to_engine train.engine messages) (sym (scan-append carried_out message_of train first more));
      fit = λ fits. other.fit (one.fit fits);
    }

pub all_taken : (train : TrainRec) (stops its_stops : List StopChange) (limits its_limits : List LimitChange) (middle now : TrainRec) (before between sent : List Sent) → its_stops ≡ stops → its_limits ≡ limits
    → HasTaken train (map ChangesStop its_stops) before middle between → HasTaken middle (map ChangesLimits (groups its_limits)) between now sent → HasTaken train (in_messages stops limits) before now sent
all_taken train stops its_stops limits its_limits middle now before between sent same_stops same_limits one other =
    taken_both train middle now (map ChangesStop stops) (map ChangesLimits (groups limits)) before between sent
    (subst (λ (cs : List StopChange). HasTaken train (map ChangesStop cs) before middle between) same_stops one)
    (subst (λ (cs : List LimitChange). HasTaken middle (map ChangesLimits (groups cs)) between now sent) same_limits other)

-- ---- the loops

-- A train at `start` has all of some actions to do. At `now` messages were sent behind others, and these actions are left.
pub record IsOnTheWay (start : TrainRec) (all : List Action) (before : List Sent) (now : TrainRec) (sent : List Sent) (left : List Action) : Type 0 where
  pub can : CanTake now left
  pub engine : now.engine ≡ start.engine
  pub train : fold carried_out now left ≡ fold carried_out start all
  pub done : List ToTrain
  pub sent_is : sent ≡ before ++ to_engine start.engine done
  pub told : done ++ scan carried_out message_of now left ≡ scan carried_out message_of start all
  pub fit : All (λ one. Fits one.message) before → All (λ one. Fits one.message) sent

pub sets_out : (start : TrainRec) (all : List Action) (before : List Sent) → CanTake start all → IsOnTheWay start all before start before all
sets_out start all before can = record { can = can; engine = refl; train = refl; done = []; sent_is = sym (append-nil before); told = refl; fit = λ fits. fits }

module _ (start : TrainRec) (all : List Action) (before : List Sent) (now : TrainRec) (sent : List Sent) (action : Action) (rest : List Action) (way : IsOnTheWay start all before now sent (action ∷ rest)) where
  pub is_allowed : Allows now action
  is_allowed = way.can.follows.0

  pub has_tables : HasTables now
  has_tables = way.can.tables

  pub has_stamp : now.stamp + 1 < 4294967296
  has_stamp = let stamps : now.stamp + suc (length rest) ≤ 4294967294 = way.can.stamps in omega arith

  pub goes_on : (after : TrainRec) → after ≡ carried_out now action → (one : Sent) → one.engine ≡ now.engine → one.message ≡ message_of now action → Fits one.message → (more : List Sent) → more ≡ sent ++ one ∷ []
      → IsOnTheWay start all before after more rest
  goes_on after is one engine message fits more pushed =
      let same : one ≡ record { engine = start.engine; message = message_of now action } = (let to = engine ∙ way.engine in λ i. record { engine = to i; message = message i }) in
      let others = scan carried_out message_of (carried_out now action) rest in
      subst (λ (t : TrainRec). IsOnTheWay start all before t more rest) (sym is) (record {
        can = record {
          tables = keeps_tables now action way.can.tables way.can.follows.0;
          follows = way.can.follows.1;
          stamps = let stamps : now.stamp + suc (length rest) ≤ 4294967294 = way.can.stamps in let next = next_stamp now action in omega (arith, stamps, next);
        };
        engine = same_engine now action ∙ way.engine;
        train = way.train;
        done = way.done ++ message_of now action ∷ [];
        sent_is =
            pushed
            ∙ (λ i. way.sent_is i ++ same i ∷ [])
            ∙ append_assoc before (to_engine start.engine way.done) (record { engine = start.engine; message = message_of now action } ∷ [])
            ∙ ap (λ (sents : List Sent). before ++ sents)
            (sym (map-append (λ (message : ToTrain). record { engine = start.engine; message = message }) way.done (message_of now action ∷ [])));
        told = append_assoc way.done (message_of now action ∷ []) others ∙ way.told;
        fit = λ before_fit. subst (All (λ (one : Sent). Fits one.message)) (sym pushed) (All-push (λ (one : Sent). Fits one.message) sent one (way.fit before_fit) fits);
      })

-- the item at an index is the first of those that are left
pub left_at : {X : Type 0} (xs : List X) (i : ℕ) (x : X) → i < length xs → x ≡ get_or xs i x → drop i xs ≡ x ∷ drop (i + 1) xs
left_at xs i x within read =
    let next : suc i ≡ i + 1 = omega arith in
    drop-cons xs i x within ∙ ap (λ y. y ∷ drop (suc i) xs) (sym read) ∙ ap (λ n. x ∷ drop n xs) next

-- the next action is the change at an index
pub next_stop : (start : TrainRec) (changes : List StopChange) (before : List Sent) (now : TrainRec) (sent : List Sent) (i : ℕ) (change : StopChange) → i < length changes → change ≡ get_or changes i change
    → IsOnTheWay start (map ChangesStop changes) before now sent (map ChangesStop (drop i changes))
    → IsOnTheWay start (map ChangesStop changes) before now sent (ChangesStop change ∷ map ChangesStop (drop (i + 1) changes))
next_stop start changes before now sent i change within read way =
    subst (λ (left : List StopChange). IsOnTheWay start (map ChangesStop changes) before now sent (map ChangesStop left)) (left_at changes i change within read) way

-- or the first hundred changes of those that are left
pub next_group : (start : TrainRec) (all : List Action) (before : List Sent) (now : TrainRec) (sent : List Sent) (rest group behind : List LimitChange) → 0 < length rest → group ≡ take 100 rest → behind ≡ drop 100 rest
    → IsOnTheWay start all before now sent (map ChangesLimits (groups rest))
    → IsOnTheWay start all before now sent (ChangesLimits group ∷ map ChangesLimits (groups behind))
next_group start all before now sent [] group behind some is_group is_behind way = absurd (omega (arith, some))
next_group start all before now sent (change ∷ rest) group behind some is_group is_behind way =
    subst (λ (gs : List (List LimitChange)). IsOnTheWay start all before now sent (map ChangesLimits gs))
    (groups_cons change rest ∙ (λ i. sym is_group i ∷ groups (sym is_behind i))) way

-- a list is cut behind a hundred, or behind all
pub cut_first : (mid : ℕ) (rest : List LimitChange) → mid ≡ min (length rest) 100 → take mid rest ≡ take 100 rest
cut_first mid rest is = let same : mid ≡ min 100 (length rest) = omega (arith, is) in ap (λ n. take n rest) same ∙ take_min 100 rest

pub cut_behind : (mid : ℕ) (rest : List LimitChange) → mid ≡ min (length rest) 100 → drop mid rest ≡ drop 100 rest
cut_behind mid rest is = let same : mid ≡ min 100 (length rest) = omega (arith, is) in ap (λ n. drop n rest) same ∙ drop_min 100 rest

pub arrives : (start : TrainRec) (all : List Action) (before : List Sent) (now : TrainRec) (sent : List Sent) (left : List Action) → left ≡ [] → IsOnTheWay start all before now sent left → HasTaken start all before now sent
arrives start all before now sent left none way =
    let end : IsOnTheWay start all before now sent [] = subst (IsOnTheWay start all before now sent) none way in
    record {
      train = end.train;
      told = end.sent_is ∙ ap (λ (messages : List ToTrain). before ++ to_engine start.engine messages) (sym (append-nil end.done) ∙ end.told);
      fit = end.fit;
    }

pub are_behind : (start : TrainRec) (all : List Action) (before : List Sent) (now : TrainRec) (sent : List Sent) (left : List Action) → IsOnTheWay start all before now sent left → AreBehind before sent
are_behind start all before now sent left way = record { more = to_engine start.engine way.done; is = way.sent_is }

-- ---- settling

module _ (plan : Plan) (stops : Stops) (limits : Limits) (train : TrainRec) (tables : HasTables train) (numbered : AreNumbered stops × AreNumbered limits) where
  -- it is up to date once it is settled
  pub reached : IsUpToDateOrAtTheEnd plan stops limits (settled plan stops limits train)
  reached = up_to_date plan stops limits train tables numbered.0 numbered.1

  -- its actions can be taken, if there are any
  pub can_take : (all : List Action) → all ≡ actions_with_stamp plan stops limits train → 0 < length all → CanTake train all
  can_take all is some =
      let room = last_stamp - train.stamp in
      let few : length (take room (actions plan stops limits train)) ≤ room = omega (arith, length-take room (actions plan stops limits train)) in
      let counted : length all ≡ length (take room (actions plan stops limits train)) = ap length is in
      record {
        tables = tables;
        follows = subst (CanFollow train) (sym is) (can_follow-take room train (actions plan stops limits train) (can_follow plan stops limits train tables numbered.0 numbered.1));
        stamps = omega arith;
      }

  -- so many messages are sent at most
  pub few_sent : (before sent : List Sent) → sent ≡ before ++ to_engine train.engine (messages_of plan stops limits train) → length sent ≤ length before + 36
  few_sent before sent is =
      let messages = messages_of plan stops limits train in
      let count : length sent ≡ length before + length (to_engine train.engine messages) = ap length is ∙ length-append before (to_engine train.engine messages) in
      let mapped : length (to_engine train.engine messages) ≡ length messages = length-map messages (λ (message : ToTrain). record { engine = train.engine; message = message }) in
      let most = few_messages plan stops limits train tables in
      omega (arith, count, mapped, most)

-- where there is nothing to do, nothing is sent
pub none_sent : (train : TrainRec) (all : List Action) (before : List Sent) → all ≡ [] → before ≡ before ++ to_engine train.engine (scan carried_out message_of train all)
none_sent train all before none =
    sym (append-nil before) ∙ ap (λ (acts : List Action). before ++ to_engine train.engine (scan carried_out message_of train acts)) (sym none)

-- a train is settled that becomes the one that was found
pub found_settled : (plan : Plan) (stops : Stops) (limits : Limits) (train after now : TrainRec) (found : Option TrainRec) → found ≡ Some after → now ≡ after
    → IfSome found (λ it. it ≡ settled plan stops limits train) → now ≡ settled plan stops limits train
found_settled plan stops limits train after now found is same is_settled =
    same ∙ subst (λ (f : Option TrainRec). IfSome f (λ it. it ≡ settled plan stops limits train)) is is_settled

-- or that stays as it is where none was
pub stays_settled : (plan : Plan) (stops : Stops) (limits : Limits) (train now : TrainRec) (found : Option TrainRec) → found ≡ None → now ≡ train
    → IfNone found (actions_with_stamp plan stops limits train ≡ []) → now ≡ settled plan stops limits train
stays_settled plan stops limits train now found is same nothing =
    let none : actions_with_stamp plan stops limits train ≡ [] = subst (λ (f : Option TrainRec). IfNone f (actions_with_stamp plan stops limits train ≡ [])) is nothing in
    same ∙ ap (λ (acts : List Action). fold carried_out train acts) (sym none)

-- changes that make no message are none
pub no_message : (stops : List StopChange) (limits : List LimitChange) → stops ≡ [] → limits ≡ [] → in_messages stops limits ≡ []
no_message stops limits no_stop no_limit = λ i. in_messages (no_stop i) (no_limit i)
