-- One action at a train that was settled before.
use Rattle.std.proofs.Common.{◌≡◌, ℕ, ◌+◌, ◌-◌, ◌<◌, ◌≤◌, Bool, true, false, cond, ◌&&◌, eqb, List, [], ◌∷◌, ◌++◌, length, take, Option, Some, None, option_map, Result, Ok, Err, IsErrAnd, refl, sym, ap, ◌∙◌, subst, arith, inl, inr}
use Rattle.std.specs.List.{cons_option, find}
use Rattle.std.proofs.lemmas.Bool.{cases_lt, lt-ltb, le-ltb, or_left, or_right, and_from}
use Rattle.std.proofs.lemmas.Bool.Decides.{nat_tests}
use Rattle.std.proofs.lemmas.List.{take_all, length-append}
use Rattle.ertms_codec.specs.ToTrain.{Fits}
use Rattle.rbc_ids.specs.declared.slot.Slot.{Slot}
use Rattle.rbc_ids.specs.declared.slot.Slot.TheVariants.{Used, Revoking}
use Rattle.rbc_ids.specs.Table.{Slots, IsTable, tells, is_told, is_used, is_used_at, least_free, identifier_of}
use Rattle.rbc_ids.proofs.Gaps.{run, run_absent, least_free-run}
use Rattle.rbc_settle.specs.declared.train.TrainRec.{TrainRec}
use Rattle.rbc_settle.specs.declared.sent.Sent.{Sent}
use Rattle.std.specs.declared.alloc.AllocError.{AllocError}
use Rattle.rbc_settle.specs.Actions.{Action}
use Rattle.rbc_settle.specs.Settling.{last_stamp, carried_out, message_of}
use Rattle.rbc_settle.specs.Following.{Allows, CanTell}
use Rattle.rbc_settle.specs.Sending.{CanTake, HasTaken}
use Rattle.rbc_settle.specs.SingleChange.{IsCarriedOut}
use Rattle.rbc_settle.specs.UpToDate.{HasTables}
use Rattle.rbc_settle.proofs.SettleLoop.{sets_out, goes_on, arrives, none_sent}

-- ---- what is allowed

-- a slot that tells a number is used
telling_used : (number : ℕ) (slot : Slot) → tells number slot ≡ true → is_used slot ≡ true
telling_used number (Used used) told = refl
telling_used number (Revoking stamp) told = told

-- the identifier of a number is used
pub identifier_used : (slots : Slots) (number id : ℕ) → identifier_of slots number ≡ Some id → is_used_at slots id ≡ true
identifier_used [] number id is = absurd (let bad : None ≡ Some id = is in cc)
identifier_used (held ∷ slots) number id is =
    (elim (tells number held.1) as (λ b. tells number held.1 ≡ b → option_map (λ (other : ℕ × Slot). other.0) (cond b (Some held) (find (λ (other : ℕ × Slot). tells number other.1) slots)) ≡ Some id → is_used_at (held ∷ slots) id ≡ true) [
      | true ↦ λ told found.
          let own : Some held.0 ≡ Some id = found in
          let same : held.0 ≡ id = cc in
          or_left (eqb held.0 id && is_used held.1) (is_used_at slots id) (and_from (eqb held.0 id) (is_used held.1) (subst (λ n. eqb held.0 n ≡ true) same (eqb_same held.0)) (telling_used number held.1 told))
      | false ↦ λ untold found. or_right (eqb held.0 id && is_used held.1) (is_used_at slots id) (identifier_used slots number id found)
    ]) refl is
  where
    eqb_same : (n : ℕ) → eqb n n ≡ true
    eqb_same n = grind (arith, nat_tests)

-- the least free identifier is free, and one of the table's
module _ (count : ℕ) (slots : Slots) (table : IsTable count slots) (id : ℕ) (least : least_free count slots ≡ Some id) where
  least_below : (id < count) × (id ≡ run 0 slots)
  least_below = elim (cases_lt (run 0 slots) count) [
    | inl below ↦
        let own : Some (run 0 slots) ≡ Some id = sym (ap (λ (b : Bool). cond b (Some (run 0 slots)) None) (lt-ltb (run 0 slots) count below)) ∙ sym (least_free-run count slots table) ∙ least in
        let same : run 0 slots ≡ id = cc in
        (omega (arith, same, below), sym same)
    | inr above ↦ absurd (let bad : None ≡ Some id = sym (ap (λ (b : Bool). cond b (Some (run 0 slots)) None) (le-ltb (run 0 slots) count above)) ∙ sym (least_free-run count slots table) ∙ least in cc)
  ]

  pub can_tell : (number : ℕ) → is_told slots number ≡ false → CanTell count slots id number
  can_tell number untold = record {
    below = least_below.0;
    free = run_absent 0 slots table.ascending id (let same = least_below.1 in omega (arith, same));
    untold = untold;
  }

-- what has to be told is not told yet
pub not_told_yet : {T : Type 0} (b : Bool) (number : ℕ) (what : Option T) (told : ℕ × T) → cond {A = Option (ℕ × T)} b None (option_map (λ it. (number, it)) what) ≡ Some told → (b ≡ false) × (told.0 ≡ number)
not_told_yet true number what told is = absurd (let bad : None ≡ Some told = is in cc)
not_told_yet {T} false number None told is = absurd (let bad : None ≡ Some told = is in cc)
not_told_yet {T} false number (Some it) told is =
    let own : Some (number, it) ≡ Some told = is in
    let same : (number, it) ≡ told = cc in
    (refl, ap (λ (pair : ℕ × T). pair.0) (sym same))

-- ---- what is carried out

module _ (train : TrainRec) (before : List Sent) where
  -- no action
  pub nothing_done : (actions : List Action) (result : Result (Option TrainRec) AllocError) → actions ≡ [] → result ≡ Ok None → IsCarriedOut train actions before result before
  nothing_done actions result none is = subst (λ (r : Result (Option TrainRec) AllocError). IsCarriedOut train actions before r before) (sym is) (record {
    none = none;
    some = tt;
    after = tt;
    messages = none_sent train actions before none;
    err = tt;
    fit = λ fits. fits;
    few = omega arith;
  })

  -- memory was refused
  pub refused : (actions : List Action) (result : Result (Option TrainRec) AllocError) (sent : List Sent) → IsErrAnd result (λ _. Unit) → sent ≡ before → IsCarriedOut train actions before result sent
  refused actions (Ok found) sent is same = absurd is
  refused actions (Err fault) sent is same = record { none = tt; some = tt; after = tt; messages = tt; err = same; fit = λ fits. tt; few = tt }

  -- one action
  pub one_done : (action : Action) (after : TrainRec) (one : Sent) (sent : List Sent) → HasTables train → Allows train action → train.stamp + 1 ≤ last_stamp
      → after ≡ carried_out train action → one.engine ≡ train.engine → one.message ≡ message_of train action → Fits one.message → sent ≡ before ++ one ∷ []
      → IsCarriedOut train (action ∷ []) before (Ok (Some after)) sent
  one_done action after one sent tables allowed stamps is engine message fits pushed =
      let can : CanTake train (action ∷ []) = record { tables = tables; follows = (allowed, tt); stamps = stamps } in
      let taken : HasTaken train (action ∷ []) before after sent =
      arrives train (action ∷ []) before after sent [] refl (goes_on train (action ∷ []) before train before action [] (sets_out train (action ∷ []) before can) after is one engine message fits sent pushed) in
      let count : length sent ≡ length before + 1 = ap length pushed ∙ length-append before (one ∷ []) in
      record {
        none = tt;
        some = omega arith;
        after = taken.train;
        messages = taken.told;
        err = tt;
        fit = taken.fit;
        few = omega (arith, count);
      }

-- one action is there for as many stamps as are left, if there are any
pub one_taken : (stamp : ℕ) (action : Option Action) → stamp < last_stamp → cons_option action [] ≡ take (last_stamp - stamp) (cons_option action [])
one_taken stamp None left = sym (take_all (last_stamp - stamp) [] (omega arith))
one_taken stamp (Some action) left = sym (take_all (last_stamp - stamp) (action ∷ []) (omega (arith, left)))

pub none_taken : (stamp : ℕ) (actions : List Action) → last_stamp ≤ stamp → take (last_stamp - stamp) actions ≡ []
none_taken stamp actions ended = let none : last_stamp - stamp ≡ 0 = omega (arith, ended) in ap (λ n. take n actions) none
