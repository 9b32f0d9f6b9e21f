-- How many messages wait for an answer, counted by slots one after another.
use Rattle.std.proofs.Common.{◌≡◌, ℕ, suc, ◌+◌, ◌≤◌, ◌||◌, true, false, cond, List, [], ◌∷◌, length, drop, Option, Some, None, refl, sym, ap, ◌∙◌, arith}
use Rattle.std.specs.Prelude.{nat_eq, slice_get}
use Rattle.std.specs.List.{cons_option, list_any}
use Rattle.std.specs.Option.{option_map_or}
use Rattle.std.proofs.lemmas.List.{at_drop_all, drop_more}
use Rattle.std.proofs.lemmas.Option.{slice_get_within, get_or_from_slice_get}
use Rattle.rbc_ids.specs.declared.slot.Slot.{Slot}
use Rattle.rbc_ids.specs.Table.{Slots}
use Rattle.rbc_account.specs.Owed.{owed_stamp, is_owed_under, stamps_owed, different}

-- a message waits by some slot where its stamp is one of those that wait
pub by_stamps : (stamp : ℕ) (slots : Slots) → list_any (λ held. is_owed_under stamp held.1) slots ≡ list_any (nat_eq stamp) (stamps_owed slots)
by_stamps stamp [] = refl
by_stamps stamp (held ∷ slots) =
    elim (owed_stamp held.1) as (λ (o : Option ℕ).
    (option_map_or (nat_eq stamp) o false || list_any (λ (other : ℕ × Slot). is_owed_under stamp other.1) slots) ≡ list_any (nat_eq stamp) (cons_option o (stamps_owed slots))) [
      | None ↦ by_stamps stamp slots
      | Some owed ↦ ap (λ b. nat_eq stamp owed || b) (by_stamps stamp slots)
    ]

-- a slot that waits for nothing, one whose message is that of another slot behind it, and one whose message is not
as_it_is : (a b : ℕ) → a ≡ b → a ≡ 0 + b
as_it_is a b e = omega arith

one_on : (a b : ℕ) → a ≡ suc b → a ≡ 1 + b
one_on a b e = omega arith

pub none_owed : (found : Option ℕ) (behind : List ℕ) → found ≡ None → length (different (cons_option found behind)) ≡ 0 + length (different behind)
none_owed found behind none =
    as_it_is (length (different (cons_option found behind))) (length (different behind)) (ap (λ (o : Option ℕ). length (different (cons_option o behind))) none)

pub owed_again : (found : Option ℕ) (stamp : ℕ) (behind : List ℕ) → found ≡ Some stamp → list_any (nat_eq stamp) behind ≡ true
    → length (different (cons_option found behind)) ≡ 0 + length (different behind)
owed_again found stamp behind is there =
    as_it_is (length (different (cons_option found behind))) (length (different behind))
    (ap (λ (o : Option ℕ). length (different (cons_option o behind))) is ∙ ap (λ b. length (cond b (different behind) (stamp ∷ different behind))) there)

pub owed_last : (found : Option ℕ) (stamp : ℕ) (behind : List ℕ) → found ≡ Some stamp → list_any (nat_eq stamp) behind ≡ false
    → length (different (cons_option found behind)) ≡ 1 + length (different behind)
owed_last found stamp behind is there =
    one_on (length (different (cons_option found behind))) (length (different behind))
    (ap (λ (o : Option ℕ). length (different (cons_option o behind))) is ∙ ap (λ b. length (cond b (different behind) (stamp ∷ different behind))) there)

-- how many messages wait by some slots, and by them and a slot before them
abbrev owed_behind : Slots → ℕ
owed_behind slots = length (different (stamps_owed slots))

abbrev owed_from : Slot → Slots → ℕ
owed_from slot slots = length (different (cons_option (owed_stamp slot) (stamps_owed slots)))

next_sum : (sum more whole here first rest rest2 : ℕ) → sum + here ≡ whole → here ≡ first → first ≡ more + rest → rest ≡ rest2 → sum + more + rest2 ≡ whole
next_sum sum more whole here first rest rest2 before next once others = omega arith

last_sum : (sum whole rest : ℕ) → sum + rest ≡ whole → rest ≡ 0 → sum ≡ whole
last_sum sum whole rest before none = omega arith

-- one slot more
pub one_slot : (slots : Slots) (i : ℕ) (held : ℕ × Slot) (behind : Slots) (sum more : ℕ) → slice_get slots i ≡ Some held → behind ≡ drop (i + 1) slots
    → length (different (cons_option (owed_stamp held.1) (stamps_owed behind))) ≡ more + length (different (stamps_owed behind))
    → sum + length (different (stamps_owed (drop i slots))) ≡ length (different (stamps_owed slots))
    → sum + more + length (different (stamps_owed (drop (i + 1) slots))) ≡ length (different (stamps_owed slots))
one_slot slots i held behind sum more there is once before =
    let next : owed_behind (drop i slots) ≡ owed_from held.1 behind =
    ap owed_behind (drop_more slots i held (slice_get_within slots i held there) ∙ ap (λ (h : ℕ × Slot). h ∷ drop (i + 1) slots) (get_or_from_slice_get slots i held held there))
    ∙ ap (owed_from held.1) (sym is) in
    next_sum sum more (owed_behind slots) (owed_behind (drop i slots)) (owed_from held.1 behind) (owed_behind behind) (owed_behind (drop (i + 1) slots))
    before next once (ap owed_behind is)

-- all slots
pub all_slots : (slots : Slots) (i sum : ℕ) → length slots ≤ i → sum + length (different (stamps_owed (drop i slots))) ≡ length (different (stamps_owed slots))
    → sum ≡ length (different (stamps_owed slots))
all_slots slots i sum past before =
    last_sum sum (owed_behind slots) (owed_behind (drop i slots)) before (at_drop_all owed_behind slots i past)
