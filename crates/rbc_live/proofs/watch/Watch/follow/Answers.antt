use Rattle.std.proofs.Common.{◌≡◌, ◌∙◌, ℕ, List, [], ◌∷◌, true, false, refl, sym, subst, arith}
use Rattle.rbc_maps.specs.Maps.{has}
use Rattle.rbc_settle.specs.Numbers.{AreNumbers, has_number}
use Rattle.rbc_settle.proofs.NumberLists.{rises-cons}
use Rattle.rbc_live.specs.Watching.{are_zones_written, is_train_written}
use Rattle.rbc_live.proofs.Following.{lines_in, watch_in}
use Rattle.rbc_live.proofs.watch.Watch.follow.Goals as goal

pub returns-in-Some-clause-watch : goal.returns-in-Some-clause-watch
returns-in-Some-clause-watch c = λ before is stay.
    watch_in c.args.horizon c.args.input before c.args.records.now c.args.writes.now c.args.self.now (c.in-Some.engine ∷ []) is stay c.in-Some.ensures.trains
    (λ written engine none. absurd (cc (sym c.in-Some.ensures.zones ∙ written)))
    c.see_all.result c.see_all.new.self c.see_all.ensures.seen c.see_all.ensures.others

pub returns-in-Some-clause-lines : goal.returns-in-Some-clause-lines
returns-in-Some-clause-lines c = λ before is stay.
    lines_in c.args.horizon c.args.input before c.args.records.now c.args.writes.now c.args.self.now (c.in-Some.engine ∷ []) is stay c.in-Some.ensures.trains
    (λ written engine none. absurd (cc (sym c.in-Some.ensures.zones ∙ written)))
    c.see_all.result (rises-cons 0 c.in-Some.engine [] (omega (arith)) refl) c.see_all.ensures.lines

pub returns-clause-watch : goal.returns-clause-watch
returns-clause-watch c = λ before is stay.
    watch_in c.args.horizon c.args.input before c.args.records.now c.args.writes.now c.args.self.now c.as_slice.result.now is stay
    (subst (λ (all : List ℕ). (engine : ℕ) → has_number all engine ≡ false → is_train_written c.args.writes.now engine ≡ false) (sym c.as_slice.ensures.value) c.in_ok-engines.ensures.trains)
    (subst (λ (all : List ℕ). are_zones_written c.args.writes.now ≡ true → (engine : ℕ) → has_number all engine ≡ false → has c.args.self.now engine ≡ false) (sym c.as_slice.ensures.value) c.in_ok-engines.ensures.zones)
    c.see_all-2.result c.see_all-2.new.self c.see_all-2.ensures.seen c.see_all-2.ensures.others

pub returns-clause-lines : goal.returns-clause-lines
returns-clause-lines c = λ before is stay.
    lines_in c.args.horizon c.args.input before c.args.records.now c.args.writes.now c.args.self.now c.as_slice.result.now is stay
    (subst (λ (all : List ℕ). (engine : ℕ) → has_number all engine ≡ false → is_train_written c.args.writes.now engine ≡ false) (sym c.as_slice.ensures.value) c.in_ok-engines.ensures.trains)
    (subst (λ (all : List ℕ). are_zones_written c.args.writes.now ≡ true → (engine : ℕ) → has_number all engine ≡ false → has c.args.self.now engine ≡ false) (sym c.as_slice.ensures.value) c.in_ok-engines.ensures.zones)
    c.see_all-2.result (subst AreNumbers (sym c.as_slice.ensures.value) c.as_slice.ensures.sound) c.see_all-2.ensures.lines
