use Rattle.std.proofs.Common.{◌≡◌, ◌++◌, ◌∙◌, List, ℕ, refl, sym, ap, subst}
use Rattle.rbc_live.specs.History.{Taken}
use Rattle.rbc_live.specs.GoingOn.{GoesOnAs}
use Rattle.rbc_live.specs.Lines.{shown}
use Rattle.rbc_live.proofs.Alike.{fed_alike}
use Rattle.rbc_live.proofs.Writing.{appended}
use Rattle.rbc_live.proofs.Taking.{below, line_followed, reached}
use Rattle.rbc_live.proofs.session.Session.take_line.Goals as goal

-- no answer is written
pub returns-then-number-self-clause-taken : goal.returns-then-number-self-clause-taken
returns-then-number-self-clause-taken c = λ plan wanted old new ended rest is.
    let before = c.args.self.now in
    let alarms = c.in_ok-alarms.alarms.items in
    let one : Taken = record { line = rest ++ c.args.end.now; reply = c.in-Ok.taken.0.reply; messages = c.in-Ok.taken.0.messages } in
    let shows = c.in_ok-add.ensures rest is.begun in
    let fed = fed_alike before.desk.track c.bytes-line.result.now one.line before.desk.records c.feed_replacing.new.self.records one.reply one.messages
    (subst (λ (bytes : List ℕ). GoesOnAs bytes one.line) (sym c.bytes-line.ensures) shows.alike) c.in-Ok.ensures.step in
    let whole : c.deref.result.now ≡ shown before.wanted.from before.number one ++ alarms =
    c.deref.ensures.value ∙ ap (λ (front : List ℕ). front ++ alarms) (sym (below before.wanted.from before.number one c.if-number-self.true)) in
    appended c.extend_from_slice.result before.text.items c.extend_from_slice.new.self.items c.deref.result.now c.extend_from_slice.ensures.items
    (λ e. line_followed plan wanted before _ c.feed_replacing.new.self old new ended rest c.args.end.now one alarms c.in-Ok.taken.1 is refl fed c.in-Ok.ensures.stay c.feed_replacing.ensures.track c.keep_spare.ensures.records c.keep_spare.ensures.track refl refl refl c.clear.ensures
    c.in_ok-alarms.ensures.watch c.in_ok-alarms.ensures.part (e ∙ ap (λ (t : List ℕ). before.text.items ++ t) whole))

-- the answer is written behind the others
pub returns-clause-taken : goal.returns-clause-taken
returns-clause-taken c = λ plan wanted old new ended rest is.
    let before = c.args.self.now in
    let alarms = c.in_ok-alarms.alarms.items in
    let one : Taken = record { line = rest ++ c.args.end.now; reply = c.in-Ok.taken.0.reply; messages = c.in-Ok.taken.0.messages } in
    let shows = c.in_ok-add.ensures rest is.begun in
    let fed = fed_alike before.desk.track c.bytes-line.result.now one.line before.desk.records c.feed_replacing.new.self.records one.reply one.messages
    (subst (λ (bytes : List ℕ). GoesOnAs bytes one.line) (sym c.bytes-line.ensures) shows.alike) c.in-Ok.ensures.step in
    let answer : c.in_ok-text.text.items ≡ shown before.wanted.from before.number one = c.in_ok-text.ensures ∙ sym (reached before.wanted.from before.number one c.if-number-self.false) in
    let both : c.extend_from_slice-2.new.self.items ≡ c.in_ok-text.text.items ++ alarms = c.in_ok-extend_from_slice.ensures.items ∙ ap (λ (t : List ℕ). c.in_ok-text.text.items ++ t) c.deref-2.ensures.value in
    let whole : c.deref-3.result.now ≡ shown before.wanted.from before.number one ++ alarms = c.deref-3.ensures.value ∙ both ∙ ap (λ (front : List ℕ). front ++ alarms) answer in
    appended c.extend_from_slice-3.result before.text.items c.extend_from_slice-3.new.self.items c.deref-3.result.now c.extend_from_slice-3.ensures.items
    (λ e. line_followed plan wanted before _ c.feed_replacing.new.self old new ended rest c.args.end.now one alarms c.in-Ok.taken.1 is refl fed c.in-Ok.ensures.stay c.feed_replacing.ensures.track c.keep_spare.ensures.records c.keep_spare.ensures.track refl refl refl c.clear.ensures
    c.in_ok-alarms.ensures.watch c.in_ok-alarms.ensures.part (e ∙ ap (λ (t : List ℕ). before.text.items ++ t) whole))
