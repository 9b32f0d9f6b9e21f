use Rattle.std.proofs.Common.{◌≡◌, ◌-◌, ◌+◌, ◌∙◌, ℕ, List, take, get_or, sym, ap, arith}
use Rattle.std.specs.Prelude.{slice_get, Some}
use Rattle.std.proofs.lemmas.Option.{slice_get-get_or}
use Rattle.rbc_settle.specs.declared.sent.Sent.{Sent}
use Rattle.rbc_desk.specs.declared.outbox.Mail.{Mail}
use Rattle.rbc_desk.specs.Held.{AreOutboxes, AreToTheEnginesOf, post_each, taken_back}
use Rattle.rbc_desk.proofs.TakesBack.{takes_back, posted_last, posts_keep, same_engine}
use Rattle.rbc_desk.proofs.outbox.take_back_all.Goals as goal

-- one less
one_back : (input : ℕ) (boxes : List (ℕ × List Mail)) (sent messages : List Sent) (n k : ℕ) (one : Sent) (old new : List (ℕ × List Mail)) → AreOutboxes boxes → AreToTheEnginesOf sent messages → n ≡ k + 1
    → slice_get messages k ≡ Some one → old ≡ post_each input boxes (take n sent) → new ≡ taken_back one.engine old → new ≡ post_each input boxes (take k sent)
one_back input boxes sent messages n k one old new h engines is there posted back =
    let own = get_or sent k one in
    let found = same_engine sent messages k one engines there in
    back ∙ ap (λ e. taken_back e old) (sym found.1)
    ∙ ap (taken_back own.engine) (posted ∙ ap (λ m. post_each input boxes (take m sent)) is ∙ posted_last input boxes sent k own found.0)
    ∙ takes_back input (post_each input boxes (take k sent)) own (posts_keep input boxes sent k h)

pub loop-done-preserved : goal.loop-done-preserved
loop-done-preserved c =
    let k = c.args.count - (c.loop-done.done + 1) in
    let before : k ≡ c.args.count - 1 - c.loop-done.done = omega arith in
    let one = get_or c.args.messages.now (c.args.count - 1 - c.loop-done.done) c.index-messages-count.result in
    let there : slice_get c.args.messages.now (c.args.count - 1 - c.loop-done.done) ≡ Some one = slice_get-get_or c.args.messages.now (c.args.count - 1 - c.loop-done.done) c.index-messages-count.result (omega (arith, c.requires.within)) in
    record {
      back = λ input boxes sent h engines was.
          let so_far = c.loop-done.invariant.back input boxes sent h engines was in
          one_back input boxes sent c.args.messages.now (c.args.count - c.loop-done.done) k one _ _ h engines (omega arith) (ap (slice_get c.args.messages.now) before ∙ there) so_far c.take_back.ensures.taken;
      outboxes = c.take_back.ensures.outboxes;
    }
