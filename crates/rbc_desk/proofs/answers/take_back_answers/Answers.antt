use Rattle.std.proofs.Common.{◌≡◌, ◌-◌, ◌+◌, ◌∙◌, sym, ap, arith, rules, get_or}
use Rattle.std.specs.Prelude.{slice_get, Some}
use Rattle.std.proofs.lemmas.Option.{slice_get-get_or}
use Rattle.rbc_desk.proofs.PostsAnswers.{one_unanswered}
use Rattle.rbc_desk.proofs.answers.take_back_answers.Goals as goal

pub loop-done-preserved : goal.loop-done-preserved
loop-done-preserved c =
    let at = c.args.count - 1 - c.loop-done.done in
    let k = c.args.count - (c.loop-done.done + 1) in
    let before : k ≡ at = omega arith in
    let one = c.index-answers-count.result in
    let read : one ≡ get_or c.args.answers.now at one = search rules in
    let there : slice_get c.args.answers.now at ≡ Some one = slice_get-get_or c.args.answers.now at one (omega (arith, c.requires.within)) ∙ ap Some (sym read) in
    record {
      back = λ number boxes given h left was.
          let so_far = c.loop-done.invariant.back number boxes given h left was in
          one_unanswered number boxes given c.args.answers.now (c.args.count - c.loop-done.done) k one c.loop-done.outboxes.items c.take_back_answer.new.outboxes.items h left (omega arith) (ap (slice_get c.args.answers.now) before ∙ there) so_far c.take_back_answer.ensures.back;
      outboxes = c.take_back_answer.ensures.outboxes;
    }
