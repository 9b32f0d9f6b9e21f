use Rattle.std.proofs.Common.{◌≡◌, ◌+◌, ◌≤◌, ◌++◌, List, sym, ap, ◌∙◌, subst, length, take, map, rules, arith}
use Rattle.std.proofs.lemmas.List.{take_all}
use Rattle.rbc_records.specs.Notes.{record_in}
use Rattle.rbc_desk.specs.declared.answer.Answer.{Answer}
use Rattle.rbc_desk.specs.Held.{Held, AreOutboxes, standing, max_results}
use Rattle.rbc_desk.specs.Answers.{AreLeftOf, after_answers, post_answers, result_of}
use Rattle.rbc_desk.proofs.PostsAnswers.{lent_back, results_left, answered}
use Rattle.rbc_desk.proofs.desk.Desk.take_over_all.Goals as goal

-- where the writes are refused, the messages are taken back
unposted : (c : goal.After-drop-answers-in_default) → c.take_back_answers.new.outboxes.items ≡ c.self.inside.outboxes.items
unposted c =
    let answers : List Answer = c.args.answers.items in
    let moved : List Answer = c.post_answers.new.answers in
    let left : AreLeftOf answers moved = subst (λ (given : List Answer). AreLeftOf given moved) c.deref_mut.ensures.value c.in_ok-post_answers.ensures.left in
    let there : c.deref.result.now ≡ moved = lent_back answers moved c.deref.result.now c.args.answers.len c.args.answers.ok.0 left c.deref.ensures.value in
    let len : length answers ≡ c.args.answers.len = sym c.args.answers.ok.0 in
    let all : take c.len-in_default.result answers ≡ answers = take_all c.len-in_default.result answers (omega (arith, len, c.len-in_default.ensures)) in
    c.take_back_answers.ensures.back (c.len-2.result + 1) c.self.inside.outboxes.items answers c.self.invariant.0 (subst (AreLeftOf answers) (sym there) left)
    (c.in_ok-post_answers.ensures.posted ∙ ap (post_answers (c.len-2.result + 1) c.self.inside.outboxes.items) (c.deref_mut.ensures.value ∙ sym all))

pub invariant_of-self-in_default : goal.invariant_of-self-in_default
invariant_of-self-in_default c =
    let few : length c.reserve.new.self.items ≤ max_results = search rules in
    (subst AreOutboxes (sym (unposted c)) c.self.invariant.0, few)

pub returns-in_default-clause-err : goal.returns-in_default-clause-err
returns-in_default-clause-err c =
    let boxes = unposted c in
    let store : c.exchange.new.store ≡ c.self.inside.records = search rules in
    let results : c.reserve.new.self.items ≡ c.self.inside.results.items = search rules in
    (λ i. record { records = store i; results = results i; outboxes = boxes i }) ∙ c.self.view_is

-- else what stands there is what the answers and the writes leave
pub returns-clause-ok : goal.returns-clause-ok
returns-clause-ok c =
    let answers : List Answer = c.args.answers.items in
    let moved : List Answer = c.post_answers.new.answers in
    let left : AreLeftOf answers moved = subst (λ (given : List Answer). AreLeftOf given moved) c.deref_mut.ensures.value c.in_ok-post_answers.ensures.left in
    let there : c.deref-2.result.now ≡ moved = lent_back answers moved c.deref-2.result.now c.args.answers.len c.args.answers.ok.0 left c.deref-2.ensures.value in
    let number : c.len-2.result + 1 ≡ length c.self.inside.results.items + 1 = search rules in
    let said : c.push_results.new.results.items ≡ c.self.inside.results.items ++ map result_of c.deref-2.result.now = search rules in
    let results : c.push_results.new.results.items ≡ c.self.inside.results.items ++ map result_of answers =
    said ∙ ap (λ (given : List Answer). c.self.inside.results.items ++ map result_of given) there ∙ ap (λ rs. c.self.inside.results.items ++ rs) (results_left answers moved left) in
    let posted = c.in_ok-post_answers.ensures.posted ∙ ap (post_answers (c.len-2.result + 1) c.self.inside.outboxes.items) c.deref_mut.ensures.value in
    answered (standing (record { records = c.self.inside.records; results = c.self.inside.results.items; outboxes = c.self.inside.outboxes.items })) answers c.args.writes (c.len-2.result + 1)
    (record_in c.exchange.new.store) c.push_results.new.results.items c.post_answers.new.outboxes.items number c.in-Ok.ensures.ok results posted
    ∙ ap (λ (held : Held). after_answers (standing held) answers c.args.writes) c.self.view_is
