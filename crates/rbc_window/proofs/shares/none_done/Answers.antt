use Rattle.std.proofs.Common.{◌≡◌, ◌++◌, ◌∷◌, [], All, subst, sym, ◌∙◌, true≢false}
use Rattle.std.proofs.lemmas.List.Elements.{All-push}
use Rattle.rbc_window.specs.Shares.{HasTakenIfDone}
use Rattle.rbc_window.proofs.shares.none_done.Goals as goal

pub loop-number-preserved : goal.loop-number-preserved
loop-number-preserved c s records inputs =
    let right = HasTakenIfDone s records inputs in
    let none : right c.new.result = λ done. absurd (true≢false (sym done ∙ c.new.ensures)) in
    let pushed : c.push.new.self.items ≡ c.loop-number.all.items ++ c.new.result ∷ [] = c.in_ok-push.ensures.items in
    subst (All right) (sym pushed) (All-push right c.loop-number.all.items c.new.result (c.loop-number.invariant s records inputs) none)
