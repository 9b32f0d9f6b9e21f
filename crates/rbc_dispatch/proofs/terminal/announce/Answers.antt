use Rattle.std.proofs.Common.{rules, ◌≡◌, subst, List, ℕ}
use Rattle.rbc_dispatch.specs.Terminal.{SaysOnly}
use Rattle.rbc_dispatch.specs.declared.terminal.TheConstants.{NOTICE}
use Rattle.rbc_dispatch.proofs.Sending.{says_only}
use Rattle.rbc_dispatch.proofs.terminal.announce.Goals as goal

pub returns-then-at_terminal-clause-says : goal.returns-then-at_terminal-clause-says
returns-then-at_terminal-clause-says g c =
    let same : c.as_bytes.result.now ≡ NOTICE.now = search rules in
    subst (λ (text : List ℕ). SaysOnly text (g.E.Write.contents c.args.errors.now) (g.E.Write.contents c.write_text.new.writer)) same
    (says_only _ _ _ c.write_text.result c.write_text.ensures.ok c.write_text.ensures.part)
