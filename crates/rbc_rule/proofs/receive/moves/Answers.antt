use Rattle.std.proofs.Common.{rules, ◌≡◌, false, ◌∙◌}
use Rattle.rbc_records.specs.Notes.{same_key}
use Rattle.rbc_rule.proofs.GatherKnown.{extends_on}
use Rattle.rbc_rule.proofs.Worlds.{may_have_been}
use Rattle.rbc_rule.proofs.Deciding.{read_on}
use Rattle.rbc_rule.proofs.receive.moves.Goals as goal

pub moved-requires-clause-comes : goal.moved-requires-clause-comes
moved-requires-clause-comes g c = λ plan w m.
    let apart : same_key c.args.left c.args.entered ≡ false = search rules in
    c.requires.comes plan w (may_have_been c.fetch.ensures.reads.extends (may_have_been c.fetch-2.ensures.reads.extends m)) apart

pub returns-clause-reads : goal.returns-clause-reads
returns-clause-reads g c =
    read_on c.moved.result c.moved.ensures.fault (extends_on c.fetch.ensures.reads.extends c.fetch-2.ensures.reads.extends) (c.in_ok-fetch-2.ensures.reads.failed ∙ c.in_ok-fetch.ensures.reads.failed)
