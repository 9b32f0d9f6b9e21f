use Rattle.std.proofs.Common.{◌≡◌, ◌++◌, ◌≤◌, length, rules}
use Rattle.rbc_words.proofs.Passing.{wrong_midway}
use Rattle.rbc_words.proofs.line.UnfinishedLine.add.Goals as goal

-- the line is wrong however it goes on
pub returns-in-Wrong-clause-stopped : goal.returns-in-Wrong-clause-stopped
returns-in-Wrong-clause-stopped g c = λ line shown.
    let kept : c.deref.result.now ≡ c.args.self.now.bytes.items ++ c.args.more.now = search rules in
    let many : 4096 ≤ length c.deref.result.now = search rules in
    wrong_midway (g.L.LineRule.becomes c.args.rule.now) (g.L.LineRule.is_wrong c.args.rule.now) line c.args.more.now c.deref.result.now c.args.self.now c.in-Wrong.fault c.if-self.false shown kept many
    c.in-Wrong.ensures
