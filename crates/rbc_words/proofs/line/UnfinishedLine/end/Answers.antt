use Rattle.std.proofs.Common.{◌≡◌, ◌++◌, ◌∷◌, [], rules}
use Rattle.rbc_words.proofs.Passing.{ended_with}
use Rattle.rbc_words.proofs.line.UnfinishedLine.end.Goals as goal

pub returns-clause-text : goal.returns-clause-text
returns-clause-text g c = λ line shown.
    let kept : c.extend_from_slice.new.self.items ≡ c.args.self.now.bytes.items ++ c.args.end.now = search rules in
    let put : c.extend_from_slice-3.new.self.items ≡ c.args.text.now.items ++ (c.turn.new.self.bytes.items ++ 10 ∷ []) = search rules in
    ended_with (g.L.LineRule.becomes c.args.rule.now) line c.args.end.now c.extend_from_slice.new.self.items c.turn.new.self.bytes.items c.args.text.now.items c.extend_from_slice-3.new.self.items c.args.self.now shown kept
    c.in_ok-turn.ensures.passed_on c.in_ok-turn.ensures.kept put
