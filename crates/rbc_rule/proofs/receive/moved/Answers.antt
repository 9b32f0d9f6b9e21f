use Rattle.std.proofs.Common.{◌≡◌, ◌∷◌, ◌++◌, [], Option, cond, true, false, sym, ap, ◌∙◌}
use Rattle.rbc_settle.specs.Numbers.{has_number, with_number, without_number}
use Rattle.rbc_records.specs.declared.record.Key.{Key}
use Rattle.rbc_records.specs.declared.record.Rec.{Rec}
use Rattle.rbc_rule.specs.Records.{engines_record}
use Rattle.rbc_rule.specs.Lists.{engines_at}
use Rattle.rbc_rule.proofs.receive.moved.Goals as goal

-- a train that comes into a list did not stand there
pub returns-then-has-clause-fault : goal.returns-then-has-clause-fault
returns-then-has-clause-fault g c = λ plan w m.
    let engines = c.in_ok-engines.ensures.engines plan w m in
    let there : has_number c.in_ok-engines.engines.now c.args.engine ≡ true = sym c.has.ensures ∙ c.if-has.true in
    let bad : true ≡ false = sym there ∙ ap (λ list. has_number list c.args.engine) engines ∙ c.requires.comes plan w m in
    absurd cc

pub returns-clause-writes : goal.returns-clause-writes
returns-clause-writes g c = λ plan w m.
    let others = c.in_ok-others.ensures.engines plan w m in
    let engines = c.in_ok-engines.ensures.engines plan w m in
    let none = c.requires.empty in
    let left : Key × Option Rec = (c.args.left, engines_record (without_number c.args.engine (engines_at w c.args.left))) in
    let entered : Key × Option Rec = (c.args.entered, engines_record (with_number c.args.engine (engines_at w c.args.entered))) in
    let first : c.write_without.new.writes ≡ left ∷ [] =
    c.in_ok-write_without.ensures ∙ (λ i. none i ++ (c.args.left, engines_record (without_number c.args.engine (others i))) ∷ []) in
    let both : c.write_with.new.writes ≡ left ∷ entered ∷ [] =
    c.in_ok-write_with.ensures ∙ (λ i. first i ++ (c.args.entered, engines_record (with_number c.args.engine (engines i))) ∷ []) in
    both ∙ ap (λ same. cond same [] (left ∷ entered ∷ [])) (sym c.requires.apart)
