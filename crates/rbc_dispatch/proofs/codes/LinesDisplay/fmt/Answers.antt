use Rattle.std.proofs.Common.{rules, ap, subst, codes, ◌≡◌, ◌∙◌, ◌++◌, ◌^◌, ◌-◌, List, ℕ}
use Rattle.std.specs.Fmt.{HasWritten, format_spec, styled_decimal}
use Rattle.rbc_dispatch.proofs.Columns.{in_four}
use Rattle.rbc_dispatch.proofs.codes.LinesDisplay.fmt.Goals as goal

pub returns-clause-writes : goal.returns-clause-writes
returns-clause-writes g c = λ plain done.
    let row = c.args.self.now.0 in
    let four : c.laid_out.result ≡ format_spec 32 3 0 4 (2 ^ 64 - 1) = search rules in
    subst (λ (column : List ℕ). HasWritten {W = g.row.W.Denot} g.W.Write.write_str_gives c.args.f.now (column ++ (codes "  " ++ (row.name.now ++ (codes "\n      " ++ (row.sentence.now ++ (codes "\n      To do: " ++ (row.to_do.now ++ codes "\n"))))))) c.write.new.self)
    (ap (λ s. styled_decimal s row.code) four ∙ in_four row.code) (c.write.ensures.writes plain done)
