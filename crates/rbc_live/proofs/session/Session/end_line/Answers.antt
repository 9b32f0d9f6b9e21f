use Rattle.std.proofs.Common.{rules, ◌≡◌, ◌++◌, ◌∷◌, [], refl}
use Rattle.rbc_live.proofs.Writing.{pending, same_pending, ended_of_more, without_fault, goes_on_so}
use Rattle.rbc_live.proofs.session.Session.end_line.Goals as goal

-- memory was refused: the line is not answered
pub returns-then-is_err-clause-taken : goal.returns-then-is_err-clause-taken
returns-then-is_err-clause-taken g c = λ plan wanted old ended rest is.
    let before = c.args.self.now in
    let text : c.take_line.new.self.text.items ≡ before.text.items = search rules in
    let are = same_pending plan wanted before.text.items c.take_line.new.self.text.items before.outlet.sent c.take_line.new.self.outlet.sent old (g.W.Write.contents c.args.writer.now) ended
    text c.take_line.ensures.sent (pending plan wanted before old (g.W.Write.contents c.args.writer.now) ended rest is) in
    ended_of_more plan wanted ended ((rest ++ c.args.end.now) ∷ []) _ old _ c.out_of_memory.result refl (c.out_of_memory.ensures plan wanted old ended are)

-- there is enough to write
pub returns-clause-taken : goal.returns-clause-taken
returns-clause-taken g c = λ plan wanted old ended rest is.
    let lines = ended ++ (rest ++ c.args.end.now) ∷ [] in
    let now = without_fault c.take_line.result (search rules) (c.take_line.ensures.taken plan wanted old (g.W.Write.contents c.args.writer.now) ended rest is) in
    goes_on_so _ _ plan wanted lines old (g.W.Write.contents c.write_out.new.writer) c.write_out.result
    (c.write_out.ensures.written plan wanted old lines (pending plan wanted c.take_line.new.self old (g.W.Write.contents c.args.writer.now) lines [] now))
    (c.write_out.ensures.under_way plan wanted old lines [] now)
