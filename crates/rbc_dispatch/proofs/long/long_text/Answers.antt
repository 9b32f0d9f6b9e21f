use Rattle.std.proofs.Common.{rules, arith, ◌≡◌, ◌+◌, ◌≤◌, ◌++◌, codes, string_bytes, length}
use Rattle.rbc_dispatch.specs.Long.{line_of}
use Rattle.rbc_dispatch.proofs.Rows.{all_rows, begun, behind_row}
use Rattle.rbc_dispatch.proofs.long.long_text.Goals as goal

pub loop-bits-init : goal.loop-bits-init
loop-bits-init c =
    let heading : string_bytes c.in_ok-text.text ≡ codes "  bit width  variable             value  meaning\n" = search rules in
    begun c.args.bytes.now _ _ _ heading c.beginning-at.ensures c.new-bits.ensures

pub loop-bits-preserved : goal.loop-bits-preserved
loop-bits-preserved c =
    let some : 1 ≤ length c.loop-bits.bits = omega (arith, c.left.ensures, c.loop-bits-test.true) in
    let place : c.in_ok-place.place ≡ c.loop-bits.place + c.row-row.result.width = search rules in
    let written : string_bytes c.push_line.new.text ≡ string_bytes c.loop-bits.text ++ line_of c.row-row.result = search rules in
    behind_row _ _ _ _ _ _ _ _ _ _ some c.row-row.ensures.row c.row-row.ensures.rest c.after-at.ensures place written c.loop-bits.invariant

pub returns : goal.returns
returns c =
    let none : length c.loop-bits.bits ≤ 0 = omega (arith, c.left.ensures, c.loop-bits-test.false) in
    all_rows _ _ _ _ _ none c.loop-bits.invariant
