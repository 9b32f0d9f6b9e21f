use Rattle.std.proofs.Common.{rules, ◌≡◌, ◌++◌, ◌-◌, ◌∙◌, take, length, length-append, refl, sym, ap, subst, arith}
use Rattle.rbc_words.specs.Decoding.{Decodes, HasText, IsFound}
use Rattle.rbc_words.proofs.LastWords.{no_message, with_message, front_is}
use Rattle.rbc_words.proofs.decode.decoded.Goals as goal

-- the digits spell no message
pub returns-in_default-2 : goal.returns-in_default-2
returns-in_default-2 c =
    no_message c.args.line.now c.in-Some.digits.now c.in-Some.direction (sym c.in-Some.ensures) (subst (IsFound (HasText c.in-Some.direction c.in-Some.digits.now)) c.in_default-2.is c.in_ok-text.ensures)

pub slice_bounds-front-count : goal.slice_bounds-front-count
slice_bounds-front-count c =
    let front = front_is c.args.line.now c.in-Some.digits.now c.in-Some.direction (sym c.in-Some.ensures) in
    let count = ap length front.1 ∙ length-append front.0 c.in-Some.digits.now in
    omega (arith, count)

-- the digits spell a message
pub returns : goal.returns
returns c =
    let has : HasText c.in-Some.direction c.in-Some.digits.now c.in-Some-2.text.items = subst (IsFound (HasText c.in-Some.direction c.in-Some.digits.now)) c.in-Some-2.is c.in_ok-text.ensures in
    let front = take (length c.args.line.now - length c.in-Some.digits.now) c.args.line.now in
    let whole : c.extend_from_slice-2.new.self.items ≡ front ++ c.in-Some-2.text.items = search rules in
    subst (Decodes c.args.line.now) (sym whole) (with_message c.args.line.now c.in-Some.digits.now c.in-Some-2.text.items c.in-Some.direction front (sym c.in-Some.ensures) has refl)
