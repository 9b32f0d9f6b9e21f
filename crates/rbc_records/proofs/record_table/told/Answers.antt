use Rattle.std.proofs.Common.{◌≡◌, ℕ, false, get_or, sym, ap, ◌∙◌, rules}
use Rattle.rbc_records.specs.ToldBits.{has_bit}
use Rattle.rbc_records.specs.declared.record.Rec.{Rec}
use Rattle.rbc_records.proofs.Beside.{told_there}
use Rattle.rbc_records.proofs.record_table.told.Goals as goal

pub returns : goal.returns
returns c bits_of are =
    let entries = c.args.entries.now.entries in
    let bits = c.args.bits.now in
    let number = c.args.number in
    c.passing.ensures (λ (rec : Rec). has_bit (bits_of rec) number)
    (λ begin end index entry says from below at.
    let none : has_bit (get_or bits index 0) number ≡ false = search rules in
    sym (ap (λ (word : ℕ). has_bit word number) (told_there bits_of entries bits are index entry at 0)) ∙ none)
    (λ index answer entry says at.
    let answered : answer ≡ has_bit (get_or bits index 0) number = search rules in
    answered ∙ ap (λ (word : ℕ). has_bit word number) (told_there bits_of entries bits are index entry at 0))
