use Rattle.std.proofs.Common.{◌≡◌, ◌+◌, ◌*◌, ◌-◌, ◌<◌, ◌≤◌, ◌/◌, ◌%◌, ◌++◌, List, length, take, ℕ, arith, get_or, append_assoc, take-take, take_at, take-add, drop_at, length-append, length-take-le}
use Rattle.ertms_bits.specs.Bits.{bits_of, bits_of_bytes}
use Rattle.ertms_bits.proofs.Bits.{length-bits_of, length-bits_of_bytes, bits_of_bytes-take, take-bits_of_bytes}
use Rattle.ertms_bits.proofs.writer.BitWriter.put_some.Goals as goal

-- whole bytes of a window were written, and it begins with the bits that are kept and the field
field_written : (old new : List ℕ) (at count taken width : ℕ) (field filling window : List ℕ) → at < length old → taken ≤ 8 → taken + width ≤ 8 * count → length field ≡ width → bits_of_bytes (take (at + count) new) ≡ bits_of_bytes (take at old) ++ take (8 * count) window → window ≡ take taken (bits_of 8 (get_or old at 0)) ++ (field ++ filling) → take (8 * at + (taken + width)) (bits_of_bytes new) ≡ take (8 * at + taken) (bits_of_bytes old) ++ field
field_written old new at count taken width field filling window inside within room long written is =
    let before : List ℕ = bits_of_bytes (take at old) in
    let kept : List ℕ = take taken (bits_of 8 (get_or old at 0)) in
    let kept_long : length kept ≡ taken =
    length-take-le taken (bits_of 8 (get_or old at 0)) (rw (length-bits_of 8 (get_or old at 0)) within) in
    let front_long : length (kept ++ field) ≡ taken + width = rw (length-append, kept_long, long) in
    let before_long : length before ≡ 8 * at = rw (length-bits_of_bytes, length-take-le at old (omega arith)) in
    let le : 8 * at + (taken + width) ≤ 8 * (at + count) = omega arith in
    rw (← take-take (8 * at + (taken + width)) (8 * (at + count)) (bits_of_bytes new) le, ← bits_of_bytes-take new (at + count), written, take-add (8 * at) (taken + width), take_at before _ (8 * at) before_long, drop_at before _ (8 * at) before_long, take-take (taken + width) (8 * count) window room, is, ← append_assoc kept field filling, take_at (kept ++ field) filling (taken + width) front_long, take-bits_of_bytes old at taken inside within, append_assoc)

pub returns-clause-bits : goal.returns-clause-bits
returns-clause-bits c =
    let count : ℕ = c.min-count.result in
    let end : ℕ = c.self.inside.taken + count in
    let at : 8 * c.self.inside.byte + c.self.inside.taken ≡ c.args.self.now = c.self.view_is in
    let place : 8 * (c.self.inside.byte + end / 8) + end % 8 ≡ 8 * c.self.inside.byte + end = omega arith in
    let back : c.args.rest - (c.args.rest - count) ≡ count = omega arith in
    rw (place, back, ← at, ← c.shifted_right-field.ensures)
    (field_written _ _ _ _ _ count _ _ _ (omega arith) (omega arith) (omega arith) (length-bits_of count _) c.put_bytes.ensures.bits c.window_of-window.ensures)
