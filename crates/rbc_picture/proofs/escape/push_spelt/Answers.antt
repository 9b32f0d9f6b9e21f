use Rattle.std.proofs.Common.{◌≡◌, codes, rules, string_bytes}
use Rattle.std.proofs.lemmas.Str.{IsUtf8-string_bytes}
use Rattle.rbc_picture.specs.Escape.{spelling_of}
use Rattle.rbc_picture.proofs.Escaping.{added, spelt_amp, spelt_lt, spelt_gt, spelt_same}
use Rattle.rbc_picture.proofs.escape.push_spelt.Goals as goal

pub returns-in-38 : goal.returns-in-38
returns-in-38 c =
    added c.push_str.result (string_bytes c.args.text.now) (string_bytes c.push_str.new.self) (codes "&amp;") (spelling_of c.args.c)
    (IsUtf8-string_bytes c.args.text.now) (spelt_amp c.args.c c.in-38.is) c.push_str.ensures.bytes

pub returns-in-60 : goal.returns-in-60
returns-in-60 c =
    added c.push_str-in-60.result (string_bytes c.args.text.now) (string_bytes c.push_str-in-60.new.self) (codes "&lt;") (spelling_of c.args.c)
    (IsUtf8-string_bytes c.args.text.now) (spelt_lt c.args.c c.in-60.is) c.push_str-in-60.ensures.bytes

pub returns-in-62 : goal.returns-in-62
returns-in-62 c =
    added c.push_str-in-62.result (string_bytes c.args.text.now) (string_bytes c.push_str-in-62.new.self) (codes "&gt;") (spelling_of c.args.c)
    (IsUtf8-string_bytes c.args.text.now) (spelt_gt c.args.c c.in-62.is) c.push_str-in-62.ensures.bytes

pub returns-in_default : goal.returns-in_default
returns-in_default c =
    let amp : ¬ (c.args.c ≡ 38) = search rules in
    let lt : ¬ (c.args.c ≡ 60) = search rules in
    let gt : ¬ (c.args.c ≡ 62) = search rules in
    added c.push.result (string_bytes c.args.text.now) (string_bytes c.push.new.self) _ (spelling_of c.args.c)
    (IsUtf8-string_bytes c.args.text.now) (spelt_same c.args.c c.ranges.c.0 amp lt gt) c.push.ensures.bytes
