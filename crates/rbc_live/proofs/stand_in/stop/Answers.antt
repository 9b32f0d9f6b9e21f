use Rattle.std.proofs.Common.{rules, ◌≡◌, ◌++◌, ◌≤◌, ◌∙◌, length, codes, true, false, refl, ap, List, ℕ, arith, length-append}
use Rattle.std.proofs.lemmas.Result.{IfOk-weaker}
use Rattle.rbc_live.specs.GoingOn.{is_stop}
use Rattle.rbc_live.proofs.LongStops.{long_last_word, no_stop_before, nine_for_more, nine, short_number}
use Rattle.rbc_live.proofs.stand_in.stop.Goals as goal

-- what is put together
kept_is : (one two three second word : List ℕ) → one ≡ codes "stop " ++ second → two ≡ one ++ nine → three ≡ two ++ word → three ≡ ((codes "stop " ++ second) ++ nine) ++ word
kept_is one two three second word a b c = c ∙ ap (λ (text : List ℕ). text ++ word) (b ∙ ap (λ (text : List ℕ). text ++ nine) a)

few_bytes : (kept second word : List ℕ) → kept ≡ ((codes "stop " ++ second) ++ nine) ++ word → length second ≤ 10 → length word ≤ 64 → length kept ≤ 65536
few_bytes kept second word is few short =
    let whole = ap length is ∙ length-append ((codes "stop " ++ second) ++ nine) word in
    let front = length-append (codes "stop " ++ second) nine in
    let name = length-append (codes "stop ") second in
    let five : length (codes "stop ") ≡ 5 = refl in
    let count : length nine ≡ 55 = refl in
    omega (arith, whole, front, name, five, count, few, short)

-- the last word is too long
pub returns-then-word-gt-MAX_WORD-clause-alike : goal.returns-then-word-gt-MAX_WORD-clause-alike
returns-then-word-gt-MAX_WORD-clause-alike c = λ line words.
    let command = c.requires.command in
    IfOk-weaker c.bad_line.result _ _ (λ kept is. long_last_word kept.items line c.args.front.now c.args.word.now command.0 is words command.1 c.if-word-gt-MAX_WORD.true) c.bad_line.ensures

-- it is no stop
pub returns-then-not-is_stop-clause-alike : goal.returns-then-not-is_stop-clause-alike
returns-then-not-is_stop-clause-alike c = λ line words.
    let command = c.requires.command in
    let input = c.in_ok-parse_line.field-0 in
    let long = c.requires.long in
    let short = c.if-word-gt-MAX_WORD.false in
    let other : is_stop input ≡ false = search rules in
    IfOk-weaker c.bad_line-then-not-is_stop.result _ _ (λ kept is.
    no_stop_before kept.items line c.args.front.now c.args.word.now command.0 input is words command.1 (omega (arith, long, short)) c.in_ok-parse_line.ensures.spelled other)
    c.bad_line-then-not-is_stop.ensures

-- nine segments stand in for more
pub returns-clause-alike : goal.returns-clause-alike
returns-clause-alike c = λ line words.
    let command = c.requires.command in
    let input = c.in_ok-parse_line.field-0 in
    let long = c.requires.long in
    let short = c.if-word-gt-MAX_WORD.false in
    let stop : is_stop input ≡ true = search rules in
    nine_for_more c.extend_from_slice-2.new.self.items line c.args.front.now c.args.word.now c.second_word.result.now command.0 input words command.1 c.requires.whole (omega (arith, long, short))
    c.in_ok-parse_line.ensures.spelled stop c.second_word.ensures.word
    (kept_is _ _ _ c.second_word.result.now c.args.word.now c.in_ok-kept.ensures c.in_ok-extend_from_slice.ensures.items c.in_ok-extend_from_slice-2.ensures.items)

pub returns-clause-few : goal.returns-clause-few
returns-clause-few c =
    let command = c.requires.command in
    let input = c.in_ok-parse_line.field-0 in
    let stop : is_stop input ≡ true = search rules in
    few_bytes c.extend_from_slice-2.new.self.items c.second_word.result.now c.args.word.now
    (kept_is _ _ _ c.second_word.result.now c.args.word.now c.in_ok-kept.ensures c.in_ok-extend_from_slice.ensures.items c.in_ok-extend_from_slice-2.ensures.items)
    (short_number c.args.front.now c.second_word.result.now command.0 input command.1 c.in_ok-parse_line.ensures.spelled stop c.second_word.ensures.word) c.if-word-gt-MAX_WORD.false
