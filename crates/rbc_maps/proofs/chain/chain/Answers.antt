use Rattle.std.proofs.Common.{rules, ◌≡◌, ◌+◌, ◌-◌, ◌<◌, ℕ, List, [], ◌∷◌, length, drop, replicate, get_or, slice_index, sym, ap, ◌∙◌, subst, arith}
use Rattle.std.proofs.lemmas.List.{drop_all, drop_more, length-set, get_or_default}
use Rattle.rbc_maps.specs.Chains.{AreHeads, entry, AreLinksFrom}
use Rattle.rbc_maps.proofs.Chained.{heads_none, length_headed, heads_one, links_one}
use Rattle.rbc_maps.proofs.chain.chain.Goals as goal

pub loop-at-init : goal.loop-at-init
loop-at-init g c =
    let all = length c.args.marks.now in
    let filled : c.fill.new.self.items ≡ replicate 128 (length c.args.marks.now) = search rules in
    let heads = subst (λ column. AreHeads all column c.fill.new.self.items) (sym (drop_all all c.args.marks.now (omega arith))) (subst (AreHeads all []) (sym filled) (heads_none all)) in
    (omega arith, c.requires.long, ap length filled, heads, λ row slot from below inside line. absurd (omega (arith, from, below)))

pub loop-at-preserved : goal.loop-at-preserved
loop-at-preserved g c =
    let marks = c.args.marks.now in
    let at : ℕ = c.loop-at.at - 1 in
    let test = c.loop-at-test.true in
    let le = c.loop-at.invariant.0 in
    let back : c.loop-at.at ≡ at + 1 = omega (arith, test) in
    let within : at < length marks = omega (arith, test, le) in
    let full = c.loop-at.invariant.2 in
    let heads : AreHeads (at + 1) (drop (at + 1) marks) c.loop-at.first.items = subst (λ n. AreHeads n (drop n marks) c.loop-at.first.items) back c.loop-at.invariant.3 in
    let links : AreLinksFrom g.row.N (at + 1) marks c.loop-at.next.items = subst (λ n. AreLinksFrom g.row.N n marks c.loop-at.next.items) back c.loop-at.invariant.4 in
    let own : c.index-marks-at.result ≡ get_or marks at [] = c.index-marks-at.is ∙ get_or_default marks at c.index-marks-at.result [] within in
    let first : drop at marks ≡ c.index-marks-at.result ∷ drop (at + 1) marks = drop_more marks at [] within ∙ ap (λ l. l ∷ drop (at + 1) marks) (sym own) in
    let next_heads = subst (λ column. AreHeads at column c.head.new.first.items) (sym first) (subst (AreHeads at (c.index-marks-at.result ∷ drop (at + 1) marks)) (sym c.head.ensures) (heads_one at (drop (at + 1) marks) c.index-marks-at.result c.loop-at.first.items full heads)) in
    let leads : (slot : ℕ) → slot < g.row.N → slice_index c.led_on.result slot ≡ slice_index c.loop-at.first.items (entry marks at slot) =
    λ slot inside. c.led_on.ensures slot inside ∙ ap (λ (l : List ℕ). slice_index l (slice_index c.index-marks-at.result slot)) c.deref.ensures.value ∙ ap (λ (l : List ℕ). slice_index c.loop-at.first.items (slice_index l slot)) own in
    let still : length c.head.new.first.items ≡ 128 = ap length c.head.ensures ∙ length_headed at c.index-marks-at.result c.loop-at.first.items ∙ full in
    (omega (arith, within), length-set c.loop-at.next.items at c.led_on.result ∙ c.loop-at.invariant.1, still, next_heads, links_one at g.row.N marks c.loop-at.next.items c.led_on.result c.loop-at.first.items within c.loop-at.invariant.1 heads leads links)
