use Rattle.std.proofs.Common.{◌≡◌, ◌∙◌, ℕ, Bool, List, rules, tests, arith, eqb, not, ap, length, unwrap_or}
use Rattle.std.specs.List.{enumerate_from, position}
use Rattle.std.proofs.lemmas.Iterator.{YieldsList-from_slice}
use Rattle.std.proofs.lemmas.Iterator.Consumers.{YieldsList-at, YieldsList-from_enumerate}
use Rattle.std.proofs.lemmas.Iterator.Search.{position_from_yields_List}
use Rattle.std.proofs.lemmas.List.FromFn.{length-enumerate_from}
use Rattle.rbc_maps.proofs.MapEdits.{position_or_len_is}
use Rattle.rbc_ids.specs.declared.slot.Slot.{Slot}
use Rattle.rbc_ids.proofs.identifier_table.IdTable.gap.Goals as goal

pub returns-clause-value : goal.returns-clause-value
returns-clause-value g c =
    let same : c.self.inside.held.items ≡ c.args.self.now = c.self.view_is in
    let entries : List (ℕ × (ℕ × Slot)) = enumerate_from 0 c.args.self.now in
    let test : ℕ × (ℕ × Slot) → Bool = λ entry. not (eqb entry.1.0 entry.0) in
    let found : c.position.result ≡ position test entries =
    position_from_yields_List test _ _ c.position.result c.position.ensures.ran
    (YieldsList-from_enumerate (YieldsList-at c.enumerate.ensures.source (YieldsList-from_slice c.args.self.now (cc))) c.enumerate.ensures.count)
    (λ x b q k. search (rules, tests)) in
    let all : length entries ≡ length c.args.self.now = length-enumerate_from 0 c.args.self.now in
    let long : c.len.result ≡ length entries = omega (arith, all, ap length same, c.self.inside.held.ok.0) in
    c.unwrap_or.ensures ∙ ap (λ o. unwrap_or o c.len.result) found ∙ ap (unwrap_or (position test entries)) long ∙ position_or_len_is test entries
