use Rattle.std.proofs.Common.{◌≡◌, List, [], ◌∷◌, ◌++◌, ◌∙◌, ap}
use Rattle.rbc_records.specs.Notes.{record_in}
use Rattle.rbc_window.specs.Moving.{list_or}
use Rattle.rbc_window.proofs.ChangedLists.{Keyed, copied, within_more}
use Rattle.rbc_window.proofs.lists.Lists.own.Goals as goal

pub returns-clause-same : goal.returns-clause-same
returns-clause-same c k =
    let list : Keyed = (c.args.key, c.in_ok-engines.engines) in
    let more : c.push.new.self.items ≡ c.args.self.now ++ list ∷ [] =
    c.in_ok-push.ensures.items ∙ ap (λ (lists : List Keyed). lists ++ list ∷ []) c.self.view_is
    in
    ap (λ (lists : List Keyed). list_or lists (record_in c.args.store.now) k) more
    ∙ copied c.args.self.now c.args.key c.in_ok-engines.engines (record_in c.args.store.now)
    (c.in_ok-engines.ensures ∙ c.get.ensures) k

pub returns-clause-within : goal.returns-clause-within
returns-clause-within c =
    let list : Keyed = (c.args.key, c.in_ok-engines.engines) in
    let more : c.push.new.self.items ≡ c.args.self.now ++ list ∷ [] =
    c.in_ok-push.ensures.items ∙ ap (λ (lists : List Keyed). lists ++ list ∷ []) c.self.view_is
    in
    within_more c.args.self.now c.push.new.self.items c.args.key list c.place_of-index.result
    c.place_of-index.ensures more
