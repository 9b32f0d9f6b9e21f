use Rattle.std.proofs.Common.{sym, ◌∙◌, ap, Result, Ok, Err, OnOk, IsOk, cond}
use Rattle.rbc_records.specs.Notes.{same_key}
use Rattle.rbc_versions.specs.Entries.{ticket_in}
use Rattle.rbc_versions.proofs.Standing.{ticket_put}
use Rattle.rbc_versions.proofs.present.put.Goals as goal

at_ok : {X E P : Type 0} (r : Result X E) → IsOk r → OnOk r P → P
at_ok (Ok x) h p = p
at_ok (Err e) h p = cc

pub returns-in-Some-clause-tickets : goal.returns-in-Some-clause-tickets
returns-in-Some-clause-tickets c =
    let updates = at_ok c.insert.result (c.insert.ensures.succeeds c.requires) c.insert.ensures.updates in
    λ k. ticket_put c.args.tickets.now.entries c.insert.new.self.entries c.args.key _ updates.0 k ∙ ap (λ ticket. cond (same_key k c.args.key) ticket (ticket_in c.args.tickets.now.entries k)) (sym c.in-Some.is)

pub returns-in-None-clause-tickets : goal.returns-in-None-clause-tickets
returns-in-None-clause-tickets c =
    λ k. ticket_put c.args.tickets.now.entries c.swap_remove.new.self.entries c.args.key _ c.swap_remove.ensures.updates.0 k ∙ ap (λ ticket. cond (same_key k c.args.key) ticket (ticket_in c.args.tickets.now.entries k)) (sym c.in-None.is)
