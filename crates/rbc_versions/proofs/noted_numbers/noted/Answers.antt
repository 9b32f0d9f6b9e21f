use Rattle.std.proofs.Common.{◌∙◌, sym, ap, subst, is_some, IfSome}
use Rattle.std.specs.Option.{option_map}
use Rattle.rbc_versions.specs.Log.{IsOf}
use Rattle.rbc_versions.specs.Entries.{record_of}
use Rattle.rbc_versions.proofs.Finding.{ticket_is_noted, ticket_is_note, ticket_is_of}
use Rattle.rbc_versions.proofs.noted_numbers.noted.Goals as goal

pub returns-in_err-ticket-clause-known : goal.returns-in_err-ticket-clause-known
returns-in_err-ticket-clause-known c =
    ap is_some c.from_residual.ensures ∙ ap is_some c.in_err-ticket.ensures.value ∙ ticket_is_noted c.args.all.now.entries c.args.key

pub returns-clause-known : goal.returns-clause-known
returns-clause-known c =
    ap is_some c.in_ok-ticket.ensures.value ∙ ticket_is_noted c.args.all.now.entries c.args.key

pub returns-clause-noted : goal.returns-clause-noted
returns-clause-noted c =
    ap (option_map record_of) c.as_ref.ensures.value ∙ ticket_is_note c.args.all.now.entries c.args.key _ (sym c.in_ok-ticket.ensures.value)

pub returns-clause-here : goal.returns-clause-here
returns-clause-here c log all =
    let found = ticket_is_of log c.args.all.now.entries c.args.key _ all (sym c.in_ok-ticket.ensures.value) in
    subst (λ ticket. IfSome ticket (IsOf log)) (sym c.as_ref.ensures.value) found
