use Rattle.std.proofs.Common.{◌∙◌, ap, sym, subst, [], ◌∷◌}
use Rattle.std.specs.Option.{option_map}
use Rattle.indexmap.proofs.CallerLemmas.{insert_entry-new}
use Rattle.rbc_records.specs.contracts.record.KeyPartialEq.TheImpl.{eq-value}
use Rattle.rbc_records.specs.Notes.{Part, Learns, IsNotedOnce}
use Rattle.rbc_versions.proofs.Learning.{learned, once_more}
use Rattle.rbc_versions.specs.Entries.{shown, record_of}
use Rattle.rbc_versions.proofs.Finding.{no_ticket, shown_append}
use Rattle.rbc_versions.proofs.noted_numbers.append.Goals as goal

pub returns-in-Ok-clause-ok : goal.returns-in-Ok-clause-ok
returns-in-Ok-clause-ok c =
    c.in-Ok.ensures.entries ∙ insert_entry-new eq-value.it c.args.all.now c.args.key c.args.ticket (no_ticket c.args.all.now.entries c.args.key c.requires.absent)

pub returns-in-Ok-clause-learns : goal.returns-in-Ok-clause-learns
returns-in-Ok-clause-learns c =
    let longer = ap shown (returns-in-Ok-clause-ok c) ∙ shown_append c.args.all.now.entries ((c.args.key, c.args.ticket) ∷ []) in
    subst (λ notes. Learns (Part (shown c.args.all.now.entries)) c.args.key (Part notes)) (sym longer) (learned (shown c.args.all.now.entries) c.args.key (option_map record_of c.args.ticket))

pub returns-in-Ok-clause-once : goal.returns-in-Ok-clause-once
returns-in-Ok-clause-once c =
    let longer = ap shown (returns-in-Ok-clause-ok c) ∙ shown_append c.args.all.now.entries ((c.args.key, c.args.ticket) ∷ []) in
    subst IsNotedOnce (sym longer) (once_more (shown c.args.all.now.entries) c.args.key (option_map record_of c.args.ticket) c.requires.once c.requires.absent)
