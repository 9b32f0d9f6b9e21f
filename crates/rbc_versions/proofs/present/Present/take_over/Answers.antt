use Rattle.std.proofs.Common.{◌≡◌, ◌<◌, ◌∙◌, length, cond, ap, arith, rules, option_copied}
use Rattle.rbc_records.specs.declared.record.Key.{Key}
use Rattle.rbc_records.specs.Notes.{same_key}
use Rattle.rbc_versions.specs.Entries.{ticket_in}
use Rattle.rbc_versions.proofs.Standing.{after_put}
use Rattle.rbc_versions.proofs.present.Present.take_over.Goals as goal

pub loop-index-preserved : goal.loop-index-preserved
loop-index-preserved c =
    let entries = c.args.published.now in
    let old = ticket_in c.loop-index.self-inside.tickets.entries in
    let new = ticket_in c.put.new.tickets.entries in
    let within : c.loop-index.index < length entries = omega (arith, c.len-index-end.ensures.len) in
    let again : c.map.result ≡ option_copied c.at-key.result.1 = search rules in
    let put : (k : Key) → new k ≡ cond (same_key k c.at-key.result.0) (option_copied c.at-key.result.1) (old k) =
    λ k. c.put.ensures.tickets k ∙ ap (λ ticket. cond (same_key k c.at-key.result.0) ticket (old k)) again in
    record {
      room = omega (arith, c.loop-index.invariant.room, c.put.ensures.room);
      rest = λ k. after_put entries c.loop-index.index c.at-key.result.0 _ old new within c.at-key.ensures.at put k ∙ c.loop-index.invariant.rest k;
    }
