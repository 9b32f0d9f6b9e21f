use Rattle.std.proofs.Common.{List, [], refl, sym, subst}
use Rattle.std.proofs.KnownBytes.{Appends-nil}
use Rattle.std.proofs.lemmas.List.Elements.{All-nil}
use Rattle.rbc_records.specs.declared.record.Key.{Key}
use Rattle.rbc_records.specs.declared.record.Rec.{Rec}
use Rattle.rbc_records.specs.Notes.{record_in}
use Rattle.rbc_text.specs.Held.{AreRecordsOf}
use Rattle.rbc_text.specs.Serial.{new_desk}
use Rattle.rbc_live.specs.Watching.{IsWatchFor}
use Rattle.rbc_live.proofs.Runs.{no_records}
use Rattle.rbc_live.proofs.session.Session.new.Goals as goal

pub returns-clause-under_way : goal.returns-clause-under_way
returns-clause-under_way c = λ known.
    let plan = c.args.desk.track in
    let none = sym c.requires in
    record {
      taken = [];
      inputs = [];
      written = [];
      fed = refl;
      serial = (tt, record { world = subst (λ (records : List (Key × Rec)). AreRecordsOf plan (record_in records) new_desk.world) none (no_records plan); results = refl; outboxes = refl });
      as_many = refl;
      boxes = record { ascending = refl; filled = All-nil _ };
      all = c.new-2.ensures.items;
      out = Appends-nil known;
      count = c.new-3.ensures.sent;
      track = refl;
      first = refl;
      watch = subst (λ (records : List (Key × Rec)). IsWatchFor c.args.wanted.alarms plan.horizon records c.watch_for.result) none (c.watch_for.ensures plan.horizon);
      next = refl;
      begun = c.new.ensures;
    }
