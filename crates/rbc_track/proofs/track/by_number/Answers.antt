use Rattle.std.proofs.Common.{is_some, refl, sym, ap, ◌∙◌, inr, arith}
use Rattle.rbc_track.specs.declared.document.Site.{Site}
use Rattle.rbc_track.specs.declared.group.Way.TheVariants.{Up}
use Rattle.rbc_track.proofs.Numbered.{twice_at, numbered_more, numbered_end}
use Rattle.rbc_track.proofs.track.by_number.Goals as goal

-- what a read past the end would give
abbrev none : Site
none = record { nid = 0; line = 0; at = 0; nominal = Up }

pub returns-then-is_some-clause-twice : goal.returns-then-is_some-clause-twice
returns-then-is_some-clause-twice c =
    let found = sym (ap is_some c.in_ok-insert.ensures.old) ∙ sym c.if-is_some.ensures in
    inr (refl, twice_at c.loop-site.groups.entries c.args.sites.now c.loop-site.site-index none (omega arith) found c.loop-site.invariant.so_far)

pub loop-site-preserved : goal.loop-site-preserved
loop-site-preserved c =
    let found = sym (ap is_some c.in_ok-insert.ensures.old) ∙ sym c.if-is_some.ensures in
    record {
      so_far = numbered_more c.loop-site.groups.entries c.args.sites.now c.loop-site.site-index none _ (omega arith) found c.in_ok-insert.ensures.entries c.loop-site.invariant.so_far;
      ascending = c.in_ok-insert.ensures.ordered;
    }

pub returns-clause-apart : goal.returns-clause-apart
returns-clause-apart c = (numbered_end c.loop-site.groups.entries c.args.sites.now c.loop-site.site-index (omega arith) c.loop-site.invariant.so_far).0

pub returns-clause-groups : goal.returns-clause-groups
returns-clause-groups c = (numbered_end c.loop-site.groups.entries c.args.sites.now c.loop-site.site-index (omega arith) c.loop-site.invariant.so_far).1
