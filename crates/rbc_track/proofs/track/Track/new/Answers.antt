use Rattle.std.proofs.Common.{ℕ, List, arith, subst, sym, ap, ◌∙◌}
use Rattle.std.specs.List.{list_all}
use Rattle.rbc_track.specs.declared.group.Group.{Group}
use Rattle.rbc_track.specs.Plan.{IsPlan}
use Rattle.rbc_track.specs.Reading.{is_length, is_on}
use Rattle.rbc_track.proofs.Plans.{IsPlan-from, lines_below}
use Rattle.rbc_track.proofs.track.Track.new.Goals as goal

pub by_number-requires : goal.by_number-requires
by_number-requires c =
    let on = sym (c.if-not-are_on.ensures ∙ ap (λ (lines : List ℕ). list_all (is_on lines) c.args.sites.now) c.as_slice-2.ensures.value) in
    lines_below c.args.lines.items c.args.sites.now (omega arith) on

pub invariant_of-result : goal.invariant_of-result
invariant_of-result c =
    let lengths = sym (c.if-not-are_lengths.ensures ∙ ap (λ (lines : List ℕ). list_all is_length lines) c.as_slice.ensures.value) in
    let on = sym (c.if-not-are_on.ensures ∙ ap (λ (lines : List ℕ). list_all (is_on lines) c.args.sites.now) c.as_slice-2.ensures.value) in
    subst (λ (groups : List (ℕ × Group)). IsPlan (record { horizon = c.args.horizon; lines = c.args.lines.items; groups = groups })) (sym c.in_ok-groups.ensures.row)
    (IsPlan-from c.args.horizon c.args.lines.items c.args.sites.now c.in_ok-by_number.field-0.entries c.requires.horizon (omega arith) (omega arith) lengths on
    c.requires.numbers c.in_ok-by_number.ensures.groups c.in_ok-by_number.ensures.ascending)
