-- What a draft of a track file is (own rule).
use Rattle.std.specs.Prelude.{◌≡◌, ◌≤◌, true, None, IsSome, All, IsPermutation}
use Rattle.std.specs.Ordering.{nat_cmp, ordering_then}
use Rattle.std.specs.declared.cmp.Ordering.{Ordering}
use Rattle.rbc_track.specs.Plan.{max_length, max_group_number}
use Rattle.rbc_track_report.specs.declared.named_document.Draft.{Draft}
use Rattle.rbc_track_report.specs.declared.named_document.GroupDraft.{GroupDraft}

-- A misfit is noted in a draft, if there was none before. Nothing else changes.
pub record IsMissed (old new : Draft) : Type 0 where
  pub name : new.name ≡ old.name
  pub horizon : new.horizon ≡ old.horizon
  pub lines : new.lines ≡ old.lines
  pub groups : new.groups ≡ old.groups
  pub first : IsSome old.misfit → new.misfit ≡ old.misfit
  pub cut : new.is_cut ≡ old.is_cut

-- More of a draft was read: its name and its horizon stay, and if it has no misfit, it had none before.
pub record IsReadOn (old new : Draft) : Type 0 where
  pub name : new.name ≡ old.name
  pub horizon : new.horizon ≡ old.horizon
  pub misfit : new.misfit ≡ None → old.misfit ≡ None

-- The horizon and the balise groups of a draft have numbers in their ranges.
pub record IsInRange (draft : Draft) : Type 0 where
  pub horizon : draft.horizon ≤ max_length
  pub nids : All (λ group. group.nid ≤ max_group_number) draft.groups.items

-- The balise groups of a draft were put in another order, or memory was refused. All else stays.
pub record IsReordered (old new : Draft) : Type 0 where
  pub name : new.name ≡ old.name
  pub horizon : new.horizon ≡ old.horizon
  pub lines : new.lines ≡ old.lines
  pub groups : IsPermutation old.groups.items new.groups.items
  pub misfit : new.misfit ≡ old.misfit
  pub cut : old.is_cut ≡ true → new.is_cut ≡ true

-- how two balise groups stand in order: by line, then by place, then by number
abbrev pub group_order : GroupDraft → GroupDraft → Ordering
group_order one next =
    ordering_then (ordering_then (nat_cmp one.line next.line) (nat_cmp one.at next.at)) (nat_cmp one.nid next.nid)
