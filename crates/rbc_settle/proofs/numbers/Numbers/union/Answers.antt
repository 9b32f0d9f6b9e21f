use Rattle.std.proofs.Common.{◌≡◌, ◌<◌, ◌≤◌, ◌+◌, ◌||◌, ◌⊎◌, List, ℕ, length, refl, ap, ◌∙◌, arith, inl, inr}
use Rattle.rbc_settle.specs.Numbers.{has_number}
use Rattle.rbc_settle.proofs.Merging.{IsWhole, begun, goes_on, ended}
use Rattle.rbc_settle.proofs.numbers.Numbers.union.Goals as goal
use Rattle.rbc_settle.proofs.numbers.Numbers.union.Goals.{then-ours-theirs, else-ours-theirs, then-loop-i-test+else-j-len, else-loop-i-test}

pub loop-i-init : goal.loop-i-init
loop-i-init c = record {
  i_within = omega arith;
  j_within = omega arith;
  merged = begun c.in_ok-all.all.items c.self.inside.all.items c.other.inside.all.items c.in_ok-all.ensures.items c.self.invariant c.other.invariant;
}

pub loop-i-preserved-then-theirs-ours : goal.loop-i-preserved-then-theirs-ours
loop-i-preserved-then-theirs-ours c =
    let ours = c.index.result.now in
    let theirs = c.index-in-loop-i.result.now in
    let ours_within : c.loop-i.i < length c.self.inside.all.items = omega (arith, c.self.inside.all.ok.0) in
    let theirs_within : c.loop-i.j < length c.other.inside.all.items = omega (arith, c.other.inside.all.ok.0) in
    let moved : (ours ≤ theirs → c.if-ours-theirs.i ≡ c.loop-i.i + 1) × (theirs < ours → c.if-ours-theirs.i ≡ c.loop-i.i) =
    elim c.if-ours-theirs.branch [
      | then-ours-theirs w ↦ ((λ h. w.i-is), (λ h. absurd (omega arith)))
      | else-ours-theirs w ↦ ((λ h. absurd (omega arith)), (λ h. w.i-is))
    ]
    in
    record {
      i_within = elim c.if-ours-theirs.branch [ then-ours-theirs w ↦ omega arith | else-ours-theirs w ↦ omega arith ];
      j_within = omega arith;
      merged = goes_on c.self.inside.all.items c.other.inside.all.items c.loop-i.all.items c.push.new.self.items c.loop-i.i c.loop-i.j
          ours theirs c.min.result ours_within theirs_within c.index.ensures c.index-in-loop-i.ensures c.min.ensures
          c.in_ok-push.ensures.items c.loop-i.invariant.merged c.if-ours-theirs.i (c.loop-i.j + 1)
          moved.0 moved.1 (λ h. refl) (λ h. absurd (omega arith));
    }

pub loop-i-preserved : goal.loop-i-preserved
loop-i-preserved c =
    let ours = c.index.result.now in
    let theirs = c.index-in-loop-i.result.now in
    let ours_within : c.loop-i.i < length c.self.inside.all.items = omega (arith, c.self.inside.all.ok.0) in
    let theirs_within : c.loop-i.j < length c.other.inside.all.items = omega (arith, c.other.inside.all.ok.0) in
    let moved : (ours ≤ theirs → c.if-ours-theirs.i ≡ c.loop-i.i + 1) × (theirs < ours → c.if-ours-theirs.i ≡ c.loop-i.i) =
    elim c.if-ours-theirs.branch [
      | then-ours-theirs w ↦ ((λ h. w.i-is), (λ h. absurd (omega arith)))
      | else-ours-theirs w ↦ ((λ h. absurd (omega arith)), (λ h. w.i-is))
    ]
    in
    record {
      i_within = elim c.if-ours-theirs.branch [ then-ours-theirs w ↦ omega arith | else-ours-theirs w ↦ omega arith ];
      j_within = c.loop-i.invariant.j_within;
      merged = goes_on c.self.inside.all.items c.other.inside.all.items c.loop-i.all.items c.push.new.self.items c.loop-i.i c.loop-i.j
          ours theirs c.min.result ours_within theirs_within c.index.ensures c.index-in-loop-i.ensures c.min.ensures
          c.in_ok-push.ensures.items c.loop-i.invariant.merged c.if-ours-theirs.i c.loop-i.j
          moved.0 moved.1 (λ h. absurd (omega arith)) (λ h. refl);
    }

-- one list has ended, so what is left of both is behind what was done
whole : (c : goal.In_ok-extend_from_slice-2) → IsWhole c.extend_from_slice-2.new.self.items c.self.inside.all.items c.other.inside.all.items
whole c =
    let xs = c.self.inside.all.items in
    let ys = c.other.inside.all.items in
    let end : (length xs ≤ c.loop-i.i) ⊎ (length ys ≤ c.loop-i.j) = elim c.loop-i-test.branch [
      | then-loop-i-test+else-j-len w ↦ inr (omega arith)
      | else-loop-i-test w ↦ inl (omega arith)
    ]
    in
    ended c.loop-i.i c.loop-i.j xs ys c.deref.result.now c.deref-2.result.now c.loop-i.all.items
    c.extend_from_slice.new.self.items c.extend_from_slice-2.new.self.items c.deref.ensures.value c.deref-2.ensures.value
    c.in_ok-extend_from_slice.ensures.items c.in_ok-extend_from_slice-2.ensures.items end c.loop-i.invariant.merged

pub invariant_of-result : goal.invariant_of-result
invariant_of-result c = (whole c).sound

pub returns-clause-union : goal.returns-clause-union
returns-clause-union c = λ n.
    (whole c).numbers n
    ∙ ap (λ (xs : List ℕ). has_number xs n || has_number c.other.inside.all.items n) c.self.view_is
    ∙ ap (λ (ys : List ℕ). has_number c.args.self.now n || has_number ys n) c.other.view_is

pub returns-clause-few : goal.returns-clause-few
returns-clause-few c =
    let few = (whole c).few in
    let one : length c.self.inside.all.items ≡ length c.args.self.now = ap length c.self.view_is in
    let other : length c.other.inside.all.items ≡ length c.args.other.now = ap length c.other.view_is in
    omega (arith, few, one, other)

pub returns-clause-sound : goal.returns-clause-sound
returns-clause-sound c = (whole c).sound
