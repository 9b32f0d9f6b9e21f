use Rattle.std.proofs.Common.{◌≡◌, inl, sym, subst, ℕ, Bool, true, false, List, Option}
use Rattle.rbc_dispatch.specs.Doing.{Announces}
use Rattle.rbc_dispatch.proofs.program.run_file.Goals as goal
use Rattle.rbc_dispatch.proofs.program.run_file.Goals.{else-stats-2, then-stats-2}

both : (b : Bool) → b ≡ true → b ≡ false → ⊥
both b is not = cc

announces_as : {W : Type 0} (contents : W → Option (List ℕ)) (at_terminal : Bool) (notice : List ℕ) (old mid new : W) → new ≡ mid
    → Announces at_terminal notice old mid (contents old) (contents mid) → Announces at_terminal notice old new (contents old) (contents new)
announces_as {W = W} contents at_terminal notice old mid new same announces =
    subst (λ (w : W). Announces at_terminal notice old w (contents old) (contents w)) (sym same) announces

-- where no figures are asked for no more than the notice was written
pub returns-then-workers-lt2-clause-errors : goal.returns-then-workers-lt2-clause-errors
returns-then-workers-lt2-clause-errors g c = λ quiet.
    elim c.if-stats-2.branch [
      | then-stats-2 w ↦ absurd (both _ w.if-stats-2.true quiet)
      | else-stats-2 w ↦ announces_as g.E.Write.contents _ _ _ _ _ w.errors-is (c.announce.ensures.silent, c.announce.ensures.says)
    ]

-- the batch is answered on the track of the text that the file holds
pub returns-then-workers-lt2-clause-runs : goal.returns-then-workers-lt2-clause-runs
returns-then-workers-lt2-clause-runs g c =
    let text = c.in_ok-track.ensures.ok in
    let h = c.in_ok-counts.ensures.answers in
    inl (text.0, (c.in_ok-track.track, text.1, (c.in_ok-counts.counts, (h.0, h.1, h.2, h.3, h.4, h.5, h.6.0))))

pub returns-then-stats-3-clause-runs : goal.returns-then-stats-3-clause-runs
returns-then-stats-3-clause-runs g c =
    let text = c.in_ok-track.ensures.ok in
    let h = c.in_ok-counts-2.ensures.answers in
    inl (text.0, (c.in_ok-track.track, text.1, (c.in_ok-counts-2.counts, (h.0, h.1, h.2, h.3, h.4, h.5, h.6.0))))
