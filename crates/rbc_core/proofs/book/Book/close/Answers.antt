use Rattle.std.proofs.Common.{ap, subst}
use Rattle.rbc_desk.specs.Held.{standing}
use Rattle.rbc_core.specs.Books.{BookValue}
use Rattle.rbc_core.specs.Runs.{IsSaidSince}
use Rattle.rbc_core.proofs.Mails.{said_since}
use Rattle.rbc_core.proofs.book.Book.close.Goals as goal

pub returns-clause-mails : goal.returns-clause-mails
returns-clause-mails g c =
    let run = g.N.RunName.run in
    let held = standing c.self.inside.desk in
    let kept = c.self.invariant.2.kept in
    subst (λ n. IsSaidSince run n held.outboxes) (ap (λ (b : BookValue). b.committed) c.self.view_is) (said_since run _ held kept.good kept.serial)
