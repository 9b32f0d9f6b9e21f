use Rattle.std.proofs.Common.{◌∙◌, ap}
use Rattle.rbc_versions.specs.Log.{number_of}
use Rattle.rbc_versions.proofs.Standing.{found_in}
use Rattle.rbc_versions.proofs.present.Present.number.Goals as goal

pub returns-in-Some : goal.returns-in-Some
returns-in-Some c =
    c.number.ensures.number ∙ ap number_of (found_in c.self.inside.tickets.entries c.args.self.now.tickets c.args.key _ c.in-Some.ensures.value (ap (λ view. view.tickets) c.self.view_is))

pub returns-in-None : goal.returns-in-None
returns-in-None c =
    ap number_of (found_in c.self.inside.tickets.entries c.args.self.now.tickets c.args.key _ c.in-None.ensures.value (ap (λ view. view.tickets) c.self.view_is))
