-- What a fault says inside the rule (own rule).
use Rattle.rbc_track.specs.Plan.{Plan}
use Rattle.rbc_records.specs.Notes.{Notes}
use Rattle.rbc_rule.specs.declared.outcome.RuleFault.{RuleFault}
use Rattle.rbc_rule.specs.declared.outcome.RuleFault.TheVariants as fault
use Rattle.rbc_rule.specs.Right.{IsTorn}

-- what a fault says of the notes if nothing more is read
abbrev pub IsFaultOf : Plan → RuleFault → Notes → Type 0
IsFaultOf plan fault.OutOfMemory notes = Unit
IsFaultOf plan fault.Torn notes = IsTorn plan notes
IsFaultOf plan fault.Reader notes = ⊥
