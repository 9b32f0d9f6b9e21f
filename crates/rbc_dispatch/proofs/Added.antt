-- What one more argument makes of a command.
use Rattle.std.proofs.Common.{ap, ◌≡◌, ◌∙◌, ◌||◌, false, [], ◌∷◌, ◌++◌}
use Rattle.clap.specs.Built.{AddsArg}
use Rattle.clap.specs.Simple.{App, Shape, with_rule}
use Rattle.clap.specs.Walk.{Rule}
use Rattle.clap.specs.Words.{app_of, rule_of, shape_of}
use Rattle.clap.specs.declared.builder.arg.Arg.{Arg}
use Rattle.clap.specs.declared.builder.command.Command.{Command}
use Rattle.clap.specs.declared.builder.command.Command.TheViews.{out-Command}

-- its rules are those that it had, and that of the argument
pub app_with : (app : App) (rule : Rule) (old new : Command) (a : Arg) → app_of old ≡ app → rule_of a ≡ rule → a.global ≡ false → AddsArg old a new
    → app_of new ≡ with_rule app rule
app_with app rule old new a is has local adds =
    adds.shape local ∙ ap (λ (x : App). with_rule x (rule_of a)) is ∙ ap (λ (x : Rule). with_rule app x) has

-- none of its arguments is global
pub local_with : (old new : Command) (a : Arg) → (out-Command old).has_globals ≡ false → a.global ≡ false → AddsArg old a new
    → (out-Command new).has_globals ≡ false
local_with old new a was local adds = adds.globals ∙ ap (λ b. b || a.global) was ∙ ap (λ b. false || b) local

-- its shape, where the shape that it had is known
pub shape_with : (s : Shape) (rule : Rule) (old new : Command) (a : Arg) → shape_of old ≡ s → rule_of a ≡ rule → a.global ≡ false → AddsArg old a new
    → shape_of new ≡ record s { rules = s.rules ++ rule ∷ [] }
shape_with s rule old new a is has local adds =
    ap (λ (x : App). x.top) (adds.shape local) ∙ ap (λ (x : Shape). record x { rules = x.rules ++ rule_of a ∷ [] }) is
    ∙ ap (λ (x : Rule). record s { rules = s.rules ++ x ∷ [] }) has
