-- That a batch can have some inputs is proved in at most one way, so that the proof can be kept beside them.
use Rattle.std.specs.Prelude.{List, slice_index_or}
use Rattle.std.specs.List.{All}
use Rattle.std.specs.Coded.{×_prop, Π_prop, →_prop, Unit-prop, le_prop}
use Rattle.rbc_rule.specs.declared.input.Input.{Input}
use Rattle.rbc_rule.specs.declared.input.Input.TheVariants.{Enrol, Withdraw, Stop, Release, Restrict, Lift, Received, Bad}
use Rattle.rbc_rule.specs.Inputs.{Fits}

pub fits_at_most_once : (input : Input) → IsProp (Fits input)
fits_at_most_once (Enrol engine train_length) = ×_prop le_prop (×_prop le_prop le_prop)
fits_at_most_once (Withdraw engine) = le_prop
fits_at_most_once (Stop number segments) = le_prop
fits_at_most_once (Release number) = Unit-prop
fits_at_most_once (Restrict number segment dirs speed front) = Unit-prop
fits_at_most_once (Lift number) = Unit-prop
fits_at_most_once (Received message) = Unit-prop
fits_at_most_once (Bad code) = ×_prop le_prop le_prop

pub all_fit_at_most_once : (inputs : List Input) → IsProp (All Fits inputs)
all_fit_at_most_once inputs = Π_prop (λ k. Π_prop (λ d. →_prop (fits_at_most_once (slice_index_or inputs k d))))
