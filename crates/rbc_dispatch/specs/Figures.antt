-- What `run` reports of its workers.
use Rattle.std.specs.Prelude.{ℕ, List, ◌++◌, codes}
use Rattle.std.specs.Fmt.{decimal}
use Rattle.rbc_dispatch.specs.declared.figures.Figures.{Figures}

-- the lines on the workers, without the last line feed
abbrev pub report_of : Figures → List ℕ
report_of figures =
    codes "attempted ahead: " ++ decimal figures.attempted
    ++ codes "\ntaken over as attempted: " ++ decimal figures.taken_over
    ++ codes "\nrecomputed, since a record that was read had changed: " ++ decimal figures.recomputed
    ++ codes "\ngiven up as they were taken: " ++ decimal figures.given_up
    ++ codes "\nshared by train: " ++ decimal figures.shared ++ codes " messages in " ++ decimal figures.windows ++ codes " windows\nin order: " ++ decimal figures.in_order
    ++ codes "\nworkers: " ++ decimal figures.workers
