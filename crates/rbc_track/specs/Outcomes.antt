-- How the code's reading of one part of a document ends.
use Rattle.std.specs.Prelude.{◌≡◌, ◌⊎◌, Option, None}
use Rattle.rbc_track.specs.declared.error.TrackError.{TrackError}
use Rattle.rbc_track.specs.declared.error.TrackError.TheVariants.{Shape, OutOfMemory}

-- a part is not read: memory ran out, or the part cannot be read from the document
abbrev pub Misses : {A : Type 0} → Option A → TrackError → Type 0
Misses part error = (error ≡ OutOfMemory) ⊎ ((error ≡ Shape) × (part ≡ None))
