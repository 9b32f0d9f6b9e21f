-- The kind of a message as it is told, and the places that it tells (own rule). Places are in units of 10 cm.
use Rattle.std.specs.Prelude.{◌≡◌, ℕ, ◌+◌, ◌*◌, ◌==◌, if◌then◌else◌, Option, Some}
use Rattle.ertms_codec.specs.declared.packets.Part.{Part}
use Rattle.ertms_codec.specs.declared.packets.Part.TheVariants as part
use Rattle.rbc_place.specs.Placing.{Place, onward}
use Rattle.rbc_account.specs.declared.told.ToldWhat.{ToldWhat}
use Rattle.rbc_account.specs.declared.told.ToldWhat.TheVariants as what
use Rattle.rbc_account.specs.declared.told.ToldRestriction.{ToldRestriction}
use Rattle.rbc_account.specs.declared.told.RestrictionTold.{RestrictionTold}
use Rattle.rbc_account.specs.declared.told.RestrictionTold.TheVariants as packet

-- the unit in which a message counts, by its Q_SCALE
abbrev pub unit_of : ℕ → ℕ
unit_of scale = if scale == 0 then 1 else if scale == 1 then 10 else 100

-- A place is told: this many units from the balise group of the train's place, in the direction in which the train faces.
abbrev pub IsPlaceTold : Option Place → ℕ → ℕ → ℕ → ℕ → Type 0
IsPlaceTold place scale distance told unit = (p : Place) × (place ≡ Some p) × (unit ≡ unit_of scale) × (told ≡ onward p.facing p.at (distance * unit))

-- a message 15 is told as message 15, with the place that it tells
abbrev pub TellsPlace : Option Place → ℕ → ℕ → ToldWhat → Type 0
TellsPlace place scale distance (what.StopBefore number before edge unit) = IsPlaceTold place scale distance before unit
TellsPlace place scale distance (what.StopAtOnce number why) = ⊥
TellsPlace place scale distance (what.StopRevoked number unanswered) = ⊥
TellsPlace place scale distance (what.Restrictions all) = ⊥
TellsPlace place scale distance what.Unknown = Unit

-- the same for a message 16, and for a message 18
abbrev pub TellsAtOnce : ToldWhat → Type 0
TellsAtOnce (what.StopBefore number before edge unit) = ⊥
TellsAtOnce (what.StopAtOnce number why) = Unit
TellsAtOnce (what.StopRevoked number unanswered) = ⊥
TellsAtOnce (what.Restrictions all) = ⊥
TellsAtOnce what.Unknown = Unit

abbrev pub TellsRevocation : ToldWhat → Type 0
TellsRevocation (what.StopBefore number before edge unit) = ⊥
TellsRevocation (what.StopAtOnce number why) = ⊥
TellsRevocation (what.StopRevoked number unanswered) = Unit
TellsRevocation (what.Restrictions all) = ⊥
TellsRevocation what.Unknown = Unit

-- the same for packet 65, with the distances that it tells, and for packet 66
abbrev pub TellsStretch : ℕ → ℕ → ℕ → RestrictionTold → Type 0
TellsStretch scale start length (packet.Told segment begin end unit why) = (unit ≡ unit_of scale) × (begin ≡ start * unit) × (end ≡ (start + length) * unit)
TellsStretch scale start length (packet.Revoked why) = ⊥
TellsStretch scale start length packet.Unknown = Unit

abbrev pub TellsLift : RestrictionTold → Type 0
TellsLift (packet.Told segment begin end unit why) = ⊥
TellsLift (packet.Revoked why) = Unit
TellsLift packet.Unknown = Unit

abbrev pub TellsPart : Part → ToldRestriction → Type 0
TellsPart (part.Restrict dir scale id start length front speed) told = TellsStretch scale start length told.what
TellsPart (part.Lift dir id) told = TellsLift told.what
