-- A message says one list of things at most.
use Rattle.std.proofs.Common.{◌≡◌, ℕ, ◌+◌, ◌*◌, List, [], ◌∷◌, refl, sym, ap, ap₂, ◌∙◌, subst, arith}
use Rattle.std.proofs.lemmas.Option.{same_Some}
use Rattle.ertms_codec.specs.declared.packets.Part.{Part}
use Rattle.ertms_codec.specs.declared.packets.Part.TheVariants as packet
use Rattle.ertms_codec.specs.declared.to_train.ToTrain.TheVariants as message
use Rattle.rbc_track.specs.Plan.{Plan}
use Rattle.rbc_track.specs.declared.group.Group.{Group}
use Rattle.rbc_track.specs.declared.group.Way.{Way}
use Rattle.rbc_track.specs.declared.group.Way.TheVariants.{Up, Down}
use Rattle.rbc_place.specs.Reach.{IsAhead}
use Rattle.rbc_rule.specs.Saying.{Spot, Stretch, Said, StopsBefore, Restricts, way_told, CountsFrom, IsSpotTold, IsStretchTold, PacketSays, PacketsSay}
use Rattle.rbc_rule.specs.SaidFor.{EachMessageSaysOneThing}

-- only one place lies so far ahead
only_place : (way : Way) (origin by place other : ℕ) → IsAhead way origin by place → IsAhead way origin by other → place ≡ other
only_place Up origin by place other p q = let one : place ≡ origin + by = p in let two : other ≡ origin + by = q in omega arith
only_place Down origin by place other p q = let one : origin ≡ place + by = p in let two : origin ≡ other + by = q in omega arith

module _ (plan : Plan) (lrbg dir scale : ℕ) where
  -- what distances count from is one
  record AreOne (line line' origin origin' : ℕ) (way way' : Way) (unit unit' : ℕ) : Type 0 where
    lines : line ≡ line'
    origins : origin ≡ origin'
    ways : way ≡ way'
    units : unit ≡ unit'

  counts_are_one : (line line' origin origin' : ℕ) (way way' : Way) (unit unit' : ℕ) → CountsFrom plan lrbg dir scale line origin way unit
      → CountsFrom plan lrbg dir scale line' origin' way' unit' → AreOne line line' origin origin' way way' unit unit'
  counts_are_one line line' origin origin' way way' unit unit' a b =
      let one : a.group ≡ b.group = same_Some a.group b.group (sym a.known ∙ b.known) in
      record {
        lines = a.on_line ∙ ap (λ (g : Group). g.line) one ∙ sym b.on_line;
        origins = a.from_group ∙ ap (λ (g : Group). g.at) one ∙ sym b.from_group;
        ways = same_Some way way' (sym a.one_way ∙ ap (λ (g : Group). way_told g.nominal dir) one ∙ b.one_way);
        units = same_Some unit unit' (sym a.in_units ∙ b.in_units);
      }

  -- so is the place that lies so many units ahead
  spots_are_one : (distance : ℕ) (spot other : Spot) → IsSpotTold plan lrbg dir scale distance spot → IsSpotTold plan lrbg dir scale distance other → spot ≡ other
  spots_are_one distance spot other a b =
      let one = counts_are_one spot.line other.line spot.origin other.origin spot.way other.way spot.unit other.unit a.counts b.counts in
      let in_unit : IsAhead other.way other.origin (distance * spot.unit) other.place =
      subst (λ (unit : ℕ). IsAhead other.way other.origin (distance * unit) other.place) (sym one.units) b.ahead in
      let from_origin : IsAhead other.way spot.origin (distance * spot.unit) other.place =
      subst (λ (origin : ℕ). IsAhead other.way origin (distance * spot.unit) other.place) (sym one.origins) in_unit in
      let same_way : IsAhead spot.way spot.origin (distance * spot.unit) other.place =
      subst (λ (way : Way). IsAhead way spot.origin (distance * spot.unit) other.place) (sym one.ways) from_origin in
      let places : spot.place ≡ other.place = only_place spot.way spot.origin (distance * spot.unit) spot.place other.place a.ahead same_way in
      let lines = one.lines in
      let origins = one.origins in
      let ways = one.ways in
      let units = one.units in
      λ i. record { line = lines i; origin = origins i; way = ways i; place = places i; unit = units i }

  -- and the stretch
  stretches_are_one : (start length : ℕ) (stretch other : Stretch) → IsStretchTold plan lrbg dir scale start length stretch
      → IsStretchTold plan lrbg dir scale start length other → stretch ≡ other
  stretches_are_one start length stretch other a b =
      let one = counts_are_one stretch.line other.line stretch.origin other.origin stretch.way other.way stretch.unit other.unit a.counts b.counts in
      let lines = one.lines in
      let origins = one.origins in
      let ways = one.ways in
      let units = one.units in
      let begins : stretch.begin ≡ other.begin = a.begins ∙ ap (λ (unit : ℕ). start * unit) units ∙ sym b.begins in
      let ends : stretch.end ≡ other.end = a.ends ∙ ap (λ (unit : ℕ). (start + length) * unit) units ∙ sym b.ends in
      λ i. record { line = lines i; origin = origins i; way = ways i; begin = begins i; end = ends i; unit = units i }

-- a packet says one thing at most
packet_says_one : (plan : Plan) (lrbg : ℕ) (part : Part) (x y : Said) → PacketSays plan lrbg part x → PacketSays plan lrbg part y → x ≡ y
packet_says_one plan lrbg (packet.Restrict dir scale id start length front speed) x y a b =
    a.1.1 ∙ ap (λ (stretch : Stretch). Restricts id stretch front (5 * speed)) (stretches_are_one plan lrbg dir scale start length a.0 b.0 a.1.0 b.1.0) ∙ sym b.1.1
packet_says_one plan lrbg (packet.Lift dir id) x y a b = a.1 ∙ sym b.1

-- and packets one list of things
packets_say_one : (plan : Plan) (lrbg : ℕ) (packets : List Part) (x y : List Said) → PacketsSay plan lrbg packets x → PacketsSay plan lrbg packets y → x ≡ y
packets_say_one plan lrbg [] [] [] a b = refl
packets_say_one plan lrbg [] [] (y ∷ ys) a b = absurd b
packets_say_one plan lrbg [] (x ∷ xs) ys a b = absurd a
packets_say_one plan lrbg (part ∷ packets) [] ys a b = absurd a
packets_say_one plan lrbg (part ∷ packets) (x ∷ xs) [] a b = absurd b
packets_say_one plan lrbg (part ∷ packets) (x ∷ xs) (y ∷ ys) a b =
    ap₂ (λ (one : Said) (more : List Said). one ∷ more) (packet_says_one plan lrbg part x y a.0 b.0) (packets_say_one plan lrbg packets xs ys a.1 b.1)

pub says_one_thing : EachMessageSaysOneThing
says_one_thing plan (message.StopAt head id scale reference dir distance) x y a b =
    a.1.1.1 ∙ ap (λ (spot : Spot). StopsBefore id spot ∷ []) (spots_are_one plan head.lrbg dir scale distance a.1.0 b.1.0 a.1.1.0 b.1.1.0) ∙ sym b.1.1.1
says_one_thing plan (message.Stop head id) x y a b = a ∙ sym b
says_one_thing plan (message.Revoke head id) x y a b = a ∙ sym b
says_one_thing plan (message.General head packets) x y a b = packets_say_one plan head.lrbg packets x y a b
