-- The variables of a position packet at their places.
use Rattle.std.proofs.Common.{◌≡◌, ℕ, zero, suc, ◌+◌, ◌≤◌, ◌∙◌, Bool, true, false, Option, Some, None, List, [], ◌∷◌, ◌++◌, drop, ◌⊎◌, inl, inr, refl, sym, ap, arith}
use Rattle.std.specs.Prelude.{◌==◌, if◌then◌else◌}
use Rattle.std.proofs.lemmas.List.Sums.{sum_by-append}
use Rattle.ertms_codec.specs.declared.from_train.Position.{Position}
use Rattle.ertms_codec.specs.Layout.{Field, width_of, value_at}
use Rattle.ertms_codec.specs.Variables.{nid_packet, l_packet, q_scale, nid_lrbg, d_lrbg, q_dirlrbg, q_dlrbg, l_doubtover, l_doubtunder, q_length, l_trainint, v_train, q_dirtrain, m_mode, m_level, nid_ntc}
use Rattle.ertms_codec.specs.FromTrain.{Train, has_length, has_system, optional, number_of_packet, previous_group, fields_of_train, fields_of_position}
use Rattle.ertms_codec.specs.RefusalsFromTrain.{shift_in, length_width, system_width, train_place, position_width}
use Rattle.ertms_codec.specs.FromTrainAtPlaces.{position_at}
use Rattle.ertms_codec.proofs.Fields.{AreAt}
use Rattle.ertms_codec.proofs.FieldLists.{AreAt-drop, AreAt-under}

-- the variables behind L_DOUBTUNDER that stand at their places
abbrev pub train_at : List ℕ → Train
train_at bits =
    record {
      integrity = value_at 0 2 bits;
      length = value_at 2 15 bits;
      speed = value_at (2 + length_width bits) 7 bits;
      moves = value_at (9 + length_width bits) 2 bits;
      mode = value_at (11 + length_width bits) 4 bits;
      level = value_at (15 + length_width bits) 3 bits;
      system = value_at (18 + length_width bits) 8 bits;
    }

-- the fields behind Q_LENGTH, by which optional ones there are
abbrev behind_length : Bool → Bool → Train → List Field
behind_length b c t =
    optional b (l_trainint t.length) ++ (v_train t.speed ∷ q_dirtrain t.moves ∷ m_mode t.mode ∷ m_level t.level ∷ optional c (nid_ntc t.system))

-- the bits that an optional field takes
abbrev width_if : Bool → ℕ → ℕ
width_if b width = if b then width else 0

abbrev train_by : Bool → List ℕ → Train
train_by b bits =
    record {
      integrity = value_at 0 2 bits;
      length = value_at 2 15 bits;
      speed = value_at (2 + width_if b 15) 7 bits;
      moves = value_at (9 + width_if b 15) 2 bits;
      mode = value_at (11 + width_if b 15) 4 bits;
      level = value_at (15 + width_if b 15) 3 bits;
      system = value_at (18 + width_if b 15) 8 bits;
    }

train_are : (b c : Bool) (bits : List ℕ) → AreAt 2 (behind_length b c (train_by b bits)) bits × (width_of (q_length (value_at 0 2 bits) ∷ behind_length b c (train_by b bits)) ≡ 18 + (width_if b 15 + width_if c 8))
train_are true true bits = ((refl, (refl, (refl, (refl, (refl, (refl, tt)))))), refl)
train_are true false bits = ((refl, (refl, (refl, (refl, (refl, tt))))), refl)
train_are false true bits = ((refl, (refl, (refl, (refl, (refl, tt))))), refl)
train_are false false bits = ((refl, (refl, (refl, (refl, tt)))), refl)

-- what stands at the places of a train's variables is at them
pub train_stands : (bits : List ℕ) → AreAt 0 (fields_of_train (train_at bits)) bits × (width_of (fields_of_train (train_at bits)) ≡ 18 + (length_width bits + system_width bits))
train_stands bits =
    let are = train_are (has_length (value_at 0 2 bits)) (has_system (value_at (15 + length_width bits) 3 bits)) bits in
    ((refl, are.0), are.1)

width_by : (b c : Bool) (t : Train) → width_of (q_length t.integrity ∷ behind_length b c t) ≡ 18 + (width_if b 15 + width_if c 8)
width_by true true t = refl
width_by true false t = refl
width_by false true t = refl
width_by false false t = refl

-- M_LEVEL stands at its place
level_at : (b c : Bool) (t : Train) (bits : List ℕ) → AreAt 2 (behind_length b c t) bits → t.level ≡ value_at (15 + width_if b 15) 3 bits
level_at true c t bits at = at.1.1.1.1.0
level_at false c t bits at = at.1.1.1.0

-- the width of a train's variables that stand at their places
pub train_back : (t : Train) (bits : List ℕ) → AreAt 0 (fields_of_train t) bits → width_of (fields_of_train t) ≡ 18 + (length_width bits + system_width bits)
train_back t bits at =
    let b = has_length t.integrity in
    let long : length_width bits ≡ width_if b 15 = ap (λ n. width_if (has_length n) 15) (sym at.0) in
    let level = level_at b (has_system t.level) t bits at.1 in
    let system : system_width bits ≡ width_if (has_system t.level) 8 =
    ap (λ n. width_if (has_system (value_at (15 + n) 3 bits)) 8) long ∙ ap (λ n. width_if (has_system n) 8) (sym level) in
    width_by b (has_system t.level) t ∙ ap (λ n. 18 + (n + width_if (has_system t.level) 8)) (sym long) ∙ ap (λ n. 18 + (length_width bits + n)) (sym system)

-- the bits that NID_PRVLRBG takes
previous_width : (b : Bool) (previous : ℕ) → width_of (previous_group (if b then Some previous else None)) ≡ width_if b 24
previous_width true previous = refl
previous_width false previous = refl

-- the width of a position packet's variables
pub width_of_position : (size : ℕ) (p : Position) (t : Train) → width_of (fields_of_position size p t) ≡ 96 + width_of (previous_group p.previous) + width_of (fields_of_train t)
width_of_position size p t =
    let width : Field → ℕ = λ f. f.width in
    let first : List Field = nid_packet (number_of_packet p.previous) ∷ l_packet size ∷ q_scale p.scale ∷ nid_lrbg p.lrbg ∷ [] in
    let second : List Field = d_lrbg p.distance ∷ q_dirlrbg p.dir ∷ q_dlrbg p.side ∷ l_doubtover p.over ∷ l_doubtunder p.under ∷ [] in
    let a : width_of (first ++ (previous_group p.previous ++ (second ++ fields_of_train t))) ≡ 47 + width_of (previous_group p.previous ++ (second ++ fields_of_train t)) = sum_by-append width first (previous_group p.previous ++ (second ++ fields_of_train t)) in
    let b : width_of (previous_group p.previous ++ (second ++ fields_of_train t)) ≡ width_of (previous_group p.previous) + width_of (second ++ fields_of_train t) = sum_by-append width (previous_group p.previous) (second ++ fields_of_train t) in
    let c : width_of (second ++ fields_of_train t) ≡ 49 + width_of (fields_of_train t) = sum_by-append width second (fields_of_train t) in
    a ∙ ap (λ n. 47 + n) (b ∙ ap (λ n. width_of (previous_group p.previous) + n) c) ∙ omega arith

zero_or_one : (n : ℕ) → n ≤ 1 → (n ≡ 0) ⊎ (n ≡ 1)
zero_or_one zero few = inl refl
zero_or_one (suc zero) few = inr refl
zero_or_one (suc (suc n)) few = absurd (omega arith)

-- what stands at the places of a position packet's variables is at them
pub position_stands : (packet : List ℕ) → value_at 0 8 packet ≤ 1 → AreAt 0 (fields_of_position (value_at 8 13 packet) (position_at packet) (train_at (drop (train_place packet) packet))) packet
position_stands packet few =
    elim (zero_or_one (value_at 0 8 packet) few) [
      | inl e ↦ rw e (refl, (refl, (refl, (refl, (refl, (refl, (refl, (refl, (refl, AreAt-drop (fields_of_train (train_at (drop 96 packet))) 96 0 packet (train_stands (drop 96 packet)).0)))))))))
      | inr e ↦ rw e (refl, (refl, (refl, (refl, (refl, (refl, (refl, (refl, (refl, (refl, AreAt-drop (fields_of_train (train_at (drop 120 packet))) 120 0 packet (train_stands (drop 120 packet)).0))))))))))
    ]

pub position_stands-width : (packet : List ℕ) (size : ℕ) → width_of (fields_of_position size (position_at packet) (train_at (drop (train_place packet) packet))) ≡ position_width packet
position_stands-width packet size =
    let train = drop (train_place packet) packet in
    let whole = width_of_position size (position_at packet) (train_at train) in
    let previous = previous_width (value_at 0 8 packet == 1) (value_at 47 24 packet) in
    let behind = (train_stands train).1 in
    whole ∙ ap (λ n. 96 + n + width_of (fields_of_train (train_at train))) previous ∙ ap (λ n. 96 + shift_in packet + n) behind ∙ omega arith

-- a position that stands at its places
pub record IsBack (packet : List ℕ) (size : ℕ) (p : Position) (t : Train) : Type 0 where
  pub position : p ≡ position_at packet
  pub number : value_at 0 8 packet ≤ 1
  pub size_is : value_at 8 13 packet ≡ size
  pub width : width_of (fields_of_position size p t) ≡ position_width packet

abbrev position_of : Option ℕ → (scale lrbg distance dir side over under : ℕ) → Position
position_of previous scale lrbg distance dir side over under =
    record { previous = previous; scale = scale; lrbg = lrbg; distance = distance; dir = dir; side = side; over = over; under = under }

back_by : (previous : Option ℕ) (scale lrbg distance dir side over under size : ℕ) (t : Train) (packet : List ℕ) → AreAt 0 (fields_of_position size (position_of previous scale lrbg distance dir side over under) t) packet → IsBack packet size (position_of previous scale lrbg distance dir side over under) t
back_by None scale lrbg distance dir side over under size t packet at =
    let number : value_at 0 8 packet ≡ 0 = sym at.0 in
    let behind = at.1.1.1.1 in
    let train : AreAt 0 (fields_of_train t) (drop 96 packet) = AreAt-under (fields_of_train t) 96 0 packet behind.1.1.1.1.1 in
    let whole = width_of_position size (position_of None scale lrbg distance dir side over under) t in
    record {
      position = rw (number, ← at.1.1.0, ← at.1.1.1.0, ← behind.0, ← behind.1.0, ← behind.1.1.0, ← behind.1.1.1.0, ← behind.1.1.1.1.0);
      number = omega arith;
      size_is = sym at.1.0;
      width = rw number (whole ∙ ap (λ n. 96 + n) (train_back t (drop 96 packet) train) ∙ omega arith);
    }
back_by (Some previous) scale lrbg distance dir side over under size t packet at =
    let number : value_at 0 8 packet ≡ 1 = sym at.0 in
    let named = at.1.1.1.1 in
    let behind = named.1 in
    let train : AreAt 0 (fields_of_train t) (drop 120 packet) = AreAt-under (fields_of_train t) 120 0 packet behind.1.1.1.1.1 in
    let whole = width_of_position size (position_of (Some previous) scale lrbg distance dir side over under) t in
    record {
      position = rw (number, ← at.1.1.0, ← at.1.1.1.0, ← named.0, ← behind.0, ← behind.1.0, ← behind.1.1.0, ← behind.1.1.1.0, ← behind.1.1.1.1.0);
      number = omega arith;
      size_is = sym at.1.0;
      width = rw number (whole ∙ ap (λ n. 120 + n) (train_back t (drop 120 packet) train) ∙ omega arith);
    }

pub position_back : (p : Position) (size : ℕ) (t : Train) (packet : List ℕ) → AreAt 0 (fields_of_position size p t) packet → IsBack packet size p t
position_back p size t packet at = back_by p.previous p.scale p.lrbg p.distance p.dir p.side p.over p.under size t packet at
