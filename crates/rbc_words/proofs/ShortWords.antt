-- No word that can stand in the text of a message from a train is long.
use Rattle.std.proofs.Common.{◌≡◌, ℕ, ◌+◌, ◌≤◌, ◌<◌, Bool, true, false, cond, ◌||◌, eqb, eqb-true, List, [], ◌∷◌, length, refl, sym, subst, inl, inr, arith}
use Rattle.std.specs.Prelude.{codes}
use Rattle.std.specs.Str.{bytes_eq}
use Rattle.std.specs.Fmt.{decimal}
use Rattle.std.proofs.lemmas.Fmt.{length-decimal-le}
use Rattle.ertms_codec.specs.declared.name.Name.{Name}
use Rattle.ertms_codec.specs.declared.name.Name.TheVariants as name
use Rattle.ertms_codec.specs.declared.wrong_word.Expected.{Expected}
use Rattle.ertms_codec.specs.declared.wrong_word.Expected.TheVariants as a
use Rattle.ertms_codec.specs.declared.wrong_word.WrongWord.{WrongWord}
use Rattle.ertms_codec.specs.Names.{name_text}
use Rattle.ertms_codec.specs.Grammar.{Grammar, Ends, Word, Stops, Fills, named, place_then, previous_then, position_then, train_then, report_then, ack_then, stop_ack_then, behind_from_train, from_train, is_number_from_train}

-- a number in a text has at most 10 digits
abbrev pub IsShort : Expected → Type 0
IsShort (a.Name name) = Unit {0}
IsShort (a.Number most) = most ≤ 4294967295
IsShort a.Reference = ⊥
IsShort a.FromTrain = Unit {0}
IsShort a.Message = ⊥
IsShort a.PositionPacket = Unit {0}
IsShort a.Packet = ⊥
IsShort a.End = Unit {0}

abbrev pub AreShort : Grammar → Type 0
AreShort Ends = Unit {0}
AreShort (Word may_end expected next) = IsShort expected × ((word : List ℕ) → AreShort (next word))

short_place : (next : Grammar) → AreShort next → AreShort (place_then next)
short_place next rest =
    (tt, λ _. (omega arith, λ _. (tt, λ _. (omega arith, λ _. (tt, λ _. (omega arith, λ _. (tt, λ _. (omega arith, λ _. (tt, λ _. (omega arith, λ _. rest))))))))))

short_previous : (packet : List ℕ) (next : Grammar) → AreShort next → AreShort (previous_then packet next)
short_previous packet next rest = elim (bytes_eq packet (codes "1")) as (λ b. AreShort (cond b (named name.Previous 16777215 next) next)) [
  | true ↦ (tt, λ _. (omega arith, λ _. rest))
  | false ↦ rest
]

short_position : (next : Grammar) → AreShort next → AreShort (position_then next)
short_position next rest = (
  tt,
  λ packet. (tt, λ _. (omega arith, λ _. (tt, λ _. (omega arith, λ _. short_previous packet (place_then next) (short_place next rest))))),
)

short_train : (next : Grammar) → AreShort next → AreShort (train_then next)
short_train next rest = (tt, λ _. (omega arith, λ _. (tt, λ _. (omega arith, λ _. rest))))

short_ack : AreShort (ack_then Ends)
short_ack = short_train (named name.Acked 4294967295 Ends) (tt, λ _. (omega arith, λ _. tt))

short_stop_ack : AreShort (stop_ack_then Ends)
short_stop_ack =
    short_train (named name.Em 15 (named name.Answer 3 (position_then Ends))) (tt, λ _. (omega arith, λ _. (tt, λ _. (omega arith, λ _. short_position Ends tt))))

short_behind : (number : List ℕ) → AreShort (behind_from_train Ends number)
short_behind number = elim (bytes_eq number (codes "136")) as (λ b. AreShort (cond b (report_then Ends) (cond (bytes_eq number (codes "146")) (ack_then Ends) (stop_ack_then Ends)))) [
  | true ↦ short_train (position_then Ends) (short_position Ends tt)
  | false ↦ elim (bytes_eq number (codes "146")) as (λ b. AreShort (cond b (ack_then Ends) (stop_ack_then Ends))) [ true ↦ short_ack | false ↦ short_stop_ack ]
]

short_from_train : AreShort from_train
short_from_train = (tt, short_behind)

-- what can stand where the first wrong word is
short_at : (index : ℕ) (grammar : Grammar) (words : List (List ℕ)) (wrong : WrongWord) → AreShort grammar → Stops index grammar words wrong → IsShort wrong.expected
short_at index Ends [] wrong short is = absurd is
short_at index Ends (word ∷ words) wrong short is = subst (λ (w : WrongWord). IsShort w.expected) (sym is) tt
short_at index (Word may_end expected next) [] wrong short is = subst (λ (w : WrongWord). IsShort w.expected) (sym is.1) short.0
short_at index (Word may_end expected next) (word ∷ words) wrong short (inl (fails, is)) = subst (λ (w : WrongWord). IsShort w.expected) (sym is) short.0
short_at index (Word may_end expected next) (word ∷ words) wrong short (inr (fills, rest)) = short_at (index + 1) (next word) words wrong (short.1 word) rest

name_is_short : (variable : Name) → length (name_text variable) ≤ 10
name_is_short name.Ack = omega arith
name_is_short name.Acked = omega arith
name_is_short name.Answer = omega arith
name_is_short name.Dir = omega arith
name_is_short name.Distance = omega arith
name_is_short name.Em = omega arith
name_is_short name.Engine = omega arith
name_is_short name.Front = omega arith
name_is_short name.Length = omega arith
name_is_short name.Lrbg = omega arith
name_is_short name.Over = omega arith
name_is_short name.Previous = omega arith
name_is_short name.Ref = omega arith
name_is_short name.Scale = omega arith
name_is_short name.Side = omega arith
name_is_short name.Speed = omega arith
name_is_short name.Stamp = omega arith
name_is_short name.Start = omega arith
name_is_short name.Stop = omega arith
name_is_short name.Tsr = omega arith
name_is_short name.Under = omega arith

decimal_is_short : (number : ℕ) → number ≤ 4294967295 → length (decimal number) ≤ 10
decimal_is_short number few = length-decimal-le 10 number (omega arith) (omega (arith, few)) (omega (arith, few))

known_number : (number : ℕ) → is_number_from_train number ≡ true → number ≤ 147
known_number number known = by (eqb number 136) (eqb number 146) (eqb number 147) refl refl refl known
  where
    by : (x y z : Bool) → eqb number 136 ≡ x → eqb number 146 ≡ y → eqb number 147 ≡ z → x || y || z ≡ true → number ≤ 147
    by true y z p q r k = let is = eqb-true number 136 p in omega (arith, is)
    by false true z p q r k = let is = eqb-true number 146 q in omega (arith, is)
    by false false true p q r k = let is = eqb-true number 147 r in omega (arith, is)
    by false false false p q r k = cc

word_is_short : (expected : Expected) (word : List ℕ) → IsShort expected → Fills expected word → length word ≤ 10
word_is_short (a.Name variable) word short is = subst (λ (w : List ℕ). length w ≤ 10) (sym is) (name_is_short variable)
word_is_short (a.Number most) word short (number, allowed, is) = subst (λ (w : List ℕ). length w ≤ 10) (sym is) (decimal_is_short number (omega (arith, allowed, short)))
word_is_short a.Reference word short fills = absurd short
word_is_short a.FromTrain word short (number, allowed, is) =
    let few = known_number number allowed in
    subst (λ (w : List ℕ). length w ≤ 10) (sym is) (decimal_is_short number (omega (arith, few)))
word_is_short a.Message word short fills = absurd short
word_is_short a.PositionPacket word short (number, allowed, is) = subst (λ (w : List ℕ). length w ≤ 10) (sym is) (decimal_is_short number (omega (arith, allowed)))
word_is_short a.Packet word short fills = absurd short
word_is_short a.End word short fills = absurd fills

-- a long word cannot stand where the first wrong word is
pub too_long : (index : ℕ) (words : List (List ℕ)) (wrong : WrongWord) (word : List ℕ) → Stops index from_train words wrong → 21 < length word → Fills wrong.expected word → ⊥
too_long index words wrong word is long fills =
    let few = word_is_short wrong.expected word (short_at index from_train words wrong short_from_train is) fills in omega (arith, few, long)
