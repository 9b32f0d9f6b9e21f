-- Words that are left, and the first wrong one among them.
use Rattle.std.proofs.Common.{◌≡◌, ◌<◌, ◌^◌, ℕ, List, [], ◌∷◌, ◌++◌, true, Option, Some, None, is_some, inl, inr, sym, refl, arith, append_assoc, length-append, ◌==◌, ◌∙◌, Result, Ok, Err, subst}
use Rattle.std.specs.Prelude.{IfErr, IsErrAnd}
use denote.Ref.{Bor}
use Rattle.std.specs.Fmt.{decimal}
use Rattle.std.proofs.lemmas.Fmt.{decimal_injective}
use Rattle.ertms_codec.specs.declared.wrong_word.Expected.{Expected}
use Rattle.ertms_codec.specs.declared.wrong_word.Expected.TheVariants as a
use Rattle.ertms_codec.specs.declared.wrong_word.WrongWord.{WrongWord}
use Rattle.ertms_codec.specs.declared.wrong_word.EncodeError.{EncodeError}
use Rattle.ertms_codec.specs.declared.wrong_word.EncodeError.TheVariants as fault
use Rattle.ertms_codec.specs.Encoding.{IsEncodeFault}
use Rattle.ertms_codec.specs.Grammar.{Grammar, FirstWrong, Fills, Allows, IsNumber, wrong_at, one}
use Rattle.ertms_codec.specs.Words.{Unread, Passes, words_left}
use Rattle.ertms_codec.proofs.Cuts.{split_is_cons}

cons_is_not_nil : {A : Type 0} (x : A) (xs : List A) → (x ∷ xs) ≡ [] → ⊥
cons_is_not_nil x xs is = cc

-- a text that has not ended has a word
pub has_words : (left : Option (Bor (List ℕ))) → is_some left ≡ true → words_left left ≡ [] → ⊥
has_words None some empty = cc
has_words (Some text) some empty =
    let split = split_is_cons (λ byte. byte == 32) text.now in
    cons_is_not_nil split.0 split.1 (sym split.2 ∙ empty)

-- no word is left where one is wanted
pub none_left : (expected : Expected) (next : List ℕ → Grammar) (index : ℕ) (words : List (List ℕ)) (wrong : WrongWord) → words ≡ [] → wrong ≡ wrong_at index expected → FirstWrong index (one expected next) words wrong
none_left expected next index words wrong none is = rw none record { is = (refl, is) }

-- the next word is wrong
pub wrong_word : (expected : Expected) (next : List ℕ → Grammar) (word : List ℕ) (before after : Unread) (wrong : WrongWord) → Passes (word ∷ []) before after → (Fills expected word → ⊥) → wrong ≡ wrong_at before.next expected → FirstWrong before.next (one expected next) before.words wrong
wrong_word expected next word before after wrong passes unfit is = rw passes.are record { is = inl (unfit, is) }

-- the next word is right, and the first wrong one is behind it
pub behind_word : (expected : Expected) (next : List ℕ → Grammar) (word : List ℕ) (before after : Unread) (wrong : WrongWord) → Passes (word ∷ []) before after → Fills expected word → FirstWrong after.next (next word) after.words wrong → FirstWrong before.next (one expected next) before.words wrong
behind_word expected next word before after wrong passes fills behind = rw passes.are record { is = inr (fills, (rw passes.next at behind.is)) }

-- a fault that is handed on
pub handed_on : {A E : Type 0} (result : Result A E) (e : E) (P : E → Type 0) → IsErrAnd result (λ x. x ≡ e) → P e → IfErr result P
handed_on (Ok value) e P is holds = tt
handed_on (Err x) e P is holds = subst P (sym is) holds

pub about_err : {A E : Type 0} {P Q : E → Type 0} (result : Result A E) → ((e : E) → P e → Q e) → IfErr result P → IfErr result Q
about_err (Ok value) then holds = tt
about_err (Err e) then holds = then e holds

pub about_fault : {P Q : WrongWord → Type 0} (fault : EncodeError) → ((wrong : WrongWord) → P wrong → Q wrong) → IsEncodeFault P fault → IsEncodeFault Q fault
about_fault (fault.Word wrong) then holds = then wrong holds
about_fault fault.OutOfMemory then holds = tt

-- words were read, and then others
pub Passes-append : {xs ys : List (List ℕ)} {before between after : Unread} → Passes xs before between → Passes ys between after → Passes (xs ++ ys) before after
Passes-append {xs} {ys} first second =
    record { are = rw (first.are, second.are, append_assoc); next = omega (arith, first.next, second.next, length-append xs ys) }

-- a word that is a number fills only what allows that number
pub other_number : (expected : Expected) (word : List ℕ) (number : ℕ) → IsNumber expected → number < 2 ^ 32 → word ≡ decimal number → (Allows expected number → ⊥) → Fills expected word → ⊥
other_number expected word number numeric small is refused fills =
    let found = numeric word fills in
    let same : found.0 ≡ number = decimal_injective found.0 number (omega (arith, found.1)) (omega arith) (sym found.3 ∙ is) in
    refused (rw same at found.2)

-- where a number to a most one is expected, and the numbers of messages and packets
pub numbers_to : (most : ℕ) → most < 2 ^ 32 → IsNumber (a.Number most)
numbers_to most small word fills = (fills.0, omega (arith, fills.1), fills.1, fills.2)
