-- A text has one first wrong word.
use Rattle.std.proofs.Common.{◌≡◌, ◌∙◌, ◌+◌, ℕ, List, [], ◌∷◌, Result, Ok, Err, sym, ap, inl, inr, refl}
use Rattle.std.specs.Prelude.{◌⊎◌, IfErr, IsErrAnd}
use Rattle.ertms_codec.specs.declared.wrong_word.WrongWord.{WrongWord}
use Rattle.ertms_codec.specs.declared.wrong_word.EncodeError.{EncodeError}
use Rattle.ertms_codec.specs.declared.wrong_word.EncodeError.TheVariants.{Word, OutOfMemory}
use Rattle.std.specs.Fmt.{decimal}
use Rattle.ertms_codec.specs.Encoding.{EncodesWords, IsEncodeFault, IsOfGeneral, IsWantOfMemory}
use Rattle.ertms_codec.specs.Grammar.{Grammar, Ends, Word as a_word, FirstWrong, Stops, message}
use Rattle.ertms_codec.specs.Words.{Unread, Passes}
use Rattle.ertms_codec.proofs.Leads.{word_24}
use Rattle.ertms_codec.proofs.ToTrainTexts.{never_to_train, never_of_train}

one_stop : (words : List (List ℕ)) (index : ℕ) (grammar : Grammar) (a b : WrongWord) → Stops index grammar words a → Stops index grammar words b → a ≡ b
one_stop [] index Ends a b p q = absurd p
one_stop [] index (a_word may_end expected next) a b p q = p.1 ∙ sym q.1
one_stop (word ∷ words) index Ends a b p q = p ∙ sym q
one_stop (word ∷ words) index (a_word may_end expected next) a b p q =
    elim p [
      | inl x ↦ elim q [ inl y ↦ x.1 ∙ sym y.1 | inr y ↦ absurd (x.0 y.0) ]
      | inr x ↦ elim q [ inl y ↦ absurd (y.0 x.0) | inr y ↦ one_stop words (index + 1) (next word) a b x.1 y.1 ]
    ]

pub first_is_one : (words : List (List ℕ)) (index : ℕ) (grammar : Grammar) (a b : WrongWord) → FirstWrong index grammar words a → FirstWrong index grammar words b → a ≡ b
first_is_one words index grammar a b p q = one_stop words index grammar a b p.is q.is

-- the fault of a text with a wrong word
pub named : (words : List (List ℕ)) (grammar : Grammar) (fault : EncodeError) (wrong : WrongWord) → IsEncodeFault (FirstWrong 1 grammar words) fault → (fault ≡ OutOfMemory → IsOfGeneral words) → FirstWrong 1 grammar words wrong → (fault ≡ Word wrong) ⊎ ((fault ≡ OutOfMemory) × IsOfGeneral words)
named words grammar (Word other) wrong is memory first = inl (ap Word (first_is_one words 1 grammar other wrong is first))
named words grammar OutOfMemory wrong is memory first = inr (refl, memory refl)

-- a fault is handed on
pub refused_with : {T : Type 0} (words : List (List ℕ)) (fault : EncodeError) (wrong : WrongWord) (result : Result T EncodeError) → IsErrAnd result (λ e. e ≡ fault) → (fault ≡ Word wrong) ⊎ ((fault ≡ OutOfMemory) × IsOfGeneral words) → (result ≡ Err (Word wrong)) ⊎ IsWantOfMemory words result
refused_with words fault wrong (Ok value) is why = absurd is
refused_with words fault wrong (Err e) is why =
    elim why [
      | inl x ↦ inl (ap Err (is ∙ x))
      | inr x ↦ inr (record { general = x.1; is = ap Err (is ∙ x.0) })
    ]

-- no word of a message is wrong
pub none_wrong : (words : List (List ℕ)) (bytes : List ℕ) (index : ℕ) (wrong : WrongWord) → EncodesWords words bytes → FirstWrong index message words wrong → ⊥
none_wrong words bytes index wrong (inl e) first =
    never_to_train e.message index wrong (record { fits = e.fits; reference = e.spelled.reference; holds = e.spelled.holds }) (rw e.are at first)
none_wrong words bytes index wrong (inr e) first = never_of_train e.message index wrong e.range (rw e.are at first)

-- the first word of a text says that it is message 24
pub of_general : (number : ℕ) {before after : Unread} → Passes (decimal number ∷ []) before after → number ≡ 24 → IsOfGeneral before.words
of_general number passes is = rw passes.are (ap decimal is ∙ word_24)
