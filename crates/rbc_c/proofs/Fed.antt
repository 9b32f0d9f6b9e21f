-- A desk that is taken out of its handle, and put back.
use Rattle.std.proofs.Common.{◌≡◌, ℕ, List, Option, Some, None, refl, sym, subst}
use Rattle.rbc_live.specs.declared.desk.LiveDesk.{LiveDesk}
use Rattle.rbc_c.specs.declared.feed.Answer.{Answer}
use Rattle.rbc_c.specs.declared.message.Message.{Message}
use Rattle.rbc_c.specs.Given.{GivesOf, Gives}
use Rattle.rbc_c.specs.Feeds.{IsFed, Feeds}
use Rattle.rbc_c.specs.Opens.{Opens, IsNew}

pub feeds : (old after : Option LiveDesk) (line : List ℕ) (out written : List Message) (before answer : Answer) (code : ℕ) (desk new : LiveDesk)
    → old ≡ Some desk → after ≡ Some new → IsFed desk line out before code new written answer → Feeds old line out before code after written answer
feeds old after line out written before answer code desk new e f fed =
    subst (λ (o : Option LiveDesk). Feeds o line out before code after written answer) (sym e)
    (subst (λ (a : Option LiveDesk). Feeds (Some desk) line out before code a written answer) (sym f) fed)

pub opened : (old after : Option LiveDesk) (text : List ℕ) (desk : LiveDesk) → old ≡ None → after ≡ Some desk → IsNew text desk → Opens old text 0 after
opened old after text desk e f is =
    subst (λ (o : Option LiveDesk). Opens o text 0 after) (sym e) (subst (λ (a : Option LiveDesk). Opens None text 0 a) (sym f) (refl, is))

pub gives : {A : Type 0} (IsOf : LiveDesk → List A → Type 0) (old after : Option LiveDesk) (out written : List A) (before count code : ℕ) (desk new : LiveDesk)
    → old ≡ Some desk → after ≡ Some new → GivesOf IsOf desk out before code new written count → Gives IsOf old out before code after written count
gives {A = A} IsOf old after out written before count code desk new e f given =
    subst (λ (o : Option LiveDesk). Gives {A = A} IsOf o out before code after written count) (sym e)
    (subst (λ (a : Option LiveDesk). Gives {A = A} IsOf (Some desk) out before code a written count) (sym f) given)

pub not_given : {A : Type 0} (IsOf : LiveDesk → List A → Type 0) (old after : Option LiveDesk) (out : List A) (before code : ℕ) → old ≡ None → after ≡ None → code ≡ 2 → Gives IsOf old out before code after out before
not_given {A = A} IsOf old after out before code e f is =
    subst (λ (o : Option LiveDesk). Gives {A = A} IsOf o out before code after out before) (sym e)
    (subst (λ (a : Option LiveDesk). Gives {A = A} IsOf None out before code a out before) (sym f) (is, refl, refl))
