-- Where the stop or the restriction of a message is found, the reason is one of those that are told.
use Rattle.std.proofs.Common.{◌≡◌, Bool, false, List, [], ◌∷◌, refl}
use Rattle.std.specs.List.{list_any, AllByRecursion}
use Rattle.std.proofs.lemmas.Bool.{or_from}
use Rattle.rbc_zones.specs.declared.stop_meaning.Concern.TheVariants as concern
use Rattle.rbc_account.specs.declared.reason.LimitReason.TheVariants as limit_reason
use Rattle.rbc_account.specs.Subjects.{ArePaired}

-- ---- for the functions that look up what is told

-- where each of a list passes, and what goes with it fails a test then, none passes the test
pub none_unknown : {A B : Type 0} (P : A → Type 0) (test : B → Bool) (xs : List A) (ys : List B) → ArePaired (λ x y. P x → test y ≡ false) xs ys → AllByRecursion P xs → list_any test ys ≡ false
none_unknown P test [] [] paired all = refl
none_unknown P test (x ∷ xs) (y ∷ ys) paired all = or_from (test y) (list_any test ys) (paired.0 all.0) (none_unknown P test xs ys paired.1 all.1)
none_unknown P test [] (y ∷ ys) paired all = absurd paired
none_unknown P test (x ∷ xs) [] paired all = absurd paired
