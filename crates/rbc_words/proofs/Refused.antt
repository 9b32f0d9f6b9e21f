-- What is refused is spelled by no message.
use Rattle.std.proofs.Common.{◌≡◌, ◌⊎◌, ℕ, List, Result, Ok, Err, inl, inr}
use Rattle.ertms_codec.specs.declared.error.DecodeError.{DecodeError}
use Rattle.ertms_codec.specs.declared.error.ReadError.{ReadError}
use Rattle.ertms_codec.specs.declared.error.ReadError.TheVariants.{Decode}
use Rattle.ertms_codec.specs.declared.to_train.ToTrain.{ToTrain}
use Rattle.ertms_codec.specs.RefusalsToTrain.{IsWantOfMemory}

pub refused_to_train : (bytes : List ℕ) (m : ToTrain) (r : Result ToTrain ReadError) (fault : ReadError) (e : DecodeError) → r ≡ Err fault → fault ≡ Decode e → (r ≡ Ok m) ⊎ IsWantOfMemory bytes r → ⊥
refused_to_train bytes m r fault e is same (inl read) = cc
refused_to_train bytes m r fault e is same (inr want) = let none = want.is in cc
