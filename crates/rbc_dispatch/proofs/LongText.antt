-- What comes of a message in lines that is shown.
use Rattle.std.proofs.Common.{◌≡◌, List, ℕ, Option, Result, Ok, Err, IfErr, OnOk}
use Rattle.std.specs.Io.KnownBytes.{Appends}
use Rattle.hex.specs.Hex.{decode_of}
use Rattle.ertms_codec.specs.Texts.{HasText}
use Rattle.rbc_dispatch.specs.Decoding.{DecodesLong}
use Rattle.rbc_dispatch.specs.Long.{long_text}
use Rattle.rbc_dispatch.specs.Telling.{IsCutShort}
use Rattle.rbc_dispatch.specs.declared.fault.Fault.{Fault}
use Rattle.rbc_dispatch.specs.declared.fault.Fault.TheVariants.{Write, ReaderGone}

pub shown_long : {E : Type 0} (word bytes line text : List ℕ) (r : Result E Fault) (old new : Option (List ℕ)) → decode_of word ≡ Ok bytes → HasText bytes line
    → text ≡ long_text bytes → OnOk r (Appends old new text) → IfErr r (λ fault. IsCutShort fault old new text) → DecodesLong {E = E} word old new r
shown_long word bytes line text (Ok done) old new spelled has is all part = (text, (bytes, spelled, (line, has), is), all)
shown_long word bytes line text (Err (Write sent)) old new spelled has is all part = (text, (bytes, spelled, (line, has), is), part.0, part.1)
shown_long word bytes line text (Err (ReaderGone sent)) old new spelled has is all part = (text, (bytes, spelled, (line, has), is), part.0, part.1)
shown_long word bytes line text (Err _) old new spelled has is all part = absurd part
