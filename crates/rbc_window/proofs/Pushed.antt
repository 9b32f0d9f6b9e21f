-- What a vector has after one more item was put there.
use Rattle.std.proofs.Common.{◌≡◌, cond, true≢false, Result, Ok, Err, is_ok, is_err, false}

pub at_no_err : {X E V : Type 0} (r : Result X E) (v x y : V) → v ≡ cond (is_ok r) x y → is_err r ≡ false → v ≡ x
at_no_err (Ok done) v x y e h = e
at_no_err (Err e) v x y is h = absurd (true≢false h)
