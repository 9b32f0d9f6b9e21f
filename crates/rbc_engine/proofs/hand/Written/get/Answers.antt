use Rattle.std.proofs.Common.{◌≡◌, ℕ, ◌<◌, Option, Some, None, ap, arith}
use Rattle.std.specs.Option.{IfSome}
use Rattle.rbc_records.specs.declared.record.Key.{Key}
use Rattle.rbc_core.specs.Runs.{Run}
use Rattle.rbc_engine.specs.Reading.{IsPutBefore, IsPutBy, Numbered}
use Rattle.rbc_engine.proofs.hand.Written.get.Goals as goal

-- what an attempt at an earlier input puts there is put there before
put_before : (run : Run) (earlier input : ℕ) (key : Key) (number : Option ℕ) → earlier < input → IfSome number (IsPutBy run earlier key) → IfSome number (IsPutBefore run input key)
put_before run earlier input key None before put = tt
put_before run earlier input key (Some n) before put = (earlier, before, put)

pub returns : goal.returns
returns g c =
    let same : c.self.inside.input ≡ c.args.self.now.input = ap (λ (n : Numbered). n.input) c.self.view_is in
    let earlier : c.self.inside.input < c.args.input = c.if-self-input.false in
    put_before g.N.RunName.run c.args.self.now.input c.args.input c.args.key c.under.result (omega (arith, same, earlier)) c.under.ensures
