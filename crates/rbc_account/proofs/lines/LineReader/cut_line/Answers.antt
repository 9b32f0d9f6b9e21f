use Rattle.std.proofs.Common.{rules, ◌≡◌, length, refl}
use Rattle.rbc_account.proofs.Reading.{slice_left, cut_found, cut_all, refused_midway}
use Rattle.rbc_account.proofs.lines.LineReader.cut_line.Goals as goal

pub returns-in_err-extend_from_slice-in-Some-clause-cut : goal.returns-in_err-extend_from_slice-in-Some-clause-cut
returns-in_err-extend_from_slice-in-Some-clause-cut c = λ old new lines is.
    refused_midway old new c.args.self.now _ lines c.from_residual.result c.from_residual.ensures.0 is

pub returns-in_err-extend_from_slice-in-None-clause-cut : goal.returns-in_err-extend_from_slice-in-None-clause-cut
returns-in_err-extend_from_slice-in-None-clause-cut c = λ old new lines is.
    refused_midway old new c.args.self.now _ lines c.from_residual-in_err-extend_from_slice-in-None.result c.from_residual-in_err-extend_from_slice-in-None.ensures.0 is

pub returns-in_ok-extend_from_slice-in-Some-clause-cut : goal.returns-in_ok-extend_from_slice-in-Some-clause-cut
returns-in_ok-extend_from_slice-in-Some-clause-cut c = λ old new lines is.
    cut_found old new c.args.self.now _ lines c.in-Some.length _ (slice_left c.deref.result.now c.args.self.now.piece.items c.args.self.now.at c.deref.ensures.value) is
    c.in-Some.ensures refl refl refl refl c.in_ok-extend_from_slice-in-Some.ensures.items

pub returns-in_ok-extend_from_slice-in-None-clause-cut : goal.returns-in_ok-extend_from_slice-in-None-clause-cut
returns-in_ok-extend_from_slice-in-None-clause-cut c = λ old new lines is.
    let end : c.len-self.result ≡ length c.args.self.now.piece.items = search rules in
    cut_all old new c.args.self.now _ lines _ (slice_left c.deref.result.now c.args.self.now.piece.items c.args.self.now.at c.deref.ensures.value) is
    c.in-None.ensures refl refl refl end c.in_ok-extend_from_slice-in-None.ensures.items
