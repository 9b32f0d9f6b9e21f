use Rattle.std.proofs.Common.{ℕ, Bool, List, arith, sym, ◌==◌, ◌≡◌, ap, ◌∙◌, ◌∷◌, take, drop, ◌-◌, ◌+◌, length}
use Rattle.std.specs.List.{slice_split}
use Rattle.std.proofs.lemmas.List.{take_all, length-drop}
use Rattle.ertms_codec.proofs.Cuts.{place_found, no_place, split_at_place, split_without_place}
use Rattle.ertms_codec.proofs.cutting.cut.Goals as goal

pub returns-in-Some-clause-pieces : goal.returns-in-Some-clause-pieces
returns-in-Some-clause-pieces c =
    let is_separator : ℕ → Bool = λ b. b == c.args.separator in
    let place = place_found is_separator c.args.text.now c.in-Some.at c.in-Some.ensures in
    let rest : take (length c.args.text.now - (c.in-Some.at + 1)) (drop (c.in-Some.at + 1) c.args.text.now) ≡ drop (c.in-Some.at + 1) c.args.text.now = take_all _ _ (omega (arith, length-drop (c.in-Some.at + 1) c.args.text.now)) in
    split_at_place is_separator c.args.text.now 0 c.in-Some.at place ∙ ap (λ (behind : List ℕ). take c.in-Some.at c.args.text.now ∷ slice_split is_separator behind) (sym rest)

pub returns-in-None-clause-pieces : goal.returns-in-None-clause-pieces
returns-in-None-clause-pieces c =
    let is_separator : ℕ → Bool = λ b. b == c.args.separator in
    split_without_place is_separator c.args.text.now (no_place is_separator c.args.text.now c.in-None.ensures)
