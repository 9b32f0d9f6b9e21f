-- Lines.
use Rattle.std.proofs.Common.{◌≡◌, ℕ, cond, List, [], ◌∷◌, ◌++◌, Result, Ok, Err, is_ok, refl, ap, ◌∙◌}
use Rattle.std.specs.Prelude.{OnOk}
use Rattle.std.specs.List.{slice_split}
use Rattle.rbc_text.specs.BatchText.{is_line_feed, without_empty_end, lines_of}
use Rattle.ertms_codec.proofs.Cuts.{split_is_cons}

pub keeps_first : (line : List ℕ) (pieces : List (List ℕ)) (first : List ℕ) (rest : List (List ℕ)) → pieces ≡ first ∷ rest → without_empty_end (line ∷ pieces) ≡ line ∷ without_empty_end pieces
keeps_first [] [] first rest e = absurd (let bad : [] ≡ first ∷ rest = e in cc)
keeps_first [] (piece ∷ pieces) first rest e = refl
keeps_first (byte ∷ line) pieces first rest e = refl

-- a line and what stands behind its line feed
pub first_of_lines : (text line behind : List ℕ) → slice_split is_line_feed text ≡ line ∷ slice_split is_line_feed behind → lines_of text ≡ line ∷ lines_of behind
first_of_lines text line behind e =
    let more = split_is_cons is_line_feed behind in
    ap without_empty_end e ∙ keeps_first line (slice_split is_line_feed behind) more.0 more.1 more.2

-- what a call that appends where it succeeds leaves
pub appended : {E : Type 0} (result : Result (Unit {0}) E) (new old more wanted : List ℕ) → new ≡ cond (is_ok result) (old ++ more) old → more ≡ wanted → OnOk result (new ≡ old ++ wanted)
appended (Ok done) new old more wanted e same = e ∙ ap (λ (ys : List ℕ). old ++ ys) same
appended (Err failed) new old more wanted e same = tt
