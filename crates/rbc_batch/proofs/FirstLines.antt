-- The first lines of a text.
use Rattle.std.proofs.Common.{◌≡◌, ℕ, ◌≤◌, List, [], ◌++◌, length, take, sym, ◌∙◌, subst}
use Rattle.std.proofs.lemmas.List.{take_all, append-nil}

-- so are lines behind which there is none, if no more are wanted
pub none_behind : (most : ℕ) (lines whole : List (List ℕ)) → lines ++ [] ≡ whole → length lines ≤ most → lines ≡ take most whole
none_behind most lines whole all few = subst (λ (text : List (List ℕ)). lines ≡ take most text) (sym (append-nil lines) ∙ all) (sym (take_all most lines few))
