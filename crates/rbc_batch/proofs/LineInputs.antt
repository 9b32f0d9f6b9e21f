-- The inputs of the lines that were read, one after another or each by itself.
use Rattle.std.proofs.Common.{◌≡◌, ◌≤◌, ℕ, suc, List, [], ◌∷◌, ◌++◌, length, map, Result, Ok, Err, IfOk, Bor, refl, ap, append-nil, subst, arith}
use Rattle.std.specs.Prelude.{MatchResult}
use Rattle.std.specs.List.{All, AllZip, Contains}
use Rattle.std.specs.declared.vec.Vec.{Vec}
use Rattle.std.specs.declared.alloc.AllocError.{AllocError}
use Rattle.std.specs.declared.alloc.Global.{Global}
use Rattle.std.proofs.lemmas.List.Elements.{All-cons, All-nil}
use Rattle.rbc_rule.specs.declared.input.Input.{Input}
use Rattle.rbc_rule.specs.Inputs.{Fits}
use Rattle.rbc_text.specs.BatchText.{line_of, IsInput, AreInputs}
use Rattle.ertms_codec.specs.Pieces.{texts_of}

-- where no line is left, all are read
pub all_read : (lines rest : List (Bor (List ℕ))) (inputs : List Input) → length rest ≡ 0
    → ((more : List Input) → AreInputs (texts_of rest) more → AreInputs (texts_of lines) (inputs ++ more)) → AreInputs (texts_of lines) inputs
all_read lines [] inputs e onward = subst (λ (all : List Input). AreInputs (texts_of lines) all) (append-nil inputs) (onward [] tt)
all_read lines (line ∷ rest) inputs e onward = absurd (omega (arith, e))

-- what reading a line came to: its input, which fits, unless memory was refused
abbrev pub IsRead : Bor (List ℕ) → Result Input AllocError → Type 0
IsRead line read = IfOk read (λ input. IsInput (line_of line.now) input × Fits input)

each_is_input : (lines : List (Bor (List ℕ))) (inputs : List Input) → AllZip IsRead lines (map Ok inputs) → AreInputs (texts_of lines) inputs
each_is_input [] [] read = tt
each_is_input [] (input ∷ inputs) read = absurd read
each_is_input (line ∷ lines) [] read = absurd read
each_is_input (line ∷ lines) (input ∷ inputs) read = (read.0.0, each_is_input lines inputs read.1)

each_fits : (lines : List (Bor (List ℕ))) (inputs : List Input) → AllZip IsRead lines (map Ok inputs) → All Fits inputs
each_fits [] [] read = All-nil Fits
each_fits [] (input ∷ inputs) read = absurd read
each_fits (line ∷ lines) [] read = absurd read
each_fits (line ∷ lines) (input ∷ inputs) read = All-cons Fits input inputs read.0.1 (each_fits lines inputs read.1)

-- the inputs of lines of which each was read by itself, where memory was refused to none
pub all_are_inputs : (lines : List (Bor (List ℕ))) (reads : List (Result Input AllocError)) (result : Result (Vec Input Global) AllocError)
    → AllZip IsRead lines reads
    → MatchResult result (λ inputs. (all : List Input) × (reads ≡ map Ok all) × (inputs.items ≡ all)) (λ fault. Contains reads (Err fault))
    → IfOk result (λ inputs. AreInputs (texts_of lines) inputs.items)
all_are_inputs lines reads (Ok inputs) each all = rw all.2 (each_is_input lines all.0 (rw all.1 at each))
all_are_inputs lines reads (Err fault) each all = tt

pub all_fit : (lines : List (Bor (List ℕ))) (reads : List (Result Input AllocError)) (result : Result (Vec Input Global) AllocError)
    → AllZip IsRead lines reads
    → MatchResult result (λ inputs. (all : List Input) × (reads ≡ map Ok all) × (inputs.items ≡ all)) (λ fault. Contains reads (Err fault))
    → IfOk result (λ inputs. All Fits inputs.items)
all_fit lines reads (Ok inputs) each all = rw all.2 (each_fits lines all.0 (rw all.1 at each))
all_fit lines reads (Err fault) each all = tt

pub as_many : (lines : List (Bor (List ℕ))) (inputs : List Input) → AreInputs (texts_of lines) inputs → length inputs ≡ length lines
as_many [] [] are = refl
as_many [] (input ∷ inputs) are = absurd are
as_many (line ∷ lines) [] are = absurd are
as_many (line ∷ lines) (input ∷ inputs) are = ap suc (as_many lines inputs are.1)

-- no more inputs than bytes, where there are no more lines
pub as_few : (text : List ℕ) (lines : List (Bor (List ℕ))) (result : Result (Vec Input Global) AllocError) → length lines ≤ length text
    → IfOk result (λ inputs. AreInputs (texts_of lines) inputs.items) → IfOk result (λ inputs. length inputs.items ≤ length text)
as_few text lines (Ok inputs) few are = rw (as_many lines inputs.items are) few
as_few text lines (Err fault) few are = tt
