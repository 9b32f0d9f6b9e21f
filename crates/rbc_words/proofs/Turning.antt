-- What lines become, line after line.
use Rattle.std.proofs.Common.{◌≡◌, ℕ, ◌≤◌, List, [], ◌∷◌, ◌++◌, length, refl, sym, ap, ◌∙◌, subst, inl, inr, append_assoc, append-nil, arith}
use Rattle.rbc_text.specs.BatchText.{without_empty_end}
use Rattle.rbc_text.proofs.Texts.{keeps_first}
use Rattle.rbc_words.specs.Filters.{AreTurned, AreFirstTurned, IsBegun, IsPassedOn, IsFirstWrong}
use Rattle.rbc_words.specs.UnderWay.{IsShownBy, passed_on}
use Rattle.rbc_words.specs.declared.line.UnfinishedLine.{UnfinishedLine}

never_empty : (front : List (List ℕ)) (piece : List ℕ) (more : List (List ℕ)) → (first : List ℕ) × (rest : List (List ℕ)) × (front ++ piece ∷ more ≡ first ∷ rest)
never_empty [] piece more = (piece, more, refl)
never_empty (line ∷ front) piece more = (line, front ++ piece ∷ more, refl)

pub end_front : (front : List (List ℕ)) (piece : List ℕ) (more : List (List ℕ)) → without_empty_end (front ++ piece ∷ more) ≡ front ++ without_empty_end (piece ∷ more)
end_front [] piece more = refl
end_front (line ∷ front) piece more =
    let is = never_empty front piece more in
    keeps_first line (front ++ piece ∷ more) is.0 is.1 is.2 ∙ ap (λ (all : List (List ℕ)). line ∷ all) (end_front front piece more)

pub end_of_some : (piece : List ℕ) (more : List (List ℕ)) → 1 ≤ length piece → without_empty_end (piece ∷ more) ≡ piece ∷ without_empty_end more
end_of_some [] more some = absurd (omega (arith, some))
end_of_some (byte ∷ piece) [] some = refl
end_of_some (byte ∷ piece) (other ∷ more) some = refl

module _ (becomes : List ℕ → List ℕ → Type 0) where
  -- one line more
  pub turned_more : (lines : List (List ℕ)) (text line one : List ℕ) → AreTurned becomes lines text → becomes line one → AreTurned becomes (lines ++ line ∷ []) (text ++ (one ++ 10 ∷ []))
  turned_more [] text line one none is = (one, [], is, refl, ap (λ (t : List ℕ). t ++ (one ++ 10 ∷ [])) none)
  turned_more (other ∷ lines) text line one (first, rest, turned, are, e) is =
      let more = one ++ 10 ∷ [] in
      (first, rest ++ more, turned, turned_more lines rest line one are is, ap (λ (t : List ℕ). t ++ more) e ∙ append_assoc first (10 ∷ rest) more)

  -- all lines, and what is out of the one behind them
  first_and_begun : (lines : List (List ℕ)) (text line part : List ℕ) (more : List (List ℕ)) → AreTurned becomes lines text → IsBegun becomes line part
      → AreFirstTurned becomes (lines ++ line ∷ more) (text ++ part)
  first_and_begun [] text line part more none begun = inl (subst (IsBegun becomes line) (sym (ap (λ (t : List ℕ). t ++ part) none)) begun)
  first_and_begun (other ∷ lines) text line part more (first, rest, turned, are, e) begun =
      inr (first, rest ++ part, turned, first_and_begun lines rest line part more are begun, ap (λ (t : List ℕ). t ++ part) e ∙ append_assoc first (10 ∷ rest) part)

  pub first_of_all : (lines : List (List ℕ)) (text : List ℕ) → AreTurned becomes lines text → AreFirstTurned becomes lines text
  first_of_all [] text none = none
  first_of_all (line ∷ lines) text (first, rest, turned, are, e) = inr (first, rest, turned, first_of_all lines rest are, e)

  -- the first of some lines are the first of more
  pub first_of_more : (lines more : List (List ℕ)) (text : List ℕ) → AreFirstTurned becomes lines text → AreFirstTurned becomes (lines ++ more) text
  first_of_more [] [] text none = none
  first_of_more [] (line ∷ more) text none = inl (inl none)
  first_of_more (line ∷ lines) more text (inl begun) = inl begun
  first_of_more (line ∷ lines) more text (inr (first, rest, turned, are, e)) = inr (first, rest, turned, first_of_more lines more rest are, e)

  nothing_begun : (part : List ℕ) → IsBegun becomes [] part → part ≡ []
  nothing_begun part (inl none) = none
  nothing_begun [] (inr (more, e, itself)) = refl
  nothing_begun (byte ∷ part) (inr (more, e, itself)) = cc

  -- the lines that have ended, and what is out of the one that has begun, if it has
  pub first_lines : (ended : List (List ℕ)) (text line part : List ℕ) → AreTurned becomes ended text → IsBegun becomes line part
      → AreFirstTurned becomes (without_empty_end (ended ++ line ∷ [])) (text ++ part)
  first_lines ended text [] part are begun =
      subst (λ (lines : List (List ℕ)). AreFirstTurned becomes lines (text ++ part)) (sym (end_front ended [] [] ∙ append-nil ended))
      (subst (AreFirstTurned becomes ended) (sym (ap (λ (p : List ℕ). text ++ p) (nothing_begun part begun) ∙ append-nil text)) (first_of_all ended text are))
  first_lines ended text (byte ∷ line) part are begun =
      subst (λ (lines : List (List ℕ)). AreFirstTurned becomes lines (text ++ part)) (sym (end_front ended (byte ∷ line) []))
      (first_and_begun ended text (byte ∷ line) part [] are begun)

  -- the same of a line that has ended
  pub first_ended : (ended : List (List ℕ)) (text line part : List ℕ) → AreTurned becomes ended text → IsBegun becomes line part → AreFirstTurned becomes (ended ++ line ∷ []) (text ++ part)
  first_ended ended text line part are begun = first_and_begun ended text line part [] are begun

  -- what was passed on of a line is its beginning
  pub begun_part : (rest end : List ℕ) (line : UnfinishedLine) → IsShownBy becomes rest line → IsBegun becomes (rest ++ end) (passed_on rest line)
  begun_part rest end line (inl (kept, bytes)) = inl (rw kept refl)
  begun_part rest end line (inr (passed, none, some, itself)) = rw passed (inr (end, refl, itself))

  pub all_passed : (rest : List ℕ) (line : UnfinishedLine) → IsShownBy becomes rest line → IsPassedOn becomes rest (passed_on rest line)
  all_passed rest line (inl (kept, bytes)) = inl (rw kept refl)
  all_passed rest line (inr (passed, none, some, itself)) = rw passed (inr (refl, itself))

  pub nothing_passed : (line : UnfinishedLine) → IsShownBy becomes [] line → passed_on [] line ≡ []
  nothing_passed line (inl (kept, bytes)) = rw kept refl
  nothing_passed line (inr (passed, none, some, itself)) = rw passed refl

  pub wrong_of_more : {F : Type 0} (is_wrong : List ℕ → F → Type 0) (lines more : List (List ℕ)) (text : List ℕ) (number : ℕ) (fault : F)
      → IsFirstWrong becomes is_wrong lines text number fault → IsFirstWrong becomes is_wrong (lines ++ more) text number fault
  wrong_of_more is_wrong lines more text number fault (before, line, behind, e, are, counted, wrong) =
      (before, line, behind ++ more, ap (λ (ls : List (List ℕ)). ls ++ more) e ∙ append_assoc before (line ∷ behind) more, are, counted, wrong)
