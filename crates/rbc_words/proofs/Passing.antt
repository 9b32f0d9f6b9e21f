-- The line that has begun, with more of it.
use Rattle.std.proofs.Common.{◌≡◌, ℕ, ◌≤◌, ◌==◌, ◌&&◌, not, eqb-true, true, false, List, [], ◌∷◌, ◌++◌, length, refl, sym, ap, ◌∙◌, subst, inl, inr, append_assoc, append-nil, arith}
use Rattle.rbc_words.specs.UnderWay.{IsShownBy, IsPutBehind, passed_on}
use Rattle.rbc_words.specs.declared.line.UnfinishedLine.{UnfinishedLine}

module _ (becomes : List ℕ → List ℕ → Type 0) where
  -- a line that is wrong however it goes on
  pub wrong_midway : {F : Type 0} (is_wrong : List ℕ → F → Type 0) (line more kept : List ℕ) (begun : UnfinishedLine) (fault : F) → begun.passed_on ≡ false → IsShownBy becomes line begun
      → kept ≡ begun.bytes.items ++ more → 4096 ≤ length kept → ((rest : List ℕ) → is_wrong (kept ++ rest) fault)
      → (passed_on line begun ≡ []) × (1 ≤ length (line ++ more)) × is_wrong (line ++ more) fault
  wrong_midway is_wrong line more kept begun fault not_passed (inl (passed, bytes)) all many wrong =
      let same : kept ≡ line ++ more = all ∙ ap (λ (l : List ℕ). l ++ more) bytes in
      let count = ap length same in (
        rw passed refl,
        omega (arith, count, many),
        subst (λ (l : List ℕ). is_wrong l fault) (append-nil kept ∙ same) (wrong []),
      )
  wrong_midway is_wrong line more kept begun fault not_passed (inr (passed, none, some, itself)) all many wrong = cc

  -- what a line becomes at its end
  pub ended_with : (line end kept turned text other : List ℕ) (begun : UnfinishedLine) → IsShownBy becomes line begun → kept ≡ begun.bytes.items ++ end
      → (begun.passed_on ≡ true → turned ≡ kept) → (begun.passed_on ≡ false → becomes kept turned) → other ≡ text ++ (turned ++ 10 ∷ [])
      → (one : List ℕ) × becomes (line ++ end) one × IsPutBehind text other (passed_on line begun) (one ++ 10 ∷ [])
  ended_with line end kept turned text other begun (inl (kept_all, bytes)) all passed is put = (
    turned,
    subst (λ (l : List ℕ). becomes l turned) (all ∙ ap (λ (l : List ℕ). l ++ end) bytes) (is kept_all),
    (turned ++ 10 ∷ [], put, rw kept_all refl),
  )
  ended_with line end kept turned text other begun (inr (passed_all, none, some, itself)) all passed is put = (
    line ++ end,
    itself end,
    (
      turned ++ 10 ∷ [],
      put,
      rw passed_all (ap (λ (t : List ℕ). line ++ (t ++ 10 ∷ [])) (passed passed_all ∙ all ∙ ap (λ (l : List ℕ). l ++ end) none) ∙ sym (append_assoc line end (10 ∷ []))),
    ),
  )

  -- no byte was added, or some
  pub none_begun : (line : List ℕ) (begun : UnfinishedLine) → IsShownBy becomes line begun → not begun.passed_on && (length begun.bytes.items == 0) ≡ true → line ≡ []
  none_begun line begun (inl (passed, bytes)) empty = sym bytes ∙ empty_list begun.bytes.items (rw passed at empty)
    where
      empty_list : (xs : List ℕ) → true && (length xs == 0) ≡ true → xs ≡ []
      empty_list [] e = refl
      empty_list (x ∷ xs) e = let zero = eqb-true (length (x ∷ xs)) 0 e in absurd (omega (arith, zero))
  none_begun line begun (inr (passed, none, some, itself)) empty = absurd (no (rw passed at empty))
    where
      no : false ≡ true → ⊥
      no e = cc

  pub some_begun : (line : List ℕ) (begun : UnfinishedLine) → IsShownBy becomes line begun → not begun.passed_on && (length begun.bytes.items == 0) ≡ false → 1 ≤ length line
  some_begun line begun (inl (passed, bytes)) some = subst (λ (xs : List ℕ). 1 ≤ length xs) bytes (not_empty begun.bytes.items (rw passed at some))
    where
      not_empty : (xs : List ℕ) → true && (length xs == 0) ≡ false → 1 ≤ length xs
      not_empty [] e = cc
      not_empty (x ∷ xs) e = omega arith
  some_begun line begun (inr (passed, none, long, itself)) some = long
