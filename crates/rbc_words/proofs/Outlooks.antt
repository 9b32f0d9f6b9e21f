-- What is known of a line to encode that has begun.
use Rattle.std.proofs.Common.{◌≡◌, ℕ, ◌+◌, ◌≤◌, ◌<◌, ◌⊎◌, Bool, true, false, ◌&&◌, List, [], ◌∷◌, ◌++◌, length, Option, Some, Result, Ok, Err, refl, sym, ap, ◌∙◌, subst, inl, inr, arith, length-append}
use Rattle.std.specs.Prelude.{codes, slice_get, IfErr}
use Rattle.std.specs.Result.{result_err}
use Rattle.std.specs.Str.{bytes_eq}
use Rattle.std.proofs.lemmas.Slice.Eq.{bytes_eq-Decides}
use Rattle.ertms_codec.specs.Grammar.{FirstWrong, from_train, Stops}
use Rattle.ertms_codec.specs.declared.wrong_word.WrongWord.{WrongWord}
use Rattle.ertms_codec.proofs.Cuts.{split_is_cons}
use Rattle.rbc_track.specs.Plan.{Plan}
use Rattle.rbc_text.specs.BatchText.{is_space, words_of}
use Rattle.rbc_words.specs.Rules.{Foretells, StaysItself}
use Rattle.rbc_words.specs.Encoding.{Encodes, IsWrongLine, IsWrongText, IsOther, is_number, has_number, is_text, is_report}
use Rattle.rbc_words.specs.LastWord.{IsOutlookBy}
use Rattle.rbc_words.specs.ReportWords.{report_of}
use Rattle.rbc_text.specs.EndedLines.{joined}
use Rattle.rbc_words.specs.declared.line_fault.LineWord.TheVariants as ways
use Rattle.rbc_words.specs.declared.line_fault.LineFault.{LineFault}
use Rattle.rbc_words.specs.declared.line_fault.LineFault.TheVariants.{Word}
use Rattle.rbc_words.specs.declared.report.Report.{Report}
use Rattle.rbc_words.specs.declared.rule.Outlook.{Outlook}
use Rattle.rbc_words.specs.declared.rule.Outlook.TheVariants.{Open, Itself, Wrong}
use Rattle.rbc_text.proofs.LinePieces.{one_piece_more, glued, split_glued}
use Rattle.rbc_words.proofs.LastWords.{total, total_of_line}
use Rattle.rbc_words.proofs.FirstWrongWord.{stops_before, stops_at}
use Rattle.rbc_words.proofs.Settled.{report_keeps}
use Rattle.rbc_words.proofs.ShortWords.{too_long}

-- what is said of a fault
pub said_of : {T : Type 0} (Is : LineFault → Type 0) (r : Result T LineFault) (found : Option LineFault) → IfErr r Is → found ≡ result_err r → (fault : LineFault) → found ≡ Some fault → Is fault
said_of Is (Ok done) found is e fault some = cc
said_of Is (Err other) found is e fault some = let same : other ≡ fault = cc in subst Is same is

pub said_itself : {T : Type 0} (r other : Result T LineFault) → r ≡ other → IfErr r (λ fault. other ≡ Err fault)
said_itself (Ok done) other e = tt
said_itself (Err fault) other e = sym e

-- the words of a line that goes on
goes_on : (line more : List ℕ) (front : List (List ℕ)) (last : List ℕ) → words_of line ≡ front ++ last ∷ []
    → (first : List ℕ) × (rest : List (List ℕ)) × (words_of (line ++ more) ≡ front ++ (last ++ first) ∷ rest)
goes_on line more front last e =
    let next = split_is_cons is_space more in
    (next.0, next.1, one_piece_more is_space line more front last e ∙ ap (λ (words : List (List ℕ)). front ++ joined last words) next.2)

-- ---- texts

number_kept : (front : List (List ℕ)) (last other : List ℕ) (rest : List (List ℕ)) → has_number (front ++ last ∷ []) ≡ true → has_number (front ++ other ∷ rest) ≡ true
number_kept [] last other rest has = cc
number_kept (number ∷ []) last other rest has = has
number_kept (number ∷ word ∷ front) last other rest has = has

text_by_number : (words : List (List ℕ)) → has_number words ≡ true → is_text (codes "recv" ∷ words) ≡ true
text_by_number [] has = cc
text_by_number (number ∷ []) has = cc
text_by_number (number ∷ word ∷ words) has = has

text_kept : (text more : List ℕ) (front : List (List ℕ)) (last : List ℕ) (wrong : WrongWord) → words_of text ≡ front ++ last ∷ [] → has_number (words_of text) ≡ true → FirstWrong 1 from_train (words_of text) wrong
    → (wrong.index ≤ length front) ⊎ ((wrong.index ≡ length front + 1) × (21 < length last)) → (has_number (words_of (text ++ more)) ≡ true) × FirstWrong 1 from_train (words_of (text ++ more)) wrong
text_kept text more front last wrong e has first settled =
    let next = goes_on text more front last e in
    let other = last ++ next.0 in
    let was : Stops 1 from_train (front ++ last ∷ []) wrong = subst (λ (words : List (List ℕ)). Stops 1 from_train words wrong) e first.is in
    let size = length-append last next.0 in
    let now : Stops 1 from_train (front ++ other ∷ next.1) wrong = elim settled [
      | inl before ↦ stops_before 1 from_train front (last ∷ []) (other ∷ next.1) wrong was (omega (arith, before))
      | inr here ↦
          let at = here.0 in
          let long = here.1 in
          stops_at 1 from_train front last other [] next.1 wrong was (omega (arith, at)) (too_long 1 (front ++ last ∷ []) wrong other was (omega (arith, long, size)))
    ] in (
      ap has_number next.2 ∙ number_kept front last other next.1 (sym (ap has_number e) ∙ has),
      record { is = subst (λ (words : List (List ℕ)). Stops 1 from_train words wrong) (sym next.2) now },
    )

pub text_outlook : (track : Option Plan) (begun text : List ℕ) (fault : Option LineFault) (outlook : Outlook LineFault) → begun ≡ codes "recv " ++ text → has_number (words_of text) ≡ true
    → ((f : LineFault) → fault ≡ Some f → IsWrongText (words_of text) f) → IsOutlookBy (words_of begun) fault outlook → Foretells (Encodes track) (IsWrongLine track) begun outlook
text_outlook track begun text fault Open line has wrong by = tt
text_outlook track begun text fault Itself line has wrong by = absurd by
text_outlook track begun text fault (Wrong f) line has wrong (index, expected, settled, is, some) = λ more. whole more (wrong f some) settled.front settled.are settled.settled
  where
    whole : (more : List ℕ) → IsWrongText (words_of text) f → (front : List (List ℕ)) → words_of begun ≡ front ++ settled.last ∷ [] → (index ≤ length front) ⊎ ((index ≡ length front + 1) × (21 < length settled.last))
        → IsWrongLine track (begun ++ more) f
    whole more (w, first, said) [] e at = let none : words_of text ≡ [] = let all = sym (ap words_of line) ∙ e in cc in absurd (let no : false ≡ true = sym (ap has_number none) ∙ has in cc)
    whole more (w, first, said) (command ∷ front) e at =
        let behind : words_of text ≡ front ++ settled.last ∷ [] = let all = sym (ap words_of line) ∙ e in cc in
        let both : Word index expected ≡ Word (w.index + 1) (ways.Text w.expected) = sym is ∙ said in
        let number : index ≡ w.index + 1 = cc in
        let place : (w.index ≤ length front) ⊎ ((w.index ≡ length front + 1) × (21 < length settled.last)) = elim at [
          | inl before ↦ inl (omega (arith, before, number))
          | inr here ↦ let there = here.0 in inr (omega (arith, there, number), here.1)
        ] in
        let kept = text_kept text more front settled.last w behind has first place in
        subst (λ (l : List ℕ). IsWrongLine track (l ++ more) f) (sym line) (inl (text_by_number (words_of (text ++ more)) kept.0, (w, kept.1, said)))

-- ---- reports

pub report_outlook : (track : Option Plan) (begun : List ℕ) (fault : Option LineFault) (outlook : Outlook LineFault) → is_report (words_of begun) ≡ true
    → ((f : LineFault) → fault ≡ Some f → report_of (slice_get (words_of begun)) ≡ Err f) → IsOutlookBy (words_of begun) fault outlook → Foretells (Encodes track) (IsWrongLine track) begun outlook
report_outlook track begun fault Open report wrong by = tt
report_outlook track begun fault Itself report wrong by = absurd by
report_outlook track begun fault (Wrong f) report wrong (index, expected, settled, is, some) = λ more.
    let next = goes_on begun more settled.front settled.last settled.are in
    let other = settled.last ++ next.0 in
    let size = length-append settled.last next.0 in
    let refused : LineFault → Result Report LineFault = λ x. Err x in
    let was : report_of (slice_get (settled.front ++ settled.last ∷ [])) ≡ Err (Word index expected) =
    sym (ap (λ (words : List (List ℕ)). report_of (slice_get words)) settled.are) ∙ wrong f some ∙ ap refused is in
    let kept : (2 ≤ index) × (report_of (slice_get (settled.front ++ other ∷ next.1)) ≡ Err (Word index expected)) = elim settled.settled [
      | inl before ↦ let both = report_keeps settled.front settled.last other next.1 (length settled.front) index expected (inl refl) was in (both.0, both.1 before)
      | inr here ↦
          let at = here.0 in
          let long = here.1 in
          let both = report_keeps settled.front settled.last other next.1 (length settled.front + 1) index expected (inr (refl, long, omega (arith, long, size))) was in
          (both.0, both.1 (omega (arith, at)))
    ] in
    inr (
      ap is_report next.2 ∙ command_kept settled.front (sym (ap is_report settled.are) ∙ report) kept.0 settled.settled other next.1,
      inl (ap (λ (words : List (List ℕ)). report_of (slice_get words)) next.2 ∙ kept.1 ∙ sym (ap refused is)),
    )
  where
    command_kept : (front : List (List ℕ)) → is_report (front ++ settled.last ∷ []) ≡ true → 2 ≤ index → (index ≤ length front) ⊎ ((index ≡ length front + 1) × (21 < length settled.last))
        → (other : List ℕ) (rest : List (List ℕ)) → is_report (front ++ other ∷ rest) ≡ true
    command_kept [] was low (inl before) other rest = absurd (omega (arith, low, before))
    command_kept [] was low (inr here) other rest = let at = here.0 in absurd (omega (arith, low, at))
    command_kept (command ∷ front) was low at other rest = was

-- ---- other lines

not_word : (word other : List ℕ) → length other < length word → bytes_eq word other ≡ false
not_word word other long = by (bytes_eq word other) refl
  where
    by : (b : Bool) → bytes_eq word other ≡ b → b ≡ false
    by true e = let same = ap length ((bytes_eq-Decides word other).0 e) in absurd (omega (arith, same, long))
    by false e = refl

not_number : (word : List ℕ) → 3 < length word → is_number word ≡ false
not_number word long = rw (not_word word (codes "136") (omega (arith, long))) (rw (not_word word (codes "146") (omega (arith, long))) (not_word word (codes "147") (omega (arith, long))))

glued_some : (piece : List ℕ) (pieces more : List (List ℕ)) → (first : List ℕ) × (rest : List (List ℕ)) × (glued (piece ∷ pieces) more ≡ first ∷ rest)
glued_some piece [] [] = (piece, [], refl)
glued_some piece [] (first ∷ more) = (piece ++ first, more, refl)
glued_some piece (other ∷ pieces) more = (piece, glued (other ∷ pieces) more, refl)

-- a second word that cannot be a number
no_text : (command word : List ℕ) (rest : List (List ℕ)) → (bytes_eq command (codes "recv") ≡ true → is_number word ≡ false) → is_text (command ∷ word ∷ rest) ≡ false
no_text command word [] never = refl
no_text command word (third ∷ rest) never = by (bytes_eq command (codes "recv")) refl
  where
    by : (b : Bool) → bytes_eq command (codes "recv") ≡ b → b && is_number word ≡ false
    by true e = never e
    by false e = refl

no_text_by_command : (command : List ℕ) (rest : List (List ℕ)) → bytes_eq command (codes "recv") ≡ false → is_text (command ∷ rest) ≡ false
no_text_by_command command [] differs = refl
no_text_by_command command (word ∷ []) differs = refl
no_text_by_command command (word ∷ third ∷ rest) differs = ap (λ b. b && is_number word) differs

other_kept : (words : List (List ℕ)) (first : List ℕ) (more : List (List ℕ)) → words ≡ first ∷ more → 17 < total words → is_text words ≡ false → is_report words ≡ false → (pieces : List (List ℕ)) (next : List ℕ) (rest : List (List ℕ)) → pieces ≡ next ∷ rest
    → (is_text (glued words pieces) ≡ false) × (is_report (glued words pieces) ≡ false)
other_kept [] first more e long text report pieces next rest p = cc
other_kept (word ∷ []) first more e long text report [] next rest p = cc
other_kept (word ∷ []) first more e long text report (piece ∷ pieces) next rest p =
    let size = length-append word piece in (
      no_text_by_command (word ++ piece) pieces (not_word (word ++ piece) (codes "recv") (omega (arith, size, long))),
      not_word (word ++ piece) (codes "report") (omega (arith, size, long)),
    )
other_kept (command ∷ word ∷ []) first more e long text report [] next rest p = cc
other_kept (command ∷ word ∷ []) first more e long text report (piece ∷ pieces) next rest p =
    let size = length-append word piece in (
      no_text command (word ++ piece) pieces (λ is. let four = ap length ((bytes_eq-Decides command (codes "recv")).0 is) in not_number (word ++ piece) (omega (arith, size, long, four))),
      report,
    )
other_kept (command ∷ word ∷ third ∷ words) first more e long text report pieces next rest p =
    let some = glued_some third words pieces in
    (ap (λ (behind : List (List ℕ)). is_text (command ∷ word ∷ behind)) some.2 ∙ text, report)

-- a line that is neither a text nor a report is neither however it goes on, if more of it has come than a command
pub other_outlook : (track : Option Plan) (begun : List ℕ) → IsOther begun → 16 < length begun → StaysItself (Encodes track) begun
other_outlook track begun other long = λ more.
    let words = split_is_cons is_space begun in
    let pieces = split_is_cons is_space more in
    let all = total_of_line is_space begun in
    let whole = split_glued is_space begun more in
    let kept = other_kept (words_of begun) words.0 words.1 words.2 (omega (arith, all, long)) other.no_text other.no_report (words_of more) pieces.0 pieces.1 pieces.2 in
    inr (inr (record { no_text = ap is_text whole ∙ kept.0; no_report = ap is_report whole ∙ kept.1 }, refl))
