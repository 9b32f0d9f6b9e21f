-- What is out, and what is left to be written.
use Rattle.std.proofs.Common.{◌≡◌, ℕ, ◌+◌, List, [], ◌∷◌, ◌++◌, length, take, Option, Result, Ok, Err, refl, sym, ap, ◌∙◌, subst, inl, inr, append_assoc, append-nil, arith, length-append}
use Rattle.std.specs.Prelude.{OnOk}
use Rattle.std.specs.Io.KnownBytes.{Appends}
use Rattle.std.proofs.Math.Seq.{take-append-add}
use Rattle.std.proofs.KnownBytes.{Appends-trans}
use Rattle.rbc_text.specs.declared.outlet.WriteFault.{WriteFault}
use Rattle.rbc_text.specs.Streams.{count_of}
use Rattle.rbc_words.specs.Filters.{AreFirstTurned, IsFirstWrong}
use Rattle.rbc_text.specs.Streams.{IsCutShort}
use Rattle.rbc_words.specs.UnderWay.{ArePending, IsDone, IsStop, IsEnded, IsPutBehind, fault_of}
use Rattle.rbc_words.specs.declared.rule.RuleError.{RuleError}
use Rattle.rbc_words.specs.declared.rule.RuleError.TheVariants as refusal
use Rattle.rbc_words.specs.declared.session.Session.{Session}
use Rattle.rbc_words.specs.declared.filter.FilterError.{FilterError}
use Rattle.rbc_words.specs.declared.filter.FilterError.TheVariants.{Read, Memory, Write, Line}
use Rattle.rbc_words.proofs.Turning.{turned_more, first_of_more, wrong_of_more}

counted_on : (a b count : ℕ) → count ≡ count_of a → count_of (count + b) ≡ count_of (a + b)
counted_on a b count e = rw e (grind arith)

module _ (becomes : List ℕ → List ℕ → Type 0) where
  -- more of the line that has begun
  pub pending_more : (text other : List ℕ) (sent : ℕ) (old new : Option (List ℕ)) (ended : List (List ℕ)) (begun part : List ℕ)
      → ArePending becomes text sent old new ended begun → IsPutBehind text other begun part → ArePending becomes other sent old new ended part
  pending_more text other sent old new ended begun part are (more, put, grown) = record {
    turned = are.turned;
    written = are.written;
    are = are.are;
    all = ap (λ (t : List ℕ). are.written ++ t) put ∙ sym (append_assoc are.written text more) ∙ ap (λ (t : List ℕ). t ++ more) are.all
        ∙ append_assoc are.turned begun more ∙ ap (λ (t : List ℕ). are.turned ++ t) grown;
    out = are.out;
    count = are.count;
  }

  -- what has begun is a line
  pub pending_line : (text : List ℕ) (sent : ℕ) (old new : Option (List ℕ)) (ended : List (List ℕ)) (line one : List ℕ)
      → ArePending becomes text sent old new ended (one ++ 10 ∷ []) → becomes line one → ArePending becomes text sent old new (ended ++ line ∷ []) []
  pending_line text sent old new ended line one are is = record {
    turned = are.turned ++ (one ++ 10 ∷ []);
    written = are.written;
    are = turned_more becomes ended are.turned line one are.are is;
    all = are.all ∙ sym (append-nil (are.turned ++ (one ++ 10 ∷ [])));
    out = are.out;
    count = are.count;
  }

  -- all of it was written
  pub pending_written : (text other : List ℕ) (sent count : ℕ) (old mid new : Option (List ℕ)) (ended : List (List ℕ)) (begun : List ℕ)
      → ArePending becomes text sent old mid ended begun → Appends mid new text → other ≡ [] → count ≡ count_of (sent + length text) → ArePending becomes other count old new ended begun
  pending_written text other sent count old mid new ended begun are out none counted = record {
    turned = are.turned;
    written = are.written ++ text;
    are = are.are;
    all = ap (λ (t : List ℕ). (are.written ++ text) ++ t) none ∙ append-nil (are.written ++ text) ∙ are.all;
    out = Appends-trans old mid new are.written text are.out out;
    count = counted ∙ counted_on (length are.written) (length text) sent are.count ∙ ap count_of (sym (length-append are.written text));
  }

  -- what is out where nothing is left
  pub pending_out : (text : List ℕ) (sent : ℕ) (old new : Option (List ℕ)) (ended : List (List ℕ)) (begun : List ℕ) → text ≡ [] → ArePending becomes text sent old new ended begun
      → IsDone becomes ended begun old new
  pending_out text sent old new ended begun none are =
      (are.turned, are.are, subst (Appends old new) (sym (ap (λ (t : List ℕ). are.written ++ t) none ∙ append-nil are.written) ∙ are.all) are.out)

  module _ {F : Type 0} (is_wrong : List ℕ → F → Type 0) where
    pub ended_of_more : (lines more all : List (List ℕ)) (old new : Option (List ℕ)) (fault : FilterError F) → all ≡ lines ++ more
        → IsEnded becomes is_wrong lines old new fault → IsEnded becomes is_wrong all old new fault
    ended_of_more lines more all old new fault e is = subst (λ (ls : List (List ℕ)). IsEnded becomes is_wrong ls old new fault) (sym e) (of_more fault is)
      where
        of_more : (fault : FilterError F) → IsEnded becomes is_wrong lines old new fault → IsEnded becomes is_wrong (lines ++ more) old new fault
        of_more Read is = absurd is
        of_more Memory is = (is.0, first_of_more becomes lines more is.0 is.1, is.2)
        of_more (Write sent) is = (is.0, first_of_more becomes lines more is.0 is.1, is.2)
        of_more (Line number fault) is = (is.0, wrong_of_more becomes is_wrong lines more is.0 number fault is.1, is.2)

    -- the writer failed after a part of the text
    pub cut_short : (lines : List (List ℕ)) (text : List ℕ) (sent : ℕ) (old mid new : Option (List ℕ)) (ended : List (List ℕ)) (begun : List ℕ) (fault : WriteFault)
        (are : ArePending becomes text sent old mid ended begun) → AreFirstTurned becomes lines (are.turned ++ begun) → IsCutShort sent text mid new fault
        → IsEnded becomes is_wrong lines old new (Write fault.sent)
    cut_short lines text sent old mid new ended begun fault are first (part, few, out, counted) =
        let whole = length-append are.written text in (
          are.written ++ text,
          subst (AreFirstTurned becomes lines) (sym are.all) first,
          (
            length are.written + part,
            omega (arith, few, whole),
            counted ∙ counted_on (length are.written) part sent are.count,
            subst (Appends old new) (sym (take-append-add are.written text part)) (Appends-trans old mid new are.written (take part text) are.out out),
          ),
        )

    -- all of it was written before the fault of a line
    after_all : (lines : List (List ℕ)) (text : List ℕ) (sent : ℕ) (old mid new : Option (List ℕ)) (ended : List (List ℕ)) (begun : List ℕ) (number : ℕ) (error : RuleError F)
        (are : ArePending becomes text sent old mid ended begun) → AreFirstTurned becomes lines (are.turned ++ begun)
        → ((fault : F) → error ≡ refusal.Wrong fault → (begun ≡ []) × IsFirstWrong becomes is_wrong lines are.turned number fault)
        → Appends mid new text → IsEnded becomes is_wrong lines old new (fault_of number error)
    after_all lines text sent old mid new ended begun number refusal.Memory are first wrong out =
        (are.turned ++ begun, first, subst (Appends old new) are.all (Appends-trans old mid new are.written text are.out out))
    after_all lines text sent old mid new ended begun number (refusal.Wrong fault) are first wrong out =
        let is = wrong fault refl in (
          are.turned,
          is.1,
          subst (Appends old new) (are.all ∙ ap (λ (t : List ℕ). are.turned ++ t) is.0 ∙ append-nil are.turned) (Appends-trans old mid new are.written text are.out out),
        )

    pub stopped : (lines : List (List ℕ)) (session : Session) (old mid new : Option (List ℕ)) (ended : List (List ℕ)) (begun : List ℕ) (error : RuleError F) (fault : FilterError F)
        (are : ArePending becomes session.text.items session.outlet.sent old mid ended begun) → AreFirstTurned becomes lines (are.turned ++ begun)
        → ((f : F) → error ≡ refusal.Wrong f → (begun ≡ []) × IsFirstWrong becomes is_wrong lines are.turned session.number f)
        → IsStop session error mid new fault → IsEnded becomes is_wrong lines old new fault
    stopped lines session old mid new ended begun error fault are first wrong (inl (sent, short, e)) =
        subst (IsEnded becomes is_wrong lines old new) (sym e) (cut_short lines session.text.items session.outlet.sent old mid new ended begun sent are first short)
    stopped lines session old mid new ended begun error fault are first wrong (inr (out, e)) =
        subst (IsEnded becomes is_wrong lines old new) (sym e) (after_all lines session.text.items session.outlet.sent old mid new ended begun session.number error are first wrong out)

-- what holds where there was no fault
pub where_ok : {E F P : Type 0} (r : Result E F) (done : E) → r ≡ Ok done → OnOk r P → P
where_ok (Ok other) done e holds = holds
where_ok (Err fault) done e holds = cc
