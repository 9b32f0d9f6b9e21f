-- Steps by which a report and its remarks grow.
use Rattle.std.proofs.Common.{◌≡◌, Bool, List, [], ◌∷◌, ◌++◌, true, false, append_assoc, append-nil, sym, ap, ◌∙◌, refl, inl, inr}
use Rattle.rbc_track_report.specs.Growth.{Grows, IsAddedOrCut, IsWarned, IsNoted, AreWarned, AreNoted, AreOnKeys, IsWrittenOn}
use Rattle.rbc_track_report.specs.declared.remark.Remark.{Remark}
use Rattle.rbc_track_report.specs.declared.remark.Remarks.{Remarks}
use Rattle.rbc_track_report.specs.declared.report_text.Sheet.{Sheet}

-- a list in front of itself
pub grows_none : {A : Type 0} (list : List A) → Grows list list
grows_none list = record { added = []; behind = sym (append-nil list) }

-- what grows and then grows again
pub grows_then : {A : Type 0} (first second third : List A) → Grows first second → Grows second third → Grows first third
grows_then first second third one two =
    record { added = one.added ++ two.added; behind = two.behind ∙ ap (λ list. list ++ two.added) one.behind ∙ append_assoc first one.added two.added }

-- a list to which something is added, or not
pub grows_last : {A : Type 0} (last : A) (old new : List A) (was_cut is_cut : Bool) → IsAddedOrCut last old new was_cut is_cut → Grows old new
grows_last last old new was_cut is_cut step =
    elim step [
      | inl added ↦ record { added = last ∷ []; behind = added.0 }
      | inr cut ↦ record { added = []; behind = cut.0 ∙ sym (append-nil old) }
    ]

-- what was cut stays cut
pub cut_stays : {A : Type 0} (last : A) (old new : List A) (was_cut is_cut : Bool) → IsAddedOrCut last old new was_cut is_cut → was_cut ≡ true → is_cut ≡ true
cut_stays last old new was_cut is_cut step was =
    elim step [
      | inl added ↦ added.1 ∙ was
      | inr cut ↦ cut.1
    ]

pub warned_none : (remarks : Remarks) → AreWarned remarks remarks
warned_none remarks = record { warnings = grows_none _; notes = refl; other_keys = refl; cut = λ cut. cut }

pub noted_none : (remarks : Remarks) → AreNoted remarks remarks
noted_none remarks = record { warnings = refl; notes = grows_none _; other_keys = refl; cut = λ cut. cut }

-- a warning is a list of warnings, and a note one of notes
pub warned_one : (remark : Remark) (old new : Remarks) → IsWarned remark old new → AreWarned old new
warned_one remark old new one =
    record { warnings = grows_last remark _ _ _ _ one.warnings; notes = one.notes; other_keys = one.other_keys; cut = cut_stays remark _ _ _ _ one.warnings }

pub noted_one : (remark : Remark) (old new : Remarks) → IsNoted remark old new → AreNoted old new
noted_one remark old new one =
    record { warnings = one.warnings; notes = grows_last remark _ _ _ _ one.notes; other_keys = one.other_keys; cut = cut_stays remark _ _ _ _ one.notes }

pub warned_then : (first second third : Remarks) → AreWarned first second → AreWarned second third → AreWarned first third
warned_then first second third one two = record {
  warnings = grows_then _ _ _ one.warnings two.warnings;
  notes = two.notes ∙ one.notes;
  other_keys = two.other_keys ∙ one.other_keys;
  cut = λ cut. two.cut (one.cut cut);
}

pub noted_then : (first second third : Remarks) → AreNoted first second → AreNoted second third → AreNoted first third
noted_then first second third one two = record {
  warnings = two.warnings ∙ one.warnings;
  notes = grows_then _ _ _ one.notes two.notes;
  other_keys = two.other_keys ∙ one.other_keys;
  cut = λ cut. two.cut (one.cut cut);
}

-- one more warning, and one more note
pub warned_more : (remark : Remark) (first second third : Remarks) → AreWarned first second → IsWarned remark second third → AreWarned first third
warned_more remark first second third one two = warned_then _ _ _ one (warned_one remark _ _ two)

pub noted_more : (remark : Remark) (first second third : Remarks) → AreNoted first second → IsNoted remark second third → AreNoted first third
noted_more remark first second third one two = noted_then _ _ _ one (noted_one remark _ _ two)

pub on_keys_none : (remarks : Remarks) → AreOnKeys remarks remarks
on_keys_none remarks = record { allowed = λ _. noted_none remarks; forbidden = λ _. warned_none remarks }

pub on_keys_then : (first second third : Remarks) → AreOnKeys first second → AreOnKeys second third → AreOnKeys first third
on_keys_then first second third one two = record {
  allowed = λ is. noted_then _ _ _ (one.allowed is) (two.allowed ((one.allowed is).other_keys ∙ is));
  forbidden = λ is. warned_then _ _ _ (one.forbidden is) (two.forbidden ((one.forbidden is).other_keys ∙ is));
}

-- one more remark on a key
pub on_keys_more : (remark : Remark) (first second third : Remarks) → AreOnKeys first second → (second.other_keys ≡ true → IsNoted remark second third)
    → (second.other_keys ≡ false → IsWarned remark second third) → AreOnKeys first third
on_keys_more remark first second third one noted warned =
    on_keys_then _ _ _ one (record { allowed = λ is. noted_one remark _ _ (noted is); forbidden = λ is. warned_one remark _ _ (warned is) })

-- remarks that are cut
cut_noted : (second third : Remarks) → third.warnings ≡ second.warnings → third.notes ≡ second.notes → third.other_keys ≡ second.other_keys
    → third.is_cut ≡ true → AreNoted second third
cut_noted second third warnings notes other_keys cut = record {
  warnings = ap (λ list. list.items) warnings;
  notes = record { added = []; behind = ap (λ list. list.items) notes ∙ sym (append-nil _) };
  other_keys = other_keys;
  cut = λ _. cut;
}

cut_warned : (second third : Remarks) → third.warnings ≡ second.warnings → third.notes ≡ second.notes → third.other_keys ≡ second.other_keys
    → third.is_cut ≡ true → AreWarned second third
cut_warned second third warnings notes other_keys cut = record {
  warnings = record { added = []; behind = ap (λ list. list.items) warnings ∙ sym (append-nil _) };
  notes = ap (λ list. list.items) notes;
  other_keys = other_keys;
  cut = λ _. cut;
}

pub on_keys_cut : (first second third : Remarks) → AreOnKeys first second → third.warnings ≡ second.warnings → third.notes ≡ second.notes
    → third.other_keys ≡ second.other_keys → third.is_cut ≡ true → AreOnKeys first third
on_keys_cut first second third one warnings notes other_keys cut = on_keys_then _ _ _ one (record {
  allowed = λ _. cut_noted _ _ warnings notes other_keys cut;
  forbidden = λ _. cut_warned _ _ warnings notes other_keys cut;
})

pub written_none : (sheet : Sheet) → IsWrittenOn sheet sheet
written_none sheet = record { whole = λ whole. whole; text = λ _. grows_none _ }

-- a sheet that is written on twice
pub written_then : (first second third : Sheet) → IsWrittenOn first second → IsWrittenOn second third → IsWrittenOn first third
written_then first second third one two =
    record { whole = λ whole. one.whole (two.whole whole); text = λ whole. grows_then _ _ _ (one.text (two.whole whole)) (two.text whole) }

-- the same between two steps of a chain
pub ◌then◌ : {first second third : Sheet} → IsWrittenOn first second → IsWrittenOn second third → IsWrittenOn first third
one then two = written_then _ _ _ one two

infixl 30 ◌then◌
-- a sheet that comes back from the last step of a chain
pub back : {first last end : Sheet} → IsWrittenOn first last → last ≡ end → IsWrittenOn first end
back written same = rw (← same) written
