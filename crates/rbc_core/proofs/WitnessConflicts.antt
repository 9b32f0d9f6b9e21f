-- What was read and written in worked events.
use Rattle.std.proofs.Common.{◌≡◌, ℕ, true, false, List, [], ◌∷◌, ◌++◌, Some, refl, sym, ap, ◌∙◌, subst, append_assoc}
use Rattle.std.specs.List.{All}
use Rattle.std.proofs.lemmas.List.{append-nil}
use Rattle.std.proofs.lemmas.List.Elements.{All-contains, All-nil, All-cons}
use Rattle.rbc_records.specs.declared.record.Key.{Key}
use Rattle.rbc_records.specs.declared.record.Key.TheVariants as key
use Rattle.rbc_versions.specs.Entries.{NumberedRec}
use Rattle.rbc_core.specs.Core.{Try, State}
use Rattle.rbc_core.specs.Events.{Event}
use Rattle.rbc_core.specs.Events.Event.{Publishes, Takes, Reads, Deposits, Voids, Applies, Recomputes, Waits, Ends, Fails}
use Rattle.rbc_core.specs.Witnesses.{publishing, absent, first_try, reading_first}
use Rattle.rbc_core.specs.Conflicts.{names, writes_by, AreAnswered, IsOvertaken}

-- ---- each event, with those before it

abbrev pub Each : (List Event → Event → Type 0) → List Event → List Event → Type 0
Each P before [] = Unit
Each P before (event ∷ events) = P before event × Each P (before ++ event ∷ []) events

head_is : (x y : Event) (xs ys : List Event) → x ∷ xs ≡ y ∷ ys → x ≡ y
head_is x y xs ys is = cc is

tail_is : (x y : Event) (xs ys : List Event) → x ∷ xs ≡ y ∷ ys → xs ≡ ys
tail_is x y xs ys is = cc is

-- what holds of each holds of one among them
pub each_at : (P : List Event → Event → Type 0) (before events : List Event) → Each P before events → (first : List Event) (event : Event) (behind : List Event) → events ≡ first ++ event ∷ behind → P (before ++ first) event
each_at P before [] each [] event behind is = absurd (cc is)
each_at P before [] each (other ∷ first) event behind is = absurd (cc is)
each_at P before (x ∷ events) each [] event behind is = subst (λ (xs : List Event). P xs event) (sym (append-nil before)) (subst (P before) (head_is x event events behind is) each.0)
each_at P before (x ∷ events) each (other ∷ first) event behind is =
    let same : x ≡ other = head_is x other events (first ++ event ∷ behind) is in
    let rest = each_at P (before ++ x ∷ []) events each.1 first event behind (tail_is x other events (first ++ event ∷ behind) is) in
    subst (λ (xs : List Event). P xs event) (append_assoc before (x ∷ []) first ∙ ap (λ (y : Event). before ++ y ∷ first) same) rest

-- ---- reads

abbrev pub WasRead : List Event → Try → Key × NumberedRec → Type 0
WasRead events a note = (first : List Event) × (second : List Event) × (events ≡ first ++ Reads a.number note.0 note.1.number ∷ second)

-- each note of an attempt that is kept was answered before
abbrev pub IsAnswered : List Event → Event → Type 0
IsAnswered before (Publishes number version) = Unit
IsAnswered before (Takes answer) = Unit
IsAnswered before (Reads number key answer) = Unit
IsAnswered before (Deposits a true) = All (WasRead before a) a.notes
IsAnswered before (Deposits a false) = Unit
IsAnswered before (Voids number done) = Unit
IsAnswered before (Applies outcome writes) = Unit
IsAnswered before (Recomputes outcome writes) = Unit
IsAnswered before Waits = Unit
IsAnswered before Ends = Unit
IsAnswered before (Fails keeps) = Unit

pub are_answered : (events : List Event) → Each IsAnswered [] events → AreAnswered events
are_answered events each before behind a is note has = All-contains (WasRead before a) a.notes note (each_at IsAnswered [] events each before (Deposits a true) behind is) has

-- both inputs are taken
abbrev pub taken : List Event
taken = publishing ++ Takes (Some 1) ∷ Takes (Some 2) ∷ []

-- each note of each attempt was read
pub first_answered : (before : List Event) → IsAnswered (before ++ reading_first) (Deposits first_try true)
first_answered before =
    let P : Key × NumberedRec → Type 0 = WasRead (before ++ reading_first) first_try in
    let roster : Event = Reads 1 key.Roster 0 in
    let stops : Event = Reads 1 key.Stops 0 in
    let limits : Event = Reads 1 key.Limits 0 in
    All-cons P (key.Roster, absent) ((key.Stops, absent) ∷ (key.Limits, absent) ∷ []) (before, stops ∷ limits ∷ [], refl)
    (All-cons P (key.Stops, absent) ((key.Limits, absent) ∷ []) (before ++ roster ∷ [], limits ∷ [], sym (append_assoc before (roster ∷ []) (stops ∷ limits ∷ [])))
    (All-cons P (key.Limits, absent) [] (before ++ roster ∷ stops ∷ [], [], sym (append_assoc before (roster ∷ stops ∷ []) (limits ∷ []))) (All-nil P)))

-- the event is not this read
abbrev pub IsOther : ℕ → Key → ℕ → List Event → Event → Type 0
IsOther number k answer before event = event ≡ Reads number k answer → ⊥

-- what is not among the events was not read
pub not_read : (number : ℕ) (k : Key) (answer : ℕ) (events first second : List Event) → Each (IsOther number k answer) [] events → events ≡ first ++ Reads number k answer ∷ second → ⊥
not_read number k answer events first second each is = each_at (IsOther number k answer) [] events each first (Reads number k answer) second is refl

-- ---- writes

abbrev pub Spares : Key → List Event → Event → Type 0
Spares k before event = names (writes_by event) k ≡ false

-- a note under a key that no event writes was not overtaken
pub not_written : (s : State) (events : List Event) (a : Try) (note : Key × NumberedRec) → Each (Spares note.0) [] events → IsOvertaken s events a note → ⊥
not_written s events a note each (before, between, behind, is, (present, (number, below, (first, commit, rest, since, turn, named)))) =
    let read : Event = Reads a.number note.0 note.1.number in
    let all : events ≡ (before ++ read ∷ first) ++ commit ∷ rest = is ∙ (ap (λ (xs : List Event). before ++ read ∷ xs) since ∙ sym (append_assoc before (read ∷ first) (commit ∷ rest))) in
    absurd (cc (named, each_at (Spares note.0) [] events each (before ++ read ∷ first) commit rest all))
