use Rattle.std.proofs.Common.{refl, sym, ap, subst, ◌∙◌, ◌≡◌, List, [], Option, Some, None, true, Result, Ok, Err, inl, inr, map, string_bytes}
use Rattle.std.specs.Prelude.{IfErr, ◌⊎◌}
use Rattle.std.specs.Result.{IsErrAnd}
use Rattle.clap.specs.Kinds.{HasKind}
use Rattle.clap.specs.Simple.{subcommand_of}
use Rattle.clap.specs.Words.{App, HasMatchesOf, Text, fault_of, is_simple, is_simple_and_free, subcommand_rows_of}
use Rattle.clap.specs.declared.error.Error.{Error}
use Rattle.clap.specs.declared.error.kind.ErrorKind.{ErrorKind}
use Rattle.clap.specs.declared.parser.matches.ArgMatches.{ArgMatches}
use Rattle.clap.proofs.OnLiterals.{clap_on_literals}
use Rattle.rbc_dispatch.specs.CommandLine.{command_line}
use Rattle.rbc_dispatch.specs.Ending.{IsRefusal, ending_of}
use Rattle.rbc_dispatch.specs.NoTask.{no_task_of, status_of}
use Rattle.rbc_dispatch.specs.Words.{Asked, IsTakenFor, IsUnfit, IsWantOfMemory, asked_in, asked_of, finding_in}
use Rattle.rbc_dispatch.specs.declared.no_task.NoTask.{NoTask}
use Rattle.rbc_dispatch.specs.declared.no_task.NoTask.TheVariants.{OutOfMemory, Words}
use Rattle.rbc_dispatch.specs.declared.words.Task.{Task}
use Rattle.rbc_dispatch.proofs.words.parse_command.Goals as goal

line_is_simple_and_free : is_simple_and_free command_line ≡ true
unfolding clap_on_literals
line_is_simple_and_free = refl

line_is_simple : is_simple command_line ≡ true
unfolding clap_on_literals
line_is_simple = refl

-- what clap says of the command that was made, it says of the command line
kinds_here : (app : App) (words : List Text) (P : List ErrorKind → Type 0) → app ≡ command_line
    → (is_simple_and_free app ≡ true → P (fault_of app words)) → P (fault_of command_line words)
kinds_here app words P same says = subst (λ (a : App). P (fault_of a words)) same (says (ap is_simple_and_free same ∙ line_is_simple_and_free))

found_here : (app : App) (words : List Text) (m : ArgMatches) → app ≡ command_line → HasMatchesOf app words m
    → subcommand_rows_of m ≡ finding_in words
found_here app words m same says = (says (ap is_simple same ∙ line_is_simple)).1 ∙ ap (λ (a : App). subcommand_of a words) same

-- words without a fault are not taken only where memory runs out
memory_alone : (e : Error) → HasKind [] e → IsWantOfMemory (no_task_of e)
memory_alone e (inl memory) = rw memory refl
memory_alone e (inr none) = elim none [ ]

no_fault : (faults : List ErrorKind) (e : Error) → HasKind faults e → faults ≡ [] → IsWantOfMemory (no_task_of e)
no_fault faults e kinds none = memory_alone e (subst (λ (ks : List ErrorKind). HasKind ks e) none kinds)

only_memory : (r : Result Task NoTask) (asked : Asked) (no_task : NoTask) → IsErrAnd r (λ x. x ≡ no_task) → IsWantOfMemory no_task → IsTakenFor asked r
only_memory (Err x) asked no_task same memory = rw same memory
only_memory (Ok x) asked no_task same memory = absurd same

refused_so : (r : Result Task NoTask) (no_task : NoTask) → IsErrAnd r (λ x. x ≡ no_task) → IsRefusal (ending_of no_task) → IfErr r (λ x. IsRefusal (ending_of x))
refused_so (Err x) no_task same refusal = rw same refusal
refused_so (Ok x) no_task same refusal = absurd same

refusal_of : (no_task : NoTask) → IsWantOfMemory no_task ⊎ (status_of no_task ≡ 2) → IsRefusal (ending_of no_task)
refusal_of no_task (inl memory) = inl (ap ending_of memory)
refusal_of (Words error) (inr two) = inr two
refusal_of OutOfMemory (inr two) = inl refl

same_asked : (found : Option Asked) (a b : Asked) → found ≡ Some a → found ≡ Some b → a ≡ b
same_asked found a b first second = some_same a b (sym first ∙ second)
  where
    some_same : (x y : Asked) → Some x ≡ Some y → x ≡ y
    some_same x y is = cc

not_asked : (found : Option Asked) (a : Asked) → found ≡ None → found ≡ Some a → ⊥
not_asked None a none some = cc
not_asked (Some b) a none some = cc

pub returns-in_err-matches-clause-taken : goal.returns-in_err-matches-clause-taken
returns-in_err-matches-clause-taken c = λ asked fault is.
    let e = c.in_err-matches.field-0.0 in
    let kinds = kinds_here _ (map string_bytes c.args.words.now) (λ ks. HasKind ks e) c.in_ok-command.ensures c.in_err-matches.ensures.kinds in
    only_memory _ asked (no_task_of e) c.from_residual-in_err-matches.ensures.1 (no_fault _ e kinds fault)

pub returns-in_err-matches-clause-refused : goal.returns-in_err-matches-clause-refused
returns-in_err-matches-clause-refused c = λ fault.
    let e = c.in_err-matches.field-0.0 in
    let kinds = kinds_here _ (map string_bytes c.args.words.now) (λ ks. HasKind ks e) c.in_ok-command.ensures c.in_err-matches.ensures.kinds in
    refused_so _ (no_task_of e) c.from_residual-in_err-matches.ensures.1 (inl (ap ending_of (no_fault _ e kinds fault)))

pub returns-in-Ok-clause-task : goal.returns-in-Ok-clause-task
returns-in-Ok-clause-task c =
    let words = map string_bytes c.args.words.now in (
      kinds_here _ words (λ ks. ks ≡ []) c.in_ok-command.ensures c.in_ok-matches.ensures.kinds,
      sym (ap (asked_in words) (found_here _ words _ c.in_ok-command.ensures c.in_ok-matches.ensures.matches)) ∙ c.in-Ok.ensures,
    )

pub returns-in-Ok-clause-taken : goal.returns-in-Ok-clause-taken
returns-in-Ok-clause-taken c = λ asked fault is.
    let words = map string_bytes c.args.words.now in
    same_asked (asked_in words (finding_in words)) (asked_of c.in-Ok.task) asked
    (sym (ap (asked_in words) (found_here _ words _ c.in_ok-command.ensures c.in_ok-matches.ensures.matches)) ∙ c.in-Ok.ensures) is

pub returns-in-Err-Words-clause-taken : goal.returns-in-Err-Words-clause-taken
returns-in-Err-Words-clause-taken c = λ asked fault is.
    let words = map string_bytes c.args.words.now in
    let none : asked_in words (subcommand_rows_of c.in_ok-matches.matches) ≡ None =
    subst (IsUnfit (asked_in words (subcommand_rows_of c.in_ok-matches.matches))) c.in-Err-Words.field-0-is c.in-Err-Words.ensures in
    absurd (not_asked (asked_in words (finding_in words)) asked
    (sym (ap (asked_in words) (found_here _ words _ c.in_ok-command.ensures c.in_ok-matches.ensures.matches)) ∙ none) is)

pub returns-in-Err-Words-clause-refused : goal.returns-in-Err-Words-clause-refused
returns-in-Err-Words-clause-refused c = λ fault. refusal_of c.refuse.result c.refuse.ensures
