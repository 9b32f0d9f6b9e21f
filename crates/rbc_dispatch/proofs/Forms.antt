-- What clap finds in each form of `run`, in those of `live`, `explain` and `picture` without a number, and in those with `--alarms`.
use Rattle.std.proofs.Common.{refl, sym, ap, arith, ◌∙◌, ◌≡◌, ◌≢◌, ℕ, [], ◌∷◌, ◌++◌, List, Some, None, true, false, Ok, ◌==◌, codes}
use Rattle.std.specs.Prelude.{find, pos, unwrap_or}
use Rattle.std.specs.Option.{option_map_or}
use Rattle.std.specs.Str.Parse.{IsNumeral, signed_digits_value, without_leading_plus}
use Rattle.std.proofs.lemmas.Bool.{ne_eqb}
use Rattle.std.proofs.lemmas.Int.{ints}
use Rattle.std.proofs.lemmas.Str.Parse.{digit_from_value}
use Rattle.clap.specs.Faults.{check_fault, defaults_fault, settle_fault, walk_fault}
use Rattle.clap.specs.Kinds.{Kinds, or_else}
use Rattle.clap.specs.Lexer.{without_minus}
use Rattle.clap.specs.Simple.{App, Shape, built, filled, label_of, new_app, on_top, subcommand_of, with_rule, with_subcommand}
use Rattle.clap.specs.Values.{IsSignedIn, read_as, reading_of}
use Rattle.clap.specs.ValueTests.{accepts}
use Rattle.clap.specs.Walk.{Row, Rule, Text, Walk, answers_to, byte_or_zero, finished, first_of, idle, nothing_held, one_of, settled, used, walk, walk_from}
use Rattle.clap.specs.Words.{fault_of}
use Rattle.clap.specs.declared.builder.value_parser.ValueParser.{ValueParser}
use Rattle.clap.specs.declared.builder.value_parser.ValueParser.TheVariants as vp
use Rattle.clap.proofs.OnLiterals.{clap_on_literals}
use Rattle.clap.proofs.ValueTestLemmas.{Accepts-accepts}
use Rattle.clap.proofs.WalkLemmas.{byte_read}
use Rattle.rbc_dispatch.specs.Forms.{AfterAllByDefault, AlarmsOfLive, AlarmsOfRun, AsManyAsNamed, BeginAtOneByDefault, FromOneByDefault, LongIfAsked, OneByDefault, OneLineByDefault, WritesByte}
use Rattle.rbc_account.specs.declared.log_form.LogParts.TheVariants as parts
use Rattle.rbc_dispatch.specs.CommandLine.{alarms_rule, by_train_rule, check_shape, codes_shape, command_line, decode_shape, encode_shape, explain_shape, live_shape, picture_shape, stats_rule, track_rule, workers_rule}
use Rattle.rbc_dispatch.specs.Words.{Asks, All, Run, Live, Explain, Picture, Decode, byte_of, flag_of, run_asked}
use Rattle.rbc_dispatch.specs.Pages.{topic_in}
use Rattle.rbc_dispatch.proofs.Findings.{explain_by, found_after, live_by, picture_by, run_by}

no_hyphen : (c : ℕ) → c ≢ 45 → (c == 45) ≡ false
no_hyphen c plain = ne_eqb c 45 plain

-- the command line, with any parser of the number of workers
abbrev line_with : ValueParser → App
line_with q =
    let run = (with_rule (with_rule (with_rule (with_rule (with_rule (new_app (codes "run")) track_rule) (record workers_rule { parser = Some q })) by_train_rule) stats_rule) alarms_rule).top in
    let without_name = on_top (λ top. record top { no_binary_name = true; subcommand_required = true; has_version = true }) in
    let inputs = with_subcommand (with_subcommand (with_subcommand (with_subcommand (without_name (new_app (codes "dispatch"))) run) live_shape) explain_shape) picture_shape in
    with_subcommand (with_subcommand (with_subcommand (with_subcommand inputs check_shape) encode_shape) decode_shape) codes_shape

-- words without a fault, and in their rows the file, this word as the number of workers, and no flag
pub record HasRows (q : ValueParser) (file word : Text) (rows : List Row) : Type 0 where
  pub track : first_of (codes "track") rows ≡ Some file
  pub workers : one_of (codes "workers") rows ≡ Some (read_as (reading_of q) word)
  pub by_train : flag_of (codes "by-train") rows ≡ false
  pub stats : flag_of (codes "stats") rows ≡ false
  pub alarms : flag_of (codes "alarms") rows ≡ false

abbrev Finds : ValueParser → Text → Text → List Text → Type 0
Finds q file word words = (fault_of (line_with q) words ≡ []) × ((rows : List Row) × (found_after (codes "run") (subcommand_of (line_with q) words) ≡ Some rows) × HasRows q file word rows)

-- ---- the walk is taken apart from what follows it

-- a subcommand as it is built
abbrev part_of : App → Text → Shape
part_of line name = unwrap_or (find (λ s. answers_to name (label_of s)) (built line).subs) decode_shape

-- the walk over words behind it
abbrev walk_over : Shape → List Text → Walk
walk_over s words = walk s.rules [] nothing_held words

-- what is left to check at the end of a walk
abbrev rest_fault : Shape → Walk → Kinds
rest_fault s w = or_else (settle_fault s.rules s.args_override_self w.held)
    (or_else (defaults_fault (settled s.rules w.held).rows s.rules) (check_fault s (finished s.rules w.held) false))

-- it takes words if the walk does, and so does what follows it
abbrev Takes : App → Text → List Text → Type 0
Takes line name words = walk_fault (part_of line name) [] (walk_from nothing_held) words ≡ []
    → (end : Walk) → walk_over (part_of line name) words ≡ end → rest_fault (part_of line name) end ≡ []
    → fault_of line (name ∷ words) ≡ []

-- the rows that it finds there are those that the walk leaves, with the defaults
abbrev Leaves : App → Text → List Text → Type 0
Leaves line name words = (end : Walk) → walk_over (part_of line name) words ≡ end
    → found_after name (subcommand_of line (name ∷ words)) ≡ Some (finished (part_of line name).rules end.held)

run_leaves_two : (q : ValueParser) (a b : Text) → Leaves (line_with q) (codes "run") (a ∷ b ∷ [])
unfolding clap_on_literals
run_leaves_two q a b end is = rw is refl

live_leaves_two : (a b : Text) → Leaves command_line (codes "live") (a ∷ b ∷ [])
unfolding clap_on_literals
live_leaves_two a b end is = rw is refl

explain_leaves : (a b : Text) → Leaves command_line (codes "explain") (a ∷ b ∷ [])
unfolding clap_on_literals
explain_leaves a b end is = rw is refl

picture_leaves : (a b : Text) → Leaves command_line (codes "picture") (a ∷ b ∷ [])
unfolding clap_on_literals
picture_leaves a b end is = rw is refl

run_leaves_three : (q : ValueParser) (a b c : Text) → Leaves (line_with q) (codes "run") (a ∷ b ∷ c ∷ [])
unfolding clap_on_literals
run_leaves_three q a b c end is = rw is refl

run_leaves_four : (q : ValueParser) (a b c d : Text) → Leaves (line_with q) (codes "run") (a ∷ b ∷ c ∷ d ∷ [])
unfolding clap_on_literals
run_leaves_four q a b c d end is = rw is refl

live_leaves_three : (a b c : Text) → Leaves command_line (codes "live") (a ∷ b ∷ c ∷ [])
unfolding clap_on_literals
live_leaves_three a b c end is = rw is refl

run_takes_two : (q : ValueParser) (a b : Text) → Takes (line_with q) (codes "run") (a ∷ b ∷ [])
unfolding clap_on_literals
run_takes_two q a b walks end is rests = rw (walks, is, rests) refl

run_takes_three : (q : ValueParser) (a b c : Text) → Takes (line_with q) (codes "run") (a ∷ b ∷ c ∷ [])
unfolding clap_on_literals
run_takes_three q a b c walks end is rests = rw (walks, is, rests) refl

run_takes_four : (q : ValueParser) (a b c d : Text) → Takes (line_with q) (codes "run") (a ∷ b ∷ c ∷ d ∷ [])
unfolding clap_on_literals
run_takes_four q a b c d walks end is rests = rw (walks, is, rests) refl

live_takes_three : (a b c : Text) → Takes command_line (codes "live") (a ∷ b ∷ c ∷ [])
unfolding clap_on_literals
live_takes_three a b c walks end is rests = rw (walks, is, rests) refl

live_takes : (a b : Text) → Takes command_line (codes "live") (a ∷ b ∷ [])
unfolding clap_on_literals
live_takes a b walks end is rests = rw (walks, is, rests) refl

explain_takes : (a b : Text) → Takes command_line (codes "explain") (a ∷ b ∷ [])
unfolding clap_on_literals
explain_takes a b walks end is rests = rw (walks, is, rests) refl

picture_takes : (a b : Text) → Takes command_line (codes "picture") (a ∷ b ∷ [])
unfolding clap_on_literals
picture_takes a b walks end is rests = rw (walks, is, rests) refl

-- ---- without a number

module _ (c : ℕ) (rest : Text) (plain : (c == 45) ≡ false) where
  abbrev track_alone : List Text
  track_alone = codes "--track" ∷ (c ∷ rest) ∷ []

  -- the walk with the option's value still pending
  abbrev track_pending : Walk
  track_pending = walk_from (record { rows = []; pending = Some (codes "track", (c ∷ rest) ∷ []); skip = 0 })

  run_alone : Asks (Run (c ∷ rest) 1 false false false) (codes "run" ∷ track_alone)
  unfolding clap_on_literals
  run_alone = record {
    taken = run_takes_two (vp.Signed (pos 0) (pos 255)) (codes "--track") (c ∷ rest) (simp plain) track_pending (simp plain) refl;
    is = run_by (codes "run" ∷ track_alone) (run_leaves_two (vp.Signed (pos 0) (pos 255)) (codes "--track") (c ∷ rest) track_pending (simp plain)) refl;
  }

  live_alone : Asks (Live (c ∷ rest) (record { from = 1; alarms = false })) (codes "live" ∷ track_alone)
  unfolding clap_on_literals
  live_alone = record {
    taken = live_takes (codes "--track") (c ∷ rest) (simp plain) track_pending (simp plain) refl;
    is = live_by (codes "live" ∷ track_alone) (live_leaves_two (codes "--track") (c ∷ rest) track_pending (simp plain)) refl;
  }

  explain_alone : Asks (Explain (c ∷ rest) (record { from = 1; to = None; parts = parts.All }) false) (codes "explain" ∷ track_alone)
  unfolding clap_on_literals
  explain_alone = record {
    taken = explain_takes (codes "--track") (c ∷ rest) (simp plain) track_pending (simp plain) refl;
    is = explain_by (codes "explain" ∷ track_alone) (explain_leaves (codes "--track") (c ∷ rest) track_pending (simp plain)) refl;
  }

  picture_alone : Asks (Picture (c ∷ rest) None All) (codes "picture" ∷ track_alone)
  unfolding clap_on_literals
  picture_alone = record {
    taken = picture_takes (codes "--track") (c ∷ rest) (simp plain) track_pending (simp plain) refl;
    is = picture_by (codes "picture" ∷ track_alone) (picture_leaves (codes "--track") (c ∷ rest) track_pending (simp plain)) refl;
  }

-- ---- with `--alarms`

module _ (c : ℕ) (rest : Text) (plain : (c == 45) ≡ false) where
  -- the walk with the flag behind the track
  abbrev flag_last : Walk
  flag_last = walk_from (record { rows = used (filled alarms_rule) [] (used (filled track_rule) ((c ∷ rest) ∷ []) []); pending = None; skip = 0 })

  -- the walk with the flag before the track, whose value is still pending
  abbrev flag_first : Walk
  flag_first = record (walk_from (record { rows = used (filled alarms_rule) [] []; pending = Some (codes "track", (c ∷ rest) ∷ []); skip = 0 })) { waiting = idle }

  run_flag_last_ends : walk_over (part_of command_line (codes "run")) (codes "--track" ∷ (c ∷ rest) ∷ codes "--alarms" ∷ []) ≡ flag_last
  unfolding clap_on_literals
  run_flag_last_ends = simp plain

  run_flag_first_ends : walk_over (part_of command_line (codes "run")) (codes "--alarms" ∷ codes "--track" ∷ (c ∷ rest) ∷ []) ≡ flag_first
  unfolding clap_on_literals
  run_flag_first_ends = simp plain

  live_flag_last_ends : walk_over (part_of command_line (codes "live")) (codes "--track" ∷ (c ∷ rest) ∷ codes "--alarms" ∷ []) ≡ flag_last
  unfolding clap_on_literals
  live_flag_last_ends = simp plain

  live_flag_first_ends : walk_over (part_of command_line (codes "live")) (codes "--alarms" ∷ codes "--track" ∷ (c ∷ rest) ∷ []) ≡ flag_first
  unfolding clap_on_literals
  live_flag_first_ends = simp plain

  run_with_flag_last : Asks (Run (c ∷ rest) 1 false false true) (codes "run" ∷ codes "--track" ∷ (c ∷ rest) ∷ codes "--alarms" ∷ [])
  unfolding clap_on_literals
  run_with_flag_last = record {
    taken = run_takes_three (vp.Signed (pos 0) (pos 255)) (codes "--track") (c ∷ rest) (codes "--alarms") (simp plain) flag_last run_flag_last_ends refl;
    is = run_by (codes "run" ∷ codes "--track" ∷ (c ∷ rest) ∷ codes "--alarms" ∷ []) (run_leaves_three (vp.Signed (pos 0) (pos 255)) (codes "--track") (c ∷ rest) (codes "--alarms") flag_last run_flag_last_ends) refl;
  }

  run_with_flag_first : Asks (Run (c ∷ rest) 1 false false true) (codes "run" ∷ codes "--alarms" ∷ codes "--track" ∷ (c ∷ rest) ∷ [])
  unfolding clap_on_literals
  run_with_flag_first = record {
    taken = run_takes_three (vp.Signed (pos 0) (pos 255)) (codes "--alarms") (codes "--track") (c ∷ rest) (simp plain) flag_first run_flag_first_ends refl;
    is = run_by (codes "run" ∷ codes "--alarms" ∷ codes "--track" ∷ (c ∷ rest) ∷ []) (run_leaves_three (vp.Signed (pos 0) (pos 255)) (codes "--alarms") (codes "--track") (c ∷ rest) flag_first run_flag_first_ends) refl;
  }

  live_with_flag_last : Asks (Live (c ∷ rest) (record { from = 1; alarms = true })) (codes "live" ∷ codes "--track" ∷ (c ∷ rest) ∷ codes "--alarms" ∷ [])
  unfolding clap_on_literals
  live_with_flag_last = record {
    taken = live_takes_three (codes "--track") (c ∷ rest) (codes "--alarms") (simp plain) flag_last live_flag_last_ends refl;
    is = live_by (codes "live" ∷ codes "--track" ∷ (c ∷ rest) ∷ codes "--alarms" ∷ []) (live_leaves_three (codes "--track") (c ∷ rest) (codes "--alarms") flag_last live_flag_last_ends) refl;
  }

  live_with_flag_first : Asks (Live (c ∷ rest) (record { from = 1; alarms = true })) (codes "live" ∷ codes "--alarms" ∷ codes "--track" ∷ (c ∷ rest) ∷ [])
  unfolding clap_on_literals
  live_with_flag_first = record {
    taken = live_takes_three (codes "--alarms") (codes "--track") (c ∷ rest) (simp plain) flag_first live_flag_first_ends refl;
    is = live_by (codes "live" ∷ codes "--alarms" ∷ codes "--track" ∷ (c ∷ rest) ∷ []) (live_leaves_three (codes "--alarms") (codes "--track") (c ∷ rest) flag_first live_flag_first_ends) refl;
  }

pub alarms_of_run : AlarmsOfRun
alarms_of_run [] plain = absurd plain
alarms_of_run (c ∷ rest) plain =
    let hyphen = no_hyphen c plain in
    (run_with_flag_last c rest hyphen, (run_with_flag_first c rest hyphen, tt))

pub alarms_of_live : AlarmsOfLive
alarms_of_live [] plain = absurd plain
alarms_of_live (c ∷ rest) plain =
    let hyphen = no_hyphen c plain in
    (live_with_flag_last c rest hyphen, (live_with_flag_first c rest hyphen, tt))

pub one_by_default : OneByDefault
one_by_default [] plain = absurd plain
one_by_default (c ∷ rest) plain = run_alone c rest (no_hyphen c plain)

pub from_one_by_default : FromOneByDefault
from_one_by_default [] plain = absurd plain
from_one_by_default (c ∷ rest) plain = live_alone c rest (no_hyphen c plain)

pub begin_at_one_by_default : BeginAtOneByDefault
begin_at_one_by_default [] plain = absurd plain
begin_at_one_by_default (c ∷ rest) plain = explain_alone c rest (no_hyphen c plain)

pub after_all_by_default : AfterAllByDefault
after_all_by_default [] plain = absurd plain
after_all_by_default (c ∷ rest) plain = picture_alone c rest (no_hyphen c plain)

-- ---- a message

module _ (c : ℕ) (rest : Text) (plain : (c == 45) ≡ false) where
  decode_alone : Asks (Decode (c ∷ rest) false) (codes "decode" ∷ (c ∷ rest) ∷ [])
  unfolding clap_on_literals
  decode_alone = record { taken = simp plain; is = simp plain }

  long_first : Asks (Decode (c ∷ rest) true) (codes "decode" ∷ codes "--long" ∷ (c ∷ rest) ∷ [])
  unfolding clap_on_literals
  long_first = record { taken = simp plain; is = simp plain }

  long_last : Asks (Decode (c ∷ rest) true) (codes "decode" ∷ (c ∷ rest) ∷ codes "--long" ∷ [])
  unfolding clap_on_literals
  long_last = record { taken = simp plain; is = simp plain }

pub one_line_by_default : OneLineByDefault
one_line_by_default [] plain = absurd plain
one_line_by_default (c ∷ rest) plain = decode_alone c rest (no_hyphen c plain)

pub long_if_asked : LongIfAsked
long_if_asked [] plain = absurd plain
long_if_asked (c ∷ rest) plain = (long_first c rest (no_hyphen c plain), (long_last c rest (no_hyphen c plain), tt))

-- the walk with the last option's value still pending
abbrev ends_at : Rule → Text → Text → Text → Walk
ends_at first value id last = record (walk_from (record { rows = used (filled first) (value ∷ []) []; pending = Some (id, last ∷ []); skip = 0 })) { waiting = idle }

-- what is found where the words are taken, by the rows that are left
finds : (q : ValueParser) (file word : Text) (words : List Text) (rows : List Row) → fault_of (line_with q) words ≡ []
    → found_after (codes "run") (subcommand_of (line_with q) words) ≡ Some rows → HasRows q file word rows → Finds q file word words
finds q file word words rows taken found has = (taken, (rows, found, has))

-- ---- the number is in the option's own word

module _ (q : ValueParser) (c : ℕ) (rest word : Text) (plain : (c == 45) ≡ false) (passes : accepts false q word ≡ true) where
  abbrev last_end : Walk
  last_end =
      walk_from (record { rows = used (record (filled workers_rule) { parser = Some q }) (word ∷ []) (used (filled track_rule) ((c ∷ rest) ∷ []) []); pending = None; skip = 0 })

  last_one_ends : walk_over (part_of (line_with q) (codes "run")) (codes "--track" ∷ (c ∷ rest) ∷ (codes "--workers=" ++ word) ∷ []) ≡ last_end
  unfolding clap_on_literals
  last_one_ends = simp plain

  last_in_one : Finds q (c ∷ rest) word (codes "run" ∷ codes "--track" ∷ (c ∷ rest) ∷ (codes "--workers=" ++ word) ∷ [])
  unfolding clap_on_literals
  last_in_one = finds q (c ∷ rest) word (codes "run" ∷ codes "--track" ∷ (c ∷ rest) ∷ (codes "--workers=" ++ word) ∷ []) _
      (run_takes_three q (codes "--track") (c ∷ rest) (codes "--workers=" ++ word) (simp (plain, passes)) last_end last_one_ends refl)
      (run_leaves_three q (codes "--track") (c ∷ rest) (codes "--workers=" ++ word) last_end last_one_ends) (record { track = refl; workers = refl; by_train = refl; stats = refl; alarms = refl })

  abbrev first_one_end : Walk
  first_one_end = ends_at (record workers_rule { parser = Some q }) word (codes "track") (c ∷ rest)

  first_one_ends : walk_over (part_of (line_with q) (codes "run")) ((codes "--workers=" ++ word) ∷ codes "--track" ∷ (c ∷ rest) ∷ []) ≡ first_one_end
  unfolding clap_on_literals
  first_one_ends = simp plain

  first_in_one : Finds q (c ∷ rest) word (codes "run" ∷ (codes "--workers=" ++ word) ∷ codes "--track" ∷ (c ∷ rest) ∷ [])
  unfolding clap_on_literals
  first_in_one = finds q (c ∷ rest) word (codes "run" ∷ (codes "--workers=" ++ word) ∷ codes "--track" ∷ (c ∷ rest) ∷ []) _
      (run_takes_three q (codes "--workers=" ++ word) (codes "--track") (c ∷ rest) (simp (plain, passes)) first_one_end first_one_ends refl)
      (run_leaves_three q (codes "--workers=" ++ word) (codes "--track") (c ∷ rest) first_one_end first_one_ends) (record { track = refl; workers = refl; by_train = refl; stats = refl; alarms = refl })

-- ---- the number is in the next word

module _ (q : ValueParser) (c d : ℕ) (rest more : Text) (plain : (c == 45) ≡ false) (digit : (d == 45) ≡ false) where
  abbrev workers_last : List Text
  workers_last = codes "--track" ∷ (c ∷ rest) ∷ codes "--workers" ∷ (d ∷ more) ∷ []

  last_walks : walk_fault (part_of (line_with q) (codes "run")) [] (walk_from nothing_held) workers_last ≡ []
  unfolding clap_on_literals
  last_walks = simp (plain, digit)

  last_ends : walk_over (part_of (line_with q) (codes "run")) workers_last ≡ ends_at track_rule (c ∷ rest) (codes "workers") (d ∷ more)
  unfolding clap_on_literals
  last_ends = simp (plain, digit)

  last_rests : accepts false q (d ∷ more) ≡ true → rest_fault (part_of (line_with q) (codes "run")) (ends_at track_rule (c ∷ rest) (codes "workers") (d ∷ more)) ≡ []
  unfolding clap_on_literals
  last_rests passes = simp passes

  last_in_two : accepts false q (d ∷ more) ≡ true → Finds q (c ∷ rest) (d ∷ more) (codes "run" ∷ workers_last)
  unfolding clap_on_literals
  last_in_two passes = finds q (c ∷ rest) (d ∷ more) (codes "run" ∷ workers_last) _
      (run_takes_four q (codes "--track") (c ∷ rest) (codes "--workers") (d ∷ more) last_walks _ last_ends (last_rests passes))
      (run_leaves_four q (codes "--track") (c ∷ rest) (codes "--workers") (d ∷ more) _ last_ends) (record { track = refl; workers = refl; by_train = refl; stats = refl; alarms = refl })

  abbrev workers_first : List Text
  workers_first = codes "--workers" ∷ (d ∷ more) ∷ codes "--track" ∷ (c ∷ rest) ∷ []

  abbrev first_end : Walk
  first_end = ends_at (record workers_rule { parser = Some q }) (d ∷ more) (codes "track") (c ∷ rest)

  first_walks : accepts false q (d ∷ more) ≡ true → walk_fault (part_of (line_with q) (codes "run")) [] (walk_from nothing_held) workers_first ≡ []
  unfolding clap_on_literals
  first_walks passes = simp (plain, digit, passes)

  first_ends : walk_over (part_of (line_with q) (codes "run")) workers_first ≡ first_end
  unfolding clap_on_literals
  first_ends = simp (plain, digit)

  first_rests : rest_fault (part_of (line_with q) (codes "run")) first_end ≡ []
  unfolding clap_on_literals
  first_rests = refl

  first_in_two : accepts false q (d ∷ more) ≡ true → Finds q (c ∷ rest) (d ∷ more) (codes "run" ∷ workers_first)
  unfolding clap_on_literals
  first_in_two passes = finds q (c ∷ rest) (d ∷ more) (codes "run" ∷ workers_first) _
      (run_takes_four q (codes "--workers") (d ∷ more) (codes "--track") (c ∷ rest) (first_walks passes) _ first_ends first_rests)
      (run_leaves_four q (codes "--workers") (d ∷ more) (codes "--track") (c ∷ rest) _ first_ends) (record { track = refl; workers = refl; by_train = refl; stats = refl; alarms = refl })

-- ---- a number in decimal digits

no_sign : (d : ℕ) (more : Text) → IsNumeral 10 (d ∷ more) → ((d == 45) ≡ false) × ((d == 43) ≡ false)
no_sign d more numeral = (ne_eqb d 45 (λ e. omega (arith, digit_from_value d numeral.1.0)), ne_eqb d 43 (λ e. omega (arith, digit_from_value d numeral.1.0)))

no_plus : (d : ℕ) (more : Text) → (d == 43) ≡ false → without_leading_plus (d ∷ more) ≡ d ∷ more
no_plus d more e = rw e refl

in_range : (d : ℕ) (more : Text) (number : ℕ) → WritesByte (d ∷ more) number → IsSignedIn (pos 0) (pos 255) (d ∷ more)
in_range d more number writes =
    let sign = no_sign d more writes.0 in
    let value : signed_digits_value 10 (d ∷ more) ≡ pos number = rw (sign.0, sign.1) (ap pos writes.1) in
    rw (value, sign.0, sign.1) (writes.0, record { sfits = omega (arith, writes.2) }, omega (arith, ints), omega (arith, ints, writes.2))

byte_value : (word : Text) (number : ℕ) → without_leading_plus word ≡ word → WritesByte word number → byte_or_zero word ≡ number
byte_value word number same writes =
    sym (byte_read {E = ℕ} word (Ok number) (rw same ((writes.0, rw writes.1 writes.2), sym writes.1)))

-- what is found is what the words ask for
asks : (file : Text) (d : ℕ) (more : Text) (number : ℕ) (words : List Text) → WritesByte (d ∷ more) number → topic_in words ≡ None
    → Finds (vp.Signed (pos 0) (pos 255)) file (d ∷ more) words → Asks (Run file number false false false) words
asks file d more number words writes topic (taken, (rows, found, has)) =
    let sign = no_sign d more writes.0 in
    let bare : without_minus (d ∷ more) ≡ d ∷ more = rw sign.0 refl in
    let workers : byte_of (codes "workers") rows ≡ number =
    ap (λ o. option_map_or byte_or_zero o 0) has.workers ∙ ap byte_or_zero bare ∙ byte_value (d ∷ more) number (no_plus d more sign.1) writes in
    let asked : run_asked rows ≡ Some (Run file number false false false) = rw (has.track, workers, has.by_train, has.stats, has.alarms) refl in
    record { taken = rw topic taken; is = rw topic (run_by words found asked) }

pub as_many_as_named : AsManyAsNamed
as_many_as_named [] word number plain writes = absurd plain
as_many_as_named (c ∷ rest) [] number plain writes = absurd (omega (arith, writes.0.0))
as_many_as_named (c ∷ rest) (d ∷ more) number plain writes =
    let q = vp.Signed (pos 0) (pos 255) in
    let hyphen = no_hyphen c plain in
    let sign = no_sign d more writes.0 in
    let passes = Accepts-accepts false q (d ∷ more) (in_range d more number writes) in
    let found = asks (c ∷ rest) d more number in (
      found _ writes refl (last_in_two q c d rest more hyphen sign.0 passes),
      (
        found _ writes refl (last_in_one q c rest (d ∷ more) hyphen passes),
        (found _ writes refl (first_in_two q c d rest more hyphen sign.0 passes), (found _ writes refl (first_in_one q c rest (d ∷ more) hyphen passes), tt)),
      ),
    )
