-- Inputs that are taken in one after another, and the alarms that change by them.
use Rattle.std.proofs.Common.{◌≡◌, ℕ, ◌+◌, ◌<◌, false, List, [], ◌∷◌, ◌++◌, length, take, get_or, Option, refl, sym, ap, ◌∙◌, subst, append_assoc, append-nil, arith}
use Rattle.std.specs.Prelude.{option_and_then}
use Rattle.std.proofs.lemmas.List.{take_more}
use Rattle.rbc_track.specs.Plan.{Plan}
use Rattle.rbc_records.specs.declared.record.Key.{Key}
use Rattle.rbc_records.specs.declared.record.Rec.{Rec}
use Rattle.rbc_records.specs.Notes.{is_noted, record_in}
use Rattle.rbc_records.specs.Writes.{replaced}
use Rattle.rbc_rule.specs.declared.input.Input.{Input}
use Rattle.rbc_rule.specs.declared.outcome.Outcome.{Outcome}
use Rattle.rbc_rule.specs.declared.outcome.Reply.{Reply}
use Rattle.rbc_rule.specs.World.{new_world}
use Rattle.rbc_rule.specs.Step as rule
use Rattle.rbc_engine.specs.Held.{AreRecordsOf, Held, Holds, Standing, after_outcome, standing}
use Rattle.rbc_engine.specs.Serial.{Desk, new_desk, serial, step}
use Rattle.rbc_text.specs.OutputText.{result_line}
use Rattle.rbc_live.specs.declared.alarm.Alarm.{Alarm}
use Rattle.rbc_live.specs.Alarms.{alarm_lines}
use Rattle.rbc_live.specs.Watching.{AreSeenLines, IsWatch, StayBut, alarms_if_any, seen_of}
use Rattle.rbc_live.proofs.Following.{stay_but}
use Rattle.rbc_live.proofs.Runs.{fold_snoc}
use Rattle.rbc_live.proofs.Showing.{lines_between, train_is}
use Rattle.rbc_batch.specs.Process.{watched_result, watched_results}

-- nobody is enrolled, and nothing is seen
pub opens : (plan : Plan) (records : List (Key × Rec)) → AreRecordsOf plan (record_in records) new_world → IsWatch plan.horizon records []
opens plan records are engine = sym (ap (option_and_then (alarms_if_any plan.horizon records)) (train_is plan records new_world are engine))

-- one input more
watched_behind : (plan : Plan) (desk : Desk) (inputs : List Input) (input : Input) → watched_results plan desk (inputs ++ input ∷ []) ≡ watched_results plan desk inputs ++ watched_result plan (serial plan desk inputs) input
watched_behind plan desk [] input = append-nil (watched_result plan desk input)
watched_behind plan desk (first ∷ inputs) input =
    ap (λ (rest : List ℕ). watched_result plan desk first ++ rest) (watched_behind plan (step plan desk first) inputs input)
    ∙ sym (append_assoc (watched_result plan desk first) (watched_results plan (step plan desk first) inputs) (watched_result plan (serial plan (step plan desk first) inputs) input))

module _ (plan : Plan) (inputs : List Input) (i : ℕ) (input : Input) (within : i < length inputs) (is : input ≡ get_or inputs i input) where
  more : take (i + 1) inputs ≡ take i inputs ++ input ∷ []
  more = take_more inputs i input within ∙ ap (λ (x : Input). take i inputs ++ x ∷ []) (sym is)

  pub held_more : (held : Standing) → Holds plan held (step plan (serial plan new_desk (take i inputs)) input) → Holds plan held (serial plan new_desk (take (i + 1) inputs))
  held_more held h = subst (λ (d : Desk). Holds plan held d) (sym (ap (serial plan new_desk) more ∙ fold_snoc (step plan) new_desk (take i inputs) input)) h

  pub results_more : (old new : List ℕ) → new ≡ old ++ watched_result plan (serial plan new_desk (take i inputs)) input → old ≡ watched_results plan new_desk (take i inputs)
      → new ≡ watched_results plan new_desk (take (i + 1) inputs)
  results_more old new one before =
      one ∙ ap (λ (front : List ℕ). front ++ watched_result plan (serial plan new_desk (take i inputs)) input) before
      ∙ sym (ap (watched_results plan new_desk) more ∙ watched_behind plan new_desk (take i inputs) input)

-- ---- one input

module _ (plan : Plan) (input : Input) (old mid new : Held) (outcome : Outcome) (replaced_by : List (Key × Option Rec))
    (same : standing mid ≡ standing old) (done : standing new ≡ after_outcome (standing mid) outcome) (back : replaced_by ≡ replaced outcome.writes (record_in mid.records)) where
  -- what was not written stays
  pub stays : StayBut replaced_by old.records new.records
  stays k none =
      ap (λ (s : Standing). s.records k) done
      ∙ stay_but outcome.writes (record_in mid.records) k (subst (λ (writes : List (Key × Option Rec)). is_noted writes k ≡ false) back none)
      ∙ ap (λ (s : Standing). s.records k) same

  -- what is written of it
  pub one_watched : (before : Desk) (text text_new lines : List ℕ) (number : ℕ) → Holds plan (standing old) before → Holds plan (standing new) (step plan before input)
      → outcome.result ≡ (rule.step plan before.world input).reply → number ≡ length new.results
      → AreSeenLines number (seen_of plan.horizon old.records) (seen_of plan.horizon new.records) lines
      → text_new ≡ (text ++ result_line (number, outcome.result)) ++ lines → text_new ≡ text ++ watched_result plan before input
  one_watched before text text_new lines number h after reply counted seen e =
      let length-more : number ≡ length before.results + 1 = counted ∙ ap (λ (s : Standing). length s.results) done ∙ length_snoc mid.results outcome.result ∙ ap (λ (s : Standing). length s.results + 1) same ∙ ap (λ (results : List Reply). length results + 1) h.results in
      let alarms = lines_between plan number old.records new.records before.world (step plan before input).world lines h.world after.world seen in
      e ∙ append_assoc text (result_line (number, outcome.result)) lines
      ∙ ap (λ (reply : Reply). text ++ (result_line (number, reply) ++ lines)) reply
      ∙ ap (λ (more : List ℕ). text ++ (result_line (number, (rule.step plan before.world input).reply) ++ more)) alarms
      ∙ ap (λ n. text ++ (result_line (n, (rule.step plan before.world input).reply) ++ alarm_lines plan n before.world (step plan before input).world)) length-more where
        length_snoc : (results : List Reply) (reply : Reply) → length (results ++ reply ∷ []) ≡ length results + 1
        length_snoc [] reply = refl
        length_snoc (r ∷ results) reply = let h = length_snoc results reply in omega (arith, h)

  -- the watch follows it, and the lines are those of what is seen
  module _ (horizon number : ℕ) (records : List (Key × Rec)) (at : horizon ≡ plan.horizon) (there : records ≡ new.records) (watch watch_new : List (ℕ × List Alarm)) (is : IsWatch plan.horizon old.records watch) where
    was : IsWatch horizon old.records watch
    was = subst (λ h. IsWatch h old.records watch) (sym at) is

    stays_there : StayBut replaced_by old.records records
    stays_there = subst (λ (all : List (Key × Rec)). StayBut replaced_by old.records all) (sym there) stays

    pub followed : ((before : List (Key × Rec)) → IsWatch horizon before watch → StayBut replaced_by before records → IsWatch horizon records watch_new) → IsWatch plan.horizon new.records watch_new
    followed follows =
        subst (λ (all : List (Key × Rec)). IsWatch plan.horizon all watch_new) there (subst (λ h. IsWatch h records watch_new) at (follows old.records was stays_there))

    pub seen_between : (lines : List ℕ) → ((before : List (Key × Rec)) → IsWatch horizon before watch → StayBut replaced_by before records → AreSeenLines number (seen_of horizon before) (seen_of horizon records) lines)
        → AreSeenLines number (seen_of plan.horizon old.records) (seen_of plan.horizon new.records) lines
    seen_between lines follows =
        subst (λ (all : List (Key × Rec)). AreSeenLines number (seen_of plan.horizon old.records) (seen_of plan.horizon all) lines) there
        (subst (λ h. AreSeenLines number (seen_of h old.records) (seen_of h records) lines) at (follows old.records was stays_there))
