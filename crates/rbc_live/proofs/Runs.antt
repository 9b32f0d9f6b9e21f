-- Steps one after another.
use Rattle.std.proofs.Common.{◌≡◌, ℕ, ◌+◌, List, [], ◌∷◌, ◌++◌, map, length, refl, sym, ap, ◌∙◌, subst, append_assoc, append-nil, arith}
use Rattle.std.proofs.lemmas.List.Elements.{All-nil}
use Rattle.std.specs.List.{fold}
use Rattle.rbc_track.specs.Plan.{Plan}
use Rattle.rbc_settle.specs.declared.sent.Sent.{Sent}
use Rattle.rbc_records.specs.declared.record.Key.{Key}
use Rattle.rbc_records.specs.declared.record.Rec.{Rec}
use Rattle.rbc_records.specs.Notes.{record_in}
use Rattle.rbc_rule.specs.declared.input.Input.{Input}
use Rattle.rbc_rule.specs.declared.outcome.Reply.{Reply}
use Rattle.rbc_rule.specs.Step as rule
use Rattle.rbc_text.specs.BatchText.{AreInputs}
use Rattle.rbc_text.specs.Mail.{Mail}
use Rattle.rbc_text.specs.Held.{AreRecordsOf, Standing, Holds, AreOutboxes, post_each}
use Rattle.rbc_text.specs.Serial.{Desk, step, serial, new_desk, post_all}
use Rattle.rbc_text.proofs.Begins.{begins}
use Rattle.rbc_text.proofs.Posts.{posted_alike, ones_keep}
use Rattle.rbc_text.proofs.Sends.{sent_ascends}
use Rattle.rbc_live.specs.Serial.{IsSerial}
use Rattle.rbc_live.specs.History.{AreSame, IsStepOf, Taken, IsHistory, posted, EachHistoryIsSerial}
use Rattle.rbc_live.proofs.Steps.{same_world}

-- one input more
pub fold_snoc : {A B : Type 0} (f : A → B → A) (a : A) (xs : List B) (x : B) → fold f a (xs ++ x ∷ []) ≡ f (fold f a xs) x
fold_snoc f a [] x = refl
fold_snoc f a (y ∷ xs) x = fold_snoc f (f a y) xs x

-- the opening
pub no_records : (plan : Plan) → AreRecordsOf plan (record_in []) new_desk.world
no_records plan = record { well_formed = (begins plan).well_formed; same = λ k. (begins plan).agrees k refl }

pub opens : (plan : Plan) → IsSerial plan []
opens plan = ([], no_records plan)

-- the same records
pub stays : (plan : Plan) (old new : List (Key × Rec)) → AreSame old new → IsSerial plan old → IsSerial plan new
stays plan old new same is = (is.0, same_world plan old new (serial plan new_desk is.0).world same is.1)

-- one step more
pub goes_on : (plan : Plan) (input : Input) (old new : List (Key × Rec)) (reply : Reply) (messages : List Sent) → IsStepOf plan input old new reply messages → IsSerial plan old → IsSerial plan new
goes_on plan input old new reply messages one is =
    (is.0 ++ input ∷ [], subst (λ (d : Desk). AreRecordsOf plan (record_in new) d.world) (sym (fold_snoc (step plan) new_desk is.0 input)) (one (serial plan new_desk is.0).world is.1).0)

-- records, results and outboxes
abbrev pub standing_of : List (Key × Rec) → List Reply → List (ℕ × List Mail) → Standing
standing_of records results outboxes = record { records = record_in records; results = results; outboxes = outboxes }

module _ (plan : Plan) where
  -- a line is a step of the desk
  pub one_line : (input : Input) (old before after : List (Key × Rec)) (results : List Reply) (outboxes : List (ℕ × List Mail)) (reply : Reply) (messages : List Sent) (desk : Desk)
      → AreOutboxes outboxes → AreSame old before → IsStepOf plan input before after reply messages → Holds plan (standing_of old results outboxes) desk
      → Holds plan (standing_of after (results ++ reply ∷ []) (post_each (length results + 1) outboxes messages)) (step plan desk input)
  one_line input old before after results outboxes reply messages desk boxes same is h =
      let world = same_world plan old before desk.world same h.world in
      let one = is desk.world world in
      let sent = (rule.step plan desk.world input).sent in
      record {
        world = one.0;
        results = ap (λ (rs : List Reply). rs ++ reply ∷ []) h.results ∙ ap (λ (r : Reply). desk.results ++ r ∷ []) one.1;
        outboxes = posted_alike (length results + 1) outboxes messages sent boxes (sent_ascends plan desk.world input world.well_formed.ascending) one.2
            ∙ ap (λ (rs : List Reply). post_all (length rs + 1) sent outboxes) h.results ∙ ap (λ (b : List (ℕ × List Mail)). post_all (length desk.results + 1) sent b) h.outboxes;
      }

  -- one result more
  pub length_snoc : (results : List Reply) (reply : Reply) → length (results ++ reply ∷ []) ≡ length results + 1
  length_snoc [] reply = refl
  length_snoc (r ∷ results) reply = let h = length_snoc results reply in omega (arith, h)

  all_lines : (taken : List Taken) (old new : List (Key × Rec)) (results : List Reply) (outboxes : List (ℕ × List Mail)) (desk : Desk)
      → AreOutboxes outboxes → Holds plan (standing_of old results outboxes) desk → IsHistory plan old taken new
      → (inputs : List Input) × AreInputs (map (λ one. one.line) taken) inputs
      × Holds plan (standing_of new (results ++ map (λ one. one.reply) taken) (posted (length results + 1) outboxes taken)) (serial plan desk inputs)
  all_lines [] old new results outboxes desk boxes h same = (
    [],
    tt,
    record { world = same_world plan old new desk.world same h.world; results = append-nil results ∙ h.results; outboxes = h.outboxes },
  )
  all_lines (one ∷ more) old new results outboxes desk boxes h history =
      let input : Input = history.3.0 in
      let now : Holds plan (standing_of history.1 (results ++ one.reply ∷ []) (post_each (length results + 1) outboxes one.messages)) (step plan desk input) =
      one_line input old history.0 history.1 results outboxes one.reply one.messages desk boxes history.2 history.3.2 h in
      let rest = all_lines more history.1 new (results ++ one.reply ∷ []) (post_each (length results + 1) outboxes one.messages) (step plan desk input)
      (ones_keep (length results + 1) one.messages outboxes boxes) now history.4 in (
        input ∷ rest.0,
        (history.3.1, rest.1),
        record {
          world = rest.2.world;
          results = sym (append_assoc results (one.reply ∷ []) (map (λ t. t.reply) more)) ∙ rest.2.results;
          outboxes = ap (λ n. posted (n + 1) (post_each (length results + 1) outboxes one.messages) more) (sym (length_snoc results one.reply)) ∙ rest.2.outboxes;
        },
      )

-- the law over all lines
pub each_history_is_serial : EachHistoryIsSerial
each_history_is_serial plan taken records history =
    all_lines plan taken [] records [] [] new_desk (record { ascending = refl; filled = All-nil _ }) (record { world = no_records plan; results = refl; outboxes = refl }) history
