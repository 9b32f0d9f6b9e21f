-- What is kept after one thing more is noted.
use Rattle.std.proofs.Common.{◌≡◌, ℕ, ◌+◌, ◌==◌, cond, List, [], ◌∷◌, ◌++◌, take, Option, Some, refl, sym, ap, ◌∙◌}
use Rattle.std.specs.Prelude.{slice_get}
use Rattle.std.proofs.lemmas.List.{take_more}
use Rattle.std.proofs.lemmas.Option.{slice_get_within, get_or_from_slice_get}
use Rattle.ertms_codec.specs.declared.packets.Part.{Part}
use Rattle.ertms_codec.specs.declared.to_train.ToTrain.{ToTrain}
use Rattle.ertms_codec.specs.declared.to_train.ToTrain.TheVariants as message
use Rattle.rbc_settle.specs.declared.sent.Sent.{Sent}
use Rattle.rbc_account.specs.declared.sent_input.SentInput.{SentInput}
use Rattle.rbc_account.specs.SentInputs.{Kept, noted, all_noted, noted_message, limit_key, id_of_packet, inputs_after}

-- what is noted depends on what was kept under each number alone
abbrev Keeps : (Kept → Kept) → Type 0
Keeps note = (one other : Kept) → ((number : ℕ) → one number ≡ other number) → (number : ℕ) → note one number ≡ note other number

noted_keeps : (by : SentInput) (key : ℕ) → Keeps (noted by key)
noted_keeps by key one other same number = ap (λ (kept : Option SentInput). cond (key == number) (Some by) kept) (same number)

module _ {A : Type 0} (note : A → Kept → Kept) (keeps : (x : A) → Keeps (note x)) where
  all_keep : (all : List A) → Keeps (all_noted note all)
  all_keep [] one other same number = same number
  all_keep (first ∷ more) one other same number = all_keep more (note first one) (note first other) (keeps first one other same) number

  noted_behind : (kept : Kept) (all : List A) (last : A) (number : ℕ) → all_noted note (all ++ last ∷ []) kept number ≡ note last (all_noted note all kept) number
  noted_behind kept [] last number = refl
  noted_behind kept (first ∷ all) last number = noted_behind (note first kept) all last number

  noted_more : (old now new : Kept) (all : List A) (i : ℕ) (x : A) → slice_get all i ≡ Some x
      → ((number : ℕ) → now number ≡ all_noted note (take i all) old number)
      → ((number : ℕ) → new number ≡ note x now number)
      → (number : ℕ) → new number ≡ all_noted note (take (i + 1) all) old number
  noted_more old now new all i x there before one number =
      let more : take (i + 1) all ≡ take i all ++ x ∷ [] =
      take_more all i x (slice_get_within all i x there) ∙ ap (λ (y : A). take i all ++ y ∷ []) (get_or_from_slice_get all i x x there) in
      one number
      ∙ keeps x now (all_noted note (take i all) old) before number
      ∙ sym (noted_behind old (take i all) x number)
      ∙ sym (ap (λ (some : List A). all_noted note some old number) more)

packet_keeps : (engine : ℕ) (by : SentInput) (packet : Part) → Keeps (noted by (limit_key engine (id_of_packet packet)))
packet_keeps engine by packet = noted_keeps by (limit_key engine (id_of_packet packet))

-- one packet more of a message
pub packet_noted : (engine : ℕ) (by : SentInput) (old now new : Kept) (packets : List Part) (i : ℕ) (packet : Part) → slice_get packets i ≡ Some packet
    → ((number : ℕ) → now number ≡ all_noted (λ packet. noted by (limit_key engine (id_of_packet packet))) (take i packets) old number)
    → ((number : ℕ) → new number ≡ noted by (limit_key engine (id_of_packet packet)) now number)
    → (number : ℕ) → new number ≡ all_noted (λ packet. noted by (limit_key engine (id_of_packet packet))) (take (i + 1) packets) old number
packet_noted engine by old now new packets i packet there before one =
    noted_more (λ packet. noted by (limit_key engine (id_of_packet packet))) (packet_keeps engine by) old now new packets i packet there before one

message_keeps : (input engine : ℕ) (message : ToTrain) → Keeps (noted_message input engine message)
message_keeps input engine (message.StopAt head id scale reference dir distance) = noted_keeps _ _
message_keeps input engine (message.Stop head id) = noted_keeps _ _
message_keeps input engine (message.Revoke head id) = noted_keeps _ _
message_keeps input engine (message.General head packets) =
    all_keep (λ packet. noted (record { stamp = head.stamp; input = input }) (limit_key engine (id_of_packet packet)))
    (packet_keeps engine (record { stamp = head.stamp; input = input })) packets

-- one message more of an input
pub message_noted : (input : ℕ) (old now new : Kept) (messages : List Sent) (i : ℕ) (sent : Sent) → slice_get messages i ≡ Some sent
    → ((number : ℕ) → now number ≡ inputs_after input old (take i messages) number)
    → ((number : ℕ) → new number ≡ noted_message input sent.engine sent.message now number)
    → (number : ℕ) → new number ≡ inputs_after input old (take (i + 1) messages) number
message_noted input old now new messages i sent there before one =
    noted_more (λ (sent : Sent). noted_message input sent.engine sent.message) (λ (sent : Sent). message_keeps input sent.engine sent.message)
    old now new messages i sent there before one
