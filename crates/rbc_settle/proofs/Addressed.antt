-- Messages to one engine.
use Rattle.std.proofs.Common.{◌≡◌, ℕ, ◌+◌, ◌≤◌, List, [], ◌∷◌, length, map, refl, sym, ap, subst, ◌∙◌, arith}
use Rattle.std.specs.List.{All}
use Rattle.std.proofs.lemmas.List.Elements.{All-nil, All-cons, All-head, All-tail}
use Rattle.ertms_codec.specs.declared.to_train.ToTrain.{ToTrain}
use Rattle.ertms_codec.specs.ToTrain.{Fits}
use Rattle.rbc_settle.specs.declared.sent.Sent.{Sent}
use Rattle.rbc_settle.specs.Settling.{to_engine}

made_again : (engine : ℕ) (sent : List Sent) → All (λ one. one.engine ≡ engine) sent → sent ≡ to_engine engine (map (λ one. one.message) sent)
made_again engine [] all = refl
made_again engine (one ∷ rest) all =
    let first : one.engine ≡ engine = All-head (λ (one : Sent). one.engine ≡ engine) one rest all in
    let others = made_again engine rest (All-tail (λ (one : Sent). one.engine ≡ engine) one rest all) in
    λ i. record { engine = first i; message = one.message } ∷ others i

-- what is sent to one engine are its messages
pub sent_is : (engine : ℕ) (messages : List ToTrain) (sent : List Sent) → map (λ one. one.message) sent ≡ messages → All (λ one. one.engine ≡ engine) sent → sent ≡ to_engine engine messages
sent_is engine messages sent same all = made_again engine sent all ∙ ap (to_engine engine) same

-- the messages are what is sent
pub messages_are : (engine : ℕ) (messages : List ToTrain) → map (λ (one : Sent). one.message) (to_engine engine messages) ≡ messages
messages_are engine [] = refl
messages_are engine (message ∷ messages) = ap (λ (others : List ToTrain). message ∷ others) (messages_are engine messages)

-- each is sent to that engine
pub all_to : (engine : ℕ) (messages : List ToTrain) → All (λ (one : Sent). one.engine ≡ engine) (to_engine engine messages)
all_to engine [] = All-nil (λ (one : Sent). one.engine ≡ engine)
all_to engine (message ∷ messages) = All-cons (λ (one : Sent). one.engine ≡ engine) (record { engine = engine; message = message }) (to_engine engine messages) refl (all_to engine messages)

-- where nothing is sent, all of it fits
pub none_to_fit : (sent : List Sent) → sent ≡ [] → All (λ one. Fits one.message) sent
none_to_fit sent none = subst (All (λ (one : Sent). Fits one.message)) (sym none) (All-nil (λ (one : Sent). Fits one.message))

-- what is sent behind nothing is all
pub few_in_all : (before sent : List Sent) (most : ℕ) → before ≡ [] → length sent ≤ length before + most → length sent ≤ most
few_in_all before sent most none few =
    let count : length before ≡ 0 = ap length none in
    omega (arith, few, count)
