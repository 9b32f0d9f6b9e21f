-- Lines that go on alike, and what they lead to.
use Rattle.std.proofs.Common.{◌≡◌, ℕ, ◌<◌, ◌≤◌, true, false, List, [], ◌∷◌, ◌++◌, length, Option, Some, None, Bor, refl, sym, ap, ◌∙◌, subst, append-nil, arith, length-append}
use Rattle.std.specs.Prelude.{codes, IfNone}
use Rattle.std.specs.Str.{bytes_eq}
use Rattle.std.proofs.lemmas.Slice.Eq.{bytes_eq-Decides}
use Rattle.rbc_track.specs.Plan.{Plan}
use Rattle.rbc_settle.specs.declared.sent.Sent.{Sent}
use Rattle.rbc_records.specs.declared.record.Key.{Key}
use Rattle.rbc_records.specs.declared.record.Rec.{Rec}
use Rattle.rbc_rule.specs.declared.input.Input.TheVariants.{Bad}
use Rattle.rbc_rule.specs.declared.outcome.Reply.{Reply}
use Rattle.rbc_text.specs.BatchText.{Line, Spelled, is_space, words_of, message_of, line_of, IsInput}
use Rattle.ertms_codec.specs.Pieces.{pieces_behind}
use Rattle.ertms_codec.proofs.Cuts.{split_is_cons}
use Rattle.rbc_live.specs.History.{IsFed}
use Rattle.rbc_live.specs.GoingOn.{ActsAs, GoesOnAs}
use Rattle.rbc_live.specs.UnderWay.{Shows}
use Rattle.rbc_text.specs.EndedLines.{joined}
use Rattle.rbc_live.specs.declared.line.UnfinishedLine.{UnfinishedLine}
use Rattle.rbc_text.proofs.LinePieces.{one_piece_more}
use Rattle.rbc_live.proofs.Words.{room_of, room_of_pieces, long_words, spells_nothing}

-- the same line
pub acts_same : (kept line : Line) → line ≡ kept → ActsAs kept line
acts_same kept line same = λ input is. (input, subst (λ (l : Line). IsInput l input) (sym same) is, λ plan w. refl)

pub acts_at : (kept line other_kept other_line : Line) → kept ≡ other_kept → line ≡ other_line → ActsAs other_kept other_line → ActsAs kept line
acts_at kept line other_kept other_line k l acts =
    subst (λ (it : Line). ActsAs it line) (sym k) (subst (λ (it : Line). ActsAs other_kept it) (sym l) acts)

on_itself : (line : List ℕ) → GoesOnAs line line
on_itself line = λ more. acts_same (line_of (line ++ more)) (line_of (line ++ more)) refl

through : (short kept line : List ℕ) → GoesOnAs short kept → GoesOnAs kept line → GoesOnAs short line
through short kept line first second = λ more input is.
    let one = first more input is in
    let two = second more one.0 one.1 in
    (two.0, two.1, λ plan w. two.2 plan w ∙ one.2 plan w)

-- ---- what is kept of a line

-- nothing has begun
pub shows_nothing : (kept : UnfinishedLine) → kept.bytes.items ≡ [] → Shows [] kept
shows_nothing kept none = record {
  alike = subst (λ (bytes : List ℕ). GoesOnAs bytes []) (sym none) (on_itself []);
  some = λ some. absurd (omega (arith, some));
  within = subst (λ (bytes : List ℕ). length bytes ≤ 0) (sym none) (omega arith);
  few = subst (λ (bytes : List ℕ). length bytes ≤ 65536) (sym none) (omega arith);
}

-- what is fed in place of a line leads to what the line does
pub fed_alike : (plan : Plan) (kept line : List ℕ) (old new : List (Key × Rec)) (reply : Reply) (messages : List Sent) → GoesOnAs kept line → IsFed plan kept old new reply messages
    → IsFed plan line old new reply messages
fed_alike plan kept line old new reply messages alike fed =
    let is = alike [] fed.0 (subst (λ (l : List ℕ). IsInput (line_of l) fed.0) (sym (append-nil kept)) fed.1) in (
      is.0,
      subst (λ (l : List ℕ). IsInput (line_of l) is.0) (append-nil line) is.1,
      λ w are. rw (is.2 plan w) (fed.2 w are),
    )

-- ---- a line that is refused whatever follows

-- a line that begins with a space is one, too
pub bad_whatever_follows : (kept line : List ℕ) → kept ≡ 32 ∷ [] → ((more : List ℕ) → line_of (line ++ more) ≡ Spelled (Bad 1)) → GoesOnAs kept line
bad_whatever_follows kept line is bad = subst (λ (k : List ℕ). GoesOnAs k line) (sym is) (λ more. acts_same (Spelled (Bad 1)) (line_of (line ++ more)) (bad more))

room_of_line : (line more : List ℕ) (words : List (List ℕ)) → 65536 < length line → words_of (line ++ more) ≡ words → 1000 < room_of words
room_of_line line more words long e =
    let room = sym (ap room_of e) ∙ room_of_pieces is_space (line ++ more) in
    let whole = length-append line more in
    omega (arith, room, whole, long)

-- one long word
pub one_long_word : (kept line : List ℕ) → kept ≡ 32 ∷ [] → 65536 < length line → words_of line ≡ line ∷ [] → GoesOnAs kept line
one_long_word kept line is long one = bad_whatever_follows kept line is (λ more.
    let behind = split_is_cons is_space more in
    let word = line ++ behind.0 in
    let words = one_piece_more is_space line more [] line one ∙ ap (joined line) behind.2 in
    let lengths = length-append line behind.0 in
    spells_nothing (line ++ more) (word ∷ behind.1) words
    (long_words word behind.1 (λ same. let e = ap length ((bytes_eq-Decides word (codes "recv")).0 same) in absurd (omega (arith, e, lengths, long)))
    (λ same. let e = ap length ((bytes_eq-Decides word (codes "stop")).0 same) in absurd (omega (arith, e, lengths, long)))
    (room_of_line line more (word ∷ behind.1) long words)))

two_words : (more others : List (List ℕ)) (first word : List ℕ) (behind : List (List ℕ)) → more ≡ first ∷ behind → message_of (more ++ word ∷ others) ≡ None
two_words [] others first word behind e = cc
two_words (a ∷ []) others first word behind e = refl
two_words (a ∷ b ∷ more) others first word behind e = refl

-- a text that begins with `recv` and is more than that has a second word
pub more_than_recv : (front command : List ℕ) (behind : Option (Bor (List ℕ))) → IfNone behind (command ≡ front) → bytes_eq front (codes "recv") ≡ false → bytes_eq command (codes "recv") ≡ true
    → (first : List ℕ) × (more : List (List ℕ)) × (pieces_behind 32 behind ≡ first ∷ more)
more_than_recv front command None whole other same = absurd (let bad : true ≡ false = sym same ∙ ap (λ (word : List ℕ). bytes_eq word (codes "recv")) whole ∙ other in cc)
more_than_recv front command (Some more) whole other same = split_is_cons is_space more.now

-- words behind the name of a command that is no stop, and no message of one word
pub other_command : (kept line front word command : List ℕ) (more : List (List ℕ)) → kept ≡ 32 ∷ [] → 65536 < length line → words_of line ≡ words_of front ++ word ∷ [] → words_of front ≡ command ∷ more
    → bytes_eq command (codes "stop") ≡ false → (bytes_eq command (codes "recv") ≡ true → (first : List ℕ) × (behind : List (List ℕ)) × (more ≡ first ∷ behind)) → GoesOnAs kept line
other_command kept line front word command more is long e parts no_stop no_message = bad_whatever_follows kept line is (λ further.
    let next = split_is_cons is_space further in
    let words = one_piece_more is_space line further (words_of front) word e ∙ ap (λ (ws : List (List ℕ)). ws ++ joined word (words_of further)) parts
    ∙ ap (λ (ws : List (List ℕ)). (command ∷ more) ++ joined word ws) next.2 in
    let arguments = more ++ (word ++ next.0) ∷ next.1 in
    spells_nothing (line ++ further) (command ∷ arguments) words
    (long_words command arguments (λ same. let there = no_message same in two_words more next.1 there.0 (word ++ next.0) there.1 there.2)
    (λ same. absurd (let bad : true ≡ false = sym same ∙ no_stop in cc))
    (room_of_line line further (command ∷ arguments) long words)))
