-- Sentences among the lines of a log.
use Rattle.std.proofs.Common.{◌≡◌, ℕ, ◌+◌, ◌<◌, ◌≤◌, Bool, List, [], ◌∷◌, ◌++◌, length, get_or, drop, map, codes, flat_map, filter_map, Option, Some, None, refl, sym, ap, subst, ◌∙◌, append_assoc, append-nil, Result, Ok, Err, OnOk, is_ok, if◌then◌else◌, arith}
use Rattle.std.specs.Prelude.{slice_get}
use Rattle.std.specs.List.{cons_option}
use Rattle.std.proofs.lemmas.List.{drop_all, drop_more}
use Rattle.std.proofs.lemmas.List.Elements.{filter_map-append}
use Rattle.std.proofs.lemmas.Option.{slice_get_within, get_or_from_slice_get}
use Rattle.ertms_codec.specs.declared.packets.Part.{Part}
use Rattle.ertms_codec.specs.declared.to_train.Head.{Head}
use Rattle.ertms_codec.specs.declared.to_train.ToTrain.{ToTrain}
use Rattle.ertms_codec.specs.declared.to_train.ToTrain.TheVariants.{General}
use Rattle.rbc_track.specs.Plan.{Plan}
use Rattle.rbc_place.specs.Placing.{Place}
use Rattle.rbc_settle.specs.declared.sent.Sent.{Sent}
use Rattle.rbc_rule.specs.declared.outcome.Reply.{Reply}
use Rattle.rbc_text.specs.BatchText.{lines_of}
use Rattle.rbc_text.specs.OutputText.{answer_of, sent_line}
use Rattle.rbc_account.specs.declared.told.Told.{Told}
use Rattle.rbc_account.specs.declared.told.ToldWhat.{ToldWhat}
use Rattle.rbc_account.specs.declared.told.ToldRestriction.{ToldRestriction}
use Rattle.rbc_explain.specs.declared.said.Spoken.{Spoken}
use Rattle.rbc_explain.specs.Sentences.{stop_sentence, restriction_sentence, packet_sentence}
use Rattle.rbc_explain.specs.Said.{IsRevokedAs, IsSpokenBy, IsSpokenByPacket, IsStopSentence, IsRestrictionSentence, IsPacketSentence}
use Rattle.rbc_explain.specs.Marked.{ended, shown, unmarked, AreAdded, IsToldOn}
use Rattle.rbc_explain.specs.Reasons.{packet_text, single_text, several_text}
use Rattle.rbc_explain.specs.Telling.{HasSentence, HasText, TellsStop, TellsStopWhy, TellsPacket, TellsPacketWhy, TellsEach, TellsPackets, TellsRestrictions, TellsAll, Tells, IsSaidOn, IsBlockOn}
use Rattle.rbc_explain.proofs.Lines.{lines_of_ended}
use Rattle.rbc_explain.proofs.Marking.{added_none, added_one, added_then, told_then, told_marked}
use Rattle.rbc_explain.proofs.Sentenced.{IsOneLine, stop_is_one_line, restriction_is_one_line, packet_is_one_line, line_of_reply, result_is_line, line_of_sent, sent_is_line}

-- ---- one sentence

-- a sentence that is added is one of the lines
added_sentence : (Is : List ℕ → Type 0) (sentence text old new : List ℕ) → IsOneLine sentence → text ≡ sentence → Is text → new ≡ old ++ text → IsSaidOn (HasSentence Is) old new
added_sentence Is sentence text old new one same is e = (
  one.line ∷ [],
  added_one one.line old new one.single (e ∙ ap (λ (t : List ℕ). old ++ t) (same ∙ one.text)),
  ap (λ (found : Option (List ℕ)). cons_option found []) one.other,
  ([], [], one.line, refl, subst Is (same ∙ one.text) is),
)

-- the same of a message on a stop, unless memory was refused
pub stop_said : (T E : Type 0) (r : Result T E) (plan : Plan) (sent : Sent) (number : ℕ) (unanswered : Bool) (words : Spoken) (text old new : List ℕ) → IsSpokenBy plan sent.message words
    → IsRevokedAs unanswered words → text ≡ stop_sentence sent.engine number words → new ≡ (if is_ok r then old ++ text else old)
    → OnOk r (IsSaidOn (TellsStop plan sent number unanswered) old new)
stop_said T E (Ok done) plan sent number unanswered words text old new spoken revoked is e =
    let said = added_sentence (IsStopSentence plan sent.engine number unanswered sent.message) (stop_sentence sent.engine number words) text old new
    (stop_is_one_line sent.engine number words) is (words, spoken, revoked, is) e in
    (said.0, said.1, said.2, λ one on says. said.3)
stop_said T E (Err fault) plan sent number unanswered words text old new spoken revoked is e = tt

pub packet_said : (T E : Type 0) (r : Result T E) (plan : Plan) (lrbg number : ℕ) (packet : Part) (words : Spoken) (text old new : List ℕ) → IsSpokenByPacket plan lrbg packet words
    → text ≡ packet_sentence number words → new ≡ (if is_ok r then old ++ text else old)
    → OnOk r (IsSaidOn (TellsPacket plan lrbg packet (IsPacketSentence plan lrbg number packet)) old new)
packet_said T E (Ok done) plan lrbg number packet words text old new spoken is e =
    let said = added_sentence (IsPacketSentence plan lrbg number packet) (packet_sentence number words) text old new
    (packet_is_one_line number words) is (words, spoken, is) e in
    (said.0, said.1, said.2, λ one says. said.3)
packet_said T E (Err fault) plan lrbg number packet words text old new spoken is e = tt

pub restriction_said : (T E : Type 0) (r : Result T E) (plan : Plan) (lrbg engine number : ℕ) (packet : Part) (words : Spoken) (text old new : List ℕ) → IsSpokenByPacket plan lrbg packet words
    → text ≡ restriction_sentence engine number words → new ≡ (if is_ok r then old ++ text else old)
    → OnOk r (IsSaidOn (TellsPacket plan lrbg packet (IsRestrictionSentence plan lrbg engine number packet)) old new)
restriction_said T E (Ok done) plan lrbg engine number packet words text old new spoken is e =
    let said = added_sentence (IsRestrictionSentence plan lrbg engine number packet) (restriction_sentence engine number words) text old new
    (restriction_is_one_line engine number words) is (words, spoken, is) e in
    (said.0, said.1, said.2, λ one says. said.3)
restriction_said T E (Err fault) plan lrbg engine number packet words text old new spoken is e = tt

-- ---- sentences and words

-- what is said stays, where more is added behind it
pub said_then : (P Q R : List (List ℕ) → Type 0) (first second third : List ℕ) → ((lines more : List (List ℕ)) → P lines → Q more → R (lines ++ more))
    → IsSaidOn P first second → IsSaidOn Q second third → IsSaidOn R first third
said_then P Q R first second third both one two = (
  one.0 ++ two.0,
  added_then one.0 two.0 first second third one.1 two.1,
  filter_map-append unmarked one.0 two.0 ∙ (λ i. one.2 i ++ two.2 i),
  both one.0 two.0 one.3 two.3,
)

has_still : (Is : List ℕ → Type 0) (lines more : List (List ℕ)) → HasSentence Is lines → HasSentence Is (lines ++ more)
has_still Is lines more has =
    (has.0, has.1 ++ more, has.2, ap (λ (ls : List (List ℕ)). ls ++ more) has.3 ∙ append_assoc has.0 (has.2 ∷ has.1) more, has.4)

-- the lines of a text stand there behind others too
pub text_behind : (text : List ℕ) (front lines : List (List ℕ)) → HasText text lines → HasText text (front ++ lines)
text_behind text front lines has =
    (front ++ has.0, has.1, ap (λ (ls : List (List ℕ)). front ++ ls) has.2 ∙ sym (append_assoc front has.0 (map shown (lines_of text) ++ has.1)))

pub stop_then_why : (T E : Type 0) (r : Result T E) (plan : Plan) (sent : Sent) (number : ℕ) (unanswered : Bool) (why text first second third : List ℕ) → text ≡ why
    → IsSaidOn (TellsStop plan sent number unanswered) first second → OnOk r (IsSaidOn (HasText text) second third) → OnOk r (IsSaidOn (TellsStopWhy plan sent number unanswered why) first third)
stop_then_why T E (Ok done) plan sent number unanswered why text first second third is said words =
    said_then (TellsStop plan sent number unanswered) (HasText text) (TellsStopWhy plan sent number unanswered why) first second third
    (λ lines more tells has. (
      (λ one on says. has_still (IsStopSentence plan sent.engine number unanswered sent.message) lines more (tells one on says)),
      text_behind why lines more (subst (λ (t : List ℕ). HasText t more) is has),
    )) said words
stop_then_why T E (Err fault) plan sent number unanswered why text first second third is said words = tt

pub packet_then_why : (T E : Type 0) (r : Result T E) (plan : Plan) (lrbg : ℕ) (packet : Part) (Is : List ℕ → Type 0) (why text first second third : List ℕ) → text ≡ why
    → IsSaidOn (TellsPacket plan lrbg packet Is) first second → OnOk r (IsSaidOn (HasText text) second third) → OnOk r (IsSaidOn (TellsPacketWhy plan lrbg packet Is why) first third)
packet_then_why T E (Ok done) plan lrbg packet Is why text first second third is said words =
    said_then (TellsPacket plan lrbg packet Is) (HasText text) (TellsPacketWhy plan lrbg packet Is why) first second third
    (λ lines more tells has. (
      (λ one says. has_still Is lines more (tells one says)),
      text_behind why lines more (subst (λ (t : List ℕ). HasText t more) is has),
    )) said words
packet_then_why T E (Err fault) plan lrbg packet Is why text first second third is said words = tt

-- what is told is this
pub told_as : (T E : Type 0) (r : Result T E) (plan : Plan) (sent : Sent) (place : Option Place) (told other : ToldWhat) (old new : List ℕ) → told ≡ other
    → OnOk r (IsSaidOn (Tells plan sent place other) old new) → OnOk r (IsSaidOn (Tells plan sent place told) old new)
told_as T E r plan sent place told other old new is said = subst (λ (what : ToldWhat). OnOk r (IsSaidOn (Tells plan sent place what) old new)) (sym is) said

-- ---- the packets of a message

drop_next : {X : Type 0} (xs : List X) (at : ℕ) (x : X) → slice_get xs at ≡ Some x → drop at xs ≡ x ∷ drop (at + 1) xs
drop_next {X} xs at x there =
    drop_more xs at x (slice_get_within xs at x there) ∙ ap (λ (y : X). y ∷ drop (at + 1) xs) (get_or_from_slice_get xs at x x there)

module _ (plan : Plan) (lrbg : ℕ) (place : Option Place) (packets : List Part) (all : List ToldRestriction) where
  -- the packets before one are told
  pub record IsEachTold (at : ℕ) (old now : List ℕ) : Type 0 where
    pub added : List (List ℕ)
    pub lines : AreAdded added old now
    pub others : filter_map unmarked added ≡ []
    pub goes_on : (more : List (List ℕ)) → TellsEach plan lrbg place (drop at packets) (drop at all) more → TellsEach plan lrbg place packets all (added ++ more)

  pub each_begins : (log : List ℕ) → IsEachTold 0 log log
  each_begins log = record { added = []; lines = added_none log; others = refl; goes_on = λ more tells. tells }

  pub each_next : (at : ℕ) (packet : Part) (one : ToldRestriction) (old now new : List ℕ) → slice_get packets at ≡ Some packet → slice_get all at ≡ Some one → IsEachTold at old now
      → IsSaidOn (TellsPacketWhy plan lrbg packet (IsPacketSentence plan lrbg one.number packet) (packet_text packet place one)) now new → IsEachTold (at + 1) old new
  each_next at packet one old now new is_packet is_one so_far said = record {
    added = so_far.added ++ said.0;
    lines = added_then so_far.added said.0 old now new so_far.lines said.1;
    others = filter_map-append unmarked so_far.added said.0 ∙ (λ i. so_far.others i ++ said.2 i);
    goes_on = λ more tells.
        subst (TellsEach plan lrbg place packets all) (sym (append_assoc so_far.added said.0 more))
        (so_far.goes_on (said.0 ++ more)
        (subst (λ (ps : List Part). TellsEach plan lrbg place ps (drop at all) (said.0 ++ more)) (sym (drop_next packets at packet is_packet))
        (subst (λ (os : List ToldRestriction). TellsEach plan lrbg place (packet ∷ drop (at + 1) packets) os (said.0 ++ more)) (sym (drop_next all at one is_one))
        (said.0, more, refl, said.3, tells))));
  }

  each_all : (at : ℕ) (old now : List ℕ) → IsEachTold at old now → TellsEach plan lrbg place (drop at packets) (drop at all) [] → IsSaidOn (TellsEach plan lrbg place packets all) old now
  each_all at old now so_far none =
      (so_far.added, so_far.lines, so_far.others, subst (TellsEach plan lrbg place packets all) (append-nil so_far.added) (so_far.goes_on [] none))

  -- no packet is left
  pub each_packet : (at : ℕ) (old now : List ℕ) → IsEachTold at old now → length packets ≤ at → IsSaidOn (TellsEach plan lrbg place packets all) old now
  each_packet at old now so_far past =
      each_all at old now so_far (subst (λ (ps : List Part). TellsEach plan lrbg place ps (drop at all) []) (sym (drop_all at packets past)) tt)

  -- nothing is left that is told
  pub each_told : (at : ℕ) (old now : List ℕ) → IsEachTold at old now → length all ≤ at → IsSaidOn (TellsEach plan lrbg place packets all) old now
  each_told at old now so_far past =
      each_all at old now so_far
      (subst (λ (os : List ToldRestriction). TellsEach plan lrbg place (drop at packets) os []) (sym (drop_all at all past)) (none_left (drop at packets))) where
        none_left : (packets : List Part) → TellsEach plan lrbg place packets [] []
        none_left [] = tt
        none_left (packet ∷ packets) = tt

module _ (plan : Plan) (engine : ℕ) (head : Head) (place : Option Place) where
  -- a message 24 tells what its packets say
  pub told_of_packets : (T E : Type 0) (r : Result T E) (message : ToTrain) (packets : List Part) (all : List ToldRestriction) (old new : List ℕ)
      → message ≡ General head packets → OnOk r (IsSaidOn (TellsPackets plan engine head place packets all) old new)
      → OnOk r (IsSaidOn (TellsRestrictions plan engine message place all) old new)
  told_of_packets T E r message packets all old new is said =
      subst (λ (m : ToTrain). OnOk r (IsSaidOn (TellsRestrictions plan engine m place all) old new)) (sym is) said

  -- that there are several packets, and then each of them
  several : (packets : List Part) (all : List ToldRestriction) (text : List ℕ) (count : ℕ) (lines more : List (List ℕ)) → 1 < length packets → count ≡ length packets
      → text ≡ several_text engine head count place → HasText text lines → TellsEach plan head.lrbg place packets all more → TellsPackets plan engine head place packets all (lines ++ more)
  several [] all text count lines more many counts is has tells = tt
  several (packet ∷ []) all text count lines more many counts is has tells = absurd (omega (arith, many))
  several (packet ∷ next ∷ packets) all text count lines more many counts is has tells =
      (lines, more, refl, subst (λ (t : List ℕ). HasText t lines) (is ∙ ap (λ (n : ℕ). several_text engine head n place) counts) has, tells)

  pub several_said : (T E : Type 0) (r : Result T E) (packets : List Part) (all : List ToldRestriction) (text : List ℕ) (count : ℕ) (first second third : List ℕ) → 1 < length packets
      → count ≡ length packets → text ≡ several_text engine head count place → IsSaidOn (HasText text) first second
      → OnOk r (IsSaidOn (TellsEach plan head.lrbg place packets all) second third) → OnOk r (IsSaidOn (TellsPackets plan engine head place packets all) first third)
  several_said T E (Ok done) packets all text count first second third many counts is words said =
      said_then (HasText text) (TellsEach plan head.lrbg place packets all) (TellsPackets plan engine head place packets all) first second third
      (λ lines more has tells. several packets all text count lines more many counts is has tells) words said
  several_said T E (Err fault) packets all text count first second third many counts is words said = tt

  -- the one packet of a message
  abbrev pub TellsOne : Part → ToldRestriction → List (List ℕ) → Type 0
  TellsOne packet one = TellsPacketWhy plan head.lrbg packet (IsRestrictionSentence plan head.lrbg engine one.number packet) (single_text head packet place one)

  single : (packets : List Part) (all : List ToldRestriction) (packet : Part) (one : ToldRestriction) (lines : List (List ℕ)) → length packets ≤ 1
      → slice_get packets 0 ≡ Some packet → slice_get all 0 ≡ Some one → TellsOne packet one lines → TellsPackets plan engine head place packets all lines
  single [] all packet one lines few is_packet is_one tells = tt
  single (first ∷ next ∷ packets) all packet one lines few is_packet is_one tells = absurd (omega (arith, few))
  single (first ∷ []) [] packet one lines few is_packet is_one tells = tt
  single (first ∷ []) (other ∷ all) packet one lines few is_packet is_one tells =
      subst (λ (p : Part). TellsOne p other lines) (sym (get_or_from_slice_get (first ∷ []) 0 packet packet is_packet))
      (subst (λ (o : ToldRestriction). TellsOne packet o lines) (sym (get_or_from_slice_get (other ∷ all) 0 one one is_one)) tells)

  pub single_said : (T E : Type 0) (r : Result T E) (packets : List Part) (all : List ToldRestriction) (packet : Part) (one : ToldRestriction) (old new : List ℕ)
      → length packets ≤ 1 → slice_get packets 0 ≡ Some packet → slice_get all 0 ≡ Some one → OnOk r (IsSaidOn (TellsOne packet one) old new)
      → OnOk r (IsSaidOn (TellsPackets plan engine head place packets all) old new)
  single_said T E (Ok done) packets all packet one old new few is_packet is_one said =
      (said.0, said.1, said.2, single packets all packet one said.0 few is_packet is_one said.3)
  single_said T E (Err fault) packets all packet one old new few is_packet is_one said = tt

  pub nothing_said : (packets : List Part) (all : List ToldRestriction) (log : List ℕ) → length packets ≤ 1 → slice_get all 0 ≡ None
      → IsSaidOn (TellsPackets plan engine head place packets all) log log
  nothing_said packets all log few none = ([], added_none log, refl, nothing packets all few none) where
    nothing : (packets : List Part) (all : List ToldRestriction) → length packets ≤ 1 → slice_get all 0 ≡ None → TellsPackets plan engine head place packets all []
    nothing [] all few none = tt
    nothing (first ∷ next ∷ packets) all few none = absurd (omega (arith, few))
    nothing (first ∷ []) [] few none = tt
    nothing (first ∷ []) (other ∷ all) few none = let bad : Some other ≡ None = none in absurd cc

-- ---- the messages of an input

-- a text that has a line is not empty
pub some_text : (text line : List ℕ) (lines : List (List ℕ)) → lines_of text ≡ line ∷ lines → 0 < length text
some_text [] line lines is = let bad = ap length is in absurd (omega (arith, bad))
some_text (x ∷ text) line lines is = omega arith

module _ (plan : Plan) (number : ℕ) where
  -- the lines of an answer
  pub lines_of_sent : (messages : List Sent) → lines_of (flat_map (sent_line number) messages) ≡ map (line_of_sent number) messages
  lines_of_sent [] = refl
  lines_of_sent (sent ∷ messages) =
      lines_of_ended (line_of_sent number sent) (flat_map (sent_line number) messages) (sent_is_line number sent)
      ∙ ap (λ (ls : List (List ℕ)). line_of_sent number sent ∷ ls) (lines_of_sent messages)

  pub lines_of_answer : (reply : Reply) (messages : List Sent) → lines_of (answer_of number reply messages) ≡ line_of_reply number reply ∷ map (line_of_sent number) messages
  lines_of_answer reply messages =
      lines_of_ended (line_of_reply number reply) (flat_map (sent_line number) messages) (result_is_line number reply)
      ∙ ap (λ (ls : List (List ℕ)). line_of_reply number reply ∷ ls) (lines_of_sent messages)

  all_behind : (messages : List Sent) (told : List Told) (front lines : List (List ℕ)) → TellsAll plan number messages told lines → TellsAll plan number messages told (front ++ lines)
  all_behind [] [] front lines tells = tt
  all_behind [] (one ∷ told) front lines tells = tells
  all_behind (sent ∷ messages) [] front lines tells = tells
  all_behind (sent ∷ messages) (one ∷ told) front lines tells = (
    front ++ tells.0,
    tells.1,
    tells.2,
    tells.3,
    ap (λ (ls : List (List ℕ)). front ++ ls) tells.4 ∙ sym (append_assoc front tells.0 (tells.1 ++ (codes "= " ++ tells.3) ∷ tells.2)),
    tells.5,
    tells.6,
    tells.7,
  )

  -- the messages before one are told
  pub record IsAllTold (reply : Reply) (messages : List Sent) (told : List Told) (at : ℕ) (rest old now : List ℕ) : Type 0 where
    pub added : List (List ℕ)
    pub lines : AreAdded added old now
    pub shown : List (List ℕ)
    pub left : lines_of (answer_of number reply messages) ≡ shown ++ map (line_of_sent number) (drop at messages)
    pub marked : filter_map unmarked added ≡ shown
    pub rest_left : lines_of rest ≡ map (line_of_sent number) (drop at messages)
    pub goes_on : (more : List (List ℕ)) → TellsAll plan number (drop at messages) (drop at told) more → TellsAll plan number messages told (added ++ more)

  pub all_begins : (reply : Reply) (messages : List Sent) (told : List Told) (answer line behind old mid now : List ℕ) → answer ≡ answer_of number reply messages
      → lines_of answer ≡ line ∷ lines_of behind → AreAdded ((codes "= " ++ line) ∷ []) old mid → IsToldOn [] mid now → IsAllTold reply messages told 0 behind old now
  all_begins reply messages told answer line behind old mid now is first added words =
      let lines = sym (ap lines_of is) ∙ first in
      let rest : lines_of behind ≡ map (line_of_sent number) messages = ap (λ (ls : List (List ℕ)). drop 1 ls) (sym lines ∙ lines_of_answer reply messages) in
      let both = told_then (line ∷ []) [] old mid now (told_marked line old mid added) words in
      record {
        added = both.0;
        lines = both.1;
        shown = line ∷ [];
        left = lines ∙ ap (λ (ls : List (List ℕ)). line ∷ ls) rest;
        marked = both.2;
        rest_left = rest;
        goes_on = λ more tells. all_behind messages told both.0 more tells;
      }

  pub all_next : (reply : Reply) (messages : List Sent) (told : List Told) (at : ℕ) (sent : Sent) (one : Told) (rest line behind old now mid new : List ℕ)
      → slice_get messages at ≡ Some sent → slice_get told at ≡ Some one → IsAllTold reply messages told at rest old now
      → IsSaidOn (Tells plan sent one.place one.what) now mid → lines_of rest ≡ line ∷ lines_of behind → AreAdded ((codes "= " ++ line) ∷ []) mid new
      → IsAllTold reply messages told (at + 1) behind old new
  all_next reply messages told at sent one rest line behind old now mid new is_sent is_one so_far said first added =
      let next = drop_next messages at sent is_sent in
      let lines : line ∷ lines_of behind ≡ line_of_sent number sent ∷ map (line_of_sent number) (drop (at + 1) messages) =
      sym first ∙ so_far.rest_left ∙ ap (λ (ms : List Sent). map (line_of_sent number) ms) next in
      let own : line ≡ line_of_sent number sent = ap (λ (ls : List (List ℕ)). get_or ls 0 []) lines in
      let left : lines_of behind ≡ map (line_of_sent number) (drop (at + 1) messages) = ap (λ (ls : List (List ℕ)). drop 1 ls) lines in
      let marked = codes "= " ++ line in
      let both : List (List ℕ) = said.0 ++ marked ∷ [] in
      record {
        added = so_far.added ++ both;
        lines = added_then so_far.added both old now new so_far.lines (added_then said.0 (marked ∷ []) now mid new said.1 added);
        shown = so_far.shown ++ line ∷ [];
        left = so_far.left
            ∙ ap (λ (ms : List Sent). so_far.shown ++ map (line_of_sent number) ms) next
            ∙ ap (λ (l : List ℕ). so_far.shown ++ l ∷ map (line_of_sent number) (drop (at + 1) messages)) (sym own)
            ∙ sym (append_assoc so_far.shown (line ∷ []) (map (line_of_sent number) (drop (at + 1) messages)));
        marked = filter_map-append unmarked so_far.added both
            ∙ (λ i. so_far.marked i ++ (filter_map-append unmarked said.0 (marked ∷ []) ∙ ap (λ (ls : List (List ℕ)). ls ++ line ∷ []) said.2) i);
        rest_left = left;
        goes_on = λ more tells.
            subst (TellsAll plan number messages told) (sym (append_assoc so_far.added both more))
            (so_far.goes_on (both ++ more)
            (subst (λ (ms : List Sent). TellsAll plan number ms (drop at told) (both ++ more)) (sym next)
            (subst (λ (os : List Told). TellsAll plan number (sent ∷ drop (at + 1) messages) os (both ++ more)) (sym (drop_next told at one is_one))
            ([], said.0, more, line, append_assoc said.0 (marked ∷ []) more, ap ended own, said.3, tells))));
      }

  pub rest_is_left : (reply : Reply) (messages : List Sent) (told : List Told) (at : ℕ) (sent : Sent) (rest old now : List ℕ) → slice_get messages at ≡ Some sent
      → IsAllTold reply messages told at rest old now → 0 < length rest
  rest_is_left reply messages told at sent rest old now is_sent so_far =
      some_text rest (line_of_sent number sent) (map (line_of_sent number) (drop (at + 1) messages))
      (so_far.rest_left ∙ ap (λ (ms : List Sent). map (line_of_sent number) ms) (drop_next messages at sent is_sent))

  pub all_ends : (reply : Reply) (messages : List Sent) (told : List Told) (at : ℕ) (rest old now : List ℕ) → length messages ≤ at → length told ≡ length messages
      → IsAllTold reply messages told at rest old now → IsBlockOn plan number reply messages told old now
  all_ends reply messages told at rest old now past paired so_far =
      let none = drop_all at messages past in
      let none_told = drop_all at told (omega (arith, past, paired)) in (
        so_far.added,
        so_far.lines,
        so_far.marked ∙ sym (so_far.left ∙ ap (λ (ms : List Sent). so_far.shown ++ map (line_of_sent number) ms) none ∙ append-nil so_far.shown),
        subst (TellsAll plan number messages told) (append-nil so_far.added)
            (so_far.goes_on []
            (subst (λ (ms : List Sent). TellsAll plan number ms (drop at told) []) (sym none)
            (subst (λ (os : List Told). TellsAll plan number [] os []) (sym none_told) tt))),
      )

  -- words before a block, and behind it
  pub words_around : (T E : Type 0) (r : Result T E) (reply : Reply) (messages : List Sent) (told : List Told) (after_text first second third fourth : List ℕ) → IsToldOn [] first second
      → IsBlockOn plan number reply messages told second third → OnOk r (IsSaidOn (HasText after_text) third fourth) → OnOk r (IsBlockOn plan number reply messages told first fourth)
  words_around T E (Ok done) reply messages told after_text first second third fourth before block after =
      let answer = lines_of (answer_of number reply messages) in
      let begun = added_then before.0 block.0 first second third before.1 block.1 in (
        (before.0 ++ block.0) ++ after.0,
        added_then (before.0 ++ block.0) after.0 first third fourth begun after.1,
        filter_map-append unmarked (before.0 ++ block.0) after.0 ∙ (λ i. (filter_map-append unmarked before.0 block.0 ∙ (λ j. before.2 j ++ block.2 j)) i ++ after.2 i) ∙ append-nil answer,
        all_still messages told (before.0 ++ block.0) after.0 (all_behind messages told before.0 block.0 block.3),
      ) where
        all_still : (messages : List Sent) (told : List Told) (lines more : List (List ℕ)) → TellsAll plan number messages told lines → TellsAll plan number messages told (lines ++ more)
        all_still [] [] lines more tells = tt
        all_still [] (one ∷ told) lines more tells = tells
        all_still (sent ∷ messages) [] lines more tells = tells
        all_still (sent ∷ messages) (one ∷ told) lines more tells = (
          tells.0,
          tells.1,
          tells.2 ++ more,
          tells.3,
          ap (λ (ls : List (List ℕ)). ls ++ more) tells.4 ∙ append_assoc tells.0 (tells.1 ++ (codes "= " ++ tells.3) ∷ tells.2) more
              ∙ ap (λ (ls : List (List ℕ)). tells.0 ++ ls) (append_assoc tells.1 ((codes "= " ++ tells.3) ∷ tells.2) more),
          tells.5,
          tells.6,
          all_still messages told tells.2 more tells.7,
        )
  words_around T E (Err fault) reply messages told after_text first second third fourth before block after = tt
