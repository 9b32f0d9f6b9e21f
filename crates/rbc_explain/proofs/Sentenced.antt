-- A sentence is one line, and has no mark.
use Rattle.std.proofs.Common.{◌≡◌, ℕ, Bool, true, false, cond, ◌==◌, ◌/◌, ◌%◌, List, ◌++◌, None, codes, decimal, refl, sym, ap, ◌∙◌, append_assoc}
use Rattle.ertms_codec.specs.ToTrain.{spelling_of}
use Rattle.rbc_words.specs.Units.{km_in_metres, km_text}
use Rattle.rbc_settle.specs.declared.sent.Sent.{Sent}
use Rattle.rbc_rule.specs.declared.outcome.Reply.{Reply}
use Rattle.rbc_rule.specs.declared.outcome.Reply.TheVariants.{Done, Refused}
use Rattle.rbc_text.specs.OutputText.{reply_text}
use Rattle.hex.specs.Hex.{encode_upper}
use Rattle.rbc_explain.specs.declared.said.Spot.{Spot}
use Rattle.rbc_explain.specs.declared.said.Spoken.{Spoken}
use Rattle.rbc_explain.specs.declared.said.Spoken.TheVariants.{StopAtOnce, StopBefore, StopRevoked, IdentifierRevoked, Restriction, RestrictionRevoked}
use Rattle.rbc_explain.specs.Sentences.{spot_text, spoken_text, stop_sentence, restriction_sentence, packet_sentence}
use Rattle.rbc_explain.specs.Marked.{ended, IsLine, unmarked}
use Rattle.rbc_explain.proofs.Lines.{line_then, decimal_is_line, upper_is_line}

pub record IsOneLine (sentence : List ℕ) : Type 0 where
  pub line : List ℕ
  pub text : sentence ≡ ended line
  pub single : IsLine line
  pub other : unmarked line ≡ None

km_is_line : (units : ℕ) → IsLine (km_text units)
km_is_line units = by_test (units % 10 == 0) (km_in_metres units) (decimal (units % 10)) metres (decimal_is_line (units % 10)) where
  by_test : (whole : Bool) (metres rest : List ℕ) → IsLine metres → IsLine rest → IsLine (cond whole metres (metres ++ rest))
  by_test true metres rest one two = one
  by_test false metres rest one two = line_then metres rest one two

  d : (n : ℕ) → IsLine (decimal n)
  d = decimal_is_line

  metres : IsLine (km_in_metres units)
  metres =
      line_then (decimal (units / 10000)) (codes "." ++ (decimal (units / 1000 % 10) ++ (decimal (units / 100 % 10) ++ decimal (units / 10 % 10)))) (d (units / 10000))
      (line_then (codes ".") (decimal (units / 1000 % 10) ++ (decimal (units / 100 % 10) ++ decimal (units / 10 % 10))) refl
      (line_then (decimal (units / 1000 % 10)) (decimal (units / 100 % 10) ++ decimal (units / 10 % 10)) (d (units / 1000 % 10))
      (line_then (decimal (units / 100 % 10)) (decimal (units / 10 % 10)) (d (units / 100 % 10)) (d (units / 10 % 10)))))

spot_is_line : (spot : Spot) → IsLine (spot_text spot)
spot_is_line spot = by_test spot.is_before (km_text spot.units) (km_is_line spot.units) where
  by_test : (before : Bool) (km : List ℕ) → IsLine km → IsLine (cond before (codes "-" ++ km) km)
  by_test true km is = line_then (codes "-") km refl is
  by_test false km is = is

-- a text, and one behind it, where the first is known
four : (a b c d : List ℕ) → IsLine a → IsLine b → IsLine c → IsLine d → IsLine (a ++ (b ++ (c ++ d)))
four a b c d one two three last = line_then a (b ++ (c ++ d)) one (line_then b (c ++ d) two (line_then c d three last))

spoken_is_line : (said : Spoken) → IsLine (spoken_text said)
spoken_is_line StopAtOnce = refl
spoken_is_line (StopBefore line place) =
    four (codes "stop before km ") (km_text place) (codes " of line ") (decimal line ++ codes ".") refl (km_is_line place) refl
    (line_then (decimal line) (codes ".") (decimal_is_line line) refl)
spoken_is_line StopRevoked = refl
spoken_is_line (IdentifierRevoked id) =
    line_then (codes "identifier ") (decimal id ++ codes " is revoked.") refl (line_then (decimal id) (codes " is revoked.") (decimal_is_line id) refl)
spoken_is_line (Restriction line from to speed) =
    let end : IsLine (decimal line ++ codes ".") = line_then (decimal line) (codes ".") (decimal_is_line line) refl in
    four (decimal speed) (codes " km/h, km ") (spot_text from) (codes " to km " ++ (spot_text to ++ (codes " of line " ++ (decimal line ++ codes "."))))
    (decimal_is_line speed) refl (spot_is_line from)
    (four (codes " to km ") (spot_text to) (codes " of line ") (decimal line ++ codes ".") refl (spot_is_line to) refl end)
spoken_is_line RestrictionRevoked = refl

-- a line feed behind parts is that behind all of them
then_feed : (a b c z : List ℕ) → a ++ (b ++ (c ++ z)) ≡ (a ++ (b ++ c)) ++ z
then_feed a b c z = sym (append_assoc a (b ++ c) z ∙ ap (λ (t : List ℕ). a ++ t) (append_assoc b c z))

pub stop_is_one_line : (engine number : ℕ) (said : Spoken) → IsOneLine (stop_sentence engine number said)
stop_is_one_line engine number said =
    let end = codes ": " ++ spoken_text said in
    let behind : List ℕ = codes ", for stop " ++ (decimal number ++ end) in
    record {
      line = codes "  To train " ++ (decimal engine ++ behind);
      text = ap (λ (t : List ℕ). codes "  To train " ++ (decimal engine ++ t))
          (ap (λ (t : List ℕ). codes ", for stop " ++ (decimal number ++ t)) (sym (append_assoc (codes ": ") (spoken_text said) (codes "\n"))) ∙ then_feed (codes ", for stop ") (decimal number) end (codes "\n"))
          ∙ then_feed (codes "  To train ") (decimal engine) behind (codes "\n");
      single = line_then (codes "  To train ") (decimal engine ++ behind) refl (line_then (decimal engine) behind (decimal_is_line engine)
          (four (codes ", for stop ") (decimal number) (codes ": ") (spoken_text said) refl (decimal_is_line number) refl (spoken_is_line said)));
      other = refl;
    }

pub restriction_is_one_line : (engine number : ℕ) (said : Spoken) → IsOneLine (restriction_sentence engine number said)
restriction_is_one_line engine number said =
    let end = codes ": " ++ spoken_text said in
    let behind : List ℕ = codes ", for restriction " ++ (decimal number ++ end) in
    record {
      line = codes "  To train " ++ (decimal engine ++ behind);
      text = ap (λ (t : List ℕ). codes "  To train " ++ (decimal engine ++ t))
          (ap (λ (t : List ℕ). codes ", for restriction " ++ (decimal number ++ t)) (sym (append_assoc (codes ": ") (spoken_text said) (codes "\n"))) ∙ then_feed (codes ", for restriction ") (decimal number) end (codes "\n"))
          ∙ then_feed (codes "  To train ") (decimal engine) behind (codes "\n");
      single = line_then (codes "  To train ") (decimal engine ++ behind) refl (line_then (decimal engine) behind (decimal_is_line engine)
          (four (codes ", for restriction ") (decimal number) (codes ": ") (spoken_text said) refl (decimal_is_line number) refl (spoken_is_line said)));
      other = refl;
    }

pub packet_is_one_line : (number : ℕ) (said : Spoken) → IsOneLine (packet_sentence number said)
packet_is_one_line number said =
    let end = codes ": " ++ spoken_text said in
    record {
      line = codes "  For restriction " ++ (decimal number ++ end);
      text = ap (λ (t : List ℕ). codes "  For restriction " ++ (decimal number ++ t)) (sym (append_assoc (codes ": ") (spoken_text said) (codes "\n")))
          ∙ then_feed (codes "  For restriction ") (decimal number) end (codes "\n");
      single = four (codes "  For restriction ") (decimal number) (codes ": ") (spoken_text said) refl (decimal_is_line number) refl (spoken_is_line said);
      other = refl;
    }

-- the lines of an answer

reply_is_line : (reply : Reply) → IsLine (reply_text reply)
reply_is_line (Done sent) = line_then (codes "ok ") (decimal sent) refl (decimal_is_line sent)
reply_is_line (Refused code) = line_then (codes "refused ") (decimal code) refl (decimal_is_line code)

abbrev pub line_of_reply : ℕ → Reply → List ℕ
line_of_reply number reply = decimal number ++ codes " " ++ reply_text reply

pub result_is_line : (number : ℕ) (reply : Reply) → IsLine (line_of_reply number reply)
result_is_line number reply =
    line_then (decimal number ++ codes " ") (reply_text reply) (line_then (decimal number) (codes " ") (decimal_is_line number) refl) (reply_is_line reply)

abbrev pub line_of_sent : ℕ → Sent → List ℕ
line_of_sent number sent = decimal sent.engine ++ codes " " ++ decimal number ++ codes " " ++ encode_upper (spelling_of sent.message)

pub sent_is_line : (number : ℕ) (sent : Sent) → IsLine (line_of_sent number sent)
sent_is_line number sent =
    let e = decimal sent.engine in
    let n = decimal number in
    let engine : IsLine (e ++ codes " ") = line_then e (codes " ") (decimal_is_line sent.engine) refl in
    let input : IsLine (e ++ codes " " ++ n) = line_then (e ++ codes " ") n engine (decimal_is_line number) in
    line_then (e ++ codes " " ++ n ++ codes " ") (encode_upper (spelling_of sent.message)) (line_then (e ++ codes " " ++ n) (codes " ") input refl)
    (upper_is_line (spelling_of sent.message))
