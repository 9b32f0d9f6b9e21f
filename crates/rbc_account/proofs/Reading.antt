-- Lines that are cut out of what was read.
use Rattle.std.proofs.Common.{◌≡◌, ℕ, ◌+◌, ◌*◌, ◌^◌, ◌<◌, ◌≤◌, Bool, true, false, cond, List, [], ◌∷◌, ◌++◌, length, take, drop, ◌-◌, ◌==◌, Option, Some, None, refl, sym, ap, ◌∙◌, subst, append_assoc, append-nil, length-append, arith}
use Rattle.std.specs.Prelude.{Result, Ok, Err, IsErr, IsErrAnd, not}
use Rattle.std.specs.declared.alloc.AllocError.{AllocError}
use Rattle.std.specs.List.{slice_split, onto_first, position}
use Rattle.std.specs.Io.KnownBytes.{Consumes, IsAtEnd}
use Rattle.std.proofs.lemmas.List.{take_all, length-drop, length-take, drop-drop}
use Rattle.std.proofs.Math.Seq.{drop-length}
use Rattle.std.proofs.lemmas.Bool.Decides.{nat_tests}
use Rattle.rbc_text.specs.BatchText.{is_line_feed, lines_of, without_empty_end}
use Rattle.ertms_codec.proofs.Cuts.{place_found, no_place, split_at_place, split_without_place, split_is_cons}
use Rattle.rbc_text.specs.Calls.{max_calls}
use Rattle.rbc_text.specs.EndedLines.{but_last, joined}
use Rattle.rbc_text.specs.declared.calls.Calls.{Calls}
use Rattle.rbc_text.proofs.LinePieces.{joined_whole, line_more, one_piece_more, but_last_behind, but_one, lines_beyond, no_line_left, line_left}
use Rattle.rbc_account.specs.declared.lines.LineFault.{LineFault}
use Rattle.rbc_account.specs.declared.lines.LineFault.TheVariants.{Read, Memory}
use Rattle.rbc_account.specs.declared.lines.LineReader.{LineReader}
use Rattle.rbc_account.specs.Lines.{IsCut, IsFilled, IsNext, IsRest, left_in, AreCalls, HasRead, IsMidway, AreAllLines, AreEndedLines, AreFirstLines}

-- ---- pieces

-- something is joined
some_joined : (begun : List ℕ) (pieces : List (List ℕ)) → (first : List ℕ) × (more : List (List ℕ)) × (joined begun pieces ≡ first ∷ more)
some_joined begun [] = (begun, [], refl)
some_joined begun (first ∷ more) = (begun ++ first, more, refl)

-- the line that has begun is cut at the first line feed of what is left
pub cut_at : (batch : List ℕ) (lines : List (List ℕ)) (begun left : List ℕ) (at : ℕ) → slice_split is_line_feed batch ≡ lines ++ joined begun (slice_split is_line_feed left)
    → Some at ≡ position is_line_feed left → slice_split is_line_feed batch ≡ (lines ++ (begun ++ take at left) ∷ []) ++ slice_split is_line_feed (drop (at + 1) left)
cut_at batch lines begun left at e found =
    e ∙ line_more lines begun (take at left) (slice_split is_line_feed left) (slice_split is_line_feed (drop (at + 1) left))
    (split_at_place is_line_feed left 0 at (place_found is_line_feed left at found))

-- it goes on behind what is left
pub goes_on_behind : (batch : List ℕ) (lines : List (List ℕ)) (begun left : List ℕ) → slice_split is_line_feed batch ≡ lines ++ joined begun (slice_split is_line_feed left)
    → None ≡ position is_line_feed left → slice_split is_line_feed batch ≡ lines ++ (begun ++ left) ∷ []
goes_on_behind batch lines begun left e none =
    e ∙ ap (λ (pieces : List (List ℕ)). lines ++ joined begun pieces) (split_without_place is_line_feed left (no_place is_line_feed left none))

-- a line that has begun, and nothing behind it
pub nothing_behind : (lines : List (List ℕ)) (begun left : List ℕ) → left ≡ [] → lines ++ joined begun (slice_split is_line_feed left) ≡ lines ++ begun ∷ []
nothing_behind lines begun left none =
    ap (λ (text : List ℕ). lines ++ joined begun (slice_split is_line_feed text)) none ∙ ap (λ (line : List ℕ). lines ++ line ∷ []) (append-nil begun)

-- no byte of a line has begun
pub nothing_begun : (lines : List (List ℕ)) (begun left : List ℕ) → begun ≡ [] → lines ++ joined begun (slice_split is_line_feed left) ≡ lines ++ slice_split is_line_feed left
nothing_begun lines begun left none =
    let some = split_is_cons is_line_feed left in
    ap (λ (line : List ℕ). lines ++ joined line (slice_split is_line_feed left)) none
    ∙ ap (λ (pieces : List (List ℕ)). lines ++ pieces) (joined_whole (slice_split is_line_feed left) some.0 some.1 some.2)

-- the first lines of pieces are the first of all lines
first_of_pieces : (batch : List ℕ) (lines : List (List ℕ)) (first : List ℕ) (more : List (List ℕ)) → slice_split is_line_feed batch ≡ lines ++ first ∷ more
    → (rest : List (List ℕ)) × (lines_of batch ≡ lines ++ rest)
first_of_pieces batch lines first more e =
    let beyond = lines_beyond (slice_split is_line_feed batch) in (
      but_last (first ∷ more) ++ beyond.0,
      beyond.1 ∙ ap (λ (pieces : List (List ℕ)). but_last pieces ++ beyond.0) e
          ∙ ap (λ (front : List (List ℕ)). front ++ beyond.0) (but_last_behind lines first more)
          ∙ append_assoc lines (but_last (first ∷ more)) beyond.0,
    )

-- ---- how many lines there are

without_end_few : (pieces : List (List ℕ)) → length (without_empty_end pieces) ≤ length pieces
without_end_few [] = omega arith
without_end_few ([] ∷ []) = omega arith
without_end_few ([] ∷ next ∷ pieces) = let rest = without_end_few (next ∷ pieces) in omega (arith, rest)
without_end_few ((x ∷ piece) ∷ pieces) = let rest = without_end_few pieces in omega (arith, rest)

split_few : (x : ℕ) (feed : Bool) (pieces : List (List ℕ)) (n : ℕ) → 1 ≤ length pieces → length pieces ≤ n + 1
    → length (cond feed ([] ∷ pieces) (onto_first x pieces)) ≤ n + 1 + 1
split_few x true pieces n some few = omega (arith, few)
split_few x false [] n some few = absurd (omega (arith, some))
split_few x false (piece ∷ pieces) n some few = omega (arith, few)

some_pieces : (text : List ℕ) → 1 ≤ length (slice_split is_line_feed text)
some_pieces text =
    let some = split_is_cons is_line_feed text in
    let count : length (slice_split is_line_feed text) ≡ length (some.0 ∷ some.1) = ap (λ (ps : List (List ℕ)). length ps) some.2 in
    omega (arith, count)

pieces_few : (text : List ℕ) → length (slice_split is_line_feed text) ≤ length text + 1
pieces_few [] = omega arith
pieces_few (x ∷ text) =
    let some : 1 ≤ length (slice_split is_line_feed text) = some_pieces text in
    let rest = split_few x (is_line_feed x) (slice_split is_line_feed text) (length text) some (pieces_few text) in
    omega (arith, rest)

-- the lines that were given can be counted
pub first_few : (batch : List ℕ) (calls : Calls) (lines more : List (List ℕ)) → AreCalls calls batch → lines_of batch ≡ lines ++ more → length lines + 2 < 2 ^ 64
first_few batch calls lines more are e =
    let all : length (lines_of batch) ≡ length (lines ++ more) = ap (λ (ls : List (List ℕ)). length ls) e in
    let sum : length (lines ++ more) ≡ length lines + length more = length-append lines more in
    let pieces : length (lines_of batch) ≤ length (slice_split is_line_feed batch) = without_end_few (slice_split is_line_feed batch) in
    let bytes : length (slice_split is_line_feed batch) ≤ length batch + 1 = pieces_few batch in
    let few = are.few in
    let short = are.short in
    omega (arith, all, sum, pieces, bytes, few, short)

-- ---- what was given

-- lines that were given are the first of what was read
pub given_first : (old new : Option (List ℕ)) (reader : LineReader) (lines : List (List ℕ)) (is : HasRead old new reader lines)
    → (more : List (List ℕ)) × (lines_of is.batch ≡ lines ++ more)
given_first old new reader lines is = by reader.ended is.rest where
  by : (ended : Bool) → IsRest ended new is.batch lines (left_in reader) → (more : List (List ℕ)) × (lines_of is.batch ≡ lines ++ more)
  by false rest =
      let some = split_is_cons is_line_feed (left_in reader) in
      first_of_pieces is.batch lines some.0 some.1 (rest ∙ ap (λ (pieces : List (List ℕ)). lines ++ pieces) some.2)
  by true rest = ([], rest.1 ∙ sym (append-nil lines))

pub are_first : (old new : Option (List ℕ)) (reader : LineReader) (lines : List (List ℕ)) → HasRead old new reader lines → AreFirstLines old new lines
are_first old new reader lines is = let first = given_first old new reader lines is in (is.batch, first.0, is.read, first.1)

pub few_given : (old new : Option (List ℕ)) (reader : LineReader) (lines : List (List ℕ)) → HasRead old new reader lines → length lines + 2 < 2 ^ 64
few_given old new reader lines is = let first = given_first old new reader lines is in first_few is.batch reader.calls lines first.0 is.calls first.1

-- the lines before one that has begun are the first of what was read
pub midway_first : (old new : Option (List ℕ)) (reader : LineReader) (lines : List (List ℕ)) → IsMidway old new reader lines → AreFirstLines old new lines
midway_first old new reader lines is =
    let some = some_joined reader.line.items (slice_split is_line_feed (left_in reader)) in
    let first = first_of_pieces is.batch lines some.0 some.1 (is.rest ∙ ap (λ (pieces : List (List ℕ)). lines ++ pieces) some.2) in
    (is.batch, first.0, is.read, first.1)

-- ---- the piece

-- what is left of the piece, as a slice
pub slice_left : (whole piece : List ℕ) (at : ℕ) → whole ≡ piece → take (length whole - at) (drop at whole) ≡ drop at piece
slice_left whole piece at same = take_all _ _ (omega (arith, length-drop at whole)) ∙ ap (λ (text : List ℕ). drop at text) same

-- a line was cut
pub cut_found : (old new : Option (List ℕ)) (before after : LineReader) (lines : List (List ℕ)) (at : ℕ) (left : List ℕ) → left ≡ left_in before → IsMidway old new before lines
    → Some at ≡ position is_line_feed left → after.calls ≡ before.calls → after.piece.items ≡ before.piece.items → after.ended ≡ before.ended → after.at ≡ before.at + (at + 1)
    → after.line.items ≡ before.line.items ++ take at left → HasRead old new after (lines ++ after.line.items ∷ []) × (after.ended ≡ false)
cut_found old new before after lines at left shown is found calls piece ended place line =
    let here = subst (λ (text : List ℕ). Some at ≡ position is_line_feed text) shown found in
    let rest : left_in after ≡ drop (at + 1) (left_in before) =
    ap (λ (n : ℕ). drop n after.piece.items) place ∙ ap (λ (text : List ℕ). drop (before.at + (at + 1)) text) piece ∙ sym (drop-drop (at + 1) before.at before.piece.items) in
    let begun : after.line.items ≡ before.line.items ++ take at (left_in before) = line ∙ ap (λ (text : List ℕ). before.line.items ++ take at text) shown in
    let split = cut_at is.batch lines before.line.items (left_in before) at is.rest here
    ∙ ap (λ (text : List ℕ). (lines ++ text ∷ []) ++ slice_split is_line_feed (drop (at + 1) (left_in before))) (sym begun)
    ∙ ap (λ (text : List ℕ). (lines ++ after.line.items ∷ []) ++ slice_split is_line_feed text) (sym rest) in
    let on : after.ended ≡ false = ended ∙ is.on in (
      record {
        batch = is.batch;
        read = is.read;
        calls = subst (λ (c : Calls). AreCalls c is.batch) (sym calls) is.calls;
        rest = subst (λ (b : Bool). IsRest b new is.batch (lines ++ after.line.items ∷ []) (left_in after)) (sym on) split;
      },
      on,
    )

-- all that is left was added
pub cut_all : (old new : Option (List ℕ)) (before after : LineReader) (lines : List (List ℕ)) (left : List ℕ) → left ≡ left_in before → IsMidway old new before lines
    → None ≡ position is_line_feed left → after.calls ≡ before.calls → after.piece.items ≡ before.piece.items → after.ended ≡ before.ended → after.at ≡ length before.piece.items
    → after.line.items ≡ before.line.items ++ left → IsMidway old new after lines × (left_in after ≡ [])
cut_all old new before after lines left shown is none calls piece ended place line =
    let nowhere = subst (λ (text : List ℕ). None ≡ position is_line_feed text) shown none in
    let over : left_in after ≡ [] = ap (λ (n : ℕ). drop n after.piece.items) place ∙ ap (λ (text : List ℕ). drop (length before.piece.items) text) piece ∙ drop-length before.piece.items in
    let begun : after.line.items ≡ before.line.items ++ left_in before = line ∙ ap (λ (text : List ℕ). before.line.items ++ text) shown in (
      record {
        batch = is.batch;
        read = is.read;
        calls = subst (λ (c : Calls). AreCalls c is.batch) (sym calls) is.calls;
        on = ended ∙ is.on;
        rest = goes_on_behind is.batch lines before.line.items (left_in before) is.rest nowhere
            ∙ ap (λ (text : List ℕ). lines ++ text ∷ []) (sym begun)
            ∙ sym (nothing_behind lines after.line.items (left_in after) over);
      },
      over,
    )

-- ---- one piece more

more_bytes : (made bytes more next : ℕ) → bytes ≤ 65536 * made → more ≤ 65536 → made + 1 ≤ next → bytes + more ≤ 65536 * next
more_bytes made bytes more next few one e = omega (arith, few, one, e)

same_left : (before after : LineReader) → after.piece.items ≡ before.piece.items → after.at ≡ before.at → left_in after ≡ left_in before
same_left before after piece place = ap (λ (n : ℕ). drop n after.piece.items) place ∙ ap (λ (text : List ℕ). drop before.at text) piece

-- the first bytes of a piece are few
pub take_few : (count : ℕ) (piece : List ℕ) → count ≤ 65536 → length (take count piece) ≤ 65536
take_few count piece few = let cut = length-take count piece in omega (arith, cut, few)

-- a piece was read behind the line that has begun
pub piece_read : (old mid new : Option (List ℕ)) (before after : LineReader) (lines : List (List ℕ)) (piece : List ℕ) (is : IsMidway old mid before lines) → left_in before ≡ [] → Consumes old new (is.batch ++ piece)
    → length piece ≤ 65536 → before.calls.made + 1 ≤ after.calls.made → after.calls.failed ≡ false → after.calls.made ≤ max_calls → after.line.items ≡ before.line.items → after.ended ≡ before.ended
    → left_in after ≡ piece → IsMidway old new after lines
piece_read old mid new before after lines piece is none read short made sound few line ended left =
    let whole = length-append is.batch piece in
    let bytes = more_bytes before.calls.made (length is.batch) (length piece) after.calls.made is.calls.short short made in
    record {
      batch = is.batch ++ piece;
      read = read;
      calls = record { sound = sound; few = few; short = omega (arith, whole, bytes) };
      on = ended ∙ is.on;
      rest = one_piece_more is_line_feed is.batch piece lines before.line.items (is.rest ∙ nothing_behind lines before.line.items (left_in before) none)
          ∙ ap (λ (text : List ℕ). lines ++ joined text (slice_split is_line_feed piece)) (sym line)
          ∙ ap (λ (text : List ℕ). lines ++ joined after.line.items (slice_split is_line_feed text)) (sym left);
    }

-- the lines before it are the first of what was read, with the piece
pub first_with_piece : (old mid new : Option (List ℕ)) (before : LineReader) (lines : List (List ℕ)) (piece : List ℕ) (is : IsMidway old mid before lines) → left_in before ≡ [] → Consumes old new (is.batch ++ piece)
    → AreFirstLines old new lines
first_with_piece old mid new before lines piece is none read =
    let some = some_joined before.line.items (slice_split is_line_feed piece) in
    let first = first_of_pieces (is.batch ++ piece) lines some.0 some.1
    (one_piece_more is_line_feed is.batch piece lines before.line.items (is.rest ∙ nothing_behind lines before.line.items (left_in before) none)
    ∙ ap (λ (pieces : List (List ℕ)). lines ++ pieces) some.2) in
    (is.batch ++ piece, first.0, read, first.1)

pub nothing_read : (old mid new : Option (List ℕ)) (before after : LineReader) (lines : List (List ℕ)) (is : IsMidway old mid before lines) → Consumes old new is.batch
    → before.calls.made + 1 ≤ after.calls.made → after.calls.failed ≡ false → after.calls.made ≤ max_calls → after.line.items ≡ before.line.items → after.ended ≡ before.ended
    → after.piece.items ≡ before.piece.items → after.at ≡ before.at → IsMidway old new after lines
nothing_read old mid new before after lines is read made sound few line ended piece place =
    let bytes = more_bytes before.calls.made (length is.batch) 0 after.calls.made is.calls.short (omega arith) made in
    record {
      batch = is.batch;
      read = read;
      calls = record { sound = sound; few = few; short = omega (arith, bytes) };
      on = ended ∙ is.on;
      rest = is.rest ∙ ap (λ (text : List ℕ). lines ++ joined text (slice_split is_line_feed (left_in before))) (sym line)
          ∙ ap (λ (text : List ℕ). lines ++ joined after.line.items (slice_split is_line_feed text)) (sym (same_left before after piece place));
    }

-- all that had ended was given
pub ended_read : (old mid new : Option (List ℕ)) (before : LineReader) (lines : List (List ℕ)) (is : IsMidway old mid before lines) → left_in before ≡ [] → Consumes old new is.batch → AreEndedLines old new lines
ended_read old mid new before lines is none read =
    (is.batch, read, ap but_last (is.rest ∙ nothing_behind lines before.line.items (left_in before) none) ∙ but_one lines before.line.items)

-- ---- the end

-- the line has begun
pub line_begun : (old new : Option (List ℕ)) (before after : LineReader) (lines : List (List ℕ)) → HasRead old new before lines → before.ended ≡ false
    → after.calls ≡ before.calls → after.piece.items ≡ before.piece.items → after.ended ≡ before.ended → after.at ≡ before.at → after.line.items ≡ [] → IsMidway old new after lines
line_begun old new before after lines is on calls piece ended place none =
    let left : left_in after ≡ left_in before = ap (λ (n : ℕ). drop n after.piece.items) place ∙ ap (λ (text : List ℕ). drop before.at text) piece in
    let rest = subst (λ (b : Bool). IsRest b new is.batch lines (left_in before)) on is.rest in
    record {
      batch = is.batch;
      read = is.read;
      calls = subst (λ (c : Calls). AreCalls c is.batch) (sym calls) is.calls;
      on = ended ∙ on;
      rest = rest ∙ ap (λ (text : List ℕ). lines ++ slice_split is_line_feed text) (sym left) ∙ sym (nothing_begun lines after.line.items (left_in after) none);
    }

-- the reader has ended, and no line has begun, or one has
pub none_last : (old new : Option (List ℕ)) (before after : LineReader) (lines : List (List ℕ)) → IsMidway old new before lines → left_in before ≡ [] → IsAtEnd new
    → after.calls ≡ before.calls → after.ended ≡ true → before.line.items ≡ [] → HasRead old new after lines × (after.ended ≡ true)
none_last old new before after lines is none end calls ended nothing = (
  record {
    batch = is.batch;
    read = is.read;
    calls = subst (λ (c : Calls). AreCalls c is.batch) (sym calls) is.calls;
    rest = subst (λ (b : Bool). IsRest b new is.batch lines (left_in after)) (sym ended)
        (end, ap without_empty_end (is.rest ∙ nothing_behind lines before.line.items (left_in before) none) ∙ no_line_left lines before.line.items nothing);
  },
  ended,
)

pub one_last : (old new : Option (List ℕ)) (before after : LineReader) (lines : List (List ℕ)) → IsMidway old new before lines → left_in before ≡ [] → IsAtEnd new
    → after.calls ≡ before.calls → after.ended ≡ true → 1 ≤ length before.line.items → after.line.items ≡ before.line.items → HasRead old new after (lines ++ after.line.items ∷ [])
one_last old new before after lines is none end calls ended some line = record {
  batch = is.batch;
  read = is.read;
  calls = subst (λ (c : Calls). AreCalls c is.batch) (sym calls) is.calls;
  rest = subst (λ (b : Bool). IsRest b new is.batch (lines ++ after.line.items ∷ []) (left_in after)) (sym ended) (
    end,
    ap without_empty_end (is.rest ∙ nothing_behind lines before.line.items (left_in before) none) ∙ line_left lines before.line.items some
        ∙ ap (λ (text : List ℕ). lines ++ text ∷ []) (sym line),
  );
}

-- all lines were given
pub all_given : (old new : Option (List ℕ)) (reader : LineReader) (lines : List (List ℕ)) → HasRead old new reader lines → reader.ended ≡ true → AreAllLines old new lines
all_given old new reader lines is ended =
    let rest = subst (λ (b : Bool). IsRest b new is.batch lines (left_in reader)) ended is.rest in
    (is.batch, is.read, rest.0, rest.1)

-- ---- faults

-- memory was refused for the line that has begun
pub refused_midway : (old new : Option (List ℕ)) (before after : LineReader) (lines : List (List ℕ)) (r : Result Bool AllocError) → IsErr r → IsMidway old new before lines → IsCut old new after lines r
refused_midway old new before after lines (Ok done) bad is = let never : false ≡ true = bad in cc
refused_midway old new before after lines (Err refused) bad is = midway_first old new before lines is

-- memory was refused for the piece
pub refused_piece : (old new : Option (List ℕ)) (after : LineReader) (lines : List (List ℕ)) (r : Result Bool LineFault) → IsErrAnd r (λ fault. fault ≡ Memory) → AreFirstLines old new lines
    → IsFilled old new after lines r
refused_piece old new after lines (Ok done) bad are = absurd bad
refused_piece old new after lines (Err fault) same are = subst (λ (f : LineFault). IsFilled old new after lines (Err f)) (sym same) are

pub refused_line : (old new : Option (List ℕ)) (after : LineReader) (lines : List (List ℕ)) (r : Result Bool LineFault) → IsErrAnd r (λ fault. fault ≡ Memory) → AreFirstLines old new lines
    → IsNext old new after lines r
refused_line old new after lines (Ok done) bad are = absurd bad
refused_line old new after lines (Err fault) same are = subst (λ (f : LineFault). IsNext old new after lines (Err f)) (sym same) are

-- a fault of reading a piece is handed on
fault_of : (old new : Option (List ℕ)) (after : LineReader) (lines : List (List ℕ)) (fault : LineFault) → IsFilled old new after lines (Err fault) → IsNext old new after lines (Err fault)
fault_of old new after lines Read is = is
fault_of old new after lines Memory is = is

pub handed_on : (old new : Option (List ℕ)) (after : LineReader) (lines : List (List ℕ)) (r : Result Bool LineFault) (fault : LineFault) → IsErrAnd r (λ other. other ≡ fault)
    → IsFilled old new after lines (Err fault) → IsNext old new after lines r
handed_on old new after lines (Ok done) fault bad is = absurd bad
handed_on old new after lines (Err other) fault same is = subst (λ (f : LineFault). IsNext old new after lines (Err f)) (sym same) (fault_of old new after lines fault is)

-- ---- by what a call returned

-- no line feed was found
pub not_cut : (old new : Option (List ℕ)) (after : LineReader) (lines : List (List ℕ)) (found : Bool) → found ≡ false → IsCut old new after lines (Ok found)
    → IsMidway old new after lines × (left_in after ≡ [])
not_cut old new after lines true bad is = cc
not_cut old new after lines false e is = is

pub was_cut : (old new : Option (List ℕ)) (after : LineReader) (lines : List (List ℕ)) (found : Bool) → found ≡ true → IsCut old new after lines (Ok found)
    → IsNext old new after lines (Ok true)
was_cut old new after lines true e is = is.0
was_cut old new after lines false bad is = cc

-- whether a line has no byte
no_byte : (text : List ℕ) → (length text == 0) ≡ true → text ≡ []
no_byte [] e = refl
no_byte (x ∷ text) e = grind (arith, nat_tests)

some_byte : (text : List ℕ) → (length text == 0) ≡ false → 1 ≤ length text
some_byte [] e = grind (arith, nat_tests)
some_byte (x ∷ text) e = omega arith

pub bare_line : (bare : Bool) (text line : List ℕ) → bare ≡ (length text == 0) → text ≡ line → (bare ≡ true → line ≡ []) × (bare ≡ false → 1 ≤ length line)
bare_line bare text line is same = (λ e. sym same ∙ no_byte text (sym is ∙ e), λ e. subst (λ (t : List ℕ). 1 ≤ length t) same (some_byte text (sym is ∙ e)))

-- a piece was read, or the reader has ended
pub was_filled : (old new : Option (List ℕ)) (after : LineReader) (lines : List (List ℕ)) (more : Bool) → more ≡ true → IsFilled old new after lines (Ok more) → IsMidway old new after lines
was_filled old new after lines true e is = is
was_filled old new after lines false bad is = cc

pub has_ended : (old new : Option (List ℕ)) (before after : LineReader) (lines : List (List ℕ)) (more none : Bool) → more ≡ false → IsFilled old new before lines (Ok more)
    → after.calls ≡ before.calls → after.ended ≡ true → after.line.items ≡ before.line.items → (none ≡ true → before.line.items ≡ []) → (none ≡ false → 1 ≤ length before.line.items)
    → IsNext old new after lines (Ok (not none))
has_ended old new before after lines true none bad is calls ended line nothing some = cc
has_ended old new before after lines false true e is calls ended line nothing some = none_last old new before after lines is.0 is.1 is.2 calls ended (nothing refl)
has_ended old new before after lines false false e is calls ended line nothing some = one_last old new before after lines is.0 is.1 is.2 calls ended (some refl) line

-- ---- what a call of `advance` gave

-- one line more
pub line_given : (old new : Option (List ℕ)) (reader : LineReader) (lines : List (List ℕ)) (found : Bool) → found ≡ true → IsNext old new reader lines (Ok found)
    → HasRead old new reader (lines ++ reader.line.items ∷ [])
line_given old new reader lines true e is = is
line_given old new reader lines false bad is = cc

-- no line more
pub none_given : (old new : Option (List ℕ)) (reader : LineReader) (lines : List (List ℕ)) (found : Bool) → found ≡ false → IsNext old new reader lines (Ok found) → AreAllLines old new lines
none_given old new reader lines true bad is = cc
none_given old new reader lines false e is = all_given old new reader lines is.0 is.1

pub few_at_end : (old new : Option (List ℕ)) (reader : LineReader) (lines : List (List ℕ)) (found : Bool) → found ≡ false → IsNext old new reader lines (Ok found) → length lines + 2 < 2 ^ 64
few_at_end old new reader lines true bad is = cc
few_at_end old new reader lines false e is = few_given old new reader lines is.0

-- no line more, so far as the reader of lines goes
pub over_given : (old new : Option (List ℕ)) (reader : LineReader) (lines : List (List ℕ)) (found : Bool) → found ≡ false → IsNext old new reader lines (Ok found)
    → HasRead old new reader lines × (reader.ended ≡ true)
over_given old new reader lines true bad is = cc
over_given old new reader lines false e is = is

-- the line under another name
pub given_as : (old new : Option (List ℕ)) (reader : LineReader) (lines : List (List ℕ)) (line : List ℕ) → line ≡ reader.line.items → HasRead old new reader (lines ++ reader.line.items ∷ [])
    → HasRead old new reader (lines ++ line ∷ [])
given_as old new reader lines line same has = subst (λ (text : List ℕ). HasRead old new reader (lines ++ text ∷ [])) (sym same) has

-- a fault
pub read_given : (old new : Option (List ℕ)) (reader : LineReader) (lines : List (List ℕ)) (fault : LineFault) → fault ≡ Read → IsNext old new reader lines (Err fault) → AreEndedLines old new lines
read_given old new reader lines Read e is = is.0
read_given old new reader lines Memory bad is = let never : Memory ≡ Read = bad in absurd cc

pub refused_given : (old new : Option (List ℕ)) (reader : LineReader) (lines : List (List ℕ)) (fault : LineFault) → fault ≡ Memory → IsNext old new reader lines (Err fault)
    → AreFirstLines old new lines
refused_given old new reader lines Read bad is = let never : Read ≡ Memory = bad in absurd cc
refused_given old new reader lines Memory e is = is
