use Rattle.std.proofs.Common.{◌≡◌, ◌<◌, ◌^◌, take, true}
use Rattle.std.specs.List.{list_all}
use Rattle.rbc_text.specs.BatchText.{is_digit, value_of}
use Rattle.rbc_text.proofs.words.decimal.Given as goal

abbrev pub invariant-loop-digit : goal.invariant-loop-digit
invariant-loop-digit l = record {
  value : l.value ≡ value_of (take l.digit-index l.word);
  digits : list_all is_digit (take l.digit-index l.word) ≡ true;
  small : l.value < 10 ^ l.digit-index;
}
