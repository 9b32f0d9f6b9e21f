use Rattle.ertms_codec.proofs.TextWords.{from_train_split}
use Rattle.rbc_words.proofs.TextLaws.{each_is_encoded, each_encoded_is_described, each_described_is_of_a_message, one_message_each, one_encoding_each, one_wrong_word_each}
use Rattle.rbc_words.proofs.law.text_law.Goals as goal

pub returns-clause-encoded : goal.returns-clause-encoded
returns-clause-encoded c = each_is_encoded

pub returns-clause-described : goal.returns-clause-described
returns-clause-described c = each_encoded_is_described

pub returns-clause-of_a_message : goal.returns-clause-of_a_message
returns-clause-of_a_message c = each_described_is_of_a_message

pub returns-clause-one_message : goal.returns-clause-one_message
returns-clause-one_message c = one_message_each

pub returns-clause-one_encoding : goal.returns-clause-one_encoding
returns-clause-one_encoding c = one_encoding_each

pub returns-clause-one_wrong_word : goal.returns-clause-one_wrong_word
returns-clause-one_wrong_word c = one_wrong_word_each

pub returns-clause-words : goal.returns-clause-words
returns-clause-words c = from_train_split
