use Rattle.rbc_words.proofs.Refused.{refused_to_train}
use Rattle.rbc_words.proofs.decode.text_to_train.Goals as goal

-- what is refused is spelled by no message
pub returns-in-Err-Decode : goal.returns-in-Err-Decode
returns-in-Err-Decode c = λ text says.
    refused_to_train c.args.bytes.now says.0 c.read_to_train.result c.in-Err-Decode.field-0 c.in-Err-Decode.field-0-0 c.in-Err-Decode.is c.in-Err-Decode.field-0-is (c.read_to_train.ensures.only says.0 says.1)
