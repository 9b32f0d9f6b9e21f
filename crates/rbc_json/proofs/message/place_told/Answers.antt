use Rattle.rbc_explain.specs.declared.said.Spoken.{Spoken}
use Rattle.rbc_explain.specs.Said.{IsSpokenBy}
use Rattle.rbc_json.proofs.Saying.{place_is, place_found}
use Rattle.rbc_json.proofs.message.place_told.Goals as goal

pub returns-in-Some-clause-is : goal.returns-in-Some-clause-is
returns-in-Some-clause-is c =
    place_is (λ (words : Spoken). IsSpokenBy c.args.track.now c.args.message.now words) c.in-Some.said c.place_in.result c.place_in.ensures c.in-Some.ensures.is

pub returns-in-Some-clause-all : goal.returns-in-Some-clause-all
returns-in-Some-clause-all c = place_found c.args.track.now c.args.message.now c.in-Some.said c.place_in.result c.place_in.ensures c.in-Some.ensures.is
