use Rattle.rbc_json.proofs.Listing.{whole_list}
use Rattle.rbc_json.proofs.list.ListText.ended.Goals as goal

pub returns : goal.returns
returns c = λ values is. whole_list values c.args.self _ is c.in_ok-push_str.ensures.bytes
