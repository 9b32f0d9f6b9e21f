use Rattle.rbc_json.proofs.Listing.{list_added}
use Rattle.rbc_json.proofs.list.ListText.add.Goals as goal

pub returns : goal.returns
returns g c = λ values added is shown.
    list_added c.write.result values added c.args.self.now _ _ (g.T.Display.output c.args.value.now) c.in_ok-push_comma.ensures.text c.in_ok-push_comma.ensures.begun c.write.ensures.bytes is shown
