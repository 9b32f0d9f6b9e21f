use Rattle.std.proofs.Common.{◌≡◌, ℕ, [], ◌∷◌, ◌++◌, arith, length, subst, take}
use Rattle.std.proofs.lemmas.Result.{IfOk-weaker}
use Rattle.rbc_json.specs.Packets.{ArePackets, IsOfPacket}
use Rattle.rbc_json.proofs.Together.{together_more, together_all}
use Rattle.rbc_json.proofs.packet.packets_text.Goals as goal

pub loop-index-preserved : goal.loop-index-preserved
loop-index-preserved c =
    let before = c.loop-index.invariant in
    let added = c.in_ok-push_packet.ensures before.0 before.1 in (
      before.0 ++ added.0 ∷ [],
      added.1,
      together_more (IsOfPacket c.args.track.now c.args.lrbg) c.args.packets.now c.args.all.now before.0 c.loop-index.index c.at.result c.element.result added.0
          c.at.ensures c.element.ensures before.2 added.2,
    )

pub returns : goal.returns
returns c =
    let all = c.loop-index.invariant in
    let low = c.loop-index-test.false in
    let high = c.loop-index.auto.index-end in
    let count = c.count-index-end.ensures.count in
    let end : c.loop-index.index ≡ length c.args.packets.now = omega (arith, low, high, count) in
    let whole = subst (λ (n : ℕ). ArePackets c.args.track.now c.args.lrbg (take n c.args.packets.now) (take n c.args.all.now) all.0) end all.2 in
    IfOk-weaker c.ended.result _ _
    (λ text is. (all.0, together_all (IsOfPacket c.args.track.now c.args.lrbg) c.args.packets.now c.args.all.now all.0 c.requires whole, is))
    (c.ended.ensures all.0 all.1)
