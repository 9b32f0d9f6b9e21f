-- The `==` of fields.
use Rattle.std.proofs.Common.{◌≡◌, ◌&&◌, Bool, List, Decides, eqb, int_eq, ap, refl, rules}
use Rattle.std.proofs.lemmas.Bool.Decides.{Decides-eqb, Decides-int_eq, Decides-and, Decides-like}
use Rattle.std.specs.Cmp.Lexicographic.{pointwise}
use Rattle.std.proofs.lemmas.Slice.Eq.{slice_eq-Decides}
use Rattle.ertms_c.specs.declared.to_train.PacketFields.{PacketFields}
use Rattle.ertms_c.specs.declared.to_train.ToTrainFields.{ToTrainFields}
use Rattle.ertms_c.specs.declared.from_train.FromTrainFields.{FromTrainFields}
use Rattle.ertms_c.specs.contracts.from_train.FromTrainFieldsPartialEq.TheImpl as from_train
use Rattle.ertms_c.specs.contracts.to_train.PacketFieldsPartialEq.TheImpl as packet
use Rattle.ertms_c.specs.contracts.to_train.ToTrainFieldsPartialEq.TheImpl as message

-- it tells equal ones from others
packet_eq : (a b : PacketFields) → Decides (packet.eq-value.it a b) (a ≡ b)
packet_eq a b = search rules

packets_eq : (xs ys : List PacketFields) → Decides (pointwise packet.eq-value.it xs ys) (xs ≡ ys)
packets_eq xs ys = slice_eq-Decides packet_eq xs ys _ refl

by_packets : (a b : ToTrainFields) (same : Bool) → Decides same (a.packets ≡ b.packets)
    → Decides (eqb a.kind b.kind && (eqb a.ack b.ack && (eqb a.id b.id && (eqb a.scale b.scale && (eqb a.dir b.dir && (int_eq a.reference b.reference && (eqb a.distance b.distance && (eqb a.stamp b.stamp && (eqb a.lrbg b.lrbg && (eqb a.count b.count && same)))))))))) (a ≡ b)
by_packets a b same decides =
    Decides-like _
    (λ e i. record { kind = e.0 i; ack = e.1.0 i; id = e.1.1.0 i; scale = e.1.1.1.0 i; dir = e.1.1.1.1.0 i; reference = e.1.1.1.1.1.0 i; distance = e.1.1.1.1.1.1.0 i; stamp = e.1.1.1.1.1.1.1.0 i; lrbg = e.1.1.1.1.1.1.1.1.0 i; count = e.1.1.1.1.1.1.1.1.1.0 i; packets = e.1.1.1.1.1.1.1.1.1.1 i })
    (λ e. (ap (λ (f : ToTrainFields). f.kind) e, (ap (λ (f : ToTrainFields). f.ack) e, (ap (λ (f : ToTrainFields). f.id) e, (ap (λ (f : ToTrainFields). f.scale) e, (ap (λ (f : ToTrainFields). f.dir) e, (ap (λ (f : ToTrainFields). f.reference) e, (ap (λ (f : ToTrainFields). f.distance) e, (ap (λ (f : ToTrainFields). f.stamp) e, (ap (λ (f : ToTrainFields). f.lrbg) e, (ap (λ (f : ToTrainFields). f.count) e, ap (λ (f : ToTrainFields). f.packets) e)))))))))))
    (Decides-and _ _ (Decides-eqb a.kind b.kind) (Decides-and _ _ (Decides-eqb a.ack b.ack) (Decides-and _ _ (Decides-eqb a.id b.id) (Decides-and _ _ (Decides-eqb a.scale b.scale) (Decides-and _ _ (Decides-eqb a.dir b.dir) (Decides-and _ _ (Decides-int_eq a.reference b.reference) (Decides-and _ _ (Decides-eqb a.distance b.distance) (Decides-and _ _ (Decides-eqb a.stamp b.stamp) (Decides-and _ _ (Decides-eqb a.lrbg b.lrbg) (Decides-and _ _ (Decides-eqb a.count b.count) decides))))))))))

pub message_eq : (a b : ToTrainFields) → Decides (message.eq-value.it a b) (a ≡ b)
message_eq a b = by_packets a b (pointwise packet.eq-value.it a.packets b.packets) (packets_eq a.packets b.packets)

-- the fields of a message from a train
pub from_train_eq : (a b : FromTrainFields) → Decides (from_train.eq-value.it a b) (a ≡ b)
from_train_eq a b =
    Decides-like _
    (λ e i. record { kind = e.0 i; id = e.1.0 i; answer = e.1.1.0 i; packet = e.1.1.1.0 i; scale = e.1.1.1.1.0 i; dir = e.1.1.1.1.1.0 i; side = e.1.1.1.1.1.1.0 i; distance = e.1.1.1.1.1.1.1.0 i; over = e.1.1.1.1.1.1.1.1.0 i; under = e.1.1.1.1.1.1.1.1.1.0 i; stamp = e.1.1.1.1.1.1.1.1.1.1.0 i; engine = e.1.1.1.1.1.1.1.1.1.1.1.0 i; acked = e.1.1.1.1.1.1.1.1.1.1.1.1.0 i; lrbg = e.1.1.1.1.1.1.1.1.1.1.1.1.1.0 i; previous = e.1.1.1.1.1.1.1.1.1.1.1.1.1.1 i })
    (λ e. (ap (λ (f : FromTrainFields). f.kind) e, (ap (λ (f : FromTrainFields). f.id) e, (ap (λ (f : FromTrainFields). f.answer) e, (ap (λ (f : FromTrainFields). f.packet) e, (ap (λ (f : FromTrainFields). f.scale) e, (ap (λ (f : FromTrainFields). f.dir) e, (ap (λ (f : FromTrainFields). f.side) e, (ap (λ (f : FromTrainFields). f.distance) e, (ap (λ (f : FromTrainFields). f.over) e, (ap (λ (f : FromTrainFields). f.under) e, (ap (λ (f : FromTrainFields). f.stamp) e, (ap (λ (f : FromTrainFields). f.engine) e, (ap (λ (f : FromTrainFields). f.acked) e, (ap (λ (f : FromTrainFields). f.lrbg) e, ap (λ (f : FromTrainFields). f.previous) e)))))))))))))))
    (Decides-and _ _ (Decides-eqb a.kind b.kind) (Decides-and _ _ (Decides-eqb a.id b.id) (Decides-and _ _ (Decides-eqb a.answer b.answer) (Decides-and _ _ (Decides-eqb a.packet b.packet) (Decides-and _ _ (Decides-eqb a.scale b.scale) (Decides-and _ _ (Decides-eqb a.dir b.dir) (Decides-and _ _ (Decides-eqb a.side b.side) (Decides-and _ _ (Decides-eqb a.distance b.distance) (Decides-and _ _ (Decides-eqb a.over b.over) (Decides-and _ _ (Decides-eqb a.under b.under) (Decides-and _ _ (Decides-eqb a.stamp b.stamp) (Decides-and _ _ (Decides-eqb a.engine b.engine) (Decides-and _ _ (Decides-eqb a.acked b.acked) (Decides-and _ _ (Decides-eqb a.lrbg b.lrbg) (Decides-eqb a.previous b.previous)))))))))))))))
