use Rattle.std.proofs.Common.{◌+◌, refl, arith}
use Rattle.ertms_codec.specs.RefusalsFromTrain.{shift_in}
use Rattle.ertms_codec.proofs.Places.{takes_first, takes_second, takes_at, takes_to}
use Rattle.ertms_codec.proofs.position_reader.variables.Goals as goal

pub returns-clause-value : goal.returns-clause-value
returns-clause-value c packet group number =
    let shift = shift_in packet in
    let scale = takes_at packet 21 refl (takes_first 2 24 c.apart-scale.ensures.0 group) in
    let lrbg = takes_at packet 23 scale.1 (takes_second 2 24 c.apart-scale.ensures.1 group) in
    let previous = c.previous_group-previous.ensures.value packet lrbg.1 number in
    let to_under = c.next_two-to_under.ensures.first in
    let to_over = takes_first 34 15 c.apart-to_over.ensures.0 to_under in
    let to_side = takes_first 19 15 c.apart-to_side.ensures.0 to_over in
    let to_dir = takes_first 17 2 c.apart-to_dir.ensures.0 to_side in
    let distance = takes_to packet (47 + shift) (62 + shift) (omega arith) previous.1 (takes_first 15 2 c.apart-distance.ensures.0 to_dir) in
    let dir = takes_to packet (62 + shift) (64 + shift) (omega arith) distance.1 (takes_second 15 2 c.apart-distance.ensures.1 to_dir) in
    let side = takes_to packet (64 + shift) (66 + shift) (omega arith) dir.1 (takes_second 17 2 c.apart-to_dir.ensures.1 to_side) in
    let over = takes_to packet (66 + shift) (81 + shift) (omega arith) side.1 (takes_second 19 15 c.apart-to_side.ensures.1 to_over) in
    let under = takes_to packet (81 + shift) (96 + shift) (omega arith) over.1 (takes_second 34 15 c.apart-to_over.ensures.1 to_under) in
    (rw (previous.0, scale.0, lrbg.0, distance.0, dir.0, side.0, over.0, under.0), rw (← under.1) c.next_two-to_under.ensures.second)
