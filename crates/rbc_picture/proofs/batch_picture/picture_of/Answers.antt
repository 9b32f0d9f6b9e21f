use Rattle.std.proofs.Common.{◌∙◌, map, ap, string_bytes}
use Rattle.rbc_live.specs.Known.{train_in}
use Rattle.rbc_picture.specs.Trains.{known_trains, train_shown}
use Rattle.rbc_picture.specs.NotDrawn.{LacksNow}
use Rattle.rbc_picture.proofs.Failing.{memory_fails, fault_fails}
use Rattle.rbc_picture.proofs.Knowing.{trains_known, drawn_of, fails_of}
use Rattle.rbc_picture.proofs.batch_picture.picture_of.Goals as goal

pub returns-in_err-standing-clause-fails : goal.returns-in_err-standing-clause-fails
returns-in_err-standing-clause-fails c =
    memory_fails (LacksNow c.args.selection.now c.args.account.now.desk.track.horizon c.args.account.now.desk.records) _ c.from_residual.ensures.1

pub returns-in_err-trains-clause-fails : goal.returns-in_err-trains-clause-fails
returns-in_err-trains-clause-fails c =
    memory_fails (LacksNow c.args.selection.now c.args.account.now.desk.track.horizon c.args.account.now.desk.records) _ c.from_residual-in_err-trains.ensures.1

pub returns-in_err-check_train-clause-fails : goal.returns-in_err-check_train-clause-fails
returns-in_err-check_train-clause-fails c =
    let desk = c.args.account.now.desk in
    let known = ap (λ all. known_trains (train_in desk.records) all) c.deref.ensures.value
    ∙ trains_known desk.track.horizon desk.records c.in_ok-standing.standing.trains.items c.in_ok-standing.ensures.waits in
    let trains = ap (λ all. map train_shown all) c.deref-2.ensures.value ∙ c.in_ok-trains.ensures ∙ known in
    fault_fails (LacksNow c.args.selection.now desk.track.horizon desk.records) c.in_err-check_train.field-0.0 _ c.from_residual-in_err-check_train.ensures.1
    (fails_of c.args.selection.now desk.track.horizon desk.records _ c.in_err-check_train.field-0.0 trains c.in_err-check_train.ensures.err)

pub returns-in_err-picture-clause-fails : goal.returns-in_err-picture-clause-fails
returns-in_err-picture-clause-fails c =
    memory_fails (LacksNow c.args.selection.now c.args.account.now.desk.track.horizon c.args.account.now.desk.records) _ c.from_residual-in_err-picture.ensures.1

pub returns-clause-drawn : goal.returns-clause-drawn
returns-clause-drawn c =
    let desk = c.args.account.now.desk in
    let known = ap (λ all. known_trains (train_in desk.records) all) c.deref.ensures.value
    ∙ trains_known desk.track.horizon desk.records c.in_ok-standing.standing.trains.items c.in_ok-standing.ensures.waits in
    drawn_of c.args.selection.now desk.track.horizon _ desk.records (map train_shown c.in_ok-trains.trains.items) (string_bytes c.in_ok-picture.picture)
    (c.in_ok-trains.ensures ∙ known) (rw c.deref-2.ensures.value at c.in_ok-check_train.ensures.ok) (rw c.deref-3.ensures.value at c.in_ok-picture.ensures)
