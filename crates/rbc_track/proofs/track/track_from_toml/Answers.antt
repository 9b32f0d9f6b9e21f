use Rattle.std.proofs.Common.{rules}
use Rattle.rbc_track.proofs.Found.{found_if_ok}
use Rattle.rbc_track.specs.Reading.{track_of, IsUnlessMemory}
use Rattle.rbc_track.proofs.track.track_from_toml.Goals as goal

pub returns-clause-found : goal.returns-clause-found
returns-clause-found c =
    let ends : IsUnlessMemory (track_of c.args.text.now) c.track_in.result = search rules in
    found_if_ok c.args.text.now c.track_in.result ends
