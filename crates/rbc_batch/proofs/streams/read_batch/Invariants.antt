use Rattle.std.proofs.Common.{◌≤◌, length}
use Rattle.std.specs.Io.KnownBytes.{Consumes}
use Rattle.rbc_batch.specs.Process.{max_batch}
use Rattle.rbc_batch.proofs.streams.read_batch.Given as goal

abbrev pub invariant-loop : goal.invariant-loop
invariant-loop g l = record {
  read : Consumes (g.R.Read.remaining l.fn.reader) (g.R.Read.remaining l.reader) l.batch.items;
  short : length l.batch.items ≤ max_batch;
}
