use Rattle.std.proofs.Common.{◌≡◌, ◌++◌}
use Rattle.std.specs.List.{flat_map}
use Rattle.std.specs.Vec.Iter.{into_iter_items}
use Rattle.rbc_batch.specs.Parts.{bytes_of, joined, AreMade}
use Rattle.rbc_batch.proofs.rendering.append_parts.Given as goal

-- what is written, and the texts that are left, are all texts
abbrev pub invariant-loop-part : goal.invariant-loop-part
invariant-loop-part l = record {
  texts : joined l.texts.items ++ flat_map bytes_of (into_iter_items l.part-iterator) ≡ joined l.fn.texts.items ++ flat_map bytes_of l.fn.parts.items;
  made : AreMade (into_iter_items l.part-iterator) → AreMade l.fn.parts.items;
}
