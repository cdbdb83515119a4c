-- At the start nothing has been compared.
use Prim.Native.Nat.{ℕ}
use mathlib.Core.Path.{sym}
use lib.ListN.{length-replicate}
use Rattle.schema_occurrences.proofs.Comparing.{compared_none}
use Rattle.schema_occurrences.proofs.first_interleave.Goals as goal

pub slice_bounds-scan_interleaves-end : goal.slice_bounds-scan_interleaves-end
slice_bounds-scan_interleaves-end c = sym (length-replicate {A = ℕ} 4096 0)

pub scan_interleaves-requires : goal.scan_interleaves-requires
scan_interleaves-requires c = (c.requires, compared_none _ 4096)
