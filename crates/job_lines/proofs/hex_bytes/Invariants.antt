-- The invariant: what the digits passed make is stored, and the digits left are to be read.
use Prim.Native.Nat.{◌+◌, ◌*◌}
use lib.ListN.{drop}
use Rattle.job.specs.Numbers.{hex_bytes}
use Rattle.job_lines.proofs.Stored.{Storing}
use Rattle.job_lines.proofs.hex_bytes.Given as goal

abbrev pub invariant-loop-i : goal.invariant-loop-i
invariant-loop-i l =
    Storing (hex_bytes l.text) l.initial.out l.from l.out (l.from + l.i) (hex_bytes (drop (2 * l.i) l.text))
