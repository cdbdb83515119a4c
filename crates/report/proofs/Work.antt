-- The bytes that `check` lends for work are enough for every job, so that its code 12 is of the list alone.
use Prim.Native.Nat.{◌≤◌}
use lib.ListN.{length}
use Rattle.tables.specs.Tables.{Tables}
use Rattle.strings.specs.Strings.{max_bytes}
use Rattle.matching_work.specs.Work.{WorkTooShort}
use Rattle.matching_work.proofs.Work.{always_enough}
use Rattle.report.specs.Report.{work_room}

pub work_enough : (J : Tables) → length J.strings.bytes ≤ max_bytes → ¬ WorkTooShort J work_room
work_enough = always_enough
