-- The table knows the rows before p; what is no row has no type.
use mathlib.Core.Logic.{⊎_elim}
use native.Mathlib.Omega.{arith}
use Rattle.schema_sequences.proofs.TypeTables.{no_row_type}
use Rattle.schema.proofs.RowLaws.{few_rows}
use Rattle.schema_sequences.proofs.child_type.Goals as goal

pub bounds-types-child : goal.bounds-types-child
bounds-types-child c =
    let pre = c.requires in
    omega (arith, c.if-child-p.true, pre.2, pre.1.size, few_rows pre.0)

pub returns-else-child-p : goal.returns-else-child-p
returns-else-child-p c =
    no_row_type c.args.schema.now c.args.child c.requires.0
    (⊎_elim (λ l. absurd (omega arith)) (λ e. omega (arith, few_rows c.requires.0)) c.requires.3)
