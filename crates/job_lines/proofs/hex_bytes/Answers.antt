-- The invariant: what the digits passed make is stored, and the digits left are to be read.
use mathlib.Core.Path.{◌≡◌, refl, sym}
use Prim.Native.Nat.{◌+◌, ◌*◌}
use native.Mathlib.Omega.{arith}
use Rattle.job_lines.proofs.Stored.{storing_none, storing_more, storing_fails}
use Rattle.job_lines.proofs.HexPairs.{hex_odd, hex_no_high, hex_more}
use Rattle.job_lines.proofs.hex_bytes.Goals as goal

pub returns-then-text-ne0 : goal.returns-then-text-ne0
returns-then-text-ne0 c = hex_odd c.args.text.now c.if-text-ne0.true

pub loop-i-init : goal.loop-i-init
loop-i-init c =
    let e : c.args.from + 0 ≡ c.args.from = omega arith in
    rw e (storing_none c.args.out.now c.args.from refl)

pub returns-in_err-high : goal.returns-in_err-high
returns-in_err-high c =
    rw c.from_residual.ensures (storing_fails c.loop-i.invariant
    (hex_no_high c.args.text.now (2 * c.loop-i.i) (omega arith) (sym c.in_err-high.ensures)))

pub loop-i-preserved : goal.loop-i-preserved
loop-i-preserved c =
    let i = c.loop-i.i in
    let e : 2 * (i + 1) ≡ 2 * i + 2 = omega arith in
    rw e (storing_more c.loop-i.invariant (c.in_ok-high.high * 16 + c.in_ok-low.low)
    (hex_more c.args.text.now (2 * i) (omega arith) (sym c.in_ok-high.ensures) (sym c.in_ok-low.ensures))
    c.put.ensures (omega arith))
