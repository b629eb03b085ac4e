-- `dsc_encoder::add_front` meets its contract. Assumes nothing.
use borrow.Author.Rules.{rules}
use Prim.Native.Nat.{◌-◌}
use native.Mathlib.Omega.{arith}
use Rattle.dsc_encoder.proofs.LongDivision.{add_none, add-next, add-all}
use Rattle.dsc_encoder.proofs.add_front.Goals as goal

pub loop-j-init : goal.loop-j-init
loop-j-init c =
    let s = c.args in
    (omega arith, search rules, add_none s.g.now s.v.now)

pub loop-j-preserved : goal.loop-j-preserved
loop-j-preserved c = (
  omega arith,
  search rules,
  add-next c.args.g.now c.args.v.now c.loop-j.v c.loop-j.j (omega (arith, c.requires)) (omega (arith, c.requires)) c.loop-j.invariant.2,
)

pub returns : goal.returns
returns c =
    add-all c.args.g.now c.args.v.now c.loop-j.v c.loop-j.j (omega (arith, c.requires)) c.loop-j.invariant.2
