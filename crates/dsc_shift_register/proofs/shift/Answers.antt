-- `dsc_shift_register::shift` meets its contract: the cells passed hold what they are to hold, the others what they held. Assumes nothing.
use mathlib.Core.Path.{refl, ◌∙◌}
use Prim.Native.Nat.{◌-◌}
use native.Mathlib.Omega.{arith}
use Rattle.gf2.specs.Register.{step}
use Rattle.gf2.proofs.Register.{length-step}
use Rattle.dsc_bits.proofs.Steps.{filled_none, filled_next, filled-list}
use Rattle.dsc_shift_register.proofs.Turns.{kept_next, shifted_at}
use Rattle.dsc_shift_register.proofs.shift.Goals as goal

pub loop-j-init : goal.loop-j-init
loop-j-init c = (filled_none (omega (arith, c.requires)), λ k h. refl)

pub loop-j-preserved : goal.loop-j-preserved
loop-j-preserved c =
    let s₀ = c.args.s.now in
    let v = c.next_cell.result in
    let kept = c.loop-j.invariant.1 in (
      filled_next c.loop-j.invariant.0 (omega arith)
          (shifted_at s₀ c.loop-j.s c.loop-j.j kept c.args.g.now c.args.b v (omega (arith, c.requires)) c.next_cell.ensures),
      kept_next s₀ c.loop-j.s c.loop-j.j kept v,
    )

pub returns : goal.returns
returns c =
    let g = c.args.g.now in
    let s₀ = c.args.s.now in
    let b = c.args.b in
    filled-list (step g s₀ b) c.loop-j.invariant.0 (omega arith) (length-step g s₀ b ∙ c.requires.1)
