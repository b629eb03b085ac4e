-- `dsc_majority::decide_bits` meets its contract: the bits passed are decided, and the state decides those to come. Assumes nothing.
use mathlib.Core.Path.{◌≡◌, refl, ap, ◌∙◌}
use mathlib.Core.Bool.{false}
use Prim.Native.Nat.{◌-◌, ◌<◌}
use native.Mathlib.Omega.{arith}
use lib.ListN.{length}
use Rattle.gf2.specs.Register.{step}
use Rattle.gf2.proofs.Register.{length-step}
use Rattle.dsc.specs.Code.{generator_low}
use Rattle.dsc.proofs.Word.{length-low}
use Rattle.dsc_bits.proofs.Steps.{filled_none, filled_next, filled-list}
use Rattle.dsc_shift_register.specs.Register.{decided}
use Rattle.dsc_shift_register.proofs.Turns.{length-decided, decided-at, decided-next}
use Rattle.dsc_majority.proofs.decide_bits.Goals as goal

pub loop-n-init : goal.loop-n-init
loop-n-init c = (filled_none (ap length c.clear-w.ensures), c.requires.2, refl)

pub shift-requires : goal.shift-requires
shift-requires c =
    (ap length c.requires.0 ∙ length-low, c.loop-n.invariant.1)

pub loop-n-preserved : goal.loop-n-preserved
loop-n-preserved c =
    let s₀ = c.args.s.now in
    let r = c.args.r.now in
    let s = c.loop-n.s in
    let n = c.loop-n.n in
    let s' = c.shift.new.s in
    let h : n < length r = omega (arith, c.requires) in
    let turned : s' ≡ step c.args.g.now s false = c.shift.ensures in
    let e : s' ≡ step generator_low s false = turned ∙ ap (λ g. step g s false) c.requires.0 in (
      filled_next c.loop-n.invariant.0 (omega arith) (c.decide.ensures ∙ decided-at s₀ r s n h c.loop-n.invariant.2),
      ap length e ∙ length-step generator_low s false ∙ c.loop-n.invariant.1,
      decided-next s₀ r s n h c.loop-n.invariant.2 s' e,
    )

pub returns : goal.returns
returns c =
    let s₀ = c.args.s.now in
    let r = c.args.r.now in
    filled-list (decided s₀ r) c.loop-n.invariant.0 (omega arith) (length-decided s₀ r ∙ c.requires.3)
