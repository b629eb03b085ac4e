-- `dsc_shift_register::load` meets its contract: the bits to come, into the state so far, make the loaded state. Assumes nothing.
use mathlib.Core.Path.{◌≡◌, ap, ◌∙◌}
use Prim.Native.Nat.{◌-◌}
use native.Mathlib.Omega.{arith}
use lib.ListN.{length}
use Rattle.gf2.specs.Register.{step, feed}
use Rattle.gf2.proofs.Register.{length-step}
use Rattle.dsc.specs.Code.{generator_low}
use Rattle.dsc.proofs.Word.{length-low}
use Rattle.dsc_bits.specs.Words.{at}
use Rattle.dsc_shift_register.specs.Register.{loaded}
use Rattle.dsc_shift_register.proofs.Turns.{feed-next, feed-done}
use Rattle.dsc_shift_register.proofs.load.Goals as goal

pub loop-n-init : goal.loop-n-init
unfolding loaded
loop-n-init c =
    let w = c.args.w.now in
    (omega arith, ap length c.clear-s.ensures, ap (λ s. feed generator_low s w) c.clear-s.ensures)

pub shift-requires : goal.shift-requires
shift-requires c =
    (ap length c.requires.0 ∙ length-low, c.loop-n.invariant.1)

pub loop-n-preserved : goal.loop-n-preserved
loop-n-preserved c =
    let w = c.args.w.now in
    let s = c.loop-n.s in
    let s' = c.shift.new.s in
    let e : s' ≡ step generator_low s (at w c.loop-n.n) = c.shift.ensures ∙ ap (λ g. step g s (at w c.loop-n.n)) c.requires.0 in (
      omega arith,
      ap length e ∙ length-step generator_low s (at w c.loop-n.n) ∙ c.loop-n.invariant.1,
      feed-next generator_low s s' w (loaded w) c.loop-n.n (omega arith) e c.loop-n.invariant.2,
    )

pub returns : goal.returns
returns c =
    let w = c.args.w.now in
    feed-done generator_low c.loop-n.s w (loaded w) c.loop-n.n (omega arith) c.loop-n.invariant.2
