-- `test_values::fill` meets its contract. Assumes nothing.
use mathlib.Core.Path.{◌≡◌, ◌∙◌, ap, refl}
use mathlib.Core.List.{List, ◌++◌, append-nil}
use Prim.Native.Nat.{ℕ, ◌-◌}
use native.Mathlib.Omega.{arith}
use lib.ListN.{length, drop, set, replicate, length-set}
use lib.Seq.{drop-length}
use Rattle.test_values.proofs.Numbers.{filled_next}
use Rattle.test_values.proofs.fill.Goals as goal

pub loop-i-init : goal.loop-i-init
loop-i-init c = (omega arith, refl, refl, refl)

pub loop-i-preserved : goal.loop-i-preserved
loop-i-preserved c =
    let a = c.args in (
      omega arith,
      c.loop-i.invariant.1,
      length-set c.loop-i.s c.loop-i.i a.byte ∙ c.loop-i.invariant.2,
      ap (λ (o : List ℕ). set o c.loop-i.i a.byte) c.loop-i.invariant.3 ∙ filled_next a.s.now c.loop-i.i a.byte (omega arith),
    )

pub returns : goal.returns
returns c =
    let a = c.args in
    let s = a.s.now in
    let e : c.loop-i.i ≡ length s = omega arith in
    c.loop-i.invariant.3 ∙ ap (λ (n : ℕ). replicate n a.byte ++ drop n s) e ∙ ap (replicate (length s) a.byte ++◌) (drop-length s)
    ∙ append-nil (replicate (length s) a.byte)
