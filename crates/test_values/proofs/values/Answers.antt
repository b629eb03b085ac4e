-- `test_values::values` meets its contract. Assumes nothing.
use mathlib.Core.Path.{◌≡◌, ◌∙◌, ap, refl}
use mathlib.Core.List.{List, ◌++◌}
use Prim.Native.Nat.{ℕ, ◌-◌}
use native.Mathlib.Omega.{arith}
use lib.ListN.{drop, set, length-set}
use Rattle.test_values.specs.Numbers.{numbers_of}
use Rattle.test_values.proofs.Numbers.{numbers-next}
use Rattle.test_values.proofs.values.Goals as goal

pub loop-i-init : goal.loop-i-init
unfolding numbers_of
loop-i-init c = (omega arith, refl, refl)

pub overflow_mul-i : goal.overflow_mul-i
overflow_mul-i c = omega (arith, c.smaller-n.ensures)

pub number_at-requires : goal.number_at-requires
number_at-requires c = omega (arith, c.smaller-n.ensures)

pub offset_bounds-out-i : goal.offset_bounds-out-i
offset_bounds-out-i c = omega (arith, c.smaller-n.ensures)

pub bounds-out-i : goal.bounds-out-i
bounds-out-i c = omega (arith, c.smaller-n.ensures)

pub loop-i-preserved : goal.loop-i-preserved
loop-i-preserved c =
    let a = c.args in
    let x = c.number_at.result in (
      omega arith,
      length-set c.loop-i.out c.loop-i.i x ∙ c.loop-i.invariant.1,
      ap (λ (o : List ℕ). set o c.loop-i.i x) c.loop-i.invariant.2
          ∙ numbers-next a.s.now a.out.now c.loop-i.i x c.number_at.ensures (omega (arith, c.smaller-n.ensures)),
    )

pub returns : goal.returns
returns c =
    let a = c.args in
    let e : c.loop-i.i ≡ c.smaller-n.result = omega arith in
    record { upper_bound = omega (arith, c.smaller-n.ensures, c.loop-i.invariant.1); value = c.smaller-n.ensures; out_after = c.loop-i.invariant.2 ∙ ap (λ (k : ℕ). numbers_of k a.s.now ++ drop k a.out.now) e }
