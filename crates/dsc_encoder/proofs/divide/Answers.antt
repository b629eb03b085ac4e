-- `dsc_encoder::divide` meets its contract: what is still to be divided has the remainder of the whole. Assumes nothing.
use mathlib.Core.Path.{◌≡◌, sym, ap, ap₂, ◌∙◌}
use mathlib.Core.List.{◌++◌}
use Prim.Native.Nat.{suc, ◌-◌, ◌+◌}
use native.Mathlib.Omega.{arith}
use lib.ListN.{length, take, drop}
use Rattle.gf2.specs.Polynomial.{add, remainder}
use Rattle.bits.proofs.Slices.{rest-lent}
use Rattle.dsc_encoder.proofs.LongDivision.{step-over, step-add, length-added}
use Rattle.dsc_encoder.proofs.divide.Goals as goal
use Rattle.dsc_encoder.proofs.divide.Goals.{then-w-k, else-w-k}

pub loop-k-preserved : goal.loop-k-preserved
loop-k-preserved c =
    let g = c.args.g.now in
    let w = c.loop-k.w in
    let k = c.loop-k.k in
    let m : 105 - k ≡ suc (104 - k) = omega arith in
    let inv : remainder g (suc (104 - k)) (drop k w) ≡ remainder g 105 c.args.w.now = rw m at c.loop-k.invariant.2 in
    let n : 104 - k ≡ 105 - (k + 1) = omega arith in
    elim c.if-w-k.branch [
      | then-w-k t ↦
          let q : c.if-w-k.w ≡ take (k + 1) w ++ add g (drop (k + 1) w) = rest-lent (add g) w c.if-w-k.w t.add_front.new.v (k + 1) t.add_front.ensures t.w-is in (
            omega arith,
            length-added g w c.if-w-k.w (k + 1) (omega arith) q ∙ c.loop-k.invariant.1,
            ap (λ i. remainder g i (drop (k + 1) c.if-w-k.w)) (sym n) ∙ step-add g w k (104 - k) _ (omega arith) inv t.if-w-k.true c.if-w-k.w q,
          )
      | else-w-k e ↦ (
        omega arith,
        ap length e.w-is ∙ c.loop-k.invariant.1,
        ap₂ (λ i x. remainder g i (drop (k + 1) x)) (sym n) e.w-is ∙ step-over g w k (104 - k) _ (omega arith) inv e.if-w-k.false,
      )
    ]

pub returns : goal.returns
unfolding remainder
returns c =
    let full : c.loop-k.k ≡ 105 = omega arith in
    rw full at c.loop-k.invariant.2
