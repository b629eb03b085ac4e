use Rattle.std.proofs.Common.{◌≡◌, ℕ, List, ◌∙◌, ◌++◌, ◌+◌, ◌<◌, ap, ap₂, sym, refl, arith, length, get_or, take, drop, set, length-set}
use mathlib.Core.List.{append-nil}
use lib.Seq.{take-length, drop-length}
use Rattle.bits.specs.Layout.{unpack, sum}
use Rattle.bits.specs.Bits.{bits, value}
use Rattle.bits.proofs.Layouts.{unpack-next, sum-take, sum-next}
use Rattle.bit_layouts.proofs.read_all.Goals as goal

pub loop-j-init : goal.loop-j-init
unfolding unpack sum
loop-j-init c = record { place = refl; long = refl; values = refl }

pub read_wide-requires : goal.read_wide-requires
read_wide-requires c =
    let w = c.requires.0 in
    let n = sum-next c.args.ws.now c.loop-j.j (omega arith) in
    (omega (arith, w.narrow c.loop-j.j), omega (arith, n, w.room))

pub overflow_add-at : goal.overflow_add-at
overflow_add-at c =
    omega (arith, sum-next c.args.ws.now c.loop-j.j (omega arith), c.requires.0.short)

pub loop-j-preserved : goal.loop-j-preserved
loop-j-preserved c =
    let ws = c.args.ws.now in
    let j = c.loop-j.j in
    let h : j < length ws = omega arith in
    let e : c.read_wide.result ≡ value (take (get_or ws j 0) (drop (sum (take j ws)) (bits c.args.s.now))) =
    c.read_wide.ensures ∙ ap (λ (k : ℕ). value (take (get_or ws j 0) (drop k (bits c.args.s.now)))) c.loop-j.invariant.place in
    record {
      place = ap (◌+ get_or ws j 0) c.loop-j.invariant.place ∙ sym (sum-take ws j h);
      long = simp length-set c.loop-j.invariant.long;
      values =
          ap₂ (λ (o : List ℕ) (v : ℕ). set o j v) c.loop-j.invariant.values e ∙ unpack-next ws c.args.out.now (bits c.args.s.now) j h c.requires.1;
    }

pub returns : goal.returns
returns c =
    let ws = c.args.ws.now in
    let out = c.args.out.now in
    let s = bits c.args.s.now in
    let e : c.loop-j.j ≡ length ws = omega arith in
    let f : c.loop-j.j ≡ length out = omega arith in
    c.loop-j.invariant.values ∙ ap₂ (λ (x y : List ℕ). unpack x s ++ y) (ap (λ (k : ℕ). take k ws) e ∙ take-length ws) (ap (λ (k : ℕ). drop k out) f ∙ drop-length out)
    ∙ append-nil (unpack ws s)
