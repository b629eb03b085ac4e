use Rattle.std.proofs.Common.{◌≡◌, ◌∙◌, ◌*◌, ap, sym, arith, length, length-set}
use Rattle.std.proofs.Math.Seq.{paste}
use Rattle.header.specs.Fields.{pairs}
use Rattle.header_arrays.proofs.Copies.{placed-paste, pairs-turn, length_pairs}
use Rattle.header_arrays.proofs.put_pairs.Goals as goal

pub loop-i-preserved : goal.loop-i-preserved
loop-i-preserved c =
    let a = c.args in
    record {
      long = simp length-set c.loop-i.invariant.long;
      put = rw c.loop-i.invariant.put (pairs-turn a.out.now a.s.now a.t.now a.k c.loop-i.i c.requires.0 (omega arith) c.requires.1);
    }

pub returns : goal.returns
returns c =
    let a = c.args in
    let e : c.loop-i.i ≡ length a.s.now = omega arith in
    c.loop-i.invariant.put ∙ ap (paste a.out.now a.k (pairs a.s.now a.t.now)) (ap (2 *◌) e ∙ sym (length_pairs a.s.now a.t.now))
    ∙ sym (placed-paste a.out.now a.k (pairs a.s.now a.t.now))
