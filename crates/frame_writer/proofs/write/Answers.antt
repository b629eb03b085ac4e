-- `frame_writer::write` meets its contract. Assumes nothing.
use mathlib.Core.Path.{◌≡◌, refl, sym, ap, ◌∙◌}
use mathlib.Core.Bool.{Bool, cond}
use mathlib.Core.Logic.{◌≢◌}
use mathlib.Core.List.{List}
use Prim.Native.Nat.{ℕ}
use lib.ListN.{length}
use borrow.Author.Tests.{eq-eqb, ne_eqb}
use Rattle.frame.specs.Write.{record_refusal, frame_of, write_number, write_of}
use Rattle.frame.specs.declared.Edition.{Edition}
use Rattle.frame.specs.declared.Record.{Record}
use Rattle.frame.proofs.Promises.{demand2}
use Rattle.frame_writer.proofs.write.Goals as goal

-- `frame_writer::write` meets its contract. Assumes nothing.
-- the record r and the buffer s, by the cases that the code tells apart
module _ (ed : Edition) (r : Record) (s : List ℕ) where
  wrong-length : length s ≢ 26 → (1 ≡ write_number ed r (length s)) × (s ≡ write_of ed r s)
  unfolding write_number write_of
  wrong-length h = rw (ne_eqb (length s) 26 h) (refl, refl)

  module _ (h : length s ≡ 26) (n : ℕ) (e : n ≡ record_refusal ed r) where
    numbered : n ≡ write_number ed r (length s)
    unfolding write_number
    numbered = e ∙ ap (λ (t : Bool). cond t (record_refusal ed r) 1) (sym (eq-eqb (length s) 26 h))

    refused : n ≢ 0 → (n ≡ write_number ed r (length s)) × (s ≡ write_of ed r s)
    refused z = (numbered, sym ((demand2 ed).unchanged r s (λ q. z (numbered ∙ q))))

    written : n ≡ 0 → (g : List ℕ) → g ≡ frame_of ed r → (0 ≡ write_number ed r (length s)) × (g ≡ write_of ed r s)
    written z g q = (sym z ∙ numbered, q ∙ sym ((demand2 ed).written r s (sym e ∙ z) h))

pub returns-then-buffer-ne26 : goal.returns-then-buffer-ne26
returns-then-buffer-ne26 c =
    let s = c.args in
    let both = wrong-length s.edition s.contents s.buffer.now c.if-buffer-ne26.true in
    record { value = both.0; buffer_after = both.1 }

pub returns-then-number-ne0 : goal.returns-then-number-ne0
returns-then-number-ne0 c =
    let s = c.args in
    let both = refused s.edition s.contents s.buffer.now c.if-buffer-ne26.false c.record_refusal-number.result c.record_refusal-number.ensures c.if-number-ne0.true in
    record { value = both.0; buffer_after = both.1 }

pub returns : goal.returns
returns c =
    let s = c.args in
    let both = written s.edition s.contents s.buffer.now c.if-buffer-ne26.false c.record_refusal-number.result c.record_refusal-number.ensures c.if-number-ne0.false _
    c.write_frame.ensures in
    record { value = both.0; buffer_after = both.1 }
