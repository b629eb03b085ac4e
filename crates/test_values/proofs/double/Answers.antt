-- `test_values::double` meets its contract: what has the bits of a NaN is not taken from its bits. Assumes nothing.
use mathlib.Core.Path.{◌≡◌, ◌∙◌, sym, ap}
use mathlib.Core.Bool.{Bool}
use mathlib.Core.Logic.{◌≢◌}
use Prim.Native.Nat.{ℕ, ◌/◌, ◌%◌}
use native.Mathlib.Omega.{arith}
use lib.Dec.{leb}
use lib.Ieee.{nan, binary64, top, of_fields, of_bits, nan_bits}
use borrow.Author.Tests.{eq-eqb, ne_eqb}
use Rattle.test_values.proofs.double.Goals as goal

fields_nan : (s : Bool) (t : ℕ) → t ≢ 0 → of_fields binary64 s 2047 t ≡ nan
unfolding of_fields
fields_nan s t h = rw (ne_eqb t 0 h)

bits-nan : (b : ℕ) → b % 0x8000000000000000 / 0x10000000000000 ≡ 2047 → b % 0x10000000000000 ≢ 0 → of_bits binary64 b ≡ nan
unfolding of_bits
bits-nan b e h =
    ap (λ (x : ℕ). of_fields binary64 (leb (top binary64) b) x (b % 0x10000000000000)) e ∙ fields_nan (leb (top binary64) b) (b % 0x10000000000000) h

pub returns-then-bits-ne0 : goal.returns-then-bits-ne0
returns-then-bits-ne0 c = c.not_a_number.ensures ∙ sym (bits-nan c.args.bits (omega arith) (λ e. omega (arith, e)))

pub float_from_bits-result : goal.float_from_bits-result
unfolding nan_bits
float_from_bits-result c =
    let b = c.args.bits in
    rw (eq-eqb (b % 0x8000000000000000 / 0x10000000000000) 2047 (omega arith), eq-eqb (b % 0x10000000000000) 0 (omega arith)) tt

pub float_from_bits-result-2 : goal.float_from_bits-result-2
unfolding nan_bits
float_from_bits-result-2 c = rw (ne_eqb (c.args.bits % 0x8000000000000000 / 0x10000000000000) 2047 (λ e. omega (arith, e))) tt
