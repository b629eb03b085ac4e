-- `frame_kinds::warned` meets its contract. Assumes nothing.
use mathlib.Core.Path.{◌≡◌, refl}
use mathlib.Core.Bool.{false, not}
use Prim.Native.Nat.{ℕ, zero, suc, ◌-◌, ◌%◌, ◌/◌, ◌^◌, ◌≤◌, ◌<◌}
use native.Mathlib.Omega.{arith}
use lib.Dec.{eqb}
use lib.Pow.{pow_pos}
use borrow.Author.Tests.{eq-eqb, ne_eqb, le-leb, lt-leb}
use Rattle.bits.specs.Bits.{odd}
use Rattle.frame.specs.Area.{warned_in}
use Rattle.frame.specs.declared.Record.{Record}
use Rattle.frame_kinds.proofs.warned.Goals as goal

-- `frame_kinds::warned` meets its contract. Assumes nothing.
even : (n : ℕ) → n < 2 → eqb n 0 ≡ not (eqb n 1)
even zero h = refl
even (suc zero) h = refl
even (suc (suc n)) h = absurd (omega arith)

module _ (r : Record) (k : ℕ) where
  other : 3 < r.identification → false ≡ warned_in r k
  unfolding warned_in
  other h = rw (lt-leb r.identification 3 h)

  module _ (w : r.identification ≤ 3) where
    placed : (r.page ≡ 0 → ⊥) → false ≡ warned_in r k
    unfolding warned_in
    placed h = rw (le-leb r.identification 3 w, ne_eqb r.page 0 h)

    module _ (p : r.page ≡ 0) where
      beyond : 55 < k → false ≡ warned_in r k
      unfolding warned_in
      beyond h = rw (le-leb r.identification 3 w, eq-eqb r.page 0 p, lt-leb k 55 h)

      told : k ≤ 55 → (m : ℕ) → m ≡ 2 ^ (55 - k) → eqb (r.areas / m % 2) 0 ≡ warned_in r k
      unfolding warned_in odd
      told h m e =
          rw (le-leb r.identification 3 w, eq-eqb r.page 0 p, le-leb k 55 h, e)
          (even (r.areas / 2 ^ (55 - k) % 2) (omega arith))

pub returns-then-message-gt3 : goal.returns-then-message-gt3
returns-then-message-gt3 c = let s = c.args in other s.message s.area c.if-message-gt3.true

pub returns-then-message-ne0 : goal.returns-then-message-ne0
returns-then-message-ne0 c = let s = c.args in placed s.message s.area c.if-message-gt3.false c.if-message-ne0.true

pub returns-then-area-gt55 : goal.returns-then-area-gt55
returns-then-area-gt55 c = let s = c.args in beyond s.message s.area c.if-message-gt3.false c.if-message-ne0.false c.if-area-gt55.true

pub nonzero_div-result : goal.nonzero_div-result
nonzero_div-result c = rw c.pow2.ensures (pow_pos _)

pub returns : goal.returns
returns c = let s = c.args in told s.message s.area c.if-message-gt3.false c.if-message-ne0.false c.if-area-gt55.false c.pow2.result c.pow2.ensures
