-- The rule of the check table, at each of its entries, from one test of the whole table that antt computes. Assumes nothing.
use mathlib.Core.Path.{◌≡◌, ap₂, ◌∙◌}
use mathlib.Core.List.{List}
use Prim.Native.Nat.{ℕ, ◌+◌, ◌-◌, ◌*◌, ◌/◌, ◌%◌}
use native.Mathlib.Omega.{arith}
use lib.Dec.{T}
use lib.ListN.{length, get_or}
use Rattle.bits.proofs.Computed.{obeys, at_each}
use Rattle.dsc.specs.CheckTable.{differences, CheckTable}

-- entry k stands in row k / 17
unfoldable pub entry : ℕ → ℕ
entry k = (k / 17 + 273 - get_or differences (k % 17) 0) % 273

-- a list that passes the test is the check table
pub checked : (xs : List ℕ) → length xs ≡ 4641 → T (obeys entry 0 xs) → CheckTable xs
unfolding entry
checked xs l t =
    record {
      size = l;
      rule = λ s i hs hi. at_each entry xs t (s * 17 + i) (omega arith) ∙ ap₂ (λ a b. (a + 273 - get_or differences b 0) % 273) (omega arith) (omega arith);
    }
