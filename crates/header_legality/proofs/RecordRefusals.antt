-- The tests of a record, met or left in their order. Assumes nothing.
use mathlib.Core.Path.{◌≡◌, ap}
use mathlib.Core.Bool.{true, false, not}
use Prim.Native.Nat.{ℕ, ◌/◌, ◌^◌}
use lib.ListN.{drop}
use borrow.Author.Tests.{eq-eqb, ne_eqb}
use Rattle.bits.proofs.Refusal.{Tested, end, met, unmet, tested}
use Rattle.gf2.specs.Polynomial.{member}
use Rattle.header.specs.Tests.{too_wide}
use Rattle.header.specs.Header.{record_tests, record_refusal}
use Rattle.header.specs.declared.Header.{Header}

module _ (r : Header) where
  pub wide-refused : too_wide r ≡ true → 10 ≡ record_refusal r
  unfolding record_refusal
  wide-refused e = tested (met e)

  module _ (z10 : too_wide r ≡ false) where
    pub packet-sync-refused : (r.front.packet / 2 ^ 24 ≡ 0x47 → ⊥) → 12 ≡ record_refusal r
    unfolding record_refusal
    packet-sync-refused n = tested (unmet z10 (met (ap not (ne_eqb _ _ n))))

    module _ (z12 : r.front.packet / 2 ^ 24 ≡ 0x47) where
      past-packet-sync : {n : ℕ} → Tested (drop 2 (record_tests r)) n → n ≡ record_refusal r
      unfolding record_refusal
      past-packet-sync a = tested (unmet z10 (unmet (ap not (eq-eqb _ _ z12)) a))

      pub form-refused : (r.front.form ≡ 1 → ⊥) → 14 ≡ record_refusal r
      form-refused n = past-packet-sync (met (ap not (ne_eqb _ _ n)))

      module _ (z14 : r.front.form ≡ 1) where
        pub state-refused : member 3 r.front.states ≡ true → 15 ≡ record_refusal r
        state-refused e = past-packet-sync (unmet (ap not (eq-eqb _ _ z14)) (met e))

        pub none-refused : member 3 r.front.states ≡ false → 0 ≡ record_refusal r
        none-refused e = past-packet-sync (unmet (ap not (eq-eqb _ _ z14)) (unmet e end))
