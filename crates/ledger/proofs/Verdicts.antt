-- A frame more in a ledger, accepted or refused. Only this file looks into that. Assumes nothing.
use mathlib.Core.Path.{◌≡◌, sym}
use mathlib.Core.Bool.{Bool, true, false, cond}
use Prim.Native.Nat.{ℕ, ◌+◌, ◌-◌}
use lib.Dec.{eqb}
use borrow.Author.Tests.{eq-eqb, ne_eqb}
use Rattle.frame.specs.declared.Verdict.{Verdict}
use Rattle.ledger.specs.Counting.{places_counted, one_more_at, with_verdict}
use Rattle.ledger.specs.declared.Ledger.{Ledger}

module _ (l : Ledger) (v : Verdict) (places : ℕ) (counted : places ≡ places_counted v) where
  -- by whether the number is 0
  with-test : (t : Bool) → ◌≡◌ {A = Bool} (eqb v.number 0) t
      → ◌≡◌ {A = Ledger}
      (record {
        seen = l.seen + 1;
        refused = cond t l.refused (one_more_at (v.number - 1) l.refused);
        accepted = cond t (l.accepted + 1) l.accepted;
        repaired = l.repaired + places;
      })
      (with_verdict l v)
  unfolding with_verdict
  with-test t e = λ i.
      record {
        seen = l.seen + 1;
        refused = cond (sym e i) l.refused (one_more_at (v.number - 1) l.refused);
        accepted = cond (sym e i) (l.accepted + 1) l.accepted;
        repaired = l.repaired + counted i;
      }

  pub with-accepted : v.number ≡ 0
      → ◌≡◌ {A = Ledger} (record { seen = l.seen + 1; refused = l.refused; accepted = l.accepted + 1; repaired = l.repaired + places }) (with_verdict l v)
  with-accepted z = with-test true (eq-eqb v.number 0 z)

  pub with-refused : (v.number ≡ 0 → ⊥)
      → ◌≡◌ {A = Ledger}
      (record { seen = l.seen + 1; refused = one_more_at (v.number - 1) l.refused; accepted = l.accepted; repaired = l.repaired + places })
      (with_verdict l v)
  with-refused z = with-test false (ne_eqb v.number 0 z)
