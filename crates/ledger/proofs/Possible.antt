-- What the test of a ledger's numbers says. Only this file looks into it. Assumes nothing.
use mathlib.Core.Path.{◌≡◌, refl, sym, ap₂}
use mathlib.Core.Bool.{Bool, true, false, ◌&&◌, and-eq-true_iff}
use mathlib.Core.List.{[], ◌∷◌}
use Prim.Native.Nat.{ℕ, ◌+◌, ◌*◌, ◌≤◌}
use native.Mathlib.Omega.{arith}
use lib.Dec.{eqb, leb}
use borrow.Author.Tests.{eq-eqb, eqb-true, le-leb, leb-true}
use Rattle.bits.specs.Layout.{sum}
use Rattle.ledger.specs.Counting.{most_frames, possible}
use Rattle.ledger.specs.declared.Ledger.{Ledger}

-- two frames, one refused and one accepted with eight places; then with nine, with a frame more, and with too many
small : ℕ → ℕ → Ledger
small seen repaired = record { seen = seen; refused = 1 ∷ 0 ∷ []; accepted = 1; repaired = repaired }

computed : (possible (small 2 8) ≡ true) × (possible (small 2 9) ≡ false) × (possible (small 3 8) ≡ false) × (possible (record { seen = 4000001; refused = 4000001 ∷ []; accepted = 0; repaired = 0 }) ≡ false)
unfolding possible sum small
computed = (refl, refl, refl, refl)

-- the same of the numbers
pub record Counts (l : Ledger) : Type 0 where
  pub all : l.seen ≡ sum l.refused + l.accepted
  pub few : l.seen ≤ most_frames
  pub eight : l.repaired ≤ 8 * l.accepted

pub counts-possible : (l : Ledger) → Counts l → possible l ≡ true
unfolding possible
counts-possible l c =
    ap₂ ◌&&◌ (eq-eqb l.seen (sum l.refused + l.accepted) c.all)
    (ap₂ ◌&&◌ (le-leb l.seen most_frames c.few) (le-leb l.repaired (8 * l.accepted) c.eight))

pub possible-counts : (l : Ledger) → possible l ≡ true → Counts l
unfolding possible
possible-counts l e =
    let a = eqb l.seen (sum l.refused + l.accepted) in
    let b = leb l.seen most_frames in
    let d = leb l.repaired (8 * l.accepted) in
    let h = (and-eq-true_iff a (b && d)).0 e in
    let k = (and-eq-true_iff b d).0 h.1 in
    record {
      all = eqb-true l.seen (sum l.refused + l.accepted) h.0;
      few = leb-true l.seen most_frames k.0;
      eight = leb-true l.repaired (8 * l.accepted) k.1;
    }

-- where the other two hold, the repaired places decide
pub by-repaired : (l : Ledger) → l.seen ≡ sum l.refused + l.accepted → l.seen ≤ most_frames → leb l.repaired (8 * l.accepted) ≡ possible l
unfolding possible
by-repaired l all few =
    sym (ap₂ (λ (a b : Bool). a && (b && leb l.repaired (8 * l.accepted))) (eq-eqb l.seen (sum l.refused + l.accepted) all) (le-leb l.seen most_frames few))

pub impossible : (l : Ledger) → (Counts l → ⊥) → possible l ≡ false
impossible l n = go (possible l) refl
  where
    go : (t : Bool) → possible l ≡ t → t ≡ false
    go true e = absurd (n (possible-counts l e))
    go false e = refl
