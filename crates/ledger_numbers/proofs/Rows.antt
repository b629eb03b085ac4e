-- A ledger's numbers, as code spells them out. Assumes nothing.
use mathlib.Core.Path.{◌≡◌, ap}
use mathlib.Core.List.{List, [], ◌∷◌, ◌++◌}
use Prim.Native.Nat.{ℕ}
use native.Mathlib.Omega.{arith}
use lib.ListN.{length, get_or}
use Rattle.ledger.specs.declared.Ledger.{Ledger}
use Rattle.ledger.specs.Report.{numbers_of, ledger_from}
use Rattle.ledger.proofs.Rows.{row, row-part, row-all}

pub numbers-row : (l : Ledger) → length l.refused ≡ 9 → l.seen ∷ (row l.refused 0 9 ++ l.accepted ∷ l.repaired ∷ []) ≡ numbers_of l
unfolding numbers_of
numbers-row l e = ap (λ (r : List ℕ). l.seen ∷ (r ++ l.accepted ∷ l.repaired ∷ [])) (row-all l.refused 9 e)

pub ledger-row : (v : List ℕ) → length v ≡ 12
    → ◌≡◌ {A = Ledger} (record { seen = get_or v 0 0; refused = row v 1 9; accepted = get_or v 10 0; repaired = get_or v 11 0 }) (ledger_from v)
unfolding ledger_from
ledger-row v e = λ i. record { seen = get_or v 0 0; refused = row-part v 1 9 (omega arith) i; accepted = get_or v 10 0; repaired = get_or v 11 0 }
