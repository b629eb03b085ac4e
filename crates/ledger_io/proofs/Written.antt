-- The report at the start of a buffer, and how much a turn wants. Assumes nothing.
use mathlib.Core.Path.{◌≡◌, refl, sym, ◌∙◌, subst}
use mathlib.Core.Bool.{Bool, true, false}
use mathlib.Core.Logic.{◌⊎◌, inl, inr}
use mathlib.Core.List.{List, ◌++◌}
use Prim.Native.Nat.{ℕ, ◌+◌, ◌-◌, ◌≤◌, ◌<◌, min}
use native.Mathlib.Omega.{arith}
use lib.ListN.{length, take, drop, length-take}
use Rattle.frame.specs.declared.Edition.{Edition}
use Rattle.ledger.specs.Counting.{possible}
use Rattle.ledger.specs.Report.{ledger_report, length_of, print_of}
use Rattle.ledger.specs.declared.Ledger.{Ledger}
use Rattle.ledger.proofs.Reports.{length-impossible, length-possible, report-length, print-impossible, print-accepted, printed, unchanged}
use Rattle.ledger_input.specs.Input.{Standing, Ahead, with_report}
use Rattle.ledger_input.specs.declared.LedgerTurn.{LedgerTurn}
use Rattle.ledger_input.proofs.Turns.{ahead}
use Rattle.ledger_io.specs.Reading.{TurnMade}

module _ (l : Ledger) (nine : length l.refused ≡ 9) where
  pub report-put : (text v : List ℕ) (bytes : ℕ) → 203 ≤ length text → bytes ≡ length_of l → v ≡ print_of l (take bytes text) → v ++ drop bytes text ≡ with_report l text
  unfolding with_report
  report-put text v bytes room e f = go (possible l) refl
    where
      go : (t : Bool) → possible l ≡ t → v ++ drop bytes text ≡ with_report l text
      go true p =
          let size : bytes ≡ length (ledger_report l) = e ∙ (length-possible l p).1 in
          let short = (report-length l nine p).1 in
          let fits : length (take bytes text) ≡ length (ledger_report l) = length-take bytes text ∙ omega arith in
          let whole : v ≡ ledger_report l = f ∙ printed l (take bytes text) (print-accepted l (length (take bytes text)) p fits) in
          rw (whole, size, p)
      go false p =
          let none : bytes ≡ 0 = e ∙ (length-impossible l p).1 in
          let refused = print-impossible l (length (take bytes text)) p in
          let same : v ≡ take bytes text = f ∙ unchanged l (take bytes text) (λ z. omega arith) in
          rw (same, none, p)

-- a turn that was made gets on
pub made-ahead : {ed : Edition} {before : LedgerTurn} {input : List ℕ} {t : LedgerTurn} → TurnMade ed before input t → Standing before → (before.wanted ≡ 0 → ⊥)
    → Ahead before t
made-ahead {ed} {before} {input} {t} m w some =
    subst (Ahead before) (sym m.told)
    (ahead ed before (take m.got input) w some (omega (arith, m.most, length-take m.got input)))

-- what is left to count, and whether something is wanted, together grow fewer
pub fewer : {t u : LedgerTurn} → (t.wanted ≡ 0 → ⊥) → Ahead t u → 4000000 - u.ledger.seen + min u.wanted 1 < 4000000 - t.ledger.seen + min t.wanted 1
fewer {t} {u} some a = go t.ledger.seen u.ledger.seen t.wanted u.wanted some a.kept a.more
  where
    go : (m n v w : ℕ) → (v ≡ 0 → ⊥) → m ≤ n → (w ≡ 0) ⊎ ((m < n) × (n < 4000000)) → 4000000 - n + min w 1 < 4000000 - m + min v 1
    go m n v w z kept (inl e) = omega arith
    go m n v w z kept (inr p) = omega arith
