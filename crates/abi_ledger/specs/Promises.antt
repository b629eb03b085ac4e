-- What is promised of a ledger over plain numbers. The record has one value, proved in proofs/Promises.antt. Assumes nothing.
use Rattle.std.specs.Prelude.{◌≡◌, ◌≢◌, List, [], ◌∷◌, ◌++◌, ℕ, ◌<◌, length}
use Rattle.frame.specs.declared.Edition.{Edition}
use Rattle.ledger.specs.Counting.{Frame, ledger_of}
use Rattle.ledger.specs.Report.{numbers_of}
use Rattle.abi_ledger.specs.Ledger.{count_status, count_numbers, length_status, print_status, print_text, parse_status, parse_numbers}

pub record LedgerCalls : Type 0 where
  -- a frame counted into the numbers of a list of fewer than 4,000,000 frames leaves those of the list with it; the numbers of no frame are 12 zeros (`zeros`
  -- of `ledger`)
  pub counted : (ed : Edition) (fs : List Frame) (f : List ℕ) → length fs < 4000000
      → (count_status ed (numbers_of (ledger_of fs)) f ≡ 0) × (count_numbers ed (numbers_of (ledger_of fs)) f ≡ numbers_of (ledger_of (fs ++ (ed, f) ∷ [])))
  -- numbers of another length than 12 are refused with 1, whatever else is handed over
  pub other-count : (ed : Edition) (ns f : List ℕ) → length ns ≢ 12 → count_status ed ns f ≡ 1
  pub other_length : (ns : List ℕ) → length ns ≢ 12 → length_status ns ≡ 1
  pub other-print : (ns text : List ℕ) → length ns ≢ 12 → print_status ns text ≡ 1
  pub other-parse : (text ns : List ℕ) → length ns ≢ 12 → parse_status text ns ≡ 1
  -- a refusal leaves what was lent as it was
  pub count-unchanged : (ed : Edition) (ns f : List ℕ) → count_status ed ns f ≢ 0 → count_numbers ed ns f ≡ ns
  pub print-unchanged : (ns text : List ℕ) → print_status ns text ≢ 0 → print_text ns text ≡ text
  pub parse-unchanged : (text ns : List ℕ) → parse_status text ns ≢ 0 → parse_numbers text ns ≡ ns
