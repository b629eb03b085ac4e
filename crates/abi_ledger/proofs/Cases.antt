-- The ways out of the functions of a ledger. Assumes nothing.
use mathlib.Core.Path.{◌≡◌, sym, ap, ap₂, ◌∙◌}
use mathlib.Core.Bool.{Bool, cond}
use mathlib.Core.List.{List}
use Prim.Native.Nat.{ℕ, ◌≤◌}
use native.Mathlib.Omega.{arith}
use lib.ListN.{length}
use borrow.Author.Tests.{eq-eqb, ne_eqb}
use Rattle.frame.specs.declared.Edition.{Edition}
use Rattle.ledger.specs.Counting.{count_of}
use Rattle.ledger.specs.Report.{numbers_of, length_number, length_of, print_number, print_of, ledger_from, parse_of}
use Rattle.ledger.specs.declared.Ledger.{Ledger}
use Rattle.ledger.specs.declared.LedgerAnswer.{LedgerAnswer}
use Rattle.ledger.proofs.Reports.{nine-refused, report-most}
use Rattle.ledger_printer.specs.declared.ReportLength.{ReportLength}
use Rattle.abi.specs.Status.{status_of}
use Rattle.abi_ledger.specs.Ledger.{of_twelve, left_beside, answer_status, answer_numbers, count_status, count_numbers, length_status, print_status, print_text, parse_status, parse_numbers}

-- ---- an answer told

module _ (a : LedgerAnswer) (ns : List ℕ) (r : ℕ) where
  pub answer-refused : (a.number ≡ 0 → ⊥) → r ≡ status_of a.number 0 → (r ≡ answer_status a) × (ns ≡ answer_numbers a ns)
  answer-refused n e = (e, sym (ap (λ (t : Bool). cond t (numbers_of a.ledger) ns) (ne_eqb a.number 0 n)))

  pub answer-told : (m : List ℕ) → a.number ≡ 0 → r ≡ status_of 0 0 → m ≡ numbers_of a.ledger → (r ≡ answer_status a) × (m ≡ answer_numbers a ns)
  answer-told m z e told =
      (e ∙ ap (λ (n : ℕ). status_of n 0) (sym z), told ∙ sym (ap (λ (t : Bool). cond t (numbers_of a.ledger) ns) (eq-eqb a.number 0 z)))

-- ---- the length of a ledger

module _ (ns : List ℕ) where
  status-other : (length ns ≡ 12 → ⊥) → (r s : ℕ) → r ≡ status_of 1 0 → r ≡ of_twelve ns s
  status-other n r s e = e ∙ sym (ap (λ (t : Bool). cond t s 1) (ne_eqb (length ns) 12 n))

  left_other : (length ns ≡ 12 → ⊥) → (w b : List ℕ) → b ≡ left_beside ns w b
  left_other n w b = sym (ap (λ (t : Bool). cond t w b) (ne_eqb (length ns) 12 n))

  status-twelve : length ns ≡ 12 → (r s : ℕ) → r ≡ s → r ≡ of_twelve ns s
  status-twelve h r s e = e ∙ sym (ap (λ (t : Bool). cond t s 1) (eq-eqb (length ns) 12 h))

  left-twelve : length ns ≡ 12 → (v w b : List ℕ) → v ≡ w → v ≡ left_beside ns w b
  left-twelve h v w b e = e ∙ sym (ap (λ (t : Bool). cond t w b) (eq-eqb (length ns) 12 h))

-- ---- counting

module _ (ed : Edition) (ns f : List ℕ) (r : ℕ) where
  pub count-other : (length ns ≡ 12 → ⊥) → r ≡ status_of 1 0 → (r ≡ count_status ed ns f) × (ns ≡ count_numbers ed ns f)
  unfolding count_status count_numbers
  count-other n e = (status-other ns n r _ e, left_other ns n _ ns)

  pub count-told : length ns ≡ 12 → (l : Ledger) (named : Edition) (a : LedgerAnswer) (m : List ℕ) → l ≡ ledger_from ns → named ≡ ed → a ≡ count_of l (named, f)
      → (r ≡ answer_status a) × (m ≡ answer_numbers a ns) → (r ≡ count_status ed ns f) × (m ≡ count_numbers ed ns f)
  unfolding count_status count_numbers
  count-told h l named a m from edition counted (e, d) =
      let same : a ≡ count_of (ledger_from ns) (ed, f) = counted ∙ ap₂ (λ (k : Ledger) (x : Edition). count_of k (x, f)) from edition in
      (status-twelve ns h r _ (e ∙ ap answer_status same), left-twelve ns h m _ ns (d ∙ ap (λ (b : LedgerAnswer). answer_numbers b ns) same))

-- ---- the report

module _ (ns : List ℕ) (r : ℕ) where
  pub length-other : (length ns ≡ 12 → ⊥) → r ≡ status_of 1 0 → r ≡ length_status ns
  unfolding length_status
  length-other n e = status-other ns n r _ e

  module _ (h : length ns ≡ 12) (l : Ledger) (b : ReportLength) (from : l ≡ ledger_from ns) (measured : b ≡ record { number = length_number l; bytes = length_of l }) where
    same_length : b ≡ record { number = length_number (ledger_from ns); bytes = length_of (ledger_from ns) }
    same_length = measured ∙ ap (λ (k : Ledger). record { number = length_number k; bytes = length_of k }) from

    pub length-fits : b.bytes ≤ 203
    length-fits = omega (arith, ap (λ (x : ReportLength). x.bytes) same_length, report-most (ledger_from ns) (nine-refused ns h))

    pub length-told : r ≡ status_of b.number b.bytes → r ≡ length_status ns
    unfolding length_status
    length-told e = status-twelve ns h r _ (e ∙ ap (λ (x : ReportLength). status_of x.number x.bytes) same_length)

module _ (ns text : List ℕ) (r : ℕ) where
  pub print-other : (length ns ≡ 12 → ⊥) → r ≡ status_of 1 0 → (r ≡ print_status ns text) × (text ≡ print_text ns text)
  unfolding print_status print_text
  print-other n e = (status-other ns n r _ e, left_other ns n _ text)

  pub print-told : length ns ≡ 12 → (l : Ledger) (n : ℕ) (v : List ℕ) → l ≡ ledger_from ns → n ≡ print_number l (length text) → v ≡ print_of l text
      → r ≡ status_of n 0 → (r ≡ print_status ns text) × (v ≡ print_text ns text)
  unfolding print_status print_text
  print-told h l n v from number printed e = (
    status-twelve ns h r _ (e ∙ ap (λ (k : ℕ). status_of k 0) (number ∙ ap (λ (k : Ledger). print_number k (length text)) from)),
    left-twelve ns h v _ text (printed ∙ ap (λ (k : Ledger). print_of k text) from),
  )

module _ (text ns : List ℕ) (r : ℕ) where
  pub parse-other : (length ns ≡ 12 → ⊥) → r ≡ status_of 1 0 → (r ≡ parse_status text ns) × (ns ≡ parse_numbers text ns)
  unfolding parse_status parse_numbers
  parse-other n e = (status-other ns n r _ e, left_other ns n _ ns)

  pub parse-told : length ns ≡ 12 → (a : LedgerAnswer) (m : List ℕ) → a ≡ parse_of text → (r ≡ answer_status a) × (m ≡ answer_numbers a ns)
      → (r ≡ parse_status text ns) × (m ≡ parse_numbers text ns)
  unfolding parse_status parse_numbers
  parse-told h a m parsed (e, d) =
      (status-twelve ns h r _ (e ∙ ap answer_status parsed), left-twelve ns h m _ ns (d ∙ ap (λ (b : LedgerAnswer). answer_numbers b ns) parsed))
