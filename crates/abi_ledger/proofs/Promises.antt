-- The promises hold. Assumes nothing.
use mathlib.Core.Path.{◌≡◌, refl, sym, ap, ◌∙◌}
use mathlib.Core.Bool.{Bool, true, false, cond}
use mathlib.Core.Logic.{◌≢◌}
use mathlib.Core.List.{List, [], ◌∷◌, ◌++◌}
use Prim.Native.Nat.{ℕ, ◌<◌}
use native.Mathlib.Omega.{arith}
use lib.Dec.{eqb}
use lib.ListN.{length}
use borrow.Author.Tests.{eq-eqb, ne_eqb, eqb-true}
use Rattle.frame.specs.declared.Edition.{Edition}
use Rattle.ledger.specs.Counting.{Frame, ledger_of, count_of}
use Rattle.ledger.specs.Report.{numbers_of, print_number, print_of, ledger_from, parse_of}
use Rattle.ledger.specs.declared.LedgerAnswer.{LedgerAnswer}
use Rattle.ledger.proofs.Reports.{unchanged}
use Rattle.ledger.proofs.Promises.{day-ledger, ledger-as-numbers}
use Rattle.abi.specs.Status.{status_of}
use Rattle.abi_ledger.specs.Ledger.{of_twelve, left_beside, answer_status, answer_numbers, count_status, count_numbers, length_status, print_status, print_text, parse_status, parse_numbers}
use Rattle.abi_ledger.specs.Promises.{LedgerCalls}
use Rattle.abi_ledger.proofs.Cases.{count-other, count-told, length-other, print-other, parse-other}

-- ---- a refusal

-- an answer that is a refusal leaves the numbers
answer-kept : (a : LedgerAnswer) (ns : List ℕ) → answer_status a ≢ 0 → answer_numbers a ns ≡ ns
answer-kept a ns n = go (eqb a.number 0) refl
  where
    go : (t : Bool) → eqb a.number 0 ≡ t → cond t (numbers_of a.ledger) ns ≡ ns
    go true e = let z = eqb-true a.number 0 e in absurd (n (omega arith))
    go false e = refl

-- numbers of another length, or what was written is what was there
kept : (ns written b : List ℕ) (s : ℕ) → (s ≢ 0 → written ≡ b) → of_twelve ns s ≢ 0 → left_beside ns written b ≡ b
kept ns written b s same n = go (eqb (length ns) 12) refl
  where
    go : (t : Bool) → eqb (length ns) 12 ≡ t → cond t written b ≡ b
    go true e = same (λ z. n (ap (λ (t : Bool). cond t s 1) e ∙ z))
    go false e = refl

count-unchanged : (ed : Edition) (ns f : List ℕ) → count_status ed ns f ≢ 0 → count_numbers ed ns f ≡ ns
unfolding count_status count_numbers
count-unchanged ed ns f n = kept ns _ ns _ (λ z. answer-kept (count_of (ledger_from ns) (ed, f)) ns z) n

print-unchanged : (ns text : List ℕ) → print_status ns text ≢ 0 → print_text ns text ≡ text
unfolding print_status print_text
print-unchanged ns text n = kept ns _ text _ (λ z. unchanged (ledger_from ns) text (λ e. z (ap (λ (k : ℕ). status_of k 0) e))) n

parse-unchanged : (text ns : List ℕ) → parse_status text ns ≢ 0 → parse_numbers text ns ≡ ns
unfolding parse_status parse_numbers
parse-unchanged text ns n = kept ns _ ns _ (λ z. answer-kept (parse_of text) ns z) n

-- ---- counting

counted : (ed : Edition) (fs : List Frame) (f : List ℕ) → length fs < 4000000
    → (count_status ed (numbers_of (ledger_of fs)) f ≡ 0) × (count_numbers ed (numbers_of (ledger_of fs)) f ≡ numbers_of (ledger_of (fs ++ (ed, f) ∷ [])))
counted ed fs f h =
    let nine = day-ledger.sized fs in
    let a : LedgerAnswer = record { number = 0; ledger = ledger_of (fs ++ (ed, f) ∷ []) } in
    let r =
    count-told ed (numbers_of (ledger_of fs)) f 0 (ledger-as-numbers.size (ledger_of fs) nine) (ledger_of fs) ed a (numbers_of (ledger_of (fs ++ (ed, f) ∷ [])))
    (sym (ledger-as-numbers.back (ledger_of fs) nine)) refl (sym (day-ledger.each-counted fs (ed, f) h)) (refl, refl) in
    (sym r.0, sym r.1)

pub ledger-calls : LedgerCalls
ledger-calls =
    record {
      counted = counted;
      other-count = λ ed ns f n. sym (count-other ed ns f 1 n refl).0;
      other_length = λ ns n. sym (length-other ns 1 n refl);
      other-print = λ ns text n. sym (print-other ns text 1 n refl).0;
      other-parse = λ text ns n. sym (parse-other text ns 1 n refl).0;
      count-unchanged = count-unchanged;
      print-unchanged = print-unchanged;
      parse-unchanged = parse-unchanged;
    }
