-- The day's ledger over plain numbers (document 02, l): what each function returns, and what it leaves in what it is lent. Assumes nothing.
use Rattle.std.specs.Prelude.{cond, List, ℕ, eqb, length}
use Rattle.frame.specs.declared.Edition.{Edition}
use Rattle.ledger.specs.Counting.{count_of}
use Rattle.ledger.specs.Report.{numbers_of, length_number, length_of, print_number, print_of, ledger_from, parse_of}
use Rattle.ledger.specs.declared.LedgerAnswer.{LedgerAnswer}
use Rattle.abi.specs.Status.{status_of}

-- a ledger is 12 numbers: of another length it is refused with 1, before anything else
abbrev pub of_twelve : List ℕ → ℕ → ℕ
of_twelve ns status = cond (eqb (length ns) 12) status 1

-- what is left in a buffer b that is lent beside it: b itself where it is refused so
abbrev pub left_beside : (ns written b : List ℕ) → List ℕ
left_beside ns written b = cond (eqb (length ns) 12) written b

-- an answer tells its number alone
abbrev pub answer_status : LedgerAnswer → ℕ
answer_status a = status_of a.number 0

-- and leaves the numbers as they are where it is a refusal
abbrev pub answer_numbers : LedgerAnswer → List ℕ → List ℕ
answer_numbers a ns = cond (eqb a.number 0) (numbers_of a.ledger) ns

unfoldable pub count_status : Edition → (ns f : List ℕ) → ℕ
count_status ed ns f = of_twelve ns (answer_status (count_of (ledger_from ns) (ed, f)))

unfoldable pub count_numbers : Edition → (ns f : List ℕ) → List ℕ
count_numbers ed ns f = left_beside ns (answer_numbers (count_of (ledger_from ns) (ed, f)) ns) ns

-- the number, and 256 times the bytes of the report
unfoldable pub length_status : List ℕ → ℕ
length_status ns = of_twelve ns (status_of (length_number (ledger_from ns)) (length_of (ledger_from ns)))

unfoldable pub print_status : (ns text : List ℕ) → ℕ
print_status ns text = of_twelve ns (status_of (print_number (ledger_from ns) (length text)) 0)

unfoldable pub print_text : (ns text : List ℕ) → List ℕ
print_text ns text = left_beside ns (print_of (ledger_from ns) text) text

unfoldable pub parse_status : (text ns : List ℕ) → ℕ
parse_status text ns = of_twelve ns (answer_status (parse_of text))

unfoldable pub parse_numbers : (text ns : List ℕ) → List ℕ
parse_numbers text ns = left_beside ns (answer_numbers (parse_of text) ns) ns
