-- The printed report of a ledger, and its reader (document 02, l). Assumes nothing.
use Rattle.std.specs.Prelude.{Bool, cond, not, List, [], ◌∷◌, ◌++◌, map, ℕ, ◌+◌, ◌<◌, eqb, length, take, drop, get_or, Option, Some, None}
use Rattle.bits.specs.Refusal.{first_refusal}
use Rattle.decimals.specs.Decimal.{decimal}
use Rattle.decimals.specs.Reading.{starts_with, number, decimal_at}
use Rattle.decimals.specs.declared.Number.{Number}
use Rattle.ledger.specs.Counting.{refusals, possible, fresh}
use Rattle.ledger.specs.declared.Ledger.{Ledger}
use Rattle.ledger.specs.declared.LedgerAnswer.{LedgerAnswer}

-- ---- the text

-- `refused`, a space, the refusal's number, a space
abbrev pub refused_label : ℕ → List ℕ
refused_label n = 114 ∷ 101 ∷ 102 ∷ 117 ∷ 115 ∷ 101 ∷ 100 ∷ 32 ∷ (48 + n) ∷ 32 ∷ []

-- what stands before the number of each line: `seen`, then `refused 1` to `refused 9`, `accepted` and `repaired`, each with one space
unfoldable pub labels : List (List ℕ)
labels =
    (115 ∷ 101 ∷ 101 ∷ 110 ∷ 32 ∷ [])
    ∷ (map refused_label refusals
    ++ (97 ∷ 99 ∷ 99 ∷ 101 ∷ 112 ∷ 116 ∷ 101 ∷ 100 ∷ 32 ∷ []) ∷ (114 ∷ 101 ∷ 112 ∷ 97 ∷ 105 ∷ 114 ∷ 101 ∷ 100 ∷ 32 ∷ []) ∷ [])

-- the numbers, in that order
unfoldable pub numbers_of : Ledger → List ℕ
numbers_of l = l.seen ∷ (l.refused ++ l.accepted ∷ l.repaired ∷ [])

-- numbers of 64 bits
abbrev pub Within64 : List ℕ → Type 0
Within64 ns = (i : ℕ) → get_or ns i 0 < 18446744073709551616

-- "a line each with one space and a plain decimal number"
abbrev pub labelled_line : List ℕ → ℕ → List ℕ
labelled_line label n = label ++ (decimal n ++ 10 ∷ [])

unfoldable pub labelled_lines : List (List ℕ) → List ℕ → List ℕ
labelled_lines [] ns = []
labelled_lines (label ∷ ls) [] = []
labelled_lines (label ∷ ls) (n ∷ ns) = labelled_line label n ++ labelled_lines ls ns

unfoldable pub ledger_report : Ledger → List ℕ
ledger_report l = labelled_lines labels (numbers_of l)

-- ---- printing

-- 18, or 0 with how many bytes the report has
unfoldable pub length_number : Ledger → ℕ
length_number l = cond (possible l) 0 18

unfoldable pub length_of : Ledger → ℕ
length_of l = cond (possible l) (length (ledger_report l)) 0

-- "an impossible ledger handed in is 18 too, .. before 27, a report buffer of another size": the tests of a buffer of n bytes
abbrev pub print_tests : Ledger → ℕ → List (ℕ × Bool)
print_tests l n = (18, not (possible l)) ∷ (27, not (eqb n (length (ledger_report l)))) ∷ []

unfoldable pub print_number : Ledger → ℕ → ℕ
print_number l n = first_refusal (print_tests l n)

-- what printing leaves in the buffer
unfoldable pub print_of : Ledger → List ℕ → List ℕ
print_of l out = cond (eqb (print_number l (length out)) 0) (ledger_report l) out

-- ---- reading

-- behind a label of k bytes, the number that was found and a line feed: the number, and how many bytes the line has
unfoldable pub line_ended : (k : ℕ) → List ℕ → Option Number → Option Number
line_ended k s None = None
line_ended k s (Some n) = cond (eqb (get_or s (k + n.bytes) 0) 10) (number n.value (k + n.bytes + 1)) None

-- the number of the line that s begins with, if it is one with this label
unfoldable pub line_at : (label s : List ℕ) → Option Number
line_at label s = cond (starts_with label s) (line_ended (length label) s (decimal_at (drop (length label) s))) None

-- a number in front
abbrev pub in_front : ℕ → Option (List ℕ) → Option (List ℕ)
in_front n None = None
in_front n (Some ns) = Some (n ∷ ns)

-- the number of a line, and those of what stands behind its k bytes
abbrev pub line_then : Option Number → (ℕ → Option (List ℕ)) → Option (List ℕ)
line_then None behind = None
line_then (Some n) behind = in_front n.value (behind n.bytes)

-- the numbers of a text that is a line for each label and nothing else
unfoldable pub numbers_in : List (List ℕ) → List ℕ → Option (List ℕ)
numbers_in [] [] = Some []
numbers_in [] (b ∷ s) = None
numbers_in (label ∷ ls) s = line_then (line_at label s) (λ k. numbers_in ls (drop k s))

-- the ledger of 12 numbers
unfoldable pub ledger_from : List ℕ → Ledger
ledger_from ns = record { seen = get_or ns 0 0; refused = take 9 (drop 1 ns); accepted = get_or ns 10 0; repaired = get_or ns 11 0 }

-- no report of a possible ledger
abbrev pub not_report : LedgerAnswer
not_report = record { number = 18; ledger = fresh }

abbrev pub parsed_from : Option (List ℕ) → LedgerAnswer
parsed_from None = not_report
parsed_from (Some ns) = cond (possible (ledger_from ns)) (record { number = 0; ledger = ledger_from ns }) not_report

-- what the reader of a report answers
unfoldable pub parse_of : List ℕ → LedgerAnswer
parse_of s = parsed_from (numbers_in labels s)
