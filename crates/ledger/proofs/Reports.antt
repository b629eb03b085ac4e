-- The printed report: what is printed is read again, and what is read was printed so. Assumes nothing.
use mathlib.Core.Path.{◌≡◌, refl, sym, ap, subst, ◌∙◌}
use mathlib.Core.Bool.{Bool, true, false, cond, not}
use mathlib.Core.Logic.{◌⊎◌, inl, inr}
use mathlib.Core.List.{List, [], ◌∷◌, ◌++◌, map, map-append, append_assoc}
use Prim.Native.Nat.{ℕ, zero, suc, ◌+◌, ◌*◌, ◌<◌, ◌≤◌}
use native.Mathlib.Numerals.{add-one}
use native.Mathlib.Omega.{arith}
use lib.Dec.{eqb, ltb}
use lib.ListN.{length, take, drop, get_or, length-append, length-drop, take-append-drop, drop_of_length-le, get_or-eq_default}
use lib.Seq.{length-take-le, drop-cons, drop-drop, drop-append_seam, take_at, get_or_at, get_or-append-add, get_or-append_seam, append_snoc}
use borrow.Author.Tests.{ltb-true, ltb-false, eqb-true, eq-eqb, ne_eqb}
use Rattle.bits.specs.Layout.{sum}
use Rattle.bits.specs.Refusal.{test_numbers}
use Rattle.bits.proofs.Layouts.{sum-append}
use Rattle.bits.proofs.Refusal.{refusal-here, refusal-later, none-refusal}
use Rattle.decimals.specs.Decimal.{digits, decimal}
use Rattle.decimals.specs.Reading.{number, starts_with, digits_from, decimal_at}
use Rattle.decimals.specs.declared.Number.{Number}
use Rattle.std.specs.Prelude.{Option, Some, None}
use Rattle.decimals.proofs.Decimals.{limit, length_most, length_last}
use Rattle.decimals.proofs.Readings.{Reads, number-parts, starts-same, starts-split, decimal-read, read-decimal}
use Rattle.ledger.specs.Counting.{possible}
use Rattle.ledger.specs.Report.{labels, numbers_of, Within64, labelled_line, labelled_lines, ledger_report, length_number, length_of, print_tests, print_number, print_of, line_ended, line_at, in_front, line_then, numbers_in, ledger_from, not_report, parsed_from, parse_of}
use Rattle.ledger.specs.declared.Ledger.{Ledger}
use Rattle.ledger.specs.declared.LedgerAnswer.{LedgerAnswer}
use Rattle.ledger.proofs.Possible.{possible-counts}

-- ---- computed, before the laws: a line `a 12`, printed and read

one_line : labelled_lines ((97 ∷ 32 ∷ []) ∷ []) (12 ∷ []) ≡ 97 ∷ 32 ∷ 49 ∷ 50 ∷ 10 ∷ []
unfolding labelled_lines digits
one_line = refl

line_read : numbers_in ((97 ∷ 32 ∷ []) ∷ []) (97 ∷ 32 ∷ 49 ∷ 50 ∷ 10 ∷ []) ≡ Some (12 ∷ [])
unfolding numbers_in line_at line_ended starts_with digits_from decimal_at
line_read = refl

-- no line feed at its end, and a line feed more
line-open : numbers_in ((97 ∷ 32 ∷ []) ∷ []) (97 ∷ 32 ∷ 49 ∷ 50 ∷ []) ≡ None
unfolding numbers_in line_at line_ended starts_with digits_from decimal_at
line-open = refl

line-behind : numbers_in ((97 ∷ 32 ∷ []) ∷ []) (97 ∷ 32 ∷ 49 ∷ 50 ∷ 10 ∷ 10 ∷ []) ≡ None
unfolding numbers_in line_at line_ended starts_with digits_from decimal_at
line-behind = refl

-- the label of refusal 9 stands behind those of `seen` and of eight refusals
ninth : get_or labels 9 [] ≡ 114 ∷ 101 ∷ 102 ∷ 117 ∷ 115 ∷ 101 ∷ 100 ∷ 32 ∷ 57 ∷ 32 ∷ []
unfolding labels
ninth = refl

-- the numbers in their order, there and back
in_order : numbers_of (record { seen = 1; refused = 2 ∷ []; accepted = 3; repaired = 4 }) ≡ 1 ∷ 2 ∷ 3 ∷ 4 ∷ []
unfolding numbers_of
in_order = refl

taken-in-order : (ledger_from (0 ∷ 1 ∷ 2 ∷ 3 ∷ 4 ∷ 5 ∷ 6 ∷ 7 ∷ 8 ∷ 9 ∷ 10 ∷ 11 ∷ [])).refused ≡ 1 ∷ 2 ∷ 3 ∷ 4 ∷ 5 ∷ 6 ∷ 7 ∷ 8 ∷ 9 ∷ []
unfolding ledger_from
taken-in-order = refl

-- one frame seen, and none refused or accepted
impossible-number : (parsed_from (Some (1 ∷ []))).number ≡ 18
unfolding ledger_from possible sum
impossible-number = refl

-- the refusals of printing, in their order
pub print-order : (l : Ledger) (n : ℕ) → test_numbers (print_tests l n) ≡ 18 ∷ 27 ∷ []
print-order l n = refl

-- ---- a line

abbrev pub digit_count : ℕ → ℕ
digit_count n = length (decimal n)

pub length-line : (label : List ℕ) (n : ℕ) → length (labelled_line label n) ≡ length label + digit_count n + 1
length-line label n = omega (arith, length-append label (decimal n ++ 10 ∷ []), length-append (decimal n) (10 ∷ []))

-- a label, a number and a line feed
pub line-at : (label s : List ℕ) (n : ℕ) → n < 18446744073709551616 → line_at label (labelled_line label n ++ s) ≡ number n (length (labelled_line label n))
unfolding line_at line_ended
line-at label s n h =
    let m = length (decimal n) in
    let text : labelled_line label n ++ s ≡ label ++ (decimal n ++ 10 ∷ s) =
    append_assoc label (decimal n ++ 10 ∷ []) s ∙ ap (label ++◌) (append_snoc (decimal n) 10 s) in
    let feed : get_or (label ++ (decimal n ++ 10 ∷ s)) (length label + m) 0 ≡ 10 =
    get_or-append-add label (decimal n ++ 10 ∷ s) m 0 ∙ get_or-append_seam (decimal n) 10 s 0 in
    let bytes = sym (length-line label n) in
    rw (text, starts-same label (decimal n ++ 10 ∷ s), drop-append_seam label (decimal n ++ 10 ∷ s), decimal-read n (10 ∷ s) h refl, eq-eqb _ 10 feed, bytes)

-- the text begins with the line of this label and n, in k bytes
pub record Line (label s : List ℕ) (n k : ℕ) : Type 0 where
  pub small : n < 18446744073709551616
  pub inside : k ≤ length s
  pub text : labelled_line label n ++ drop k s ≡ s

-- behind a label of j bytes a number of m digits was read, and a line feed
line-ended : (label s : List ℕ) (v m : ℕ) → starts_with label s ≡ true → Reads (drop (length label) s) v m → get_or s (length label + m) 0 ≡ 10
    → Line label s v (length label + m + 1)
line-ended label s v m a r feed =
    let j = length label in
    let inside : j + m < length s = go (ltb (j + m) (length s)) refl in
    let rest : drop m (drop j s) ≡ 10 ∷ drop (j + m + 1) s =
    drop-drop m j s ∙ drop-cons s (j + m) 0 inside ∙ rw (feed, add-one) in
    record {
      small = r.small;
      inside = omega arith;
      text =
          append_assoc label (decimal v ++ 10 ∷ []) _
          ∙ ap (label ++◌) (append_snoc (decimal v) 10 _ ∙ ap (decimal v ++◌) (sym rest) ∙ sym r.text)
          ∙ sym (starts-split label s a);
    }
  where
    go : (t : Bool) → ltb (length label + m) (length s) ≡ t → length label + m < length s
    go true e = ltb-true (length label + m) (length s) e
    go false e = absurd (omega (arith, get_or-eq_default s 0 {n = length label + m} (ltb-false (length label + m) (length s) e)))

pub line-is : (label s : List ℕ) (n k : ℕ) → line_at label s ≡ number n k → Line label s n k
unfolding line_at line_ended
line-is label s n k e = go (starts_with label s) refl (decimal_at (drop (length label) s)) refl
  where
    ended : (v m : ℕ) → starts_with label s ≡ true → Reads (drop (length label) s) v m → (t : Bool) → eqb (get_or s (length label + m) 0) 10 ≡ t
        → cond t (number v (length label + m + 1)) None ≡ number n k → Line label s n k
    ended v m a r true f g =
        let same = number-parts g in
        subst (λ x. Line label s x k) same.0 (subst (λ x. Line label s v x) same.1 (line-ended label s v m a r (eqb-true _ 10 f)))
    ended v m a r false f g = let z : ◌≡◌ {A = ℕ} 0 1 = cc in absurd (omega arith)

    go : (t : Bool) → starts_with label s ≡ t → (f : Option Number) → decimal_at (drop (length label) s) ≡ f → Line label s n k
    go false a f d = let g = rw a at e in let z : ◌≡◌ {A = ℕ} 0 1 = cc in absurd (omega arith)
    go true a None d = let g = rw (a, d) at e in let z : ◌≡◌ {A = ℕ} 0 1 = cc in absurd (omega arith)
    go true a (Some f) d = ended f.value f.bytes a (read-decimal (drop (length label) s) f.value f.bytes d) (eqb (get_or s (length label + f.bytes) 0) 10) refl (rw (a, d) at e)

-- ---- any labels and numbers

pub numbers-in : (ls : List (List ℕ)) (ns : List ℕ) → length ns ≡ length ls → Within64 ns → numbers_in ls (labelled_lines ls ns) ≡ Some ns
unfolding numbers_in labelled_lines
numbers-in [] [] e w = refl
numbers-in [] (n ∷ ns) e w = absurd (omega arith)
numbers-in (l ∷ ls) [] e w = absurd (omega arith)
numbers-in (l ∷ ls) (n ∷ ns) e w =
    let rest = labelled_lines ls ns in
    ap (λ f. line_then f (λ k. numbers_in ls (drop k (labelled_line l n ++ rest)))) (line-at l rest n (w 0))
    ∙ ap (λ s. in_front n (numbers_in ls s)) (drop-append_seam (labelled_line l n) rest)
    ∙ ap (in_front n) (numbers-in ls ns (omega arith) (λ i. w (suc i)))

-- the text is these labels' lines with these numbers
pub record Lines (ls : List (List ℕ)) (s ns : List ℕ) : Type 0 where
  pub as_many : length ns ≡ length ls
  pub words : Within64 ns
  pub text : labelled_lines ls ns ≡ s

lines_more : (l : List ℕ) (ls : List (List ℕ)) (s ns : List ℕ) (n k : ℕ) → Line l s n k → Lines ls (drop k s) ns → Lines (l ∷ ls) s (n ∷ ns)
unfolding labelled_lines
lines_more l ls s ns n k h t =
    record { as_many = omega (arith, t.as_many); words = go; text = ap (labelled_line l n ++◌) t.text ∙ h.text }
  where
    go : Within64 (n ∷ ns)
    go zero = h.small
    go (suc i) = t.words i

pub lines_are : (ls : List (List ℕ)) (s ns : List ℕ) → numbers_in ls s ≡ Some ns → Lines ls s ns
unfolding numbers_in labelled_lines
lines_are [] [] ns e =
    let same : [] ≡ ns = cc in
    subst (λ x. Lines [] [] x) same (record { as_many = refl; words = λ i. omega arith; text = refl })
lines_are [] (b ∷ s) ns e = let z : ◌≡◌ {A = ℕ} 0 1 = cc in absurd (omega arith)
lines_are (l ∷ ls) s ns e = go (λ t ms. lines_are ls t ms) (line_at l s) refl
  where
    behind : (n k : ℕ) → ((t ms : List ℕ) → numbers_in ls t ≡ Some ms → Lines ls t ms) → Line l s n k
        → (o : Option (List ℕ)) → numbers_in ls (drop k s) ≡ o → in_front n o ≡ Some ns → Lines (l ∷ ls) s ns
    behind n k r h None d f = let z : ◌≡◌ {A = ℕ} 0 1 = cc in absurd (omega arith)
    behind n k r h (Some ms) d f =
        let same : n ∷ ms ≡ ns = cc in
        subst (λ x. Lines (l ∷ ls) s x) same (lines_more l ls s ms n k h (r (drop k s) ms d))

    go : ((t ms : List ℕ) → numbers_in ls t ≡ Some ms → Lines ls t ms) → (f : Option Number) → line_at l s ≡ f → Lines (l ∷ ls) s ns
    go r None d = let g = rw d at e in let z : ◌≡◌ {A = ℕ} 0 1 = cc in absurd (omega arith)
    go r (Some f) d = behind f.value f.bytes r (line-is l s f.value f.bytes d) (numbers_in ls (drop f.bytes s)) refl (rw d at e)

-- ---- a ledger and its 12 numbers

pub twelve-labels : length labels ≡ 12
unfolding labels
twelve-labels = refl

module _ (l : Ledger) (nine : length l.refused ≡ 9) where
  pub twelve-numbers : length (numbers_of l) ≡ 12
  unfolding numbers_of
  twelve-numbers = omega (arith, length-append l.refused (l.accepted ∷ l.repaired ∷ []))

  pub ledger-numbers : ledger_from (numbers_of l) ≡ l
  unfolding ledger_from numbers_of
  ledger-numbers = λ i.
      record {
        seen = l.seen;
        refused = take_at l.refused (l.accepted ∷ l.repaired ∷ []) 9 nine i;
        accepted = get_or_at l.refused l.accepted (l.repaired ∷ []) 0 9 nine i;
        repaired = last i;
      }
    where
      last : get_or (l.refused ++ l.accepted ∷ l.repaired ∷ []) 10 0 ≡ l.repaired
      last =
          ap (λ s. get_or s 10 0) (sym (append_assoc l.refused (l.accepted ∷ []) (l.repaired ∷ [])))
          ∙ get_or_at (l.refused ++ l.accepted ∷ []) l.repaired [] 0 10 (omega (arith, length-append l.refused (l.accepted ∷ [])))

pub numbers-ledger : (ns : List ℕ) → length ns ≡ 12 → numbers_of (ledger_from ns) ≡ ns
unfolding ledger_from numbers_of
numbers-ledger ns e =
    let behind : drop 9 (drop 1 ns) ≡ get_or ns 10 0 ∷ get_or ns 11 0 ∷ [] =
    drop-drop 9 1 ns
    ∙ drop-cons ns 10 0 (omega arith)
    ∙ ap (get_or ns 10 0 ∷◌) (drop-cons ns 11 0 (omega arith) ∙ ap (get_or ns 11 0 ∷◌) (drop_of_length-le ns {i = 12} (omega arith))) in
    ap (λ s. get_or ns 0 0 ∷ (take 9 (drop 1 ns) ++ s)) (sym behind)
    ∙ ap (get_or ns 0 0 ∷◌) (take-append-drop 9 (drop 1 ns))
    ∙ sym (drop-cons ns 0 0 (omega arith))

pub nine-refused : (ns : List ℕ) → length ns ≡ 12 → length (ledger_from ns).refused ≡ 9
unfolding ledger_from
nine-refused ns e = length-take-le 9 (drop 1 ns) (omega (arith, length-drop 1 ns))

-- a number of a list is at most their sum
at-most-sum : (ns : List ℕ) (i : ℕ) → get_or ns i 0 ≤ sum ns
unfolding sum
at-most-sum [] i = omega arith
at-most-sum (n ∷ ns) zero = omega arith
at-most-sum (n ∷ ns) (suc i) = omega (arith, at-most-sum ns i)

-- 4,000,000 frames seen, as many refused or accepted, and 32,000,000 places
pub possible-words : (l : Ledger) → possible l ≡ true → Within64 (numbers_of l)
unfolding numbers_of sum
possible-words l p i =
    let c = possible-counts l p in
    omega (arith, at-most-sum (numbers_of l) i, sum-append l.refused (l.accepted ∷ l.repaired ∷ []), c.all, c.few, c.eight)

-- ---- printed and read

pub report-numbers : (l : Ledger) → length l.refused ≡ 9 → Within64 (numbers_of l) → numbers_in labels (ledger_report l) ≡ Some (numbers_of l)
unfolding ledger_report
report-numbers l nine w = numbers-in labels (numbers_of l) (twelve-numbers l nine ∙ sym twelve-labels) w

-- "else that ledger": what is printed of a possible ledger is read as that ledger
pub parse-print : (l : Ledger) → length l.refused ≡ 9 → possible l ≡ true → parse_of (ledger_report l) ≡ record { number = 0; ledger = l }
unfolding parse_of
parse-print l nine p =
    ap parsed_from (report-numbers l nine (possible-words l p))
    ∙ ap (λ m. cond (possible m) (record { number = 0; ledger = m }) not_report) (ledger-numbers l nine)
    ∙ ap (λ t. cond t (record { number = 0; ledger = l }) not_report) p

-- the text is the report of this ledger, and some list of frames gives it
abbrev pub ReportOf : List ℕ → Ledger → Type 0
ReportOf s l = (possible l ≡ true) × ((length l.refused ≡ 9) × (ledger_report l ≡ s))

-- the reader answers with the ledger whose report the text is, or with 18
pub data Settled (s : List ℕ) : LedgerAnswer → Type 0 where
  report : (l : Ledger) → ReportOf s l → Settled s (record { number = 0; ledger = l })
  other : Settled s not_report

pub settle : (s : List ℕ) → Settled s (parse_of s)
unfolding parse_of ledger_report
settle s = go (numbers_in labels s) refl
  where
    judged : (ns : List ℕ) → Lines labels s ns → (t : Bool) → possible (ledger_from ns) ≡ t → Settled s (cond t (record { number = 0; ledger = ledger_from ns }) not_report)
    judged ns h false e = other
    judged ns h true e =
        let twelve = h.as_many ∙ twelve-labels in
        report (ledger_from ns) (e, (nine-refused ns twelve, ap (labelled_lines labels) (numbers-ledger ns twelve) ∙ h.text))

    go : (o : Option (List ℕ)) → numbers_in labels s ≡ o → Settled s (parsed_from o)
    go None e = other
    go (Some ns) e = judged ns (lines_are labels s ns e) (possible (ledger_from ns)) refl

-- "refusal 18 exactly when the bytes are not a report of some possible ledger, else that ledger"
pub print-parse : (s : List ℕ) → (parse_of s).number ≡ 0 → ReportOf s (parse_of s).ledger
print-parse s e = go (settle s) e
  where
    go : {a : LedgerAnswer} → Settled s a → a.number ≡ 0 → ReportOf s a.ledger
    go (report l h) e = h
    go other e = absurd (omega arith)

pub settled : (s : List ℕ) → ((parse_of s).number ≡ 0) ⊎ (parse_of s ≡ not_report)
settled s = go (settle s)
  where
    go : {a : LedgerAnswer} → Settled s a → (a.number ≡ 0) ⊎ (a ≡ not_report)
    go (report l h) = inl refl
    go other = inr refl

-- two ledgers have the same report only if they are the same
pub apart : (l m : Ledger) → length l.refused ≡ 9 → length m.refused ≡ 9 → Within64 (numbers_of l) → Within64 (numbers_of m) → ledger_report l ≡ ledger_report m → l ≡ m
apart l m nine-l nine-m w v e =
    let same : Some (numbers_of l) ≡ Some (numbers_of m) = sym (report-numbers l nine-l w) ∙ ap (numbers_in labels) e ∙ report-numbers m nine-m v in
    let numbers : numbers_of l ≡ numbers_of m = cc in
    sym (ledger-numbers l nine-l) ∙ ap ledger_from numbers ∙ ledger-numbers m nine-m

-- ---- how long it is

-- the labels, the numbers and the line feeds
pub length-lines : (ls : List (List ℕ)) (ns : List ℕ) → length ns ≡ length ls
    → length (labelled_lines ls ns) ≡ sum (map length ls) + sum (map digit_count ns) + length ls
unfolding labelled_lines sum
length-lines [] [] e = refl
length-lines [] (n ∷ ns) e = absurd (omega arith)
length-lines (l ∷ ls) [] e = absurd (omega arith)
length-lines (l ∷ ls) (n ∷ ns) e =
    omega (arith, length-append (labelled_line l n) (labelled_lines ls ns), length-line l n, length-lines ls ns (omega arith))

-- 113 bytes of labels and 12 line feeds
pub length-twelve : (ns : List ℕ) → length ns ≡ 12 → length (labelled_lines labels ns) ≡ 125 + sum (map digit_count ns)
unfolding labels sum
length-twelve ns e = omega (arith, length-lines labels ns e)

-- at least a digit each
digits-least : (ns : List ℕ) → Within64 ns → length ns ≤ sum (map digit_count ns)
unfolding sum
digits-least [] w = omega arith
digits-least (n ∷ ns) w = omega (arith, length_last n (w 0), digits-least ns (λ i. w (suc i)))

-- a sixth digit takes 100,000 frames and a seventh 1,000,000: long numbers are few
digits-most : (ns : List ℕ) → sum ns ≤ 4000000 → 900000 * sum (map digit_count ns) ≤ 5300000 * length ns + sum ns
unfolding sum limit
digits-most [] h = omega arith
digits-most (n ∷ ns) h = omega (arith, go (ltb n 100000) refl (ltb n 1000000) refl, digits-most ns (omega arith))
  where
    go : (t : Bool) → ltb n 100000 ≡ t → (u : Bool) → ltb n 1000000 ≡ u → 900000 * digit_count n ≤ 5300000 + n
    go true e u f = omega (arith, length_most 4 n (omega (arith, ltb-true n 100000 e)))
    go false e true f = omega (arith, ltb-false n 100000 e, length_most 5 n (omega (arith, ltb-true n 1000000 f)))
    go false e false f = omega (arith, ltb-false n 1000000 f, length_most 6 n (omega arith))

-- of the numbers of all lines, of which `seen` has seven digits, `repaired` eight, and the ten others 63
numbers-most : (l : Ledger) → length l.refused ≡ 9 → possible l ≡ true → sum (map digit_count (numbers_of l)) ≤ 78
unfolding numbers_of sum limit
numbers-most l nine p =
    let c = possible-counts l p in
    let ten = l.refused ++ l.accepted ∷ [] in
    let parts : sum (map digit_count (l.refused ++ l.accepted ∷ l.repaired ∷ [])) ≡ sum (map digit_count ten) + digit_count l.repaired =
    ap (λ s. sum (map digit_count s)) (sym (append_assoc l.refused (l.accepted ∷ []) (l.repaired ∷ [])))
    ∙ ap sum (map-append digit_count ten (l.repaired ∷ []))
    ∙ omega (arith, sum-append (map digit_count ten) (digit_count l.repaired ∷ [])) in
    let all : sum ten ≡ l.seen = omega (arith, sum-append l.refused (l.accepted ∷ []), c.all) in
    let ten-long : length ten ≡ 10 = omega (arith, length-append l.refused (l.accepted ∷ [])) in
    omega (
      arith,
      parts,
      digits-most ten (omega (arith, c.few)),
      c.few,
      length_most 6 l.seen (omega (arith, c.few)),
      length_most 7 l.repaired (omega (arith, c.all, c.few, c.eight)),
    )

pub report-length : (l : Ledger) → length l.refused ≡ 9 → possible l ≡ true → (137 ≤ length (ledger_report l)) × (length (ledger_report l) ≤ 203)
unfolding ledger_report
report-length l nine p =
    let twelve = twelve-numbers l nine in
    let least = digits-least (numbers_of l) (possible-words l p) in
    let most = numbers-most l nine p in
    let long = length-twelve (numbers_of l) twelve in
    (omega arith, omega arith)

-- ---- printing

module _ (l : Ledger) where
  pub length-impossible : possible l ≡ false → (length_number l ≡ 18) × (length_of l ≡ 0)
  unfolding length_number length_of
  length-impossible e = (ap (λ t. cond t 0 18) e, ap (λ t. cond t (length (ledger_report l)) 0) e)

  pub length-possible : possible l ≡ true → (length_number l ≡ 0) × (length_of l ≡ length (ledger_report l))
  unfolding length_number length_of
  length-possible e = (ap (λ t. cond t 0 18) e, ap (λ t. cond t (length (ledger_report l)) 0) e)

-- of any ledger
pub report-most : (l : Ledger) → length l.refused ≡ 9 → length_of l ≤ 203
report-most l nine = go (possible l) refl
  where
    go : (t : Bool) → possible l ≡ t → length_of l ≤ 203
    go true e = omega (arith, (length-possible l e).1, (report-length l nine e).1)
    go false e = omega (arith, (length-impossible l e).1)

module _ (l : Ledger) (n : ℕ) where
  pub print-impossible : possible l ≡ false → print_number l n ≡ 18
  unfolding print_number
  print-impossible e = refusal-here 18 _ (ap not e)

  pub print-other-size : possible l ≡ true → (n ≡ length (ledger_report l) → ⊥) → print_number l n ≡ 27
  unfolding print_number
  print-other-size e z = refusal-later 18 _ (ap not e) ∙ refusal-here 27 [] (ap not (ne_eqb n (length (ledger_report l)) z))

  pub print-accepted : possible l ≡ true → n ≡ length (ledger_report l) → print_number l n ≡ 0
  unfolding print_number
  print-accepted e z = none-refusal (print_tests l n) (ap not e, (ap not (eq-eqb n (length (ledger_report l)) z), tt))

module _ (l : Ledger) (out : List ℕ) where
  pub printed : print_number l (length out) ≡ 0 → print_of l out ≡ ledger_report l
  unfolding print_of
  printed e = ap (λ t. cond t (ledger_report l) out) (eq-eqb (print_number l (length out)) 0 e)

  pub unchanged : (print_number l (length out) ≡ 0 → ⊥) → print_of l out ≡ out
  unfolding print_of
  unchanged e = ap (λ t. cond t (ledger_report l) out) (ne_eqb (print_number l (length out)) 0 e)
