-- The promises hold. Assumes nothing.
use mathlib.Core.Path.{◌≡◌, refl, sym, ap, subst, ◌∙◌}
use mathlib.Core.Bool.{Bool, true, false}
use mathlib.Core.Logic.{◌≢◌, ◌⊎◌, inl, inr}
use mathlib.Core.List.{List, [], ◌∷◌, ◌++◌}
use Prim.Native.Nat.{ℕ, ◌≤◌}
use native.Mathlib.Omega.{arith}
use lib.Dec.{eqb}
use lib.ListN.{length, replicate}
use borrow.Author.Tests.{eqb-true, eqb-false}
use Rattle.frame.specs.declared.Edition.TheVariants.{First}
use Rattle.ledger.specs.Counting.{Frame, ledger_of, most_frames, Possible, possible, fresh, count_of, counted_in}
use Rattle.ledger.specs.Report.{numbers_of, ledger_report, length_number, length_of, print_number, print_of, not_report, parse_of}
use Rattle.ledger.specs.Worked.{longest}
use Rattle.ledger.specs.Promises.{Sized, DayLedger, LedgerReports, LedgerNumbers}
use Rattle.ledger.specs.declared.Ledger.{Ledger}
use Rattle.ledger.specs.declared.LedgerAnswer.{LedgerAnswer}
use Rattle.ledger.proofs.Lists.{list-possible, list-nine, list-none}
use Rattle.ledger.proofs.Counted.{count-order, answer-impossible, answer-full, answer-counted, list_counted, list_full, list-stays, counted-append, fresh-counted}
use Rattle.ledger.proofs.Given.{given}
use Rattle.ledger.proofs.Reports.{twelve-numbers, ledger-numbers, numbers-ledger, length-impossible, length-possible, print-order, parse-print, print-parse, settled, apart, report-length, print-impossible, print-other-size, print-accepted, printed, unchanged}
use Rattle.ledger.proofs.Worked.{two-pieces, no-frames, least-met, longest-passes, longest-nine, longest-size}

pub listed-passes : (l : Ledger) → Possible l → possible l ≡ true
listed-passes l g = ap possible (sym g.gives) ∙ list-possible g.frames g.few

stays : (fs gs : List Frame) → length fs ≡ most_frames → counted_in fresh (fs ++ gs) ≡ ledger_of fs
stays fs gs h =
    counted-append fresh fs gs ∙ ap (λ (l : Ledger). counted_in l gs) (fresh-counted fs (omega arith)) ∙ list-stays fs gs h

impossible : (l : Ledger) (f : Frame) → Sized l → (Possible l → ⊥) → count_of l f ≡ record { number = 18; ledger = l }
impossible l f nine n = go (possible l) refl
  where
    go : (t : Bool) → possible l ≡ t → count_of l f ≡ record { number = 18; ledger = l }
    go true e = absurd (n (given First l nine e).0)
    go false e = answer-impossible l f e

number_of : LedgerAnswer → ℕ
number_of a = a.number

-- a possible ledger is answered with 19 or 0
impossible-only : (l : Ledger) (f : Frame) → (count_of l f).number ≡ 18 → Possible l → ⊥
unfolding number_of
impossible-only l f e g = go (eqb l.seen most_frames) refl
  where
    ok : possible l ≡ true
    ok = listed-passes l g

    go : (t : Bool) → eqb l.seen most_frames ≡ t → ⊥
    go true s = let z = ap number_of (answer-full l f ok (eqb-true l.seen most_frames s)) in omega arith
    go false s = let z = ap number_of (answer-counted l f ok (eqb-false l.seen most_frames s)) in omega arith

pub day-ledger : DayLedger
day-ledger =
    record {
      counted = fresh-counted;
      each-counted = list_counted;
      full = list_full;
      stays = stays;
      new-list = list-none;
      listed-passes = listed-passes;
      passing-listed = given;
      sized = list-nine;
      impossible = impossible;
      impossible-only = impossible-only;
      order = count-order;
    }

-- ---- the report

listed-sized : (l : Ledger) → Possible l → Sized l
listed-sized l g = subst Sized g.gives (list-nine g.frames)

printed-read : (l : Ledger) → Possible l → parse_of (ledger_report l) ≡ record { number = 0; ledger = l }
printed-read l g = parse-print l (listed-sized l g) (listed-passes l g)

read-printed : (s : List ℕ) → (parse_of s).number ≡ 0 → Possible (parse_of s).ledger × (ledger_report (parse_of s).ledger ≡ s)
read-printed s e = let r = print-parse s e in ((given First (parse_of s).ledger r.1.0 r.0).0, r.1.1)

refused-if-none : (s : List ℕ) → ((l : Ledger) → Possible l → ledger_report l ≢ s) → parse_of s ≡ not_report
refused-if-none s n = go (settled s)
  where
    go : ((parse_of s).number ≡ 0) ⊎ (parse_of s ≡ not_report) → parse_of s ≡ not_report
    go (inl e) = let r = read-printed s e in absurd (n (parse_of s).ledger r.0 r.1)
    go (inr e) = e

none-if-refused : (s : List ℕ) → (parse_of s).number ≡ 18 → (l : Ledger) → Possible l → ledger_report l ≢ s
unfolding number_of
none-if-refused s e l g same = let z = ap number_of (sym (ap parse_of same) ∙ printed-read l g) in omega arith

printed-whole : (l : Ledger) (out : List ℕ) → Possible l → length out ≡ length (ledger_report l) → (print_number l (length out) ≡ 0) × (print_of l out ≡ ledger_report l)
printed-whole l out g e = let n = print-accepted l (length out) (listed-passes l g) e in (n, printed l out n)

not-printed : (l : Ledger) (n : ℕ) → Sized l → (Possible l → ⊥) → print_number l n ≡ 18
not-printed l n nine none = go (possible l) refl
  where
    go : (t : Bool) → possible l ≡ t → print_number l n ≡ 18
    go true e = absurd (none (given First l nine e).0)
    go false e = print-impossible l n e

not-measured : (l : Ledger) → Sized l → (Possible l → ⊥) → (length_number l ≡ 18) × (length_of l ≡ 0)
not-measured l nine none = go (possible l) refl
  where
    go : (t : Bool) → possible l ≡ t → (length_number l ≡ 18) × (length_of l ≡ 0)
    go true e = absurd (none (given First l nine e).0)
    go false e = length-impossible l e

pub ledger-reports : LedgerReports
ledger-reports =
    record {
      printed-read = printed-read;
      read-printed = read-printed;
      refused-if-none = refused-if-none;
      none-if-refused = none-if-refused;
      settled = settled;
      apart = apart;
      printed = printed-whole;
      other-size = λ l n g e. print-other-size l n (listed-passes l g) e;
      impossible = not-printed;
      order = print-order;
      unchanged = unchanged;
      measured = λ l g. length-possible l (listed-passes l g);
      not-measured = not-measured;
      least = λ l g. (report-length l (listed-sized l g) (listed-passes l g)).0;
      most = λ l g. (report-length l (listed-sized l g) (listed-passes l g)).1;
      least-met = least-met;
      most-met = ((given First longest longest-nine longest-passes).0, longest-size);
      two-pieces = two-pieces;
      no-frames = no-frames;
    }

-- ---- the numbers

zeros : numbers_of fresh ≡ replicate 12 0
unfolding numbers_of
zeros = refl

pub ledger-as-numbers : LedgerNumbers
ledger-as-numbers = record { size = twelve-numbers; back = ledger-numbers; again = numbers-ledger; zeros = zeros }
