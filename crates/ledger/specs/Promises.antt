-- What this crate promises, in the words of document 02, l). Each record has one value, proved in proofs/Promises.antt. Assumes nothing.
use Rattle.std.specs.Prelude.{◌≡◌, true, ◌≢◌, ◌⊎◌, List, [], ◌∷◌, ◌++◌, ℕ, ◌≤◌, ◌<◌, length, replicate}
use Rattle.bits.specs.Refusal.{test_numbers}
use Rattle.frame.specs.Read.{judge_of}
use Rattle.frame.specs.declared.Edition.{Edition}
use Rattle.ledger.specs.Counting.{Frame, ledger_of, Each, Possible, possible, fresh, count_tests, count_of, counted_in}
use Rattle.ledger.specs.Report.{numbers_of, ledger_from, Within64, ledger_report, length_number, length_of, print_tests, print_number, print_of, not_report, parse_of}
use Rattle.ledger.specs.Worked.{two_pieces, no_frames, longest}
use Rattle.ledger.specs.declared.Ledger.{Ledger}

-- a ledger has a number for each of the nine refusals
abbrev pub Sized : Ledger → Type 0
Sized l = length l.refused ≡ 9

pub record DayLedger : Type 0 where
  -- for any sequence of at most 4,000,000 frames from a fresh ledger, counted one by one, each number equals what the list of frames itself says
  pub counted : (fs : List Frame) → length fs ≤ 4000000 → counted_in fresh fs ≡ ledger_of fs
  -- each of them is answered with 0 and the ledger of the list with it, be it accepted or refused
  pub each-counted : (fs : List Frame) (f : Frame) → length fs < 4000000 → count_of (ledger_of fs) f ≡ record { number = 0; ledger = ledger_of (fs ++ f ∷ []) }
  -- at 4,000,000 frames the next is refused with 19 and the ledger stays as it is, however many come
  pub full : (fs : List Frame) (f : Frame) → length fs ≡ 4000000 → count_of (ledger_of fs) f ≡ record { number = 19; ledger = ledger_of fs }
  pub stays : (fs gs : List Frame) → length fs ≡ 4000000 → counted_in fresh (fs ++ gs) ≡ ledger_of fs
  -- an emptied ledger starts a new list: it is fresh, and that is the ledger of no frame
  pub new-list : ledger_of [] ≡ fresh
  -- a ledger is possible, some list of at most 4,000,000 frames gives it, exactly when its numbers pass the test; all frames of the list may be judged by
  -- whichever edition
  pub listed-passes : (l : Ledger) → Possible l → possible l ≡ true
  pub passing-listed : (ed : Edition) (l : Ledger) → Sized l → possible l ≡ true → (g : Possible l) × Each (λ f. f.0 ≡ ed) g.frames
  -- a list's ledger has the nine numbers
  pub sized : (fs : List Frame) → Sized (ledger_of fs)
  -- an impossible ledger handed in is 18 and stays as it is, and no possible one is; before 19
  pub impossible : (l : Ledger) (f : Frame) → Sized l → (Possible l → ⊥) → count_of l f ≡ record { number = 18; ledger = l }
  pub impossible-only : (l : Ledger) (f : Frame) → (count_of l f).number ≡ 18 → Possible l → ⊥
  pub order : (l : Ledger) → test_numbers (count_tests l) ≡ 18 ∷ 19 ∷ []

pub record LedgerReports : Type 0 where
  -- what is printed of a possible ledger is read as that ledger
  pub printed-read : (l : Ledger) → Possible l → parse_of (ledger_report l) ≡ record { number = 0; ledger = l }
  -- what is read is the report of a possible ledger, and prints the same bytes
  pub read-printed : (s : List ℕ) → (parse_of s).number ≡ 0 → Possible (parse_of s).ledger × (ledger_report (parse_of s).ledger ≡ s)
  -- refusal 18 exactly when the bytes are not a report of some possible ledger, and no other refusal
  pub refused-if-none : (s : List ℕ) → ((l : Ledger) → Possible l → ledger_report l ≢ s) → parse_of s ≡ not_report
  pub none-if-refused : (s : List ℕ) → (parse_of s).number ≡ 18 → (l : Ledger) → Possible l → ledger_report l ≢ s
  pub settled : (s : List ℕ) → ((parse_of s).number ≡ 0) ⊎ (parse_of s ≡ not_report)
  -- two ledgers of numbers of 64 bits, possible or not, print alike only if they are one
  pub apart : (l m : Ledger) → Sized l → Sized m → Within64 (numbers_of l) → Within64 (numbers_of m) → ledger_report l ≡ ledger_report m → l ≡ m
  -- the report of a possible ledger is printed into a buffer of its size; one of another size is 27, and an impossible ledger 18 whatever the buffer
  pub printed : (l : Ledger) (out : List ℕ) → Possible l → length out ≡ length (ledger_report l) → (print_number l (length out) ≡ 0) × (print_of l out ≡ ledger_report l)
  pub other-size : (l : Ledger) (n : ℕ) → Possible l → n ≢ length (ledger_report l) → print_number l n ≡ 27
  pub impossible : (l : Ledger) (n : ℕ) → Sized l → (Possible l → ⊥) → print_number l n ≡ 18
  pub order : (l : Ledger) (n : ℕ) → test_numbers (print_tests l n) ≡ 18 ∷ 27 ∷ []
  -- at a refusal the buffer stays as it was
  pub unchanged : (l : Ledger) (out : List ℕ) → print_number l (length out) ≢ 0 → print_of l out ≡ out
  -- how long it is, told with 0; of an impossible ledger 18, and no length
  pub measured : (l : Ledger) → Possible l → (length_number l ≡ 0) × (length_of l ≡ length (ledger_report l))
  pub not-measured : (l : Ledger) → Sized l → (Possible l → ⊥) → (length_number l ≡ 18) × (length_of l ≡ 0)
  -- it has 137 to 203 bytes, and each of the two is met: that of a fresh ledger and that of `longest`
  pub least : (l : Ledger) → Possible l → 137 ≤ length (ledger_report l)
  pub most : (l : Ledger) → Possible l → length (ledger_report l) ≤ 203
  pub least-met : length (ledger_report fresh) ≡ 137
  pub most-met : Possible longest × (length (ledger_report longest) ≡ 203)
  -- the two pieces of document 01's listing, an accepted frame of which nothing is repaired and then a short one, by any edition; and no frame at all
  pub two-pieces : (ed : Edition) (f x : List ℕ) → judge_of ed f ≡ record { number = 0; repaired = 0 } → length x ≢ 26
      → ledger_report (ledger_of ((ed, f) ∷ (ed, x) ∷ [])) ≡ two_pieces
  pub no-frames : ledger_report fresh ≡ no_frames

-- a ledger as its 12 numbers, in the order of the report
pub record LedgerNumbers : Type 0 where
  -- there and back
  pub size : (l : Ledger) → Sized l → length (numbers_of l) ≡ 12
  pub back : (l : Ledger) → Sized l → ledger_from (numbers_of l) ≡ l
  pub again : (ns : List ℕ) → length ns ≡ 12 → numbers_of (ledger_from ns) ≡ ns
  -- 12 zeros are a fresh ledger
  pub zeros : numbers_of fresh ≡ replicate 12 0
