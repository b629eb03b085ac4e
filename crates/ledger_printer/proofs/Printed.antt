-- Lines of text stored one after the other, how long they are, and what printing answers. Assumes nothing.
use mathlib.Core.Path.{◌≡◌, refl, sym, ap, ◌∙◌}
use mathlib.Core.Bool.{true, false}
use mathlib.Core.List.{List, [], ◌++◌, map, append_assoc, append-nil}
use Prim.Native.Nat.{ℕ, ◌+◌, ◌*◌, ◌<◌, ◌≤◌}
use native.Mathlib.Numerals.{add-one}
use native.Mathlib.Omega.{arith}
use lib.ListN.{length, drop, get_or, length-append, drop_of_length-le}
use lib.Seq.{sets, sets-eq, take_all, drop-cons, length-sets}
use borrow.Rule.Slice.PartMut.{put_mid}
use Rattle.std.proofs.lemmas.Slice.{put_mid-paste}
use Rattle.bits.specs.Layout.{sum}
use Rattle.decimals.specs.Decimal.{decimal}
use Rattle.decimals.specs.Put.{Put}
use Rattle.decimals.proofs.Decimals.{length-word}
use Rattle.decimals.proofs.Stores.{put_then, sets-start}
use Rattle.ledger.specs.Counting.{possible}
use Rattle.ledger.specs.Report.{labels, numbers_of, labelled_line, labelled_lines, ledger_report, print_number, print_of}
use Rattle.ledger.specs.declared.Ledger.{Ledger}
use Rattle.ledger.proofs.Reports.{digit_count, length-twelve, print-impossible, print-other-size, print-accepted, printed, unchanged}

-- ---- digits counted

-- with the numbers before i; the labels and line feeds from the first on
pub record Counted (ns : List ℕ) (total i : ℕ) : Type 0 where
  pub all : total + sum (map digit_count (drop i ns)) ≡ length (labelled_lines labels ns)
  pub small : total ≤ 125 + 20 * i

pub counted_none : (ns : List ℕ) → length ns ≡ 12 → Counted ns 125 0
counted_none ns e = record { all = sym (length-twelve ns e); small = omega arith }

module _ {ns : List ℕ} {total i : ℕ} (w : Counted ns total i) where
  pub counted_next : (d : ℕ) → i < length ns → get_or ns i 0 < 18446744073709551616 → d ≡ length (decimal (get_or ns i 0)) → Counted ns (total + d) (i + 1)
  unfolding sum
  counted_next d h l e =
      let next : sum (map digit_count (drop i ns)) ≡ digit_count (get_or ns i 0) + sum (map digit_count (drop (i + 1) ns)) = rw (add-one, drop-cons ns i 0 h) in
      record { all = omega (arith, w.all, next); small = omega (arith, w.small, length-word (get_or ns i 0) l) }

  pub counted-all : length ns ≤ i → total ≡ length (labelled_lines labels ns)
  unfolding sum
  counted-all h = let none : sum (map digit_count (drop i ns)) ≡ 0 = rw (drop_of_length-le ns {i = i} h) in omega (arith, w.all)

-- ---- a text that is copied

pub stored_text : (l s t : List ℕ) (at k : ℕ) → k ≡ length s → t ≡ s → at + length s ≤ length l → put_mid at k l t ≡ sets l at s
stored_text l s t at k e f h =
    put_mid-paste at k l t s (length s) f (sym e) refl ∙ rw (take_all (length s) s (omega arith)) (sym (sets-eq s l at h))

-- ---- lines

-- the first i lines are stored at the start of a buffer
pub record Lined (ls : List (List ℕ)) (ns out₀ out : List ℕ) (at i : ℕ) : Type 0 where
  pub done : List ℕ
  pub text : labelled_lines ls ns ≡ done ++ labelled_lines (drop i ls) (drop i ns)
  pub stored : Put out₀ 0 done out at

pub lined-none : (ls : List (List ℕ)) (ns out : List ℕ) → Lined ls ns out out 0 0
lined-none ls ns out = record { done = []; text = refl; stored = record { place = refl; text = refl } }

module _ {ls : List (List ℕ)} {ns out₀ out : List ℕ} {at i : ℕ} (w : Lined ls ns out₀ out at i) where
  pub lined-length : length out ≡ length out₀
  lined-length = ap length w.stored.text ∙ length-sets out₀ 0 w.done

  -- line i, and those behind it
  lined-rest : i < length ls → i < length ns
      → labelled_lines (drop i ls) (drop i ns) ≡ labelled_line (get_or ls i []) (get_or ns i 0) ++ labelled_lines (drop (i + 1) ls) (drop (i + 1) ns)
  unfolding labelled_lines
  lined-rest h k = rw (add-one, drop-cons ls i [] h, drop-cons ns i 0 k)

  pub lined-room : i < length ls → i < length ns → length out₀ ≡ length (labelled_lines ls ns) → at + length (labelled_line (get_or ls i []) (get_or ns i 0)) ≤ length out
  lined-room h k e =
      let line = labelled_line (get_or ls i []) (get_or ns i 0) in
      let rest = labelled_lines (drop (i + 1) ls) (drop (i + 1) ns) in
      omega (arith, lined-length, w.stored.place, ap length (w.text ∙ ap (w.done ++◌) (lined-rest h k)), length-append w.done (line ++ rest), length-append line rest)

  pub lined-next : (m : List ℕ) (j : ℕ) → i < length ls → i < length ns → Put out at (labelled_line (get_or ls i []) (get_or ns i 0)) m j → Lined ls ns out₀ m j (i + 1)
  lined-next m j h k put =
      let line = labelled_line (get_or ls i []) (get_or ns i 0) in
      record {
        done = w.done ++ line;
        text = w.text ∙ ap (w.done ++◌) (lined-rest h k) ∙ sym (append_assoc w.done line _);
        stored = put_then w.done line w.stored put;
      }

  pub lined-all : length ls ≤ i → length out₀ ≡ length (labelled_lines ls ns) → out ≡ labelled_lines ls ns
  unfolding labelled_lines
  lined-all h e =
      let whole : labelled_lines ls ns ≡ w.done = w.text ∙ rw (drop_of_length-le ls {i = i} h) (append-nil w.done) in
      w.stored.text
      ∙ ap (sets out₀ 0) (sym whole)
      ∙ sets-start out₀ (labelled_lines ls ns) (omega arith)
      ∙ ap (labelled_lines ls ns ++◌) (drop_of_length-le out₀ {i = length (labelled_lines ls ns)} (omega arith))
      ∙ append-nil (labelled_lines ls ns)

-- ---- what printing answers, and what it leaves in the buffer

module _ (l : Ledger) (out : List ℕ) where
  answer : (n : ℕ) → print_number l (length out) ≡ n → (n ≡ 0 → ⊥) → (n ≡ print_number l (length out)) × (out ≡ print_of l out)
  answer n e z = (sym e, sym (unchanged l out (λ x. z (sym e ∙ x))))

  pub answer-impossible : possible l ≡ false → (18 ≡ print_number l (length out)) × (out ≡ print_of l out)
  answer-impossible e = answer 18 (print-impossible l (length out) e) (λ z. omega arith)

  -- the report's size was found from the numbers
  module _ (ns : List ℕ) (size : ℕ) (possible-ledger : possible l ≡ true) (numbers : ns ≡ numbers_of l) (counted : size ≡ length (labelled_lines labels ns)) where
    report-text : labelled_lines labels ns ≡ ledger_report l
    unfolding ledger_report
    report-text = ap (labelled_lines labels) numbers

    report-size : size ≡ length (ledger_report l)
    report-size = counted ∙ ap length report-text

    pub answer-other-size : (length out ≡ size → ⊥) → (27 ≡ print_number l (length out)) × (out ≡ print_of l out)
    answer-other-size z = answer 27 (print-other-size l (length out) possible-ledger (λ e. z (e ∙ sym report-size))) (λ z. omega arith)

    pub answer-printed : (m : List ℕ) → length out ≡ size → m ≡ labelled_lines labels ns → (0 ≡ print_number l (length out)) × (m ≡ print_of l out)
    answer-printed m e text =
        let number = print-accepted l (length out) possible-ledger (e ∙ report-size) in
        (sym number, text ∙ report-text ∙ sym (printed l out number))
