-- A line has at most 32 bytes, and the lines have room in the buffer. Assumes nothing.
use mathlib.Core.Path.{◌≡◌, refl}
use mathlib.Core.Bool.{Bool, true, false, cond}
use mathlib.Core.List.{List, [], ◌∷◌}
use Prim.Native.Nat.{ℕ, zero, suc, ◌+◌, ◌*◌, ◌<◌, ◌≤◌}
use native.Mathlib.Omega.{arith}
use lib.Dec.{eqb, leb}
use lib.ListN.{length, take, drop, length-append}
use borrow.Author.Tests.{leb-true}
use Rattle.frame.specs.declared.Edition.{Edition}
use Rattle.frame.specs.declared.Verdict.{Verdict}
use Rattle.decimals.specs.Decimal.{decimal}
use Rattle.listing.specs.Lines.{piece_size, verdict_of, places_text, line_of, end_line, piece_count, lines, list_count, end_count}
use Rattle.listing.specs.declared.Pieces.{Pieces}
use Rattle.decimals.proofs.Decimals.{length-word, length-byte}
use Rattle.listing.proofs.Counts.{count_most}
use Rattle.listing.proofs.NextLine.{lines_none, lines_next}
use Rattle.listing.proofs.Verdicts.{verdict-small}

pub length-places : (v : Verdict) → v.repaired < 256 → length (places_text v) ≤ 3
length-places v h = go (eqb v.number 0)
  where
    go : (t : Bool) → length (cond t (decimal v.repaired) (45 ∷ [])) ≤ 3
    go true = length-byte v.repaired h
    go false = omega arith

pub length-line : (n : ℕ) (v : Verdict) → n < 18446744073709551616 → v.number < 256 → v.repaired < 256 → length (line_of n v) ≤ 32
unfolding line_of
length-line n v h a b =
    simp length-append (omega (arith, length-word n h, length-byte v.number a, length-places v b))

pub length-end : (n : ℕ) → n < 18446744073709551616 → length (end_line n) ≤ 32
unfolding end_line
length-end n h = simp length-append (omega (arith, length-word n h))

module _ (ed : Edition) (p : Pieces) where
  pub line-short : (n : ℕ) (s : List ℕ) → n < 18446744073709551616 → length (line_of n (verdict_of ed p s)) ≤ 32
  line-short n s h = let small = verdict-small ed p s in length-line n (verdict_of ed p s) h small.0 small.1

  pub length-lines : (k n : ℕ) (s : List ℕ) → n + k < 18446744073709551616 → length (lines ed p k n s) ≤ 32 * k
  length-lines zero n s h = rw (lines_none ed p n s) (omega arith)
  length-lines (suc k) n s h =
      let first = line-short n (take (piece_size p) s) (omega arith) in
      let others = length-lines k (n + 1) (drop (piece_size p) s) (omega arith) in
      rw (lines_next ed p k n s) (simp length-append (omega arith))

  -- what `list` answers is at most the buffer's length, and what `end` answers is at most 32
  pub list-within : (s : List ℕ) (n m j : ℕ) → j ≡ list_count ed p s n m → n + length s < 18446744073709551616 → j ≤ m
  unfolding list_count
  list-within s n m j e h = rw e (go (leb (32 * k) m) refl)
    where
      k : ℕ
      k = piece_count p (length s)

      go : (t : Bool) → leb (32 * k) m ≡ t → cond t (length (lines ed p k n s)) 0 ≤ m
      go true q = omega (arith, leb-true (32 * k) m q, length-lines k n s (omega (arith, count_most p (length s))))
      go false q = omega arith

pub end-within : (n m j : ℕ) → j ≡ end_count n m → n < 18446744073709551616 → j ≤ 32
unfolding end_count
end-within n m j e h = rw e (go (leb 32 m))
  where
    go : (t : Bool) → cond t (length (end_line n)) 0 ≤ 32
    go true = length-end n h
    go false = omega arith
