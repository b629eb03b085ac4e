-- The ways out of `list_piece`. Assumes nothing.
use mathlib.Core.Path.{◌≡◌, refl, sym, ap, ap₂, ◌∙◌}
use mathlib.Core.Bool.{true, false}
use mathlib.Core.List.{List, ◌++◌, append_assoc}
use Prim.Native.Nat.{ℕ, ◌+◌, ◌-◌, ◌*◌, ◌≤◌}
use native.Mathlib.Omega.{arith}
use lib.ListN.{length, take, drop, length-append, length-take, length-drop}
use lib.Seq.{take_at, drop_at, drop-drop}
use borrow.Author.Tests.{le-leb}
use Rattle.bits.proofs.Slices.{rest-lent}
use Rattle.frame.specs.declared.Edition.{Edition}
use Rattle.listing.specs.Lines.{piece_count, end_line, list_count, list_of, end_count, end_of}
use Rattle.listing.specs.declared.Pieces.{Pieces}
use Rattle.listing.proofs.LineLengths.{length-lines}
use Rattle.listing_turns.specs.Turns.{wanted_after, lines_after, turn_text, fits, turn_refused, turn_of, buffer_after}
use Rattle.listing_turns.specs.declared.Turn.{Turn}
use Rattle.listing_turns.proofs.Room.{fits-true, text-more, text-last}

-- a text at the start of a buffer, and how long it is
abbrev Stored : (x out : List ℕ) (j : ℕ) (m : List ℕ) → Type 0
Stored x out j m = (j ≡ length x) × (m ≡ x ++ drop (length x) out)

-- the last line behind a text
end-stored : (n i k : ℕ) (x out m v last : List ℕ) → Stored x out i m → length x + 32 ≤ length out
    → k ≡ end_count n (length (take (length m - i) (drop i m))) → last ≡ end_of n (take (length m - i) (drop i m))
    → v ≡ take i m ++ (last ++ drop (length m - i) (drop i m)) → Stored (x ++ end_line n) out (i + k) v
unfolding end_count end_of
end-stored n i k x out m v last (p, q) h a b d =
    let z = end_line n in
    let rest = drop (length x) out in
    let front : take i m ≡ x = rw q (take_at x rest i (sym p)) in
    let back : drop i m ≡ rest = rw q (drop_at x rest i (sym p)) in
    let lent : length m ≡ length out = rw q (simp (length-append, length-drop) (omega arith)) in
    let part : 32 ≤ length (take (length m - i) (drop i m)) = rw back (simp (length-take, length-drop) (omega arith)) in
    let room : 32 ≤ length rest = simp length-drop (omega arith) in
    let count : k ≡ length z = a ∙ rw (le-leb 32 (length (take (length m - i) (drop i m))) part) in
    let text : end_of n rest ≡ z ++ drop (length z) rest = rw (le-leb 32 (length rest) room) in
    let e : v ≡ x ++ (z ++ drop (length z) rest) = rest-lent (end_of n) m v last i b d ∙ ap₂ (λ f r. f ++ end_of n r) front back ∙ ap (x ++◌) text in
    (simp length-append (omega arith), e ∙ simp (drop-drop, length-append, append_assoc))

module _ (ed : Edition) (p : Pieces) where
  -- the answer and the buffer are those of a turn
  abbrev Answered : (n : ℕ) (s out : List ℕ) (t : Turn) (m : List ℕ) → Type 0
  Answered n s out t m = (t ≡ turn_of ed p n s (length out)) × (m ≡ buffer_after ed p n s out)

  pub turn-refused : (n c : ℕ) (s out : List ℕ) → c ≡ piece_count p (length s) → fits n c (length out) ≡ false → Answered n s out (turn_refused n) out
  unfolding turn_of buffer_after
  turn-refused n c s out e f = rw (← e, f) (refl, refl)

  answered : (n w j : ℕ) (s out m x : List ℕ) → fits n (piece_count p (length s)) (length out) ≡ true → w ≡ wanted_after p n (length s)
      → turn_text ed p n s ≡ x → Stored x out j m
      → Answered n s out (record { written = j; listed = n + piece_count p (length s); wanted = w }) m
  unfolding turn_of buffer_after
  answered n w j s out m x f e t (a, q) =
      rw (f, t) (λ i. record { written = a i; listed = n + piece_count p (length s); wanted = e i }, q)

  -- the lines of a turn that fits
  lines_stored : (n : ℕ) (s out : List ℕ) → fits n (piece_count p (length s)) (length out) ≡ true
      → Stored (lines_after ed p n s) out (list_count ed p s (n + 1) (length out)) (list_of ed p s (n + 1) out)
  unfolding list_count list_of
  lines_stored n s out f =
      let r = fits-true n (piece_count p (length s)) (length out) f in
      rw (le-leb (32 * piece_count p (length s)) (length out) (omega arith)) (refl, refl)

  -- something is wanted
  pub turn_more : (n c w j : ℕ) (s out m : List ℕ) → c ≡ piece_count p (length s) → fits n c (length out) ≡ true
      → j ≡ list_count ed p s (n + 1) (length out) → m ≡ list_of ed p s (n + 1) out → w ≡ wanted_after p n (length s) → (w ≡ 0 → ⊥)
      → Answered n s out (record { written = j; listed = n + c; wanted = w }) m
  turn_more n c w j s out m e f a l v z =
      let g : fits n (piece_count p (length s)) (length out) ≡ true = rw (← e) f in
      let r = lines_stored n s out g in
      rw e (answered n w j s out m (lines_after ed p n s) g v (text-more ed p n s (λ q. z (v ∙ q))) (a ∙ r.0, l ∙ r.1))

  -- nothing is wanted: the last line follows
  pub turn_last : (n c a w i k : ℕ) (s out m v last : List ℕ) → c ≡ piece_count p (length s) → fits n c (length out) ≡ true
      → i ≡ list_count ed p s (n + 1) (length out) → m ≡ list_of ed p s (n + 1) out → w ≡ wanted_after p n (length s) → w ≡ 0
      → k ≡ end_count a (length (take (length m - i) (drop i m))) → last ≡ end_of a (take (length m - i) (drop i m))
      → a ≡ n + c → v ≡ take i m ++ (last ++ drop (length m - i) (drop i m))
      → Answered n s out (record { written = i + k; listed = n + c; wanted = 0 }) v
  turn_last n c a w i k s out m v last e f b l q z x y u d =
      let count = piece_count p (length s) in
      let g : fits n count (length out) ≡ true = rw (← e) f in
      let r = lines_stored n s out g in
      let t = fits-true n count (length out) g in
      let h = length-lines ed p count (n + 1) s (omega arith) in
      rw e
      (answered n 0 (i + k) s out v (lines_after ed p n s ++ end_line (n + count)) g (sym z ∙ q) (text-last ed p n s (sym q ∙ z))
      (end-stored (n + count) i k (lines_after ed p n s) out m v last (b ∙ r.0, l ∙ r.1) (omega arith) (rw (← e, ← u) x) (rw (← e, ← u) y) d))
