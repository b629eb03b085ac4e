-- The promises hold. Assumes nothing.
use mathlib.Core.Path.{◌≡◌, refl, sym, ap, ap₂, ◌∙◌}
use mathlib.Core.Bool.{false}
use mathlib.Core.List.{List, [], ◌∷◌, ◌++◌, append_assoc, append-nil}
use Prim.Native.Nat.{ℕ, zero, suc, ◌+◌, ◌*◌, ◌<◌, min}
use native.Mathlib.Omega.{arith}
use lib.ListN.{length, take, drop, length-append, length-drop}
use lib.Seq.{take_all, take-append-le, drop-append-le, take_at, drop_at}
use borrow.Author.Tests.{ne_eqb}
use Rattle.dsc.specs.Marks.{marked, whole}
use Rattle.dsc.proofs.MarkedAnswers.{marks-short}
use Rattle.frame.specs.Read.{judge_by, places_by}
use Rattle.frame.specs.declared.Edition.{Edition}
use Rattle.frame.specs.declared.Verdict.{Verdict}
use Rattle.frame.proofs.Marks.{refused-size, marked-frames}
use Rattle.frame.proofs.Editions.{editions}
use Rattle.decimals.specs.Decimal.{decimal, digits}
use Rattle.listing.specs.Lines.{piece_size, frame_in, marking_in, verdict_of, line_of, end_line, piece_count, lines, listing_of}
use Rattle.listing.specs.Promises.{MarkedListing, Listing, NoneSafety}
use Rattle.listing.specs.declared.Pieces.{Pieces}
use Rattle.listing.specs.declared.Pieces.TheVariants.{Frames, MarkedFrames}
use Rattle.listing.proofs.Counts.{count_none, count-least, count-two, whole-next}
use Rattle.listing.proofs.NextLine.{lines_none, lines_next}
use Rattle.listing.proofs.LineLengths.{line-short}

-- ---- lines, as bytes

-- `1 0 t`
accepted-line : (t : ℕ) → line_of 1 (record { number = 0; repaired = t }) ≡ 49 ∷ 32 ∷ 48 ∷ 32 ∷ (decimal t ++ 10 ∷ [])
unfolding line_of digits
accepted-line t = refl

-- `2 1 -`
refused-line : (v : Verdict) → v.number ≡ 1 → line_of 2 v ≡ 50 ∷ 32 ∷ 49 ∷ 32 ∷ 45 ∷ 10 ∷ []
unfolding line_of digits
refused-line v e = rw e

-- `end 2`
two-end : end_line 2 ≡ 101 ∷ 110 ∷ 100 ∷ 32 ∷ 50 ∷ 10 ∷ []
unfolding end_line digits
two-end = refl

-- a short piece lacks bytes of its frame, or of its marks
by_size : (p : Pieces) (s : List ℕ) → length s < piece_size p → whole (marking_in p s) (frame_in p s) ≡ false
by_size Frames s h = ne_eqb (length s) 26 (λ e. omega arith)
by_size MarkedFrames s h = marks-short (drop 26 s) (take 26 s) (λ e. omega (arith, length-drop 26 s))

pub marked-listing-laws : (ed : Edition) → MarkedListing ed
unfolding verdict_of
marked-listing-laws ed =
    record {
      no-marks = λ f m hf hm e.
          ap₂ (λ (n g : List ℕ). judge_by ed (marked n) g) (drop_at f m 26 hf) (take_at f m 26 hf) ∙ ((marked-frames ed).no-marks m f hm e).judged;
    }

module _ (ed : Edition) (p : Pieces) where
  empty : listing_of ed p [] ≡ 101 ∷ 110 ∷ 100 ∷ 32 ∷ 48 ∷ 10 ∷ []
  unfolding listing_of end_line digits
  empty = rw (count_none p, lines_none ed p)

  -- ---- in turns

  pub turns : (s t : List ℕ) (k j n : ℕ) → length s ≡ piece_size p * k → lines ed p (k + j) n (s ++ t) ≡ lines ed p k n s ++ lines ed p j (n + k) t
  turns [] t zero j n h =
      let a : 0 + j ≡ j = omega arith in
      let b : n + 0 ≡ n = omega arith in
      rw (a, b, lines_none ed p n [])
  turns (x ∷ s) t zero j n h = absurd (omega arith)
  turns s t (suc k) j n h =
      let a : suc k + j ≡ suc (k + j) = omega arith in
      let b : n + suc k ≡ n + 1 + k = omega arith in
      let z = piece_size p in
      let w = whole-next p (length s) k h in
      rw (a, b, lines_next ed p (k + j) n (s ++ t), lines_next ed p k n s, take-append-le z s t w.0, drop-append-le z s t w.0, append_assoc)
      (ap (line_of n (verdict_of ed p (take z s)) ++◌) (turns (drop z s) t k j (n + 1) (length-drop z s ∙ w.1)))

  -- the lines of a row of whole pieces do not depend on what follows
  pub lines-front : (m n : ℕ) (s t : List ℕ) → length s ≡ piece_size p * m → lines ed p m n (s ++ t) ≡ lines ed p m n s
  lines-front m n s t h =
      let z : m + 0 ≡ m = omega arith in
      ap (λ (k : ℕ). lines ed p k n (s ++ t)) (sym z)
      ∙ turns s t m 0 n h
      ∙ ap (lines ed p m n s ++◌) (lines_none ed p (n + m) t)
      ∙ append-nil (lines ed p m n s)

  -- ---- where it stops

  -- for any number of pieces after which reading stops
  stops_at : (m : ℕ) (s t : List ℕ) → length s ≡ piece_size p * m
      → lines ed p (min (piece_count p (length (s ++ t))) m) 1 (s ++ t) ++ end_line (min (piece_count p (length (s ++ t))) m)
      ≡ lines ed p (min (piece_count p (length s)) m) 1 s ++ end_line (min (piece_count p (length s)) m)
  stops_at m s t h =
      let l = length-append s t in
      let a : min (piece_count p (length (s ++ t))) m ≡ m = omega (arith, count-least p (length (s ++ t)) m (omega arith)) in
      let b : min (piece_count p (length s)) m ≡ m = omega (arith, count-least p (length s) m (omega arith)) in
      rw (a, b, lines-front m 1 s t h)

  stops : (s t : List ℕ) → length s ≡ piece_size p * 999999 → listing_of ed p (s ++ t) ≡ listing_of ed p s
  unfolding listing_of
  stops s t h = stops_at 999999 s t h

  -- ---- the example

  -- a whole piece and a short one
  two-pieces : (f x : List ℕ) → length f ≡ piece_size p → 0 < length x → length x < piece_size p
      → listing_of ed p (f ++ x) ≡ line_of 1 (verdict_of ed p f) ++ (line_of 2 (verdict_of ed p x) ++ end_line 2)
  unfolding listing_of
  two-pieces f x h a b =
      let z = piece_size p in
      let l = length-append f x in
      let c = count-two p (length (f ++ x)) (length x) (omega arith) a (omega arith) in
      rw (c, lines_next ed p 1 1 (f ++ x), lines_next ed p 0 2 (drop z (f ++ x)), take_at f x z h, drop_at f x z h, take_all z x (omega arith), lines_none ed p 3 (drop z x))
      (simp append_assoc)

  short : (s : List ℕ) → length s < piece_size p → verdict_of ed p s ≡ record { number = 1; repaired = 0 }
  unfolding verdict_of judge_by places_by
  short s h = rw (refused-size ed (marking_in p s) (frame_in p s) (by_size p s h))

  example : (f x : List ℕ) (t : ℕ) → length f ≡ piece_size p → verdict_of ed p f ≡ record { number = 0; repaired = t }
      → 0 < length x → length x < piece_size p
      → listing_of ed p (f ++ x)
      ≡ (49 ∷ 32 ∷ 48 ∷ 32 ∷ (decimal t ++ 10 ∷ [])) ++ 50 ∷ 32 ∷ 49 ∷ 32 ∷ 45 ∷ 10 ∷ 101 ∷ 110 ∷ 100 ∷ 32 ∷ 50 ∷ 10 ∷ []
  example f x t h e a b =
      two-pieces f x h a b
      ∙ ap₂ ◌++◌ (ap (line_of 1) e ∙ accepted-line t) (ap₂ ◌++◌ (refused-line (verdict_of ed p x) (ap (λ (v : Verdict). v.number) (short x b))) two-end)

  -- ---- another edition

  alike : (other : Edition) (k n : ℕ) (s : List ℕ) → NoneSafety p k s → lines ed p k n s ≡ lines other p k n s
  unfolding NoneSafety verdict_of
  alike other zero n s h = lines_none ed p n s ∙ sym (lines_none other p n s)
  alike other (suc k) n s h =
      let f = take (piece_size p) s in
      lines_next ed p k n s
      ∙ ap₂ (λ (v : Verdict) (l : List ℕ). line_of n v ++ l) (editions.frame-alike ed other (marking_in p f) (frame_in p f) h.0).judged
      (alike other k (n + 1) (drop (piece_size p) s) h.1)
      ∙ sym (lines_next other p k n s)

  pub listing-laws : Listing ed p
  listing-laws =
      record { empty = empty; short = short; example = example; turns = turns; stops = stops; line-short = line-short ed p; alike = alike }
