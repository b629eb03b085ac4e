-- The promises hold. Assumes nothing.
use mathlib.Core.Path.{◌≡◌, refl, sym, ap, ap₂, ◌∙◌}
use mathlib.Core.Logic.{⊎_elim}
use mathlib.Core.Bool.{Bool, true, false, cond}
use mathlib.Core.List.{List, [], ◌++◌, append_assoc, append-nil}
use Prim.Native.Nat.{ℕ, zero, suc, ◌+◌, ◌-◌, ◌*◌, ◌<◌, ◌≤◌, min}
use native.Mathlib.Omega.{arith}
use lib.Dec.{eqb, leb}
use lib.ListN.{length, take, drop, length-append, length-take, length-drop, take-append-drop}
use lib.Seq.{take_all, take_at}
use borrow.Author.Tests.{leb-true, leb-false, eqb-true, eqb-false, eq-eqb, ne_eqb}
use Rattle.frame.specs.declared.Edition.{Edition}
use Rattle.listing.specs.Lines.{piece_size, piece_count, lines, end_line, listing_of}
use Rattle.listing.specs.declared.Pieces.{Pieces}
use Rattle.listing.proofs.Counts.{count-least, count-within, count-more, count-whole, count-after}
use Rattle.listing.proofs.Promises.{turns, lines-front}
use Rattle.listing_turns.specs.Turns.{per_turn, turn_bytes, wanted_after, turn_text, fits, turn_done, turn_refused, turn_of, buffer_after, start, piece_of, program_text}
use Rattle.listing_turns.specs.Promises.{ListingTurns}
use Rattle.listing_turns.specs.declared.Turn.{Turn}
use Rattle.listing_turns.proofs.TurnSizes.{bytes-first, bytes-some, bytes_left, per-turn-most, turns-enough, turns_next}
use Rattle.listing_turns.proofs.Room.{fits-met, fits-true, wanted-none, wanted-some, wanted-most, text-more, text-last, text-within}
use Rattle.listing_turns.proofs.Ahead.{wanted-before, ahead}

abbrev after : (j n w : ℕ) → Turn
after j n w = record { written = j; listed = n; wanted = w }

-- ---- the numbers of a turn

module _ (p : Pieces) where
  -- how many pieces are read after n pieces
  abbrev turn_count : ℕ → ℕ
  turn_count n = min (per_turn p) (999999 - n)

  -- how many of the pieces of l bytes are left to list after n pieces
  abbrev left_of : (n l : ℕ) → ℕ
  left_of n l = min (piece_count p l) (999999 - n)

  cut-count : (q x l : ℕ) → piece_size p * q ≤ l → q ≤ x → q + min (piece_count p (l - piece_size p * q)) (x - q) ≡ min (piece_count p l) x
  cut-count q x l h k = omega (arith, count-after p q l h)

  -- the last turn reads what is left
  last-count : (n l m : ℕ) → m ≡ min (turn_bytes p n) l → wanted_after p n m ≡ 0
      → (piece_count p m ≡ left_of n l) × (min (piece_count p l) (turn_count n) ≡ left_of n l)
  last-count n l m e z =
      let most = count-within p m (turn_count n) (omega arith) in
      let more = count-more p m l (omega arith) in
      ⊎_elim
      (λ h. let same : m ≡ l = omega arith in let c = ap (piece_count p) same in (omega arith, omega arith))
      (λ h. (omega arith, omega arith))
      (wanted-none p n m z)

  -- any other is a whole one
  further : (n b : ℕ) → b ≤ turn_bytes p n → (wanted_after p n b ≡ 0 → ⊥) → (piece_count p b ≡ per_turn p) × (n + per_turn p < 999999)
  further n b h z =
      let (full, next) = wanted-some p n b z in
      let c = count-whole p b (turn_count n) (omega arith) in
      let l = wanted-before p (n + piece_count p b) (λ y. z (next ∙ y)) in
      (omega arith, omega arith)

module _ (ed : Edition) (p : Pieces) where
  -- ---- turns of the program

  program-over : (k : ℕ) (t : Turn) (s out : List ℕ) → t.wanted ≡ 0 → program_text ed p k t s out ≡ []
  unfolding program_text
  program-over zero t s out h = refl
  program-over (suc k) t s out h = rw (eq-eqb t.wanted 0 h)

  -- a turn that fits: its text, and then what the turns after it write, by way of a buffer that is as long
  record Next (k : ℕ) (t : Turn) (s out : List ℕ) : Type 0 where
    buffer : List ℕ
    size : length buffer ≡ length out
    text : program_text ed p (suc k) t s out
        ≡ turn_text ed p t.listed (piece_of t s) ++ program_text ed p k (turn_done ed p t.listed (piece_of t s)) (drop t.wanted s) buffer

  program-next : (k : ℕ) (t : Turn) (s out : List ℕ) → (t.wanted ≡ 0 → ⊥)
      → fits t.listed (piece_count p (length (piece_of t s))) (length out) ≡ true → Next k t s out
  unfolding program_text turn_of buffer_after
  program-next k t s out h f =
      let x = turn_text ed p t.listed (piece_of t s) in
      let m = x ++ drop (length x) out in
      let l = text-within ed p t.listed (piece_of t s) (length out) f in
      record {
        buffer = m;
        size = simp (length-append, length-drop) (omega arith);
        text = rw (ne_eqb t.wanted 0 h, f, take_at x (drop (length x) out) (length x) refl);
      }

  -- ---- what is left to list, after n pieces

  -- the lines of the first q pieces
  cut-lines : (q n : ℕ) (s : List ℕ)
      → lines ed p (piece_count p (length (take (piece_size p * q) s))) n (take (piece_size p * q) s) ≡ lines ed p (min (piece_count p (length s)) q) n s
  cut-lines q n s = go (leb (length s) (piece_size p * q)) refl
    where
      b : ℕ
      b = piece_size p * q

      go : (t : Bool) → leb (length s) b ≡ t → lines ed p (piece_count p (length (take b s))) n (take b s) ≡ lines ed p (min (piece_count p (length s)) q) n s
      go true e =
          let h = leb-true (length s) b e in
          let c : min (piece_count p (length s)) q ≡ piece_count p (length s) = omega (arith, count-within p (length s) q h) in
          rw (take_all b s h, c)
      go false e =
          let h = leb-false (length s) b e in
          let l : length (take b s) ≡ b = simp length-take (omega arith) in
          let a = count-whole p (length (take b s)) q l in
          let c : min (piece_count p (length s)) q ≡ q = omega (arith, count-least p (length s) q (omega arith)) in
          rw (a, c) (sym (lines-front ed p q n (take b s) (drop b s) l) ∙ ap (lines ed p q n) (take-append-drop b s))

  abbrev left_text : ℕ → List ℕ → List ℕ
  left_text n s = lines ed p (left_of p n (length s)) (n + 1) s ++ end_line (n + left_of p n (length s))

  -- the last turn lists what is left
  last_turn : (n : ℕ) (s : List ℕ) → wanted_after p n (length (take (turn_bytes p n) s)) ≡ 0 → turn_text ed p n (take (turn_bytes p n) s) ≡ left_text n s
  last_turn n s z =
      let front = take (turn_bytes p n) s in
      let (a, b) = last-count p n (length s) (length front) (length-take (turn_bytes p n) s) z in
      text-last ed p n front z
      ∙ ap₂ ◌++◌ (cut-lines (turn_count p n) (n + 1) s ∙ ap (λ (k : ℕ). lines ed p k (n + 1) s) b) (ap (λ (k : ℕ). end_line (n + k)) a)

  -- any other lists a whole turn's pieces
  cut-text : (n q : ℕ) (s : List ℕ) → n + q ≤ 999999 → piece_size p * q ≤ length s
      → lines ed p q (n + 1) (take (piece_size p * q) s) ++ left_text (n + q) (drop (piece_size p * q) s) ≡ left_text n s
  cut-text n q s h k =
      let b = piece_size p * q in
      let front = take b s in
      let rest = drop b s in
      let l : length front ≡ b = simp length-take (omega arith) in
      let j = left_of p (n + q) (length rest) in
      let x : 999999 - (n + q) ≡ 999999 - n - q = omega arith in
      let a : q + j ≡ left_of p n (length s) = simp (length-drop, x) (cut-count p q (999999 - n) (length s) k (omega arith)) in
      let c : n + q + j ≡ n + left_of p n (length s) = omega (arith, a) in
      let e : n + q + 1 ≡ n + 1 + q = omega arith in
      sym (append_assoc (lines ed p q (n + 1) front) (lines ed p j (n + q + 1) rest) (end_line (n + q + j)))
      ∙ ap₂ ◌++◌
      (ap (λ (i : ℕ). lines ed p q (n + 1) front ++ lines ed p j i rest) e
      ∙ sym (turns ed p front rest q j (n + 1) l)
      ∙ ap₂ (λ i t. lines ed p i (n + 1) t) a (take-append-drop b s))
      (ap end_line c)

  other-turn : (n : ℕ) (s : List ℕ) → n ≤ 999999 → (wanted_after p n (length (take (turn_bytes p n) s)) ≡ 0 → ⊥)
      → turn_text ed p n (take (turn_bytes p n) s) ++ left_text (n + piece_count p (length (take (turn_bytes p n) s))) (drop (turn_bytes p n) s) ≡ left_text n s
  other-turn n s h z =
      let q = turn_count p n in
      let front = take (turn_bytes p n) s in
      let o = (wanted-some p n (length front) z).0 in
      let l = length-take (turn_bytes p n) s in
      let c = count-whole p (length front) q (omega arith) in
      ap (◌++ left_text (n + piece_count p (length front)) (drop (turn_bytes p n) s)) (text-more ed p n front z)
      ∙ rw c (cut-text n q s (omega arith) (omega arith))

  -- ---- all turns

  step : (k j n : ℕ) (s out : List ℕ) → n < 999999 → 80672 ≤ length out → Next k (after j n (turn_bytes p n)) s out
  step k j n s out h m =
      let front = take (turn_bytes p n) s in
      let l = length-take (turn_bytes p n) s in
      let c = count-within p (length front) (turn_count p n) (omega arith) in
      program-next k (after j n (turn_bytes p n)) s out (λ z. omega (arith, bytes-some p n h))
      (fits-met n (piece_count p (length front)) (length out) (omega arith) (omega (arith, per-turn-most p)))

  program-left : (k j n : ℕ) (s out : List ℕ) → n < 999999 → 999999 ≤ n + per_turn p * k → 80672 ≤ length out
      → program_text ed p k (after j n (turn_bytes p n)) s out ≡ left_text n s
  program-left zero j n s out h e m = absurd (omega arith)
  program-left (suc k) j n s out h e m = go (program-left k) (eqb w 0) refl
    where
      front : List ℕ
      front = take (turn_bytes p n) s

      w : ℕ
      w = wanted_after p n (length front)

      go : ((i x : ℕ) (r o : List ℕ) → x < 999999 → 999999 ≤ x + per_turn p * k → 80672 ≤ length o
          → program_text ed p k (after i x (turn_bytes p x)) r o ≡ left_text x r)
          → (t : Bool) → eqb w 0 ≡ t → program_text ed p (suc k) (after j n (turn_bytes p n)) s out ≡ left_text n s
      go rest true q =
          let next = step k j n s out h m in
          let z = eqb-true w 0 q in
          next.text
          ∙ ap₂ ◌++◌ (last_turn n s z) (program-over k (turn_done ed p n front) (drop (turn_bytes p n) s) next.buffer z)
          ∙ append-nil (left_text n s)
      go rest false q =
          let next = step k j n s out h m in
          let z = eqb-false w 0 q in
          let (c, f) = further p n (length front) (simp length-take (omega arith)) z in
          let x = n + piece_count p (length front) in
          let i = length (turn_text ed p n front) in
          let r = drop (turn_bytes p n) s in
          next.text
          ∙ ap (turn_text ed p n front ++◌)
          (ap (λ (y : ℕ). program_text ed p k (after i x y) r next.buffer) (wanted-some p n (length front) z).1
          ∙ rest i x r next.buffer (omega arith) (omega (arith, turns_next p n k)) (omega (arith, next.size)))
          ∙ other-turn n s (omega arith) z

  from_start : (s : List ℕ) → left_text 0 s ≡ listing_of ed p s
  unfolding listing_of
  from_start s = let z : 0 + left_of p 0 (length s) ≡ min (piece_count p (length s)) 999999 = omega arith in rw z

  all-turns : (k : ℕ) (s out : List ℕ) → 999999 ≤ per_turn p * k → 80672 ≤ length out → program_text ed p k start s out ≡ listing_of ed p s
  all-turns k s out h m =
      ap (λ (b : ℕ). program_text ed p k (after 0 0 b) s out) (sym (bytes-first p))
      ∙ program-left k 0 0 s out (omega arith) (omega arith) m
      ∙ from_start s

  stops : (n : ℕ) (s : List ℕ) (m : ℕ) → n ≤ 999999
      → piece_size p * (turn_of ed p n s m).listed + (turn_of ed p n s m).wanted ≤ piece_size p * 999999
  unfolding turn_of
  stops n s m h = go (fits n (piece_count p (length s)) m) refl
    where
      go : (t : Bool) → fits n (piece_count p (length s)) m ≡ t
          → piece_size p * (cond t (turn_done ed p n s) (turn_refused n)).listed + (cond t (turn_done ed p n s) (turn_refused n)).wanted ≤ piece_size p * 999999
      go true e =
          let f = fits-true n (piece_count p (length s)) m e in
          omega (arith, wanted-most p n (length s), bytes_left p (n + piece_count p (length s)) (omega arith))
      go false e = omega (arith, bytes_left p n h)

  pub listing-turns : ListingTurns ed p
  listing-turns = record { whole = λ k s out h m. all-turns k s out (turns-enough p k h) (omega arith); stops = stops; ahead = ahead ed p }
