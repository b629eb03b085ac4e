-- When a turn fits, what is wanted after it, and its text. Assumes nothing.
use mathlib.Core.Path.{◌≡◌, refl}
use mathlib.Core.Logic.{◌⊎◌, inl, inr}
use mathlib.Core.Bool.{Bool, true, false, cond, and-eq-true_iff}
use mathlib.Core.List.{List, [], ◌++◌, append-nil}
use Prim.Native.Nat.{ℕ, ◌+◌, ◌*◌, ◌/◌, ◌<◌, ◌≤◌}
use native.Mathlib.Omega.{arith}
use lib.Dec.{eqb, ltb, leb}
use lib.ListN.{length, length-append}
use borrow.Author.Tests.{ltb-true, ltb-false, leb-true, leb-false, le-leb, lt-leb, lt-ltb, le-ltb, eq-eqb, ne_eqb}
use Rattle.frame.specs.declared.Edition.{Edition}
use Rattle.listing.specs.Lines.{piece_count, end_line}
use Rattle.listing.specs.declared.Pieces.{Pieces}
use Rattle.listing.proofs.LineLengths.{length-lines, length-end}
use Rattle.listing_turns.specs.Turns.{turn_bytes, wanted_after, lines_after, turn_text, fits}
use Rattle.listing_turns.proofs.TurnSizes.{bytes-none}

pub fits-past : (n c m : ℕ) → 999999 < n + c → false ≡ fits n c m
unfolding fits
fits-past n c m h = rw (lt-leb (n + c) 999999 h)

-- the buffer alone decides
pub fits-room : (n c m : ℕ) → n + c ≤ 999999 → ltb c (m / 32) ≡ fits n c m
unfolding fits
fits-room n c m h = rw (le-leb (n + c) 999999 h) (go (leb (32 * (c + 1)) m) refl)
  where
    go : (t : Bool) → leb (32 * (c + 1)) m ≡ t → ltb c (m / 32) ≡ t
    go true e = let l = leb-true (32 * (c + 1)) m e in lt-ltb c (m / 32) (omega arith)
    go false e = let l = leb-false (32 * (c + 1)) m e in le-ltb c (m / 32) (omega arith)

pub fits-met : (n c m : ℕ) → n + c ≤ 999999 → 32 * (c + 1) ≤ m → fits n c m ≡ true
unfolding fits
fits-met n c m h k = rw (le-leb (n + c) 999999 h, le-leb (32 * (c + 1)) m k)

pub fits-true : (n c m : ℕ) → fits n c m ≡ true → (n + c ≤ 999999) × (32 * (c + 1) ≤ m)
unfolding fits
fits-true n c m e =
    let t = (and-eq-true_iff (leb (n + c) 999999) (leb (32 * (c + 1)) m)).0 e in
    (leb-true (n + c) 999999 t.0, leb-true (32 * (c + 1)) m t.1)

-- the last line, or none
last-short : (t : Bool) (n : ℕ) → n ≤ 999999 → length (cond t (end_line n) []) ≤ 32
last-short true n h = length-end n (omega arith)
last-short false n h = omega arith

module _ (p : Pieces) where
  -- ---- what is wanted next

  pub wanted-short : (n b k : ℕ) → k ≡ turn_bytes p n → b < k → 0 ≡ wanted_after p n b
  unfolding wanted_after
  wanted-short n b k e h = rw (lt-ltb b (turn_bytes p n) (omega arith))

  pub wanted-full : (n b k a w : ℕ) → k ≡ turn_bytes p n → k ≤ b → a ≡ n + piece_count p b → w ≡ turn_bytes p a → w ≡ wanted_after p n b
  unfolding wanted_after
  wanted-full n b k a w e h f q = rw (le-ltb b (turn_bytes p n) (omega arith), ← f) q

  pub wanted-none : (n b : ℕ) → wanted_after p n b ≡ 0 → (b < turn_bytes p n) ⊎ (999999 ≤ n + piece_count p b)
  unfolding wanted_after
  wanted-none n b = go (ltb b (turn_bytes p n)) refl
    where
      go : (t : Bool) → ltb b (turn_bytes p n) ≡ t → cond t 0 (turn_bytes p (n + piece_count p b)) ≡ 0
          → (b < turn_bytes p n) ⊎ (999999 ≤ n + piece_count p b)
      go true e z = inl (ltb-true b (turn_bytes p n) e)
      go false e z = inr (bytes-none p (n + piece_count p b) z)

  pub wanted-some : (n b : ℕ) → (wanted_after p n b ≡ 0 → ⊥) → (turn_bytes p n ≤ b) × (wanted_after p n b ≡ turn_bytes p (n + piece_count p b))
  unfolding wanted_after
  wanted-some n b = go (ltb b (turn_bytes p n)) refl
    where
      go : (t : Bool) → ltb b (turn_bytes p n) ≡ t → (cond t 0 (turn_bytes p (n + piece_count p b)) ≡ 0 → ⊥)
          → (turn_bytes p n ≤ b) × (cond t 0 (turn_bytes p (n + piece_count p b)) ≡ turn_bytes p (n + piece_count p b))
      go true e z = absurd (z refl)
      go false e z = (ltb-false b (turn_bytes p n) e, refl)

  pub wanted-most : (n b : ℕ) → wanted_after p n b ≤ turn_bytes p (n + piece_count p b)
  unfolding wanted_after
  wanted-most n b = go (ltb b (turn_bytes p n))
    where
      go : (t : Bool) → cond t 0 (turn_bytes p (n + piece_count p b)) ≤ turn_bytes p (n + piece_count p b)
      go true = omega arith
      go false = omega arith

module _ (ed : Edition) (p : Pieces) where
  -- ---- the text of a turn

  pub text-more : (n : ℕ) (s : List ℕ) → (wanted_after p n (length s) ≡ 0 → ⊥) → turn_text ed p n s ≡ lines_after ed p n s
  unfolding turn_text
  text-more n s z = rw (ne_eqb (wanted_after p n (length s)) 0 z, append-nil)

  pub text-last : (n : ℕ) (s : List ℕ) → wanted_after p n (length s) ≡ 0
      → turn_text ed p n s ≡ lines_after ed p n s ++ end_line (n + piece_count p (length s))
  unfolding turn_text
  text-last n s z = rw (eq-eqb (wanted_after p n (length s)) 0 z)

  -- if the turn fits, so does its text
  pub text-within : (n : ℕ) (s : List ℕ) (m : ℕ) → fits n (piece_count p (length s)) m ≡ true → length (turn_text ed p n s) ≤ m
  unfolding turn_text
  text-within n s m e =
      let c = piece_count p (length s) in
      let f = fits-true n c m e in
      let l = length-lines ed p c (n + 1) s (omega arith) in
      let k = last-short (eqb (wanted_after p n (length s)) 0) (n + c) (omega arith) in
      simp length-append (omega arith)
