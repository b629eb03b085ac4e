-- How many pieces there are. Only the laws of this file know how long a piece is: they go by cases over the pieces. Assumes nothing.
use mathlib.Core.Path.{◌≡◌, refl}
use Prim.Native.Nat.{ℕ, suc, ◌+◌, ◌-◌, ◌*◌, ◌/◌, ◌%◌, ◌<◌, ◌≤◌, min}
use native.Mathlib.Omega.{arith}
use Rattle.listing.specs.Lines.{piece_size, piece_count}
use Rattle.listing.specs.declared.Pieces.{Pieces}
use Rattle.listing.specs.declared.Pieces.TheVariants.{Frames, MarkedFrames}

pub size-least : (p : Pieces) → 26 ≤ piece_size p
size-least Frames = omega arith
size-least MarkedFrames = omega arith

-- ---- as the code counts, by a size that it has asked for: without a short last piece, and with one

pub count-even : (p : Pieces) (n size : ℕ) → size ≡ piece_size p → n % size ≡ 0 → n / size ≡ piece_count p n
unfolding piece_count
count-even Frames n size e h = let k : n % piece_size Frames ≡ 0 = rw e at h in rw e (omega arith)
count-even MarkedFrames n size e h = let k : n % piece_size MarkedFrames ≡ 0 = rw e at h in rw e (omega arith)

pub count-odd : (p : Pieces) (n size : ℕ) → size ≡ piece_size p → (n % size ≡ 0 → ⊥) → n / size + 1 ≡ piece_count p n
unfolding piece_count
count-odd Frames n size e h = let k : n % piece_size Frames ≡ 0 → ⊥ = rw e at h in rw e (omega arith)
count-odd MarkedFrames n size e h = let k : n % piece_size MarkedFrames ≡ 0 → ⊥ = rw e at h in rw e (omega arith)

-- ---- how many there are at most and at least

pub count_none : (p : Pieces) → piece_count p 0 ≡ 0
unfolding piece_count
count_none Frames = refl
count_none MarkedFrames = refl

pub count-some : (p : Pieces) (n : ℕ) → 0 < n → 0 < piece_count p n
unfolding piece_count
count-some Frames n h = omega arith
count-some MarkedFrames n h = omega arith

pub count_most : (p : Pieces) (n : ℕ) → piece_count p n ≤ n
unfolding piece_count
count_most Frames n = omega arith
count_most MarkedFrames n = omega arith

-- of more bytes not fewer
pub count-more : (p : Pieces) (m n : ℕ) → m ≤ n → piece_count p m ≤ piece_count p n
unfolding piece_count
count-more Frames m n h = omega arith
count-more MarkedFrames m n h = omega arith

-- so many whole pieces, and perhaps more
pub count-least : (p : Pieces) (n k : ℕ) → piece_size p * k ≤ n → k ≤ piece_count p n
unfolding piece_count
count-least Frames n k h = omega arith
count-least MarkedFrames n k h = omega arith

-- at most so many bytes
pub count-within : (p : Pieces) (n k : ℕ) → n ≤ piece_size p * k → piece_count p n ≤ k
unfolding piece_count
count-within Frames n k h = omega arith
count-within MarkedFrames n k h = omega arith

-- so many whole pieces
pub count-whole : (p : Pieces) (n k : ℕ) → n ≡ piece_size p * k → piece_count p n ≡ k
unfolding piece_count
count-whole Frames n k h = omega arith
count-whole MarkedFrames n k h = omega arith

-- a whole piece and a part of one
pub count-two : (p : Pieces) (n m : ℕ) → n ≡ piece_size p + m → 0 < m → m ≤ piece_size p → piece_count p n ≡ 2
unfolding piece_count
count-two Frames n m e h k = omega arith
count-two MarkedFrames n m e h k = omega arith

-- ---- the next piece

-- after k pieces, of n bytes
pub count-after : (p : Pieces) (k n : ℕ) → piece_size p * k ≤ n → k + piece_count p (n - piece_size p * k) ≡ piece_count p n
unfolding piece_count
count-after Frames k n h = omega arith
count-after MarkedFrames k n h = omega arith

-- of n bytes a piece of m, which may be cut short, and k behind it
pub count_next : (p : Pieces) (n m k : ℕ) → n ≡ m + k → m ≡ min (piece_size p) n → 0 < n → piece_count p n ≡ suc (piece_count p k)
unfolding piece_count
count_next Frames n m k e f h = omega arith
count_next MarkedFrames n m k e f h = omega arith

-- of a row of whole pieces the first is there, and the others are behind it
pub whole-next : (p : Pieces) (n k : ℕ) → n ≡ piece_size p * suc k → (piece_size p ≤ n) × (n - piece_size p ≡ piece_size p * k)
whole-next Frames n k h = (omega arith, omega arith)
whole-next MarkedFrames n k h = (omega arith, omega arith)
