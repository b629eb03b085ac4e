-- How much a turn reads. Only the laws of this file know how many pieces that is: they go by cases over the pieces. Assumes nothing.
use mathlib.Core.Path.{◌≡◌, refl}
use Prim.Native.Nat.{ℕ, suc, ◌+◌, ◌-◌, ◌*◌, ◌<◌, ◌≤◌}
use native.Mathlib.Omega.{arith}
use Rattle.listing.specs.Lines.{piece_size}
use Rattle.listing.specs.declared.Pieces.{Pieces}
use Rattle.listing.specs.declared.Pieces.TheVariants.{Frames, MarkedFrames}
use Rattle.listing_turns.specs.Turns.{per_turn, turns_at_most, turn_bytes}

-- ---- the bytes of a turn

-- of the first
pub bytes-first : (p : Pieces) → turn_bytes p 0 ≡ 65520
bytes-first Frames = refl
bytes-first MarkedFrames = refl

pub bytes_most : (p : Pieces) (n : ℕ) → turn_bytes p n ≤ 65520
bytes_most Frames n = omega arith
bytes_most MarkedFrames n = omega arith

pub bytes-over : (p : Pieces) (n : ℕ) → 999999 ≤ n → turn_bytes p n ≡ 0
bytes-over Frames n h = omega arith
bytes-over MarkedFrames n h = omega arith

pub bytes-some : (p : Pieces) (n : ℕ) → n < 999999 → 0 < turn_bytes p n
bytes-some Frames n h = omega arith
bytes-some MarkedFrames n h = omega arith

pub bytes-none : (p : Pieces) (n : ℕ) → turn_bytes p n ≡ 0 → 999999 ≤ n
bytes-none Frames n h = omega arith
bytes-none MarkedFrames n h = omega arith

-- they are not past piece 999,999
pub bytes_left : (p : Pieces) (n : ℕ) → n ≤ 999999 → piece_size p * n + turn_bytes p n ≤ piece_size p * 999999
bytes_left Frames n h = omega arith
bytes_left MarkedFrames n h = omega arith

-- ---- as the code counts them: of the last pieces, and of a whole turn

pub bytes-last : (p : Pieces) (n left most size : ℕ) → left ≡ 999999 - n → most ≡ per_turn p → size ≡ piece_size p → left < most → size * left ≡ turn_bytes p n
bytes-last Frames n left most size l m e h = rw e (omega arith)
bytes-last MarkedFrames n left most size l m e h = rw e (omega arith)

pub bytes_whole : (p : Pieces) (n left most : ℕ) → left ≡ 999999 - n → most ≡ per_turn p → most ≤ left → 65520 ≡ turn_bytes p n
bytes_whole Frames n left most l m h = omega arith
bytes_whole MarkedFrames n left most l m h = omega arith

-- ---- how many turns there are

pub per-turn-most : (p : Pieces) → per_turn p ≤ 2520
per-turn-most Frames = omega arith
per-turn-most MarkedFrames = omega arith

pub turns-enough : (p : Pieces) (k : ℕ) → turns_at_most p ≤ k → 999999 ≤ per_turn p * k
turns-enough Frames k h = omega arith
turns-enough MarkedFrames k h = omega arith

-- a turn less is left after a turn
pub turns_next : (p : Pieces) (n k : ℕ) → n + per_turn p * suc k ≡ n + per_turn p + per_turn p * k
turns_next Frames n k = omega arith
turns_next MarkedFrames n k = omega arith
