-- One field in a row of bytes: the w bits from bit k on.
-- Assumes nothing.
use Rattle.std.specs.Prelude.{Bool, cond, ◌&&◌, List, ℕ, ◌+◌, ◌*◌, leb, length, take, drop}
use Rattle.std.proofs.Math.Seq.{paste}
use Rattle.bits.specs.Bits.{value, bits_of, bits, bytes}

-- the field as a number
abbrev pub field_at : List ℕ → ℕ → ℕ → ℕ
field_at s k w = value (take w (drop k (bits s)))

-- the bits of s with the w low bits of v in the field's place
abbrev pub put_bits : List ℕ → ℕ → ℕ → ℕ → List Bool
put_bits s k w v = paste (bits s) k (bits_of w v) w

-- the field lies in n bytes, and is a number of at most 64 bits
abbrev pub within : ℕ → ℕ → ℕ → Bool
within n k w = leb w 64 && leb (k + w) (8 * n)

-- what `get` answers: 0 where the field does not lie in the bytes
abbrev pub get_of : List ℕ → ℕ → ℕ → ℕ
get_of s k w = cond (within (length s) k w) (field_at s k w) 0

-- what `put` leaves: the same bytes where the field does not lie in them
abbrev pub put_of : List ℕ → ℕ → ℕ → ℕ → List ℕ
put_of s k w v = cond (within (length s) k w) (bytes (length s) (put_bits s k w v)) s
