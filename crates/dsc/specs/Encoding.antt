-- The encoder, over a frame's bytes. Assumes nothing.
use Rattle.std.specs.Prelude.{Bool, cond, List, ◌++◌, ℕ, eqb, length, take, drop}
use Rattle.bits.specs.Bits.{bits, bytes}
use Rattle.dsc.specs.Code.{parity_of}
use Rattle.dsc.specs.Repair.{protected}

-- the message of a frame, B17 to B121
unfoldable pub message_of : List ℕ → List Bool
message_of f = take 105 (protected f)

-- what `encode` leaves: B122 to B203 are the parity of the message, all else stays; so do bytes that are no frame
unfoldable pub encode_of : List ℕ → List ℕ
encode_of f = cond (eqb (length f) 26) (bytes 26 (take 122 (bits f) ++ (parity_of (message_of f) ++ drop 204 (bits f)))) f
