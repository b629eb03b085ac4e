-- What a function of the C library returns. Assumes nothing.
use Rattle.std.specs.Prelude.{ℕ, ◌+◌, ◌*◌}

-- document 01's number in the low 8 bits, 0 where nothing was refused, and above them what else is told
abbrev pub status_of : (number more : ℕ) → ℕ
status_of number more = number + 256 * more
