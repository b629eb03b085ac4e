-- The table of the bodies as the code has it: the fields of every body stand in the order of the record, with bits fixed at 1 before and after them.
-- It is derived from the rows (`Body`), and no promise speaks of it. Assumes nothing.
use Rattle.std.specs.Prelude.{List, [], ◌∷◌, ℕ, suc, ◌+◌, ◌-◌, ◌/◌, get_or, take, drop}
use Rattle.frame.specs.Entry.{Entry, held, ones}
use Rattle.frame.specs.Body.{row, indices}
use Rattle.frame.specs.declared.Body.{Body}
use Rattle.frame.specs.declared.Span.{Span}

-- the bits of a row that are fixed at 1: all of them, and those before its fields
abbrev pub ones_in : List Entry → ℕ
ones_in [] = 0
ones_in (held k w ∷ l) = ones_in l
ones_in (ones w ∷ l) = w + ones_in l

abbrev pub leading_ones : List Entry → ℕ
leading_ones [] = 0
leading_ones (held k w ∷ l) = 0
leading_ones (ones w ∷ l) = w + leading_ones l

-- the last of some indices
abbrev pub last_of : List ℕ → ℕ
last_of [] = 0
last_of (k ∷ []) = k
last_of (k ∷ j ∷ l) = last_of (j ∷ l)

-- where a body's fields stand
unfoldable pub span_of : Body → Span
span_of b =
    record {
      from = get_or (indices b) 0 0;
      to = suc (last_of (indices b));
      before = leading_ones (row b) / 8;
      after = ones_in (row b) - leading_ones (row b);
    }

-- the elements from index m up to index n
abbrev pub between : (m n : ℕ) → List ℕ → List ℕ
between m n l = take (n - m) (drop m l)
