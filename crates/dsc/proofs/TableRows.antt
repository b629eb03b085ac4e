-- The rows of the check table: by index, as the table holds them, and as row 0 moved on. Assumes nothing.
use mathlib.Core.Path.{◌≡◌, refl, sym, ap₂, ◌∙◌}
use mathlib.Core.List.{List, [], ◌∷◌, map}
use Prim.Native.Nat.{ℕ, zero, suc, ◌+◌, ◌-◌, ◌*◌, ◌%◌, ◌<◌}
use native.Mathlib.Omega.{arith}
use lib.Dec.{T, ltb, ltb→lt}
use lib.ListN.{length, get_or, drop, length-map, length-drop}
use lib.Seq.{length-take-le, get_or-take, get_or-drop, ext_get_or}
use Rattle.bits.proofs.Computed.{and_left, and_right, all_below}
use Rattle.dsc.specs.CheckTable.{differences, row, rows_of, CheckTable, row_at}
use Rattle.dsc.proofs.CheckRows.{differences-below}

-- ---- rows by index

get_or-map : (h : ℕ → ℕ) (xs : List ℕ) (i : ℕ) → i < length xs → get_or (map h xs) i 0 ≡ h (get_or xs i 0)
get_or-map h [] i l = absurd (omega arith)
get_or-map h (x ∷ xs) zero l = refl
get_or-map h (x ∷ xs) (suc i) l = get_or-map h xs i (omega arith)

pub length-differences : length differences ≡ 17
unfolding differences
length-differences = refl

pub length-row : (s : ℕ) → length (row s) ≡ 17
length-row s = length-map differences (λ d. (s + 273 - d) % 273) ∙ length-differences

pub row-at : (s i : ℕ) → i < 17 → get_or (row s) i 0 ≡ (s + 273 - get_or differences i 0) % 273
row-at s i h = get_or-map (λ d. (s + 273 - d) % 273) differences i (omega (arith, length-differences))

pub length-rows : (p : ℕ) → length (rows_of p) ≡ 17
length-rows p = length-map differences (λ d. (p + d) % 273) ∙ length-differences

pub rows_at : (p i : ℕ) → i < 17 → get_or (rows_of p) i 0 ≡ (p + get_or differences i 0) % 273
rows_at p i h = get_or-map (λ d. (p + d) % 273) differences i (omega (arith, length-differences))

-- ---- the table's rows

module _ (t : List ℕ) (k : CheckTable t) (s : ℕ) (hs : s < 273) where
  row-place : (i : ℕ) → i < 17 → get_or (row_at t s) i 0 ≡ get_or (row s) i 0
  row-place i h = get_or-take 17 (drop (s * 17) t) i 0 h ∙ get_or-drop (s * 17) t i 0 ∙ k.rule s i hs h ∙ sym (row-at s i h)

  length-row_at : length (row_at t s) ≡ 17
  length-row_at = length-take-le 17 (drop (s * 17) t) (omega (arith, length-drop (s * 17) t, k.size))

  pub table-row : row_at t s ≡ row s
  table-row = ext_get_or 0 (row_at t s) (row s) (length-row_at ∙ sym (length-row s)) (λ i h. row-place i (omega (arith, length-row_at)))

-- row s is row 0 moved on by s
pub row_moved : (s : ℕ) → s < 273 → row s ≡ map (λ q. (q + s) % 273) (row 0)
row_moved s hs = go differences differences-below
  where
    go : (ds : List ℕ) → T (all_below 273 ds) → map (λ d. (s + 273 - d) % 273) ds ≡ map (λ q. (q + s) % 273) (map (λ d. (0 + 273 - d) % 273) ds)
    go [] b = refl
    go (d ∷ ds) b =
        let l : d < 273 = ltb→lt d 273 (and_left (ltb d 273) (all_below 273 ds) b) in
        ap₂ ◌∷◌ (omega arith) (go ds (and_right (ltb d 273) (all_below 273 ds) b))
