-- A part of a list that is cut short by the list's end. Assumes nothing.
use mathlib.Core.Path.{◌≡◌, refl, sym, ap, ◌∙◌}
use mathlib.Core.Bool.{Bool, true, false}
use mathlib.Core.List.{List, ◌++◌}
use Prim.Native.Nat.{ℕ, ◌+◌, ◌-◌, ◌<◌, min}
use native.Mathlib.Omega.{arith}
use lib.Dec.{leb}
use lib.ListN.{length, take, drop, length-append, length-drop, drop_of_length-le}
use lib.Seq.{take_all, take_at, drop_at}
use borrow.Author.Tests.{leb-true, leb-false}

-- the first n elements, or all of them
module _ (n : ℕ) (s : List ℕ) (cut : ℕ) (e : cut ≡ min n (length s)) where
  pub cut-take : take cut s ≡ take n s
  cut-take = go (leb n (length s)) refl
    where
      go : (t : Bool) → leb n (length s) ≡ t → take cut s ≡ take n s
      go true q = let h = leb-true n (length s) q in let d : cut ≡ n = omega arith in rw d
      go false q = let h = leb-false n (length s) q in take_all cut s (omega arith) ∙ sym (take_all n s (omega arith))

  pub cut-drop : drop cut s ≡ drop n s
  cut-drop = go (leb n (length s)) refl
    where
      go : (t : Bool) → leb n (length s) ≡ t → drop cut s ≡ drop n s
      go true q = let h = leb-true n (length s) q in let d : cut ≡ n = omega arith in rw d
      go false q =
          let h = leb-false n (length s) q in
          drop_of_length-le s {i = cut} (omega arith) ∙ sym (drop_of_length-le s {i = n} (omega arith))

  -- the same of what is behind them, as a part that is lent
  pub cut-rest : take (length s - cut) (drop cut s) ≡ drop n s
  cut-rest = let l = length-drop cut s in take_all (length s - cut) (drop cut s) (omega arith) ∙ cut-drop

-- the next of the parts of n elements that a list is made of, the last one perhaps shorter, and those behind it
pub record NextPart (n : ℕ) (s x t : List ℕ) : Type 0 where
  pub whole : s ≡ x ++ t
  pub size : length x ≡ min n (length s)
  pub some : 0 < length s

module _ {n : ℕ} {s x t : List ℕ} (w : NextPart n s x t) where
  pub part-take : take n s ≡ x
  part-take = sym (cut-take n s (length x) w.size) ∙ ap (take (length x)) w.whole ∙ take_at x t (length x) refl

  pub part-drop : drop n s ≡ t
  part-drop = sym (cut-drop n s (length x) w.size) ∙ ap (drop (length x)) w.whole ∙ drop_at x t (length x) refl

  pub part-length : length s ≡ length x + length t
  part-length = ap length w.whole ∙ length-append x t
