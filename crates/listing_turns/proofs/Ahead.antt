-- Each turn gets on. Assumes nothing.
use mathlib.Core.Path.{◌≡◌, refl, ◌∙◌}
use mathlib.Core.Logic.{◌⊎◌, inl, inr}
use mathlib.Core.Bool.{Bool, true, false, cond}
use mathlib.Core.List.{List}
use Prim.Native.Nat.{ℕ, ◌+◌, ◌<◌}
use native.Mathlib.Omega.{arith}
use lib.Dec.{eqb, ltb}
use lib.ListN.{length}
use borrow.Author.Tests.{eqb-true, eqb-false, ltb-true, ltb-false}
use Rattle.frame.specs.declared.Edition.{Edition}
use Rattle.listing.specs.Lines.{piece_count}
use Rattle.listing.specs.declared.Pieces.{Pieces}
use Rattle.listing.proofs.Counts.{count-some}
use Rattle.listing_turns.specs.Turns.{turn_bytes, fits, wanted_after, turn_done, turn_refused, turn_of, Ahead}
use Rattle.listing_turns.specs.declared.Turn.{Turn}
use Rattle.listing_turns.proofs.TurnSizes.{bytes_most, bytes-some, bytes-over}
use Rattle.listing_turns.proofs.Room.{wanted-some, wanted-most, text-within}

module _ (p : Pieces) where
  -- something is wanted only before piece 999,999
  pub wanted-before : (n : ℕ) → (turn_bytes p n ≡ 0 → ⊥) → n < 999999
  wanted-before n z = go (ltb n 999999) refl
    where
      go : (t : Bool) → ltb n 999999 ≡ t → n < 999999
      go true e = ltb-true n 999999 e
      go false e = absurd (z (bytes-over p n (ltb-false n 999999 e)))

  -- and after a turn only if it gave pieces
  more-pieces : (n b : ℕ) → (wanted_after p n b ≡ 0) ⊎ ((n < n + piece_count p b) × (n + piece_count p b < 999999))
  more-pieces n b = go (eqb (wanted_after p n b) 0) refl
    where
      go : (t : Bool) → eqb (wanted_after p n b) 0 ≡ t → (wanted_after p n b ≡ 0) ⊎ ((n < n + piece_count p b) × (n + piece_count p b < 999999))
      go true e = inl (eqb-true (wanted_after p n b) 0 e)
      go false e =
          let z = eqb-false (wanted_after p n b) 0 e in
          let w = wanted-some p n b z in
          let l = wanted-before (n + piece_count p b) (λ y. z (w.1 ∙ y)) in
          let some = bytes-some p n (omega arith) in
          inr (omega (arith, count-some p b (omega arith)), l)

module _ (ed : Edition) (p : Pieces) where
  pub ahead : (n : ℕ) (s : List ℕ) (m : ℕ) → Ahead n m (turn_of ed p n s m)
  unfolding turn_of
  ahead n s m = go (fits n (piece_count p (length s)) m) refl
    where
      go : (t : Bool) → fits n (piece_count p (length s)) m ≡ t → Ahead n m (cond t (turn_done ed p n s) (turn_refused n))
      go true e =
          record {
            within = text-within ed p n s m e;
            size = omega (arith, wanted-most p n (length s), bytes_most p (n + piece_count p (length s)));
            kept = omega arith;
            more = more-pieces p n (length s);
          }
      go false e = record { within = omega arith; size = omega arith; kept = omega arith; more = inl refl }

  pub told-ahead : (n : ℕ) (s : List ℕ) (m : ℕ) {t : Turn} → t ≡ turn_of ed p n s m → Ahead n m t
  told-ahead n s m e = rw e (ahead n s m)
