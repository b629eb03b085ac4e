-- A record that comes as its fields v and is written into the buffer s, over what a record is: the status n and the buffer t afterwards. Assumes nothing.
use mathlib.Core.Path.{◌≡◌, ◌∙◌, ap}
use mathlib.Core.Bool.{cond}
use mathlib.Core.Logic.{◌≢◌}
use mathlib.Core.List.{List}
use Prim.Native.Nat.{ℕ}
use lib.Dec.{eqb}
use lib.ListN.{length}
use borrow.Author.Tests.{eq-eqb, ne_eqb}
use Rattle.abi.specs.Status.{status_of}

-- status and buffer, where a record has `count` fields, `from` is the record that has them, and its writer answers `number` and leaves `bytes`
pub record Written {R : Type 0} (count : ℕ) (from : List ℕ → R) (number : R → ℕ → ℕ) (bytes : R → List ℕ → List ℕ)
    (status : List ℕ → List ℕ → ℕ) (buffer : List ℕ → List ℕ → List ℕ) : Type 0 where
  pub is-status : (v s : List ℕ) → status v s ≡ cond (eqb (length v) count) (status_of (number (from v) (length s)) 0) (status_of 1 0)
  pub is-buffer : (v s : List ℕ) → buffer v s ≡ cond (eqb (length v) count) (bytes (from v) s) s

module _ {R : Type 0} {count : ℕ} {from : List ℕ → R} {number : R → ℕ → ℕ} {bytes : R → List ℕ → List ℕ} {status : List ℕ → List ℕ → ℕ}
    {buffer : List ℕ → List ℕ → List ℕ} (w : Written count from number bytes status buffer) (v s : List ℕ) {n : ℕ} {t : List ℕ} where
  -- another number of fields
  pub write-wrong : length v ≢ count → n ≡ status_of 1 0 → t ≡ s → (n ≡ status v s) × (t ≡ buffer v s)
  write-wrong h e p = let z = ne_eqb (length v) count h in (rw (w.is-status v s, z) e, rw (w.is-buffer v s, z) p)

  pub write-answered : {m : ℕ} {r : R} → length v ≡ count → r ≡ from v → m ≡ number r (length s) → n ≡ status_of m 0 → t ≡ bytes r s
      → (n ≡ status v s) × (t ≡ buffer v s)
  write-answered l e a p q =
      let z = eq-eqb (length v) count l in (
        rw (w.is-status v s, z) (p ∙ ap (λ (k : ℕ). status_of k 0) (a ∙ ap (λ (x : R). number x (length s)) e)),
        rw (w.is-buffer v s, z) (q ∙ ap (λ (x : R). bytes x s) e),
      )
