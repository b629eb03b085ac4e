-- What `read_fields` answers over a part's table. Assumes nothing.
use mathlib.Core.Path.{◌≡◌, sym, ap, ◌∙◌}
use mathlib.Core.Bool.{Bool, not, not-not}
use mathlib.Core.List.{List}
use Prim.Native.Nat.{ℕ}
use Rattle.bits.specs.declared.Segment.{Segment}
use Rattle.bits.specs.Segment.{unpack_segments, fixed_bits_hold}

-- what `read_fields` answers of the table t, which is the layout l, and what is made of the values
pub part-read : {A : Type 0} (l t : List Segment) → t ≡ l → (of : List ℕ → A) (bs : List Bool) (b : Bool) (vs : List ℕ) (x : A)
    → (b ≡ fixed_bits_hold t bs) × (vs ≡ unpack_segments t bs) → x ≡ of vs
    → (b ≡ not (not (fixed_bits_hold l bs))) × (x ≡ of (unpack_segments l bs))
part-read l t q of bs b vs x e f =
    (e.0 ∙ ap (λ y. fixed_bits_hold y bs) q ∙ sym (not-not (fixed_bits_hold l bs)), f ∙ ap of (e.1 ∙ ap (λ y. unpack_segments y bs) q))
