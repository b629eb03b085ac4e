-- The adders, lane by lane. Assumes nothing.
use mathlib.Core.Path.{◌≡◌, refl, sym, ap, ap₂, ◌∙◌}
use mathlib.Core.Bool.{Bool, true, false, ◌&&◌, ◌||◌}
use Prim.Native.Nat.{ℕ, ◌+◌, ◌*◌, ◌≤◌}
use native.Mathlib.Omega.{arith}
use lib.Bits.{bit_xor, bit_and, bit_or}
use lib.Dec.{leb}
use borrow.Author.Tests.{le-leb, lt-leb}
use Rattle.bits.specs.Bits.{digit}
use Rattle.gf2.specs.Polynomial.{◌⊕◌}
use Rattle.lanes.specs.Lane.{lane}
use Rattle.lanes.proofs.Lanes.{lane_xor, lane_and, lane_or}

half : (a b : Bool) → digit (a ⊕ b) + 2 * digit (a && b) ≡ digit a + digit b
unfolding digit
half false false = refl
half false true = refl
half true false = refl
half true true = refl

full : (a b c : Bool) → digit ((a ⊕ b) ⊕ c) + 2 * digit ((a && b) || ((a ⊕ b) && c)) ≡ digit a + digit b + digit c
unfolding digit
full false false false = refl
full false false true = refl
full false true false = refl
full false true true = refl
full true false false = refl
full true false true = refl
full true true false = refl
full true true true = refl

pub lane-half : (x y i : ℕ) → digit (lane (bit_xor x y) i) + 2 * digit (lane (bit_and x y) i) ≡ digit (lane x i) + digit (lane y i)
lane-half x y i = ap₂ (λ s t. digit s + 2 * digit t) (lane_xor x y i) (lane_and x y i) ∙ half (lane x i) (lane y i)

pub lane-full : (x y z i : ℕ)
    → digit (lane (bit_xor (bit_xor x y) z) i) + 2 * digit (lane (bit_or (bit_and x y) (bit_and (bit_xor x y) z)) i)
    ≡ digit (lane x i) + digit (lane y i) + digit (lane z i)
lane-full x y z i =
    ap₂ (λ s t. digit s + 2 * digit t) (lane_xor (bit_xor x y) z i ∙ ap (◌⊕ lane z i) (lane_xor x y i))
    (lane_or (bit_and x y) (bit_and (bit_xor x y) z) i
    ∙ ap₂ ◌||◌ (lane_and x y i) (lane_and (bit_xor x y) z i ∙ ap (◌&& lane z i) (lane_xor x y i)))
    ∙ full (lane x i) (lane y i) (lane z i)

-- ---- nine and more, of a number of five bits

digit-le : (b : Bool) → digit b ≤ 1
unfolding digit
digit-le true = omega arith
digit-le false = omega arith

nine : (a b c d e : Bool) (n : ℕ) → digit a + 2 * digit b + 4 * digit c + 8 * digit d + 16 * digit e ≡ n → e || (d && ((a || b) || c)) ≡ leb 9 n
unfolding digit
nine a b c d true n h = sym (le-leb 9 n (omega arith))
nine true b c true false n h = sym (le-leb 9 n (omega arith))
nine false true c true false n h = sym (le-leb 9 n (omega arith))
nine false false true true false n h = sym (le-leb 9 n (omega arith))
nine false false false true false n h = sym (lt-leb 9 n (omega arith))
nine a b c false false n h = sym (lt-leb 9 n (omega (arith, digit-le a, digit-le b, digit-le c)))

pub lane-nine : (a b c d e i n : ℕ)
    → digit (lane a i) + 2 * digit (lane b i) + 4 * digit (lane c i) + 8 * digit (lane d i) + 16 * digit (lane e i) ≡ n
    → lane (bit_or e (bit_and d (bit_or (bit_or a b) c))) i ≡ leb 9 n
lane-nine a b c d e i n h =
    lane_or e (bit_and d (bit_or (bit_or a b) c)) i
    ∙ ap (lane e i ||◌) (lane_and d (bit_or (bit_or a b) c) i ∙ ap (lane d i &&◌) (lane_or (bit_or a b) c i ∙ ap (◌|| lane c i) (lane_or a b i)))
    ∙ nine (lane a i) (lane b i) (lane c i) (lane d i) (lane e i) n h
