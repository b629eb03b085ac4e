-- Digits stored from the last to the first. Assumes nothing.
use mathlib.Core.Path.{◌≡◌, refl, sym, ap, ◌∙◌}
use mathlib.Core.List.{List, [], ◌∷◌, ◌++◌, append-nil}
use Prim.Native.Nat.{ℕ, suc, ◌+◌, ◌/◌, ◌%◌, ◌<◌, ◌≤◌}
use native.Mathlib.Omega.{arith}
use lib.ListN.{length, set, length-append}
use lib.Seq.{sets, length-sets, append_snoc}
use Rattle.decimals.specs.Decimal.{decimal, leading}
use Rattle.decimals.specs.Put.{Put}
use Rattle.decimals.proofs.Stores.{sets-front}
use Rattle.decimals.proofs.Decimals.{leading-none, leading-some, decimal-last}

-- the digits that are left in front of those stored: all digits of a number of which none is stored
abbrev pub ahead : ℕ → List ℕ → List ℕ
ahead rest [] = decimal rest
ahead rest (d ∷ stored) = leading rest

-- one of them is the last
ahead-last : (rest : ℕ) (stored : List ℕ) → rest < 18446744073709551616 → 0 < length (ahead rest stored)
    → ahead rest stored ≡ leading (rest / 10) ++ (48 + rest % 10) ∷ []
ahead-last rest [] h l = decimal-last rest h
ahead-last rest (d ∷ stored) h l =
    let some : rest ≡ 0 → ⊥ = λ z. omega (arith, ap length (ap leading z ∙ leading-none)) in
    leading-some rest some ∙ decimal-last rest h

-- the digits of n, which are to begin at a place, are stored from i on; the others are those of rest
pub record Written (out₀ : List ℕ) (at n : ℕ) (out : List ℕ) (i rest : ℕ) : Type 0 where
  pub stored : List ℕ
  pub text : decimal n ≡ ahead rest stored ++ stored
  pub place : at + length (ahead rest stored) ≡ i
  pub out-is : out ≡ sets out₀ i stored
  pub small : rest < 18446744073709551616

pub written_none : (out : List ℕ) (at n i rest : ℕ) → n < 18446744073709551616 → i ≡ at + length (decimal n) → rest ≡ n → Written out at n out i rest
written_none out at n i rest h e same =
    rw same (record { stored = []; text = sym (append-nil (decimal n)); place = sym e; out-is = refl; small = h })

module _ {out₀ : List ℕ} {at n : ℕ} {out : List ℕ} {i rest : ℕ} (w : Written out₀ at n out i rest) where
  pub written-length : length out ≡ length out₀
  written-length = ap length w.out-is ∙ length-sets out₀ i w.stored

  pub written-place : i ≤ at + length (decimal n)
  written-place = omega (arith, w.place, ap length w.text ∙ length-append (ahead rest w.stored) w.stored)

  -- one digit more, in front of i
  pub written_next : (j : ℕ) → suc j ≡ i → at ≤ j → Written out₀ at n (set out j (48 + rest % 10)) j (rest / 10)
  written_next j e l =
      let d = 48 + rest % 10 in
      let last = ahead-last rest w.stored w.small (omega (arith, w.place)) in
      record {
        stored = d ∷ w.stored;
        text = w.text ∙ ap (◌++ w.stored) last ∙ append_snoc (leading (rest / 10)) d w.stored;
        place = omega (arith, w.place, ap length last ∙ length-append (leading (rest / 10)) (d ∷ []));
        out-is =
            ap (λ (l : List ℕ). set l j d) w.out-is
            ∙ sets-front out₀ i j d w.stored (omega arith)
            ∙ ap (λ (k : ℕ). sets (set out₀ j d) k w.stored) (sym e);
        small = omega (arith, w.small);
      }

  pub written_all : (j : ℕ) → i ≡ at → j ≡ at + length (decimal n) → Put out₀ at (decimal n) out j
  written_all j e f = go (ahead rest w.stored) w.text (omega (arith, w.place))
    where
      go : (front : List ℕ) → decimal n ≡ front ++ w.stored → length front ≡ 0 → Put out₀ at (decimal n) out j
      go [] t l = record { place = f; text = rw (e, sym t) at w.out-is }
      go (d ∷ front) t l = absurd (omega arith)
