-- Tuners and their numbers. Assumes nothing.
use mathlib.Core.Path.{◌≡◌, refl, sym, ap}
use mathlib.Core.Logic.{◌≢◌}
use Prim.Native.Nat.{ℕ}
use borrow.Author.Tests.{eq-eqb, ne_eqb}
use Rattle.frame.specs.declared.Tuner.{Tuner}
use Rattle.frame.specs.declared.Tuner.TheVariants.{None, Main, Spare}
use Rattle.abi_tuner.specs.Tuner.{tuner_of, tuner_number}

-- a tuner's number names it
pub named : (t : Tuner) → tuner_of (tuner_number t) ≡ t
unfolding tuner_of
named None = refl
named Main = refl
named Spare = refl

-- what a number names, as the code comes to it
pub main-named : (n : ℕ) → n ≡ 1 → Main ≡ tuner_of n
unfolding tuner_of
main-named n e = rw (eq-eqb n 1 e)

pub spare-named : (n : ℕ) → n ≢ 1 → n ≡ 2 → Spare ≡ tuner_of n
unfolding tuner_of
spare-named n h e = rw (ne_eqb n 1 h, eq-eqb n 2 e)

pub none_named : (n : ℕ) → n ≢ 1 → n ≢ 2 → None ≡ tuner_of n
unfolding tuner_of
none_named n h k = rw (ne_eqb n 1 h, ne_eqb n 2 k)

-- what a `match` tells: the number of the tuner that it was found to be
pub numbered : {t : Tuner} (d : Tuner) → t ≡ d → tuner_number d ≡ tuner_number t
numbered d e = ap tuner_number (sym e)
