-- The tuner that a number names, and a tuner's number. Assumes nothing.
use Rattle.std.specs.Prelude.{cond, ℕ, eqb}
use Rattle.frame.specs.declared.Tuner.{Tuner}
use Rattle.frame.specs.declared.Tuner.TheVariants.{None, Main, Spare}

-- 0 none, 1 main, 2 spare
abbrev pub tuner_number : Tuner → ℕ
tuner_number None = 0
tuner_number Main = 1
tuner_number Spare = 2

-- any other number is taken for none
unfoldable pub tuner_of : ℕ → Tuner
tuner_of n = cond (eqb n 1) Main (cond (eqb n 2) Spare None)
