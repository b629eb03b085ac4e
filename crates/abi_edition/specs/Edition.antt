-- The edition that a number names. Assumes nothing.
use Rattle.std.specs.Prelude.{cond, ℕ, eqb}
use Rattle.frame.specs.declared.Edition.{Edition}
use Rattle.frame.specs.declared.Edition.TheVariants.{First, AreaSafety}

-- 0 the first edition, 1 the area safety edition; any other number is taken for the first
unfoldable pub edition_of : ℕ → Edition
edition_of n = cond (eqb n 1) AreaSafety First
