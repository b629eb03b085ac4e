-- The header that stands beside a refusal. Assumes nothing.
use mathlib.Core.Path.{◌≡◌, refl}
use mathlib.Core.List.{[]}
use lib.ListN.{replicate}
use Rattle.header.specs.Fields.{run, front_of, extension_of}

pub front-zeros : front_of (replicate 119 0) ≡ front_of []
unfolding front_of run
front-zeros = refl

pub extension-zeros : extension_of (replicate 26 0) ≡ extension_of []
unfolding extension_of run
extension-zeros = refl
