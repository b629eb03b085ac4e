-- `header_reader::no_header` meets its contract. Assumes nothing.
use mathlib.Core.Path.{◌∙◌, ap}
use Rattle.header.specs.Fields.{front_of, extension_of}
use Rattle.header.specs.Header.{no_header}
use Rattle.header_reader.proofs.Zeros.{front-zeros, extension-zeros}
use Rattle.header_reader.proofs.no_header.Goals as goal

pub returns : goal.returns
unfolding no_header
returns c =
    let e = c.extension_of-extension.ensures ∙ ap extension_of c.zeros-nothing.ensures ∙ extension-zeros in
    let g = c.front_of-front.ensures ∙ ap front_of c.zeros-none.ensures ∙ front-zeros in
    λ i. record { front = g i; extension = e i }
