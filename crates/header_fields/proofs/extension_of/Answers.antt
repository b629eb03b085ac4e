-- `header_fields::extension_of` meets its contract. Assumes nothing.
use Rattle.header.specs.Fields.{extension_of}
use Rattle.header_fields.proofs.extension_of.Goals as goal

pub returns : goal.returns
unfolding extension_of
returns c = λ i. record { ac = c.run-ac.ensures i }
