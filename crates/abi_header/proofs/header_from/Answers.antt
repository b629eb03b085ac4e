-- `abi_header::header_from` meets its contract. Assumes nothing.
use Rattle.abi_header.proofs.Cases.{from_parts}
use Rattle.abi_header.proofs.header_from.Goals as goal

pub returns : goal.returns
returns c =
    from_parts _ _ _ _ _ c.run-first.ensures c.run-second.ensures c.front_of-front.ensures c.extension_of-extension.ensures
