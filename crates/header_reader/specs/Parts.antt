-- A header's two parts as the reader finds them, each beside whether its fixed bits are as they should be. No promise speaks of them. Assumes nothing.
use Rattle.std.specs.Prelude.{not, List, ℕ}
use Rattle.header.specs.Tests.{slot_bit_wrong, extension_wrong}
use Rattle.header.specs.Header.{front_in, extension_in}
use Rattle.header_reader.specs.declared.FrontFound.{FrontFound}
use Rattle.header_reader.specs.declared.ExtensionFound.{ExtensionFound}

abbrev pub front_found : List ℕ → FrontFound
front_found h = record { fixed = not (slot_bit_wrong h); front = front_in h }

abbrev pub extension_found : List ℕ → ExtensionFound
extension_found h = record { fixed = not (extension_wrong h); extension = extension_in h }
