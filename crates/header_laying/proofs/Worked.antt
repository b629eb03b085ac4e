-- The worked example of laying in holds: the CRC of the sample header with a frame, computed. Assumes nothing.
use mathlib.Core.Path.{◌≡◌, ap, ◌∙◌, refl}
use lib.ListN.{take, drop}
use Rattle.bits.specs.Bits.{bits, digit, odd, value, bits_of, bytes}
use Rattle.dsc.specs.Marks.{unmarked}
use Rattle.frame.specs.Write.{frame_of, announced, message_bits, Legal, record_refusal}
use Rattle.frame.specs.Worked.{area_record}
use Rattle.frame.specs.declared.Edition.TheVariants.{First}
use Rattle.header.specs.Header.{header_of, sealed}
use Rattle.header.specs.Worked.{sample}
use Rattle.header.proofs.Worked as header
use mathlib.Core.List.{[], ◌∷◌}
use Rattle.bits.specs.Layout.{pack}
use Rattle.bits.specs.Segment.{free_widths, widths, with_fixed}
use Rattle.bits.specs.Refusal.{first_refusal}
use Rattle.gf2.specs.Polynomial.{poly, add, scale, remainder, check_bits, member}
use Rattle.crc.specs.Crc.{crc, crc10, crc32}
use Rattle.dsc.specs.Code.{powers, generator_low, parity_of}
use Rattle.frame.specs.Identification.{class_of}
use Rattle.frame.specs.Body.{row, layout}
use Rattle.frame.specs.Fields.{gather, scatter, field_widths, body_values}
use Rattle.header.specs.Layout.{front_layout, extension_layout}
use Rattle.header.specs.Fields.{pairs, front_fields, extension_fields}
use Rattle.header_laying.specs.Laying.{with_ac, lay_in_of}
use Rattle.header_laying.specs.Worked.{Worked}
use Rattle.header_laying.proofs.Promises.{laid-own}

-- the warning for all areas is a legal record
warning-legal : Legal First (area_record 0)
unfolding area_record record_refusal first_refusal class_of row layout scatter field_widths free_widths
warning-legal = refl

crc-with-frame : drop 184 (with_ac (header_of (sample 0x47000000 1 0)) (take 204 (bits (frame_of First (area_record 0))))) ≡ 0xB0 ∷ 0xAC ∷ 0x5A ∷ 0x53 ∷ []
unfolding add scale remainder digit odd value bits_of bits bytes pack widths with_fixed crc crc32 front_layout extension_layout pairs front_fields extension_fields sealed header_of sample with_ac poly member check_bits crc10 powers generator_low parity_of class_of row layout gather body_values announced message_bits frame_of area_record
crc-with-frame = refl

laid : lay_in_of First unmarked (header_of (sample 0x47000000 1 0)) (frame_of First (area_record 0)) ≡ with_ac (header_of (sample 0x47000000 1 0)) (take 204 (bits (frame_of First (area_record 0))))
laid = laid-own First (header_of (sample 0x47000000 1 0)) (area_record 0) (header.worked).accepted warning-legal

pub worked : Worked
worked = record { crc-laid = ap (drop 184) laid ∙ crc-with-frame }
