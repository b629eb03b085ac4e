-- A worked example of laying in: the CRC of the sample header with a frame, as a program in another language has it. Assumes nothing.
use Rattle.std.specs.Prelude.{◌≡◌, [], ◌∷◌, drop}
use Rattle.dsc.specs.Marks.{unmarked}
use Rattle.frame.specs.Write.{frame_of}
use Rattle.frame.specs.Worked.{area_record}
use Rattle.frame.specs.declared.Edition.TheVariants.{First}
use Rattle.header.specs.Header.{header_of}
use Rattle.header.specs.Worked.{sample}
use Rattle.header_laying.specs.Laying.{lay_in_of}

pub record Worked : Type 0 where
  -- with the warning for all areas
  pub crc-laid : drop 184 (lay_in_of First unmarked (header_of (sample 0x47000000 1 0)) (frame_of First (area_record 0))) ≡ 0xB0 ∷ 0xAC ∷ 0x5A ∷ 0x53 ∷ []
