-- What stands in the details of a repaired frame, as its tests ask for it. Assumes nothing.
use Rattle.std.specs.Prelude.{◌≡◌, List, ℕ}
use Rattle.bits.specs.Field.{field_at}
use Rattle.bits.specs.Segment.{fixed_bits_hold}
use Rattle.frame.specs.Body.{layout}
use Rattle.frame.specs.Read.{identification_in, body_in, details_in, record_in}
use Rattle.frame_details.specs.Details.{details_of}
use Rattle.frame.specs.declared.Edition.{Edition}
use Rattle.frame_details.specs.declared.Details.{Details}

-- the details that stand in the repaired frame c
abbrev pub word_details : Edition → (reference pattern : ℕ) → List ℕ → Details
word_details ed x p c = details_of (body_in ed c) x p (identification_in c) (field_at c 19 2) (details_in c)

-- d has what the tests after the repair ask of the details of c
pub record Tells (ed : Edition) (c : List ℕ) (d : Details) : Type 0 where
  pub fixed : d.holds ≡ fixed_bits_hold (layout (body_in ed c)) (details_in c)
  pub latitude : d.contents.latitude ≡ (record_in ed 0 0 c).latitude
  pub longitude : d.contents.longitude ≡ (record_in ed 0 0 c).longitude
