-- A frame laid into a header and taken out of it: what each function returns. Assumes nothing.
use Rattle.std.specs.Prelude.{List, ℕ}
use Rattle.dsc.specs.Marks.{Marking}
use Rattle.frame.specs.declared.Edition.{Edition}
use Rattle.header.specs.Header.{header_refusal}
use Rattle.header_laying.specs.Laying.{lay_in_number}
use Rattle.abi.specs.Status.{status_of}

-- laying in and taking out tell their number alone
abbrev pub lay_in_status : Edition → Marking → (h f : List ℕ) → ℕ
lay_in_status ed q h f = status_of (lay_in_number ed q h f) 0

abbrev pub take_out_status : List ℕ → ℕ
take_out_status h = status_of (header_refusal h) 0
