-- A turn of the program. Assumes nothing.
use Rattle.std.specs.Prelude.{◌≡◌, List, ℕ, ◌≤◌, take, drop, Option, None, Some, ⊤}
use Rattle.std.specs.Io.KnownBytes.{Appends}
use Rattle.frame.specs.declared.Edition.{Edition}
use Rattle.ledger.specs.Report.{length_of}
use Rattle.ledger.specs.declared.Ledger.{Ledger}
use Rattle.ledger_input.specs.Input.{turn_after, with_report}
use Rattle.ledger_input.specs.declared.LedgerTurn.{LedgerTurn}

-- the turn t after another: the bytes that were read, at most so many as were wanted, stand at the start of the input buffer, and t counts them
pub record TurnMade (ed : Edition) (before : LedgerTurn) (input : List ℕ) (t : LedgerTurn) : Type 0 where
  pub got : ℕ
  pub most : got ≤ before.wanted
  pub told : t ≡ turn_after ed before (take got input)

-- the same of a reader whose bytes are known: where s is left of them, t counts those that the program reads, and they are gone
abbrev pub Follows : Edition → (before : LedgerTurn) (old new : Option (List ℕ)) (t : LedgerTurn) → Type 0
Follows ed before None new t = ⊤
Follows ed before (Some s) new t = (t ≡ turn_after ed before (take before.wanted s)) × (new ≡ Some (drop before.wanted s))

-- a writer took the report of a ledger, by way of a buffer, which does not matter where the ledger is possible
abbrev pub Reports : Ledger → (old new : Option (List ℕ)) → Type 0
Reports l old new = (out : List ℕ) × Appends old new (take (length_of l) (with_report l out))
