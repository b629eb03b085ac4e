-- What this crate promises, in the words of document 02, l). The record has one value for every edition, proved in proofs/Promises.antt. Assumes nothing.
use Rattle.std.specs.Prelude.{◌≡◌, ◌≢◌, List, [], ◌++◌, ℕ, ◌+◌, ◌*◌, ◌≤◌, ◌<◌, length}
use Rattle.frame.specs.Read.{judge_of}
use Rattle.frame.specs.declared.Edition.{Edition}
use Rattle.ledger.specs.Worked.{two_pieces, no_frames}
use Rattle.ledger_input.specs.Input.{input_ledger, input_report, turns_at_most, start, turn_after, program_turn, Standing, Ahead, program_text}
use Rattle.ledger_input.specs.declared.LedgerTurn.{LedgerTurn}

pub record LedgerTurns (ed : Edition) : Type 0 where
  -- after 1,588 turns nothing more is wanted, and the ledger is that of the whole input; what is written then is its report, by way of any buffer
  pub whole : (k : ℕ) (s : List ℕ) → turns_at_most ≤ k → program_turn ed k start s ≡ record { ledger = input_ledger ed s; wanted = 0 }
  pub written : (k : ℕ) (s out : List ℕ) → turns_at_most ≤ k → program_text ed k s out ≡ input_report ed s
  -- each turn that reads something, and not more than was wanted, gets on, so that the program ends; it begins so
  pub begins : Standing start
  pub ahead : (t : LedgerTurn) (s : List ℕ) → Standing t → t.wanted ≢ 0 → length s ≤ t.wanted → Ahead t (turn_after ed t s)
  -- no turn asks for a byte past frame 4,000,000, and what comes after it is not counted
  pub stops : (t : LedgerTurn) → Standing t → 26 * t.ledger.seen + t.wanted ≤ 26 * 4000000
  pub rest-not-counted : (s t : List ℕ) → length s ≡ 26 * 4000000 → input_ledger ed (s ++ t) ≡ input_ledger ed s
  -- an accepted frame of which nothing is repaired, and then a short piece, as in document 01's listing, give document 02's report
  pub example : (f x : List ℕ) → judge_of ed f ≡ record { number = 0; repaired = 0 } → 0 < length x → length x < 26 → input_report ed (f ++ x) ≡ two_pieces
  -- and the empty input that of no frames
  pub empty : input_report ed [] ≡ no_frames
