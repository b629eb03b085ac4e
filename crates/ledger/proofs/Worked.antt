-- The reports of document 02 hold of the definitions. Assumes nothing.
use mathlib.Core.Path.{◌≡◌, refl, ap, ap₂, ◌∙◌}
use mathlib.Core.Bool.{true}
use mathlib.Core.Logic.{◌≢◌}
use mathlib.Core.List.{List, [], ◌∷◌, map}
use Prim.Native.Nat.{ℕ, ◌+◌}
use native.Mathlib.Omega.{arith}
use lib.Dec.{eqb}
use lib.ListN.{length}
use Rattle.bits.specs.Bits.{digit}
use Rattle.bits.specs.Layout.{sum}
use Rattle.dsc.specs.Marks.{unmarked}
use Rattle.decimals.specs.Decimal.{digits}
use Rattle.frame.specs.Read.{judge_of}
use Rattle.frame.specs.declared.Edition.{Edition}
use Rattle.frame.specs.declared.Verdict.{Verdict}
use Rattle.frame.proofs.Marks.{marked-frames}
use Rattle.frame_verdicts.proofs.Refused.{verdict-refused}
use Rattle.ledger.specs.Counting.{frames_with, places_counted, places_repaired, refusals, ledger_of, possible, fresh}
use Rattle.ledger.specs.Report.{labels, numbers_of, labelled_lines, ledger_report}
use Rattle.ledger.specs.Worked.{two_pieces, no_frames, longest}
use Rattle.ledger.specs.declared.Ledger.{Ledger}

-- the ledger of two frames that are judged so
of_two : Verdict → Verdict → Ledger
of_two v w =
    record {
      seen = 2;
      refused = map (λ n. digit (eqb v.number n) + (digit (eqb w.number n) + 0)) refusals;
      accepted = digit (eqb v.number 0) + (digit (eqb w.number 0) + 0);
      repaired = places_counted v + (places_counted w + 0);
    }

list-two : (ed : Edition) (f x : List ℕ) → ledger_of ((ed, f) ∷ (ed, x) ∷ []) ≡ of_two (judge_of ed f) (judge_of ed x)
unfolding ledger_of frames_with places_repaired sum of_two
list-two ed f x = refl

pub two-pieces : (ed : Edition) (f x : List ℕ) → judge_of ed f ≡ record { number = 0; repaired = 0 } → length x ≢ 26
    → ledger_report (ledger_of ((ed, f) ∷ (ed, x) ∷ [])) ≡ two_pieces
unfolding of_two digit ledger_report labels numbers_of labelled_lines digits two_pieces
two-pieces ed f x accepted short =
    let refused : judge_of ed x ≡ record { number = 1; repaired = 0 } = verdict-refused ed x 1 (omega arith) ((marked-frames ed).short-frame unmarked x short) in
    ap ledger_report (list-two ed f x) ∙ ap₂ (λ (v w : Verdict). ledger_report (of_two v w)) accepted refused

pub no-frames : ledger_report fresh ≡ no_frames
unfolding ledger_report labels numbers_of labelled_lines digits no_frames
no-frames = refl

-- the shortest and the longest report
pub least-met : length (ledger_report fresh) ≡ 137
unfolding ledger_report labels numbers_of labelled_lines digits
least-met = refl

pub longest-passes : possible longest ≡ true
unfolding possible sum longest
longest-passes = refl

pub longest-nine : length longest.refused ≡ 9
unfolding longest
longest-nine = refl

pub longest-size : length (ledger_report longest) ≡ 203
unfolding ledger_report labels numbers_of labelled_lines digits longest
longest-size = refl
