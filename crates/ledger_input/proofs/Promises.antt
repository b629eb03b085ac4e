-- The promises hold. Assumes nothing.
use mathlib.Core.Path.{◌≡◌, refl, sym, ap, ap₂, ◌∙◌}
use mathlib.Core.Bool.{Bool, true, false, cond}
use mathlib.Core.List.{List, [], ◌∷◌, ◌++◌, append-nil}
use Prim.Native.Nat.{ℕ, ◌+◌, ◌*◌, ◌≤◌, ◌<◌, min}
use native.Mathlib.Omega.{arith}
use lib.Dec.{eqb}
use lib.ListN.{length, take, drop, length-append}
use lib.Seq.{take_all, take_at}
use borrow.Author.Tests.{eqb-true, eqb-false}
use Rattle.dsc.specs.Marks.{unmarked}
use Rattle.frame.specs.Read.{judge_of}
use Rattle.frame.specs.declared.Edition.{Edition}
use Rattle.frame.specs.declared.Verdict.{Verdict}
use Rattle.frame.proofs.Marks.{marked-frames}
use Rattle.frame_verdicts.proofs.Refused.{verdict-refused}
use Rattle.listing.specs.Lines.{piece_count}
use Rattle.listing.specs.declared.Pieces.TheVariants.{Frames}
use Rattle.listing.proofs.Counts.{count_none, count-least, count-whole, count-two}
use Rattle.ledger.specs.Counting.{Frame, ledger_of, most_frames, possible}
use Rattle.ledger.specs.Report.{ledger_report, length_of}
use Rattle.ledger.specs.Worked.{two_pieces, no_frames}
use Rattle.ledger.proofs.Lists.{list-possible}
use Rattle.ledger.proofs.Reports.{length-possible}
use Rattle.ledger.proofs.Promises.{day-ledger, ledger-reports}
use Rattle.ledger_input.specs.Input.{frames_in, input_ledger, input_report, turns_at_most, with_report, program_text}
use Rattle.ledger_input.specs.declared.LedgerTurn.{LedgerTurn}
use Rattle.ledger_input.specs.Promises.{LedgerTurns}
use Rattle.ledger_input.proofs.Frames.{frames-none, frames-next, frames-length, frames-append}
use Rattle.ledger_input.proofs.Turns.{whole, begins, stops, ahead}

module _ (ed : Edition) where
  -- 4,000,000 frames, and then anything
  rest-not-counted : (s t : List ℕ) → length s ≡ 26 * most_frames → input_ledger ed (s ++ t) ≡ input_ledger ed s
  unfolding input_ledger
  rest-not-counted s t h =
      let more = count-least Frames (length (s ++ t)) most_frames (omega (arith, length-append s t)) in
      let own = count-whole Frames (length s) most_frames h in
      let a : min (piece_count Frames (length (s ++ t))) most_frames ≡ most_frames + 0 = omega arith in
      let b : min (piece_count Frames (length s)) most_frames ≡ most_frames = omega arith in
      ap ledger_of
      (ap (λ (k : ℕ). frames_in ed k (s ++ t)) a ∙ frames-append ed most_frames 0 s t h
      ∙ ap (frames_in ed most_frames s ++◌) (frames-none ed t) ∙ append-nil (frames_in ed most_frames s)
      ∙ ap (λ (k : ℕ). frames_in ed k s) (sym b))

  reported : (s : List ℕ) → possible (input_ledger ed s) ≡ true
  unfolding input_ledger
  reported s =
      let k = min (piece_count Frames (length s)) most_frames in
      list-possible (frames_in ed k s) (omega (arith, frames-length ed k s))

  -- the report is at the start of the buffer, and nothing else is written
  written : (k : ℕ) (s out : List ℕ) → turns_at_most ≤ k → program_text ed k s out ≡ input_report ed s
  unfolding program_text with_report
  written k s out h =
      let l = input_ledger ed s in
      let p = reported s in
      ap (λ (t : LedgerTurn). take (length_of t.ledger) (with_report t.ledger out)) (whole ed k s h)
      ∙ ap (λ (n : ℕ). take n (with_report l out)) (length-possible l p).1
      ∙ ap (λ (t : Bool). take (length (ledger_report l)) (cond t (ledger_report l ++ drop (length (ledger_report l)) out) out)) p
      ∙ take_at (ledger_report l) (drop (length (ledger_report l)) out) (length (ledger_report l)) refl

  -- an accepted frame has 26 bytes
  accepted-size : (f : List ℕ) → judge_of ed f ≡ record { number = 0; repaired = 0 } → length f ≡ 26
  accepted-size f e = go (eqb (length f) 26) refl
    where
      go : (t : Bool) → eqb (length f) 26 ≡ t → length f ≡ 26
      go true h = eqb-true (length f) 26 h
      go false h =
          let refused = verdict-refused ed f 1 (omega arith) ((marked-frames ed).short-frame unmarked f (eqb-false (length f) 26 h)) in
          let z : ◌≡◌ {A = ℕ} 1 0 = ap (λ (v : Verdict). v.number) (sym refused ∙ e) in
          absurd (omega arith)

  example : (f x : List ℕ) → judge_of ed f ≡ record { number = 0; repaired = 0 } → 0 < length x → length x < 26 → input_report ed (f ++ x) ≡ two_pieces
  unfolding input_ledger
  example f x accepted some short =
      let h = accepted-size f accepted in
      let two : piece_count Frames (length (f ++ x)) ≡ 2 = count-two Frames (length (f ++ x)) (length x) (length-append f x ∙ omega arith) some (omega arith) in
      let k : min (piece_count Frames (length (f ++ x))) most_frames ≡ 1 + 1 = omega arith in
      let own : frames_in ed 1 f ≡ (ed, f) ∷ [] =
      frames-next ed 0 f ∙ ap₂ (λ (a : List ℕ) (fs : List Frame). (ed, a) ∷ fs) (take_all 26 f (omega arith)) (frames-none ed (drop 26 f)) in
      let last : frames_in ed 1 x ≡ (ed, x) ∷ [] =
      frames-next ed 0 x ∙ ap₂ (λ (a : List ℕ) (fs : List Frame). (ed, a) ∷ fs) (take_all 26 x (omega arith)) (frames-none ed (drop 26 x)) in
      ap (λ (fs : List Frame). ledger_report (ledger_of fs))
      (ap (λ (n : ℕ). frames_in ed n (f ++ x)) k ∙ frames-append ed 1 1 f x h ∙ ap₂ ◌++◌ own last)
      ∙ ledger-reports.two-pieces ed f x accepted (λ e. omega arith)

  empty : input_report ed [] ≡ no_frames
  unfolding input_ledger
  empty =
      let none = count_none Frames in
      let k : min (piece_count Frames 0) most_frames ≡ 0 = omega arith in
      ap (λ (n : ℕ). ledger_report (ledger_of (frames_in ed n []))) k ∙ ap (λ (fs : List Frame). ledger_report (ledger_of fs)) (frames-none ed [])
      ∙ ap ledger_report day-ledger.new-list ∙ ledger-reports.no-frames

  pub ledger-turns : LedgerTurns ed
  ledger-turns =
      record {
        whole = whole ed;
        written = written;
        begins = begins;
        ahead = ahead ed;
        stops = stops;
        rest-not-counted = rest-not-counted;
        example = example;
        empty = empty;
      }
