-- The ways out of `count`, and a frame of an input more. Assumes nothing.
use mathlib.Core.Path.{◌≡◌, sym, ap, ap₂, ◌∙◌, subst}
use mathlib.Core.Bool.{Bool, true, false, not}
use mathlib.Core.List.{List}
use Prim.Native.Nat.{ℕ, ◌≤◌}
use lib.ListN.{length}
use borrow.Author.Tests.{not-true, not-false}
use Rattle.frame.specs.Read.{judge_of}
use Rattle.frame.specs.declared.Edition.{Edition}
use Rattle.frame.specs.declared.Verdict.{Verdict}
use Rattle.listing.specs.Lines.{piece_size, piece_count}
use Rattle.listing.specs.declared.Pieces.TheVariants.{Frames}
use Rattle.listing.proofs.Counts.{count_none, count_next}
use Rattle.listing.proofs.Cuts.{NextPart, part-take, part-drop, part-length}
use Rattle.ledger.specs.Counting.{most_frames, possible, with_verdict, count_of, counted_in}
use Rattle.ledger.specs.declared.Ledger.{Ledger}
use Rattle.ledger.specs.declared.LedgerAnswer.{LedgerAnswer}
use Rattle.ledger.proofs.Lists.{number-most}
use Rattle.ledger.proofs.Counted.{answer-impossible, answer-full, answer-counted, counted_none}
use Rattle.ledger_input.specs.Input.{frames_in, all_frames}
use Rattle.ledger_input.proofs.Frames.{frames-none, frames-next}

module _ (ed : Edition) (l : Ledger) (f : List ℕ) (p : Bool) (tested : p ≡ possible l) where
  pub count-impossible : not p ≡ true → ◌≡◌ {A = LedgerAnswer} (record { number = 18; ledger = l }) (count_of l (ed, f))
  count-impossible n = sym (answer-impossible l (ed, f) (sym tested ∙ not-true p n))

  pub passed : not p ≡ false → possible l ≡ true
  passed n = sym tested ∙ not-false p n

  pub count-full : not p ≡ false → l.seen ≡ most_frames → ◌≡◌ {A = LedgerAnswer} (record { number = 19; ledger = l }) (count_of l (ed, f))
  count-full n s = sym (answer-full l (ed, f) (passed n) s)

  pub count-counted : not p ≡ false → (l.seen ≡ most_frames → ⊥) → (v : Verdict) (m : Ledger) → v ≡ judge_of ed f → m ≡ with_verdict l v
      → ◌≡◌ {A = LedgerAnswer} (record { number = 0; ledger = m }) (count_of l (ed, f))
  count-counted n s v m judged counted =
      ap (λ (k : Ledger). record { number = 0; ledger = k }) (counted ∙ ap (with_verdict l) judged) ∙ sym (answer-counted l (ed, f) (passed n) s)

pub verdict-number : (ed : Edition) (f : List ℕ) (v : Verdict) → v ≡ judge_of ed f → v.number ≤ 9
verdict-number ed f v e = subst (λ (w : Verdict). w.number ≤ 9) (sym e) (number-most (ed, f))

-- ---- the frames of an input

-- what is counted so far, and the frames that are left, in parts of 26 bytes
pub record CountedTo (ed : Edition) (s : List ℕ) (l m : Ledger) (left : List ℕ) (size : ℕ) : Type 0 where
  pub rest : counted_in l (all_frames ed s) ≡ counted_in m (all_frames ed left)
  pub frame-size : size ≡ piece_size Frames

module _ {ed : Edition} {s : List ℕ} {l m : Ledger} {left : List ℕ} {size : ℕ} (c : CountedTo ed s l m left size) where
  pub counted_next : (a : LedgerAnswer) (f t : List ℕ) (same : ℕ) → same ≡ size → NextPart size left f t → a ≡ count_of m (ed, f)
      → CountedTo ed s l a.ledger t same
  unfolding counted_in
  counted_next a f t same e part counted =
      let k = piece_count Frames (length t) in
      let next : NextPart 26 left f t = subst (λ n. NextPart n left f t) c.frame-size part in
      record {
        rest =
            c.rest
            ∙ ap (λ (n : ℕ). counted_in m (frames_in ed n left)) (count_next Frames (length left) (length f) (length t) (part-length next) next.size next.some)
            ∙ ap (counted_in m) (frames-next ed k left)
            ∙ ap₂ (λ (f t : List ℕ). counted_in (count_of m (ed, f)).ledger (frames_in ed k t)) (part-take next) (part-drop next)
            ∙ ap (λ (b : LedgerAnswer). counted_in b.ledger (frames_in ed k t)) (sym counted);
        frame-size = e ∙ c.frame-size;
      }

  pub counted-all : length left ≡ 0 → m ≡ counted_in l (all_frames ed s)
  counted-all h =
      sym
      (c.rest
      ∙ ap (λ (n : ℕ). counted_in m (frames_in ed (piece_count Frames n) left)) h
      ∙ ap (λ (k : ℕ). counted_in m (frames_in ed k left)) (count_none Frames)
      ∙ ap (counted_in m) (frames-none ed left)
      ∙ counted_none m)
