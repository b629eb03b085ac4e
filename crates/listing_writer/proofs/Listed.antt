-- Pieces listed one after the other. Assumes nothing.
use mathlib.Core.Path.{◌≡◌, refl, sym, ap, subst, ◌∙◌}
use mathlib.Core.List.{List, [], ◌++◌, append_assoc, append-nil}
use Prim.Native.Nat.{ℕ, suc, ◌+◌, ◌*◌, ◌<◌, ◌≤◌}
use native.Mathlib.Omega.{arith}
use lib.ListN.{length}
use lib.Seq.{length-sets}
use Rattle.frame.specs.declared.Edition.{Edition}
use Rattle.frame.specs.declared.Verdict.{Verdict}
use Rattle.decimals.specs.Put.{Put}
use Rattle.listing.specs.Lines.{piece_size, verdict_of, line_of, piece_count, lines}
use Rattle.listing.specs.declared.Pieces.{Pieces}
use Rattle.listing.proofs.Counts.{size-least, count_none, count-some, count_next}
use Rattle.listing.proofs.Cuts.{NextPart, part-take, part-drop, part-length}
use Rattle.listing.proofs.NextLine.{lines_none, lines_next}
use Rattle.decimals.proofs.Stores.{put_then}

-- some pieces of s are listed, numbered from the first on, at the start of a buffer that has 32 bytes for each of those left, which come in parts of a size
pub record Listed (ed : Edition) (p : Pieces) (s : List ℕ) (first : ℕ) (out₀ out : List ℕ) (number at : ℕ) (left : List ℕ) (size : ℕ) : Type 0 where
  pub done : List ℕ
  pub text : lines ed p (piece_count p (length s)) first s ≡ done ++ lines ed p (piece_count p (length left)) number left
  pub stored : Put out₀ 0 done out at
  pub room : at + 32 * piece_count p (length left) ≤ length out₀
  pub small : number + length left ≤ first + length s
  pub whole : size ≡ piece_size p

pub listed-none : (ed : Edition) (p : Pieces) (s : List ℕ) (first : ℕ) (out left : List ℕ) (size : ℕ) → 32 * piece_count p (length s) ≤ length out
    → left ≡ s → size ≡ piece_size p → Listed ed p s first out out first 0 left size
listed-none ed p s first out left size h e f =
    rw e
    (record { done = []; text = refl; stored = record { place = refl; text = refl }; room = omega arith; small = omega arith; whole = f })

module _ {ed : Edition} {p : Pieces} {s : List ℕ} {first : ℕ} {out₀ out : List ℕ} {number at : ℕ} {left : List ℕ} {size : ℕ}
    (w : Listed ed p s first out₀ out number at left size) where
  pub listed-length : length out ≡ length out₀
  listed-length = ap length w.stored.text ∙ length-sets out₀ 0 w.done

  pub listed-room : 0 < length left → at + 32 ≤ length out
  listed-room h = omega (arith, w.room, listed-length, count-some p (length left) h)

  pub listed_next : (x t : List ℕ) (same : ℕ) (v : Verdict) (m : List ℕ) (j : ℕ) → same ≡ size → NextPart size left x t
      → v ≡ verdict_of ed p x → length (line_of number v) ≤ 32 → Put out at (line_of number v) m j
      → Listed ed p s first out₀ m (number + 1) j t same
  listed_next x t same v m j e part judged short put =
      let line = line_of number v in
      let k = piece_count p (length t) in
      let next : NextPart (piece_size p) left x t = subst (λ n. NextPart n left x t) w.whole part in
      let count : piece_count p (length left) ≡ suc k = count_next p (length left) (length x) (length t) (part-length next) next.size next.some in
      let rest : lines ed p (piece_count p (length left)) number left ≡ line ++ lines ed p k (number + 1) t =
      ap (λ (n : ℕ). lines ed p n number left) count
      ∙ lines_next ed p k number left
      ∙ rw (part-take next, part-drop next, judged) in
      record {
        done = w.done ++ line;
        text = w.text ∙ ap (w.done ++◌) rest ∙ sym (append_assoc w.done line _);
        stored = put_then w.done line w.stored put;
        room = omega (arith, w.room, put.place, count);
        small = omega (arith, w.small, part-length next, next.size, next.some, size-least p);
        whole = e ∙ w.whole;
      }

  pub listed-all : length left ≡ 0
      → Put out₀ 0 (lines ed p (piece_count p (length s)) first s) out at × (length (lines ed p (piece_count p (length s)) first s) ≤ length out₀)
  listed-all none =
      let z : piece_count p (length left) ≡ 0 = rw none (count_none p) in
      let e : lines ed p (piece_count p (length s)) first s ≡ w.done =
      w.text ∙ ap (λ (x : ℕ). w.done ++ lines ed p x number left) z ∙ ap (w.done ++◌) (lines_none ed p number left) ∙ append-nil w.done in
      rw e (w.stored, omega (arith, w.room, w.stored.place))
