-- The day's ledger (document 02, l): what a list of frames says, which ledgers there are, and counting a frame. Assumes nothing.
use Rattle.std.specs.Prelude.{◌≡◌, Bool, cond, not, ◌&&◌, List, [], ◌∷◌, map, ℕ, ◌+◌, ◌-◌, ◌*◌, ◌≤◌, eqb, leb, length, replicate, get_or, set}
use Rattle.bits.specs.Bits.{Bytes}
use Rattle.bits.specs.Layout.{sum}
use Rattle.bits.specs.Refusal.{first_refusal}
use Rattle.dsc.specs.Code.{count}
use Rattle.frame.specs.Read.{judge_of}
use Rattle.frame.specs.declared.Edition.{Edition}
use Rattle.frame.specs.declared.Verdict.{Verdict}
use Rattle.ledger.specs.declared.Ledger.{Ledger}
use Rattle.ledger.specs.declared.LedgerAnswer.{LedgerAnswer}

-- ---- what a list of frames says

-- a frame, with the edition by which it is judged
abbrev pub Frame : Type 0
Frame = Edition × List ℕ

abbrev pub verdict_on : Frame → Verdict
verdict_on (ed, f) = judge_of ed f

-- how many frames of the list have this number: a refusal's, or 0 of those that are accepted
unfoldable pub frames_with : ℕ → List Frame → ℕ
frames_with n fs = count (λ f. eqb (verdict_on f).number n) fs

-- an accepted frame's repaired places; a refused one has none
abbrev pub places_counted : Verdict → ℕ
places_counted v = cond (eqb v.number 0) v.repaired 0

-- "the repaired total being the sum of each accepted frame's repaired places"
unfoldable pub places_repaired : List Frame → ℕ
places_repaired fs = sum (map (λ f. places_counted (verdict_on f)) fs)

-- the refusals of a frame
abbrev pub refusals : List ℕ
refusals = 1 ∷ 2 ∷ 3 ∷ 4 ∷ 5 ∷ 6 ∷ 7 ∷ 8 ∷ 9 ∷ []

-- "each number must equal what the list of frames itself says by the rules"
unfoldable pub ledger_of : List Frame → Ledger
ledger_of fs =
    record {
      seen = length fs;
      refused = map (λ n. frames_with n fs) refusals;
      accepted = frames_with 0 fs;
      repaired = places_repaired fs;
    }

-- "at most 4,000,000 frames"
abbrev pub most_frames : ℕ
most_frames = 4000000

-- ---- which ledgers there are

-- something holds of each frame of a list
abbrev pub Each : (Frame → Type 0) → List Frame → Type 0
Each P [] = Unit {0}
Each P (f ∷ fs) = P f × Each P fs

-- a list of at most 4,000,000 frames, which are bytes, that gives the ledger
pub record Possible (l : Ledger) : Type 0 where
  pub frames : List Frame
  pub all-bytes : Each (λ f. Bytes f.1) frames
  pub few : length frames ≤ most_frames
  pub gives : ledger_of frames ≡ l

-- by numbers alone: every frame that was seen is refused or accepted, and at most eight places of an accepted one are repaired
unfoldable pub possible : Ledger → Bool
possible l =
    eqb l.seen (sum l.refused + l.accepted) && (leb l.seen most_frames && leb l.repaired (8 * l.accepted))

-- ---- counting a frame

-- before the first frame
abbrev pub fresh : Ledger
fresh = record { seen = 0; refused = replicate 9 0; accepted = 0; repaired = 0 }

-- one more at an index
abbrev pub one_more_at : ℕ → List ℕ → List ℕ
one_more_at i ns = set ns i (get_or ns i 0 + 1)

-- the ledger with a frame more that was judged so
unfoldable pub with_verdict : Ledger → Verdict → Ledger
with_verdict l v =
    record {
      seen = l.seen + 1;
      refused = cond (eqb v.number 0) l.refused (one_more_at (v.number - 1) l.refused);
      accepted = cond (eqb v.number 0) (l.accepted + 1) l.accepted;
      repaired = l.repaired + places_counted v;
    }

-- "an impossible ledger handed in is 18 too, before 19"; "at 4,000,000 frames the next is refused with 19"
abbrev pub count_tests : Ledger → List (ℕ × Bool)
count_tests l = (18, not (possible l)) ∷ (19, eqb l.seen most_frames) ∷ []

unfoldable pub count_refusal : Ledger → ℕ
count_refusal l = first_refusal (count_tests l)

-- what counting a frame answers: at a refusal the ledger stays as it is
unfoldable pub count_of : Ledger → Frame → LedgerAnswer
count_of l f = record { number = count_refusal l; ledger = cond (eqb (count_refusal l) 0) (with_verdict l (verdict_on f)) l }

-- the ledger after frames that are counted one by one
unfoldable pub counted_in : Ledger → List Frame → Ledger
counted_in l [] = l
counted_in l (f ∷ fs) = counted_in (count_of l f).ledger fs
