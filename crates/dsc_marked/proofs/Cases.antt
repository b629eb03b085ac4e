-- The ways out of the functions: a filling tried, both tried, and the answer to a frame's bytes. Assumes nothing.
use mathlib.Core.Path.{◌≡◌, refl, sym, ap, ap₂, ◌∙◌, subst}
use mathlib.Core.Bool.{Bool, true, false}
use mathlib.Core.List.{List}
use mathlib.Core.Logic.{◌≢◌, inl, inr}
use Prim.Native.Nat.{ℕ, ◌<◌, ◌≤◌}
use lib.Bits.{bit_or}
use lib.ListN.{length, replicate}
use Rattle.std.specs.Prelude.{Option, Some, None, MatchOption}
use Rattle.dsc.specs.Code.{weight}
use Rattle.dsc.specs.Repair.{protected, repaired_to, refused_with, left_in}
use Rattle.dsc.specs.Marks.{filled, decode_marked, marked_answer, marked_repair_of, marked}
use Rattle.dsc.specs.declared.Answer.{Answer}
use Rattle.dsc.specs.declared.Outcome.{Outcome}
use Rattle.dsc.proofs.MarkedAnswers.{sized-whole, marked-decoded, each-answer}
use Rattle.dsc.proofs.DoubtfulMarks.{doubtful-marks}
use Rattle.dsc_words.specs.Words.{held}
use Rattle.dsc_words.proofs.Words.{length-held}
use Rattle.dsc_words.specs.declared.Word.{Word}
use Rattle.dsc_sums.specs.Sums.{Sums}
use Rattle.dsc_codec.proofs.Verdict.{even-tested}
use Rattle.dsc_codec.specs.Engine.{Finds}
use Rattle.dsc_codec.specs.declared.Nearest.{Nearest}
use Rattle.dsc_marked.specs.Fillings.{Tested, NoneNear, Tried, MarkedFinds}
use Rattle.dsc_marked.proofs.BothFillings.{too_many, clean, far_none, found_word, passed, no-marks, neither, none-near}

module _ (ms r : List Bool) (lm : length ms ≡ 187) (lr : length r ≡ 187) where
  -- ---- a filling u: x is what the plain repair finds, y what comes of the test

  module _ (u : List Bool) (lu : length u ≡ 187) where
    pub filling-near : (x : Nearest) → Finds u (Some x) → (y : Option Nearest) → Tested ms r x.word y → Tried ms r u y
    filling-near x q (Some y) t =
        ap (λ v. repaired_to (held v) y.places) t.0 ∙ passed ms r lm lr (held x.word) (found_word u lu (held x.word) (length-held x.word) q) t.1
    filling-near x q None t = none-near ms r u lu (held x.word) (length-held x.word) q t

    pub filling-far : Finds u None → NoneNear ms r u
    filling-far q = record { each = λ c k few d. far_none u lu q c k d }

  -- ---- the two fillings u and v: x is what is found from the first, and y the answer, which is what is found from the second where x is none

  second-found : {u v : List Bool} → u ≡ filled false ms r → v ≡ filled true ms r → NoneNear ms r u → (y : Option Nearest) → Tried ms r v y → MarkedFinds ms r y
  second-found eu ev none (Some y) t = t
  second-found {u} {v} eu ev none None t = neither ms r lm lr u v eu ev none t

  pub either-found : {u v : List Bool} {P : Type 0} → u ≡ filled false ms r → v ≡ filled true ms r → (x y : Option Nearest) → Tried ms r u x → (P → Tried ms r v y)
      → MatchOption x P (λ z. y ≡ Some z) → MarkedFinds ms r y
  either-found eu ev (Some x) y t second e = subst (MarkedFinds ms r) (sym e) t
  either-found eu ev None y t second p = second-found eu ev t y (second p)

-- ---- found without the fillings

module _ (marks received : Word) where
  abbrev ms : List Bool
  ms = held marks

  abbrev r : List Bool
  r = held received

  pub no_marks : weight ms ≡ 0 → (x : Option Nearest) → Finds r x → MarkedFinds ms r x
  no_marks e (Some x) f = f ∙ no-marks ms r (length-held marks) (length-held received) e
  no_marks e None f = f ∙ no-marks ms r (length-held marks) (length-held received) e

  pub more_than_17_marks : 17 < weight ms → MarkedFinds ms r None
  more_than_17_marks h = too_many ms r (length-held marks) (length-held received) h

  pub code_word : {x y : ℕ} → Sums r 128 64 x → Sums r 192 64 y → bit_or x y ≡ 0 → weight ms ≤ 17 → MarkedFinds ms r (Some (record { word = received; places = 0 }))
  code_word sx sy e h = clean ms r (length-held marks) (length-held received) (even-tested r (length-held received) sx sy e) h

-- ---- the answer to the frame f with the marks m

module _ (f m : List ℕ) where
  pub short_frame : length f ≢ 26 → marked_repair_of f m ≡ refused_with 1
  short_frame h = doubtful-marks.short f m (inl h)

  pub short_marks : length m ≢ 26 → marked_repair_of f m ≡ refused_with 1
  short_marks h = doubtful-marks.short f m (inr h)

  answered : {r ms : List Bool} {a : Answer} → length f ≡ 26 → length m ≡ 26 → r ≡ protected f → ms ≡ protected m
      → a ≡ marked_answer ms r (decode_marked ms r) → marked_repair_of f m ≡ a
  answered lf lm er em q =
      marked-decoded f m (sized-whole (marked m) f lf lm) (decode_marked (protected m) (protected f)) refl
      ∙ sym (q ∙ ap₂ (λ ms r. marked_answer ms r (decode_marked ms r)) em er)

  module _ (received marks : Word) (lf : length f ≡ 26) (lm : length m ≡ 26) (er : held received ≡ protected f) (em : held marks ≡ protected m) where
    pub word_found : (x : Nearest) → MarkedFinds (held marks) (held received) (Some x) → marked_repair_of f m ≡ repaired_to (held x.word) x.places
    word_found x q = answered lf lm er em q

    pub no_word_found : MarkedFinds (held marks) (held received) None → marked_repair_of f m ≡ refused_with 4
    no_word_found q = answered lf lm er em q

  -- a refusal has no word: the answer is its outcome and what it leaves of 26 clear bytes b
  pub whole-answer : {o : Outcome} {b w : List ℕ} → o ≡ (marked_repair_of f m).outcome → w ≡ left_in (marked_repair_of f m) b → b ≡ replicate 26 0
      → ◌≡◌ {A = Answer} (record { outcome = o; word = w }) (marked_repair_of f m)
  whole-answer eo ew eb =
      ap₂ (λ o w. record { outcome = o; word = w }) eo (ew ∙ ap (left_in (marked_repair_of f m)) eb)
      ∙ each-answer (marked m) f (λ (a : Answer). ◌≡◌ {A = Answer} (record { outcome = a.outcome; word = left_in a (replicate 26 0) }) a) (λ c n. refl) refl refl

-- ---- what the functions' goals ask

pub ruleset unfilled = (no_marks, more_than_17_marks, code_word)

pub ruleset answers = (short_frame, short_marks, word_found, no_word_found)
