-- Frames counted one by one. Assumes nothing.
use mathlib.Core.Path.{◌≡◌, refl, sym, ap, ◌∙◌}
use mathlib.Core.Bool.{true, false, cond, not}
use mathlib.Core.List.{List, [], ◌∷◌, ◌++◌, append_assoc, append-nil}
use Prim.Native.Nat.{ℕ, ◌+◌, ◌≤◌, ◌<◌}
use native.Mathlib.Omega.{arith}
use lib.Dec.{eqb}
use lib.ListN.{length, length-append}
use borrow.Author.Tests.{eq-eqb, ne_eqb}
use Rattle.bits.specs.Refusal.{test_numbers}
use Rattle.bits.proofs.Refusal.{refusal-here, refusal-later, none-refusal}
use Rattle.ledger.specs.Counting.{Frame, verdict_on, ledger_of, most_frames, possible, fresh, with_verdict, count_tests, count_refusal, count_of, counted_in}
use Rattle.ledger.specs.declared.Ledger.{Ledger}
use Rattle.ledger.specs.declared.LedgerAnswer.{LedgerAnswer}
use Rattle.ledger.proofs.Lists.{list-possible, list-seen, list-none, list-next}

-- ---- the refusals of counting

-- their order; it stands before the laws that go through them, so that another order is refused here
pub count-order : (l : Ledger) → test_numbers (count_tests l) ≡ 18 ∷ 19 ∷ []
count-order l = refl

module _ (l : Ledger) where
  pub refusal-impossible : possible l ≡ false → count_refusal l ≡ 18
  unfolding count_refusal
  refusal-impossible e = refusal-here 18 _ (ap not e)

  pub refusal-full : possible l ≡ true → l.seen ≡ most_frames → count_refusal l ≡ 19
  unfolding count_refusal
  refusal-full e s = refusal-later 18 _ (ap not e) ∙ refusal-here 19 [] (eq-eqb l.seen most_frames s)

  pub refusal-none : possible l ≡ true → (l.seen ≡ most_frames → ⊥) → count_refusal l ≡ 0
  unfolding count_refusal
  refusal-none e s = none-refusal (count_tests l) (ap not e, (ne_eqb l.seen most_frames s, tt))

-- ---- what counting answers

module _ (l : Ledger) (f : Frame) where
  answer : (n : ℕ) → count_refusal l ≡ n → count_of l f ≡ record { number = n; ledger = cond (eqb n 0) (with_verdict l (verdict_on f)) l }
  unfolding count_of
  answer n e = ap (λ (m : ℕ). record { number = m; ledger = cond (eqb m 0) (with_verdict l (verdict_on f)) l }) e

  pub answer-impossible : possible l ≡ false → count_of l f ≡ record { number = 18; ledger = l }
  answer-impossible e = answer 18 (refusal-impossible l e)

  pub answer-full : possible l ≡ true → l.seen ≡ most_frames → count_of l f ≡ record { number = 19; ledger = l }
  answer-full e s = answer 19 (refusal-full l e s)

  pub answer-counted : possible l ≡ true → (l.seen ≡ most_frames → ⊥) → count_of l f ≡ record { number = 0; ledger = with_verdict l (verdict_on f) }
  answer-counted e s = answer 0 (refusal-none l e s)

-- ---- from a list's ledger on

module _ (fs : List Frame) (f : Frame) where
  pub list_counted : length fs < most_frames → count_of (ledger_of fs) f ≡ record { number = 0; ledger = ledger_of (fs ++ f ∷ []) }
  list_counted h =
      let s = list-seen fs in
      answer-counted (ledger_of fs) f (list-possible fs (omega arith)) (λ e. omega arith)
      ∙ ap (λ (l : Ledger). record { number = 0; ledger = l }) (list-next fs f)

  pub list_full : length fs ≡ most_frames → count_of (ledger_of fs) f ≡ record { number = 19; ledger = ledger_of fs }
  list_full h = answer-full (ledger_of fs) f (list-possible fs (omega arith)) (list-seen fs ∙ h)

ledger-of : LedgerAnswer → Ledger
ledger-of a = a.ledger

counted_next : (l m : Ledger) (n : ℕ) (f : Frame) (gs : List Frame) → count_of l f ≡ record { number = n; ledger = m } → counted_in l (f ∷ gs) ≡ counted_in m gs
unfolding counted_in ledger-of
counted_next l m n f gs e = ap (λ (k : Ledger). counted_in k gs) (ap ledger-of e)

pub counted_none : (l : Ledger) → counted_in l [] ≡ l
unfolding counted_in
counted_none l = refl

pub counted-append : (l : Ledger) (fs gs : List Frame) → counted_in l (fs ++ gs) ≡ counted_in (counted_in l fs) gs
unfolding counted_in
counted-append l [] gs = refl
counted-append l (f ∷ fs) gs = counted-append (count_of l f).ledger fs gs

pub list-more : (fs gs : List Frame) → length fs + length gs ≤ most_frames → counted_in (ledger_of fs) gs ≡ ledger_of (fs ++ gs)
list-more fs [] h = counted_none (ledger_of fs) ∙ ap ledger_of (sym (append-nil fs))
list-more fs (f ∷ gs) h =
    counted_next (ledger_of fs) (ledger_of (fs ++ f ∷ [])) 0 f gs (list_counted fs f (omega arith))
    ∙ list-more (fs ++ f ∷ []) gs (omega (arith, length-append fs (f ∷ [])))
    ∙ ap ledger_of (append_assoc fs (f ∷ []) gs)

pub list-stays : (fs gs : List Frame) → length fs ≡ most_frames → counted_in (ledger_of fs) gs ≡ ledger_of fs
list-stays fs [] h = counted_none (ledger_of fs)
list-stays fs (f ∷ gs) h = counted_next (ledger_of fs) (ledger_of fs) 19 f gs (list_full fs f h) ∙ list-stays fs gs h

pub fresh-counted : (fs : List Frame) → length fs ≤ most_frames → counted_in fresh fs ≡ ledger_of fs
fresh-counted fs h = ap (λ (l : Ledger). counted_in l fs) (sym list-none) ∙ list-more [] fs (omega arith)
