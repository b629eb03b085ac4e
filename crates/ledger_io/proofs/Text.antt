-- The report is that of all that the reader gives. Assumes nothing.
use Rattle.std.proofs.Common.{◌≡◌, ◌≢◌, refl, sym, ap, ◌∙◌, subst, ℕ, zero, suc, ◌≤◌, List, Option, None, Some, IfSome, Result, Ok, Err, OnOk, arith, take, drop, eq-eqb, ne_eqb}
use Rattle.std.specs.Io.KnownBytes.{Appends}
use Rattle.frame.specs.declared.Edition.{Edition}
use Rattle.ledger.specs.Report.{length_of}
use Rattle.ledger_input.specs.Input.{turns_at_most, start, program_turn, input_ledger, input_report, program_text, with_report}
use Rattle.ledger_input.specs.declared.LedgerTurn.{LedgerTurn}
use Rattle.ledger_input.proofs.Promises.{ledger-turns}
use Rattle.ledger_io.specs.Reading.{Follows, Reports}

abbrev last : Edition → List ℕ → LedgerTurn
last ed s = record { ledger = input_ledger ed s; wanted = 0 }

-- after some turns, of an input s₀: what is left of it, and that the turns to come end with the ledger of it all
pub record SoFar (ed : Edition) (s₀ : List ℕ) (left : Option (List ℕ)) (t : LedgerTurn) : Type 0 where
  pub rest : List ℕ
  pub known : left ≡ Some rest
  pub whole : (k : ℕ) → turns_at_most ≤ k → program_turn ed k t rest ≡ last ed s₀

module _ (ed : Edition) where
  -- before the first turn
  pub begins : (from : Option (List ℕ)) → IfSome from (λ s. SoFar ed s from start)
  begins None = tt
  begins (Some s) = record { rest = s; known = refl; whole = λ k h. (ledger-turns ed).whole k s h }

  unrolled : (k : ℕ) (t u : LedgerTurn) (s : List ℕ) (new : Option (List ℕ)) → t.wanted ≢ 0 → Follows ed t (Some s) new u
      → program_turn ed k u (drop t.wanted s) ≡ program_turn ed (suc k) t s
  unfolding program_turn
  unrolled k t u s new some f = rw (f.0, ne_eqb t.wanted 0 some)

  one : (s₀ : List ℕ) (left left' : Option (List ℕ)) (t u : LedgerTurn) → SoFar ed s₀ left t → t.wanted ≢ 0 → Follows ed t left left' u → SoFar ed s₀ left' u
  one s₀ left left' t u m some f =
      let f' = subst (λ x. Follows ed t x left' u) m.known f in
      record { rest = drop t.wanted m.rest; known = f'.1; whole = λ k h. unrolled k t u m.rest left' some f' ∙ m.whole (suc k) (omega arith) }

  -- after a turn
  pub goes-on : (from left left' : Option (List ℕ)) (t u : LedgerTurn) → IfSome from (λ s. SoFar ed s left t) → t.wanted ≢ 0 → Follows ed t left left' u
      → IfSome from (λ s. SoFar ed s left' u)
  goes-on None left left' t u m some f = tt
  goes-on (Some s) left left' t u m some f = one s left left' t u m some f

  over : (k : ℕ) (t : LedgerTurn) (s : List ℕ) → t.wanted ≡ 0 → program_turn ed k t s ≡ t
  unfolding program_turn
  over zero t s z = refl
  over (suc k) t s z = rw (eq-eqb t.wanted 0 z)

  -- the report of the whole input's ledger is what a program writes, by way of any buffer
  text : (s out : List ℕ) → take (length_of (input_ledger ed s)) (with_report (input_ledger ed s) out) ≡ input_report ed s
  unfolding program_text
  text s out =
      let promised = ledger-turns ed in
      let e = promised.whole turns_at_most s (omega arith) in
      ap (λ (t : LedgerTurn). take (length_of t.ledger) (with_report t.ledger out)) (sym e) ∙ promised.written turns_at_most s out (omega arith)

  reported : (from left to₀ to : Option (List ℕ)) (t : LedgerTurn) → IfSome from (λ s. SoFar ed s left t) → t.wanted ≡ 0 → Reports t.ledger to₀ to
      → IfSome from (λ s. Appends to₀ to (input_report ed s))
  reported None left to₀ to t m z w = tt
  reported (Some s) left to₀ to t m z w =
      let e : t ≡ last ed s = sym (over turns_at_most t m.rest z) ∙ m.whole turns_at_most (omega arith) in
      let l : t.ledger ≡ input_ledger ed s = ap (λ (u : LedgerTurn). u.ledger) e in
      let same = ap (λ k. take (length_of k) (with_report k w.0)) l ∙ text s w.0 in
      subst (Appends to₀ to) same w.1

  -- after the last, where the report could be written
  pub ends : {T E : Type 0} (r : Result T E) (from left to₀ to : Option (List ℕ)) (t : LedgerTurn) → IfSome from (λ s. SoFar ed s left t) → t.wanted ≡ 0
      → OnOk r (Reports t.ledger to₀ to) → OnOk r (IfSome from (λ s. Appends to₀ to (input_report ed s)))
  ends (Ok x) from left to₀ to t m z w = reported from left to₀ to t m z w
  ends (Err e) from left to₀ to t m z w = tt
