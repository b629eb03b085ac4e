-- Frame n of two captures, read: the cases as the code comes to them. Assumes nothing.
use mathlib.Core.Path.{◌≡◌, refl, sym, ap, ap₂, ◌∙◌}
use mathlib.Core.Bool.{Bool, true, false}
use mathlib.Core.Logic.{◌≢◌}
use mathlib.Core.List.{List, []}
use Prim.Native.Nat.{ℕ, ◌+◌, ◌*◌, ◌≤◌, ◌<◌}
use native.Mathlib.Omega.{arith}
use lib.Dec.{leb}
use lib.ListN.{length, drop, length-take, length-drop}
use borrow.Author.Tests.{le-leb, lt-leb, leb-true, leb-false}
use Rattle.dsc.specs.Marks.{unmarked}
use Rattle.frame.specs.Read.{frame_refusal, read_of, reading_number}
use Rattle.frame.specs.declared.Edition.{Edition}
use Rattle.frame.specs.declared.Tuner.{Tuner}
use Rattle.frame.specs.declared.Tuner.TheVariants.{None, Main, Spare}
use Rattle.frame.specs.declared.Record.{Record}
use Rattle.frame.specs.declared.Reading.{Reading}
use Rattle.frame.specs.declared.Reading.TheVariants as reading
use Rattle.frame.proofs.Readings.{accepted-judged, judged-size}
use Rattle.frame.proofs.Promises.{refused-read, demand2}
use Rattle.capture.specs.Capture.{part_at, number_at, numbers_of, bytes_from}
use Rattle.capture.proofs.Choice.{number-within, number_past, source-main, source-spare, source-none}
use Rattle.capture_reader.specs.CaptureRead.{answered, capture_read_of, reading_at}
use Rattle.capture_reader.specs.declared.CaptureReading.{CaptureReading}
use Rattle.capture_reader.specs.declared.CaptureReading.TheVariants.{Accepted, Refused}

-- 26 bytes of a capture lie in it
lies : (c : List ℕ) (n : ℕ) → length (part_at c n) ≡ 26 → 26 * n + 26 ≤ length c
lies c n e = omega (arith, sym (length-take 26 (drop (26 * n) c)) ∙ e, length-drop (26 * n) c)

module _ (ed : Edition) where
  -- ---- one tuner

  accepted-number : (t : Tuner) (f : List ℕ) (r : Record) (d : ℕ) → read_of ed t f ≡ reading.Accepted r d → frame_refusal ed f ≡ 0
  accepted-number t f r d e = sym ((demand2 ed).number-told unmarked t f) ∙ ap reading_number e

  -- a frame that is read lies in its capture, and is accepted there
  read-within : (t : Tuner) (c : List ℕ) (n : ℕ) (r : Record) (d : ℕ) → read_of ed t (part_at c n) ≡ reading.Accepted r d → 26 * n + 26 ≤ length c
  read-within t c n r d e = lies c n (judged-size ed unmarked (part_at c n) (accepted-judged ed unmarked (part_at c n) (accepted-number t (part_at c n) r d e)))

  pub read-accepted : (t : Tuner) (c : List ℕ) (n : ℕ) (r : Record) (d : ℕ) → read_of ed t (part_at c n) ≡ reading.Accepted r d → number_at ed c n ≡ 0
  read-accepted t c n r d e = number-within ed c n (read-within t c n r d e) ∙ accepted-number t (part_at c n) r d e

  -- as the code reads it
  pub at-within : (t : Tuner) (c : List ℕ) (n : ℕ) → 26 * n + 26 ≤ length c → reading_at ed t c n ≡ read_of ed t (part_at c n)
  unfolding reading_at
  at-within t c n h = rw (le-leb (26 * n + 26) (length c) h)

  pub at-past : (t : Tuner) (c : List ℕ) (n : ℕ) → length c < 26 * n + 26 → reading_at ed t c n ≡ reading.Refused 1
  unfolding reading_at
  at-past t c n h = rw (lt-leb (26 * n + 26) (length c) h)

  -- it has the tuner's number
  at-number : (t : Tuner) (c : List ℕ) (n : ℕ) → reading_number (reading_at ed t c n) ≡ number_at ed c n
  at-number t c n = go (leb (26 * n + 26) (length c)) refl
    where
      go : (b : Bool) → leb (26 * n + 26) (length c) ≡ b → reading_number (reading_at ed t c n) ≡ number_at ed c n
      go true q =
          let h = leb-true (26 * n + 26) (length c) q in
          ap reading_number (at-within t c n h) ∙ (demand2 ed).number-told unmarked t (part_at c n) ∙ sym (number-within ed c n h)
      go false q =
          let h : length c < 26 * n + 26 = leb-false (26 * n + 26) (length c) q in
          ap reading_number (at-past t c n h) ∙ sym (number_past ed c n h)

  pub at-accepted : (t : Tuner) (c : List ℕ) (n : ℕ) (r : Record) (d : ℕ) → reading_at ed t c n ≡ reading.Accepted r d → read_of ed t (part_at c n) ≡ reading.Accepted r d
  at-accepted t c n r d e = go (leb (26 * n + 26) (length c)) refl
    where
      go : (b : Bool) → leb (26 * n + 26) (length c) ≡ b → read_of ed t (part_at c n) ≡ reading.Accepted r d
      go true q = sym (at-within t c n (leb-true (26 * n + 26) (length c) q)) ∙ e
      go false q =
          let z : ◌≡◌ {A = ℕ} 1 0 = ap reading_number (sym (at-past t c n (leb-false (26 * n + 26) (length c) q)) ∙ e) in absurd (omega arith)

  pub at-refused : (t : Tuner) (c : List ℕ) (n m : ℕ) → reading_at ed t c n ≡ reading.Refused m → (number_at ed c n ≡ m) × (m ≢ 0)
  at-refused t c n m e = (sym (at-number t c n) ∙ ap reading_number e, go (leb (26 * n + 26) (length c)) refl)
    where
      go : (b : Bool) → leb (26 * n + 26) (length c) ≡ b → m ≢ 0
      go true q = ((demand2 ed).judged-refused unmarked t (part_at c n) m (sym (at-within t c n (leb-true (26 * n + 26) (length c) q)) ∙ e)).0
      go false q =
          let one : 1 ≡ m = ap reading_number (sym (at-past t c n (leb-false (26 * n + 26) (length c) q)) ∙ e) in λ z. omega (arith, one, z)

  -- ---- both

  module _ (main spare : List ℕ) (n : ℕ) where
    told-from : (t : Tuner) → CaptureReading
    told-from t = answered (read_of ed t (bytes_from t main spare n)) (numbers_of ed main spare n)

    pub main-first : (r : Record) (d : ℕ) → read_of ed Main (part_at main n) ≡ reading.Accepted r d → capture_read_of ed main spare n ≡ Accepted r d
    unfolding capture_read_of told-from
    main-first r d e =
        ap told-from (source-main ed main spare n (read-accepted Main main n r d e)) ∙ ap (λ (a : Reading). answered a (numbers_of ed main spare n)) e

    pub spare-otherwise : (r : Record) (d : ℕ) → number_at ed main n ≢ 0 → read_of ed Spare (part_at spare n) ≡ reading.Accepted r d
        → capture_read_of ed main spare n ≡ Accepted r d
    unfolding capture_read_of told-from
    spare-otherwise r d m e =
        ap told-from (source-spare ed main spare n m (read-accepted Spare spare n r d e)) ∙ ap (λ (a : Reading). answered a (numbers_of ed main spare n)) e

    -- an empty part is refused
    empty-refused : frame_refusal ed [] ≢ 0
    empty-refused z = let h : ◌≡◌ {A = ℕ} 0 26 = judged-size ed unmarked [] (accepted-judged ed unmarked [] z) in omega (arith, h)

    pub neither : number_at ed main n ≢ 0 → number_at ed spare n ≢ 0 → capture_read_of ed main spare n ≡ Refused (number_at ed main n) (number_at ed spare n)
    unfolding capture_read_of told-from
    neither m s =
        ap told-from (source-none ed main spare n m s) ∙ ap (λ (a : Reading). answered a (numbers_of ed main spare n)) (refused-read ed unmarked None [] empty-refused)

    -- as the code comes to them: a is main's reading, b spare's
    pub read-main : (a : Reading) (r : Record) (d : ℕ) → a ≡ reading_at ed Main main n → a ≡ reading.Accepted r d → Accepted r d ≡ capture_read_of ed main spare n
    read-main a r d p q = sym (main-first r d (at-accepted Main main n r d (sym p ∙ q)))

    pub read-spare : (a b : Reading) (m : ℕ) (r : Record) (d : ℕ) → a ≡ reading_at ed Main main n → a ≡ reading.Refused m → b ≡ reading_at ed Spare spare n
        → b ≡ reading.Accepted r d → Accepted r d ≡ capture_read_of ed main spare n
    read-spare a b m r d p q x y =
        let z = at-refused Main main n m (sym p ∙ q) in
        sym (spare-otherwise r d (λ e. z.1 (sym z.0 ∙ e)) (at-accepted Spare spare n r d (sym x ∙ y)))

    pub read-neither : (a b : Reading) (m s : ℕ) → a ≡ reading_at ed Main main n → a ≡ reading.Refused m → b ≡ reading_at ed Spare spare n → b ≡ reading.Refused s
        → Refused m s ≡ capture_read_of ed main spare n
    read-neither a b m s p q x y =
        let z = at-refused Main main n m (sym p ∙ q) in
        let w = at-refused Spare spare n s (sym x ∙ y) in
        ap₂ Refused (sym z.0) (sym w.0) ∙ sym (neither (λ e. z.1 (sym z.0 ∙ e)) (λ e. w.1 (sym w.0 ∙ e)))
