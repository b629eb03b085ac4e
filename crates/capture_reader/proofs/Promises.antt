-- The promises hold. Assumes nothing.
use mathlib.Core.Path.{◌≡◌, refl, sym, ap, ap₂, ◌∙◌, subst}
use mathlib.Core.Logic.{◌≢◌}
use mathlib.Core.List.{List, []}
use Prim.Native.Nat.{ℕ}
use native.Mathlib.Omega.{arith}
use lib.Seq.{take_all}
use Rattle.frame.specs.Fields.{with_origin}
use Rattle.dsc.specs.Marks.{unmarked}
use Rattle.frame.specs.Read.{read_of, reading_fields}
use Rattle.frame.specs.Write.{Legal, frame_of}
use Rattle.frame.specs.declared.Edition.{Edition}
use Rattle.frame.specs.declared.Tuner.{Tuner}
use Rattle.frame.specs.declared.Tuner.TheVariants.{None, Main, Spare}
use Rattle.frame.specs.declared.Origin.{Origin}
use Rattle.frame.specs.declared.Record.{Record}
use Rattle.frame.specs.declared.Reading.{Reading}
use Rattle.frame.specs.declared.Reading.TheVariants as reading
use Rattle.frame.proofs.Frames.{length-frame}
use Rattle.frame.proofs.Promises.{demand2, origins, same-records}
use Rattle.capture.specs.Capture.{part_at, number_at, numbers_of, source_of, frame_at}
use Rattle.capture.specs.declared.TunerNumbers.{TunerNumbers}
use Rattle.capture.proofs.Choice.{number_past, source-main, source-spare, Choice, by-main, by-spare, by-none, choice}
use Rattle.capture_reader.specs.CaptureRead.{answered, capture_read_of, capture_refusals, capture_fields, reading_at}
use Rattle.capture_reader.specs.Promises.{CaptureReads}
use Rattle.capture_reader.specs.declared.CaptureReading.TheVariants.{Accepted, Refused}
use Rattle.capture_reader.proofs.CaptureReads.{at-accepted, at-refused, main-first, spare-otherwise, neither}

-- what is answered with a record was read
read-answered : (a : Reading) (main spare : ℕ) (r : Record) (d : ℕ) → answered a (record { main = main; spare = spare }) ≡ Accepted r d → a ≡ reading.Accepted r d
read-answered (reading.Accepted s b) main spare r d e = let x : s ≡ r = cc in let y : b ≡ d = cc in rw (x, y)
read-answered (reading.Refused m) main spare r d e = let z : ◌≡◌ {A = ℕ} 0 1 = cc in absurd (omega arith)

answered-fields : (a : Reading) (numbers : TunerNumbers) → capture_fields (answered a numbers) ≡ reading_fields a
answered-fields (reading.Accepted r d) numbers = refl
answered-fields (reading.Refused m) numbers = refl

-- a number that is no 0
given : {m n : ℕ} → m ≡ n → n ≢ 0 → m ≢ 0
given e h z = h (sym e ∙ z)

main-is-not-none : Main ≢ None
main-is-not-none e = let z : ◌≡◌ {A = ℕ} 0 1 = cc in omega arith

spare-is-not-none : Spare ≢ None
spare-is-not-none e = let z : ◌≡◌ {A = ℕ} 0 1 = cc in omega arith

module _ (ed : Edition) where
  module _ (main spare : List ℕ) (n : ℕ) where
    -- told from the tuner's own bytes
    record From (r : Record) (d : ℕ) : Type 0 where
      tuner : r.origin.tuner ≡ source_of ed main spare n
      read : read_of ed r.origin.tuner (frame_at ed main spare n) ≡ reading.Accepted r d

    from : (r : Record) (d : ℕ) → capture_read_of ed main spare n ≡ Accepted r d → From r d
    unfolding capture_read_of
    from r d e =
        let t = source_of ed main spare n in
        let f = frame_at ed main spare n in
        let read = read-answered (read_of ed t f) (number_at ed main n) (number_at ed spare n) r d e in
        let tuner = (origins ed).tuner-told unmarked t f r d read in
        record { tuner = tuner; read = subst (λ (u : Tuner). read_of ed u f ≡ reading.Accepted r d) (sym tuner) read }

    some-tuner : (r : Record) (d : ℕ) → capture_read_of ed main spare n ≡ Accepted r d → source_of ed main spare n ≢ None
    some-tuner r d e = go (choice ed main spare n)
      where
        go : Choice ed main spare n → source_of ed main spare n ≢ None
        go (by-main m) z = main-is-not-none (sym (source-main ed main spare n m) ∙ z)
        go (by-spare m s) z = spare-is-not-none (sym (source-spare ed main spare n m s) ∙ z)
        go (by-none m s) z =
            let both = sym (neither ed main spare n m s) ∙ e in
            let y : ◌≡◌ {A = ℕ} 0 1 = cc in omega arith

    accepted-only : (r : Record) (d : ℕ) → capture_read_of ed main spare n ≡ Accepted r d
        → (r.origin.tuner ≡ source_of ed main spare n) × ((r.origin.tuner ≢ None) × (read_of ed r.origin.tuner (frame_at ed main spare n) ≡ reading.Accepted r d))
    accepted-only r d e = let k = from r d e in (k.tuner, (λ z. some-tuner r d e (sym k.tuner ∙ z), k.read))

    fields_told : capture_fields (capture_read_of ed main spare n) ≡ reading_fields (read_of ed (source_of ed main spare n) (frame_at ed main spare n))
    unfolding capture_read_of
    fields_told = answered-fields (read_of ed (source_of ed main spare n) (frame_at ed main spare n)) (numbers_of ed main spare n)

    refused-only : capture_refusals (capture_read_of ed main spare n) ≢ [] → (number_at ed main n ≢ 0) × (number_at ed spare n ≢ 0)
    refused-only h = go (reading_at ed Main main n) (reading_at ed Spare spare n) refl refl
      where
        go : (a b : Reading) → reading_at ed Main main n ≡ a → reading_at ed Spare spare n ≡ b → (number_at ed main n ≢ 0) × (number_at ed spare n ≢ 0)
        go (reading.Accepted r d) b p q = absurd (h (ap capture_refusals (main-first ed main spare n r d (at-accepted ed Main main n r d p))))
        go (reading.Refused m) (reading.Accepted r d) p q =
            let z = at-refused ed Main main n m p in
            absurd (h (ap capture_refusals (spare-otherwise ed main spare n r d (given z.0 z.1) (at-accepted ed Spare spare n r d q))))
        go (reading.Refused m) (reading.Refused s) p q =
            let z = at-refused ed Main main n m p in
            let w = at-refused ed Spare spare n s q in
            (given z.0 z.1, given w.0 w.1)

  -- ---- there are such captures

  own-part : (r : Record) → frame_of ed r ≡ part_at (frame_of ed r) 0
  own-part r = sym (take_all 26 (frame_of ed r) (omega (arith, length-frame ed r)))

  -- what comes back is the record from that tuner
  read-own : (t : Tuner) (r : Record) → Legal ed r
      → read_of ed t (part_at (frame_of ed r) 0) ≡ reading.Accepted (with_origin (record { tuner = t; repaired = 0 }) r) 0
  read-own t r l =
      let o : Origin = record { tuner = t; repaired = 0 } in
      let b = (demand2 ed).comes_back t r l in
      let k = same-records.same_some o r in
      let own : b.back.origin ≡ o = ap₂ (λ (u : Tuner) (m : ℕ). record { tuner = u; repaired = m }) b.tuner b.repaired in
      let whole : b.back ≡ with_origin o r = same-records.same_whole b.back (with_origin o r) (sym b.same ∙ k.0) (own ∙ sym k.1) in
      ap (read_of ed t) (sym (own-part r)) ∙ b.accepted ∙ ap (λ (y : Record). reading.Accepted y 0) whole

  main_some : (r : Record) (spare : List ℕ) → Legal ed r
      → capture_read_of ed (frame_of ed r) spare 0 ≡ Accepted (with_origin (record { tuner = Main; repaired = 0 }) r) 0
  main_some r spare l = main-first ed (frame_of ed r) spare 0 _ 0 (read-own Main r l)

  spare-some : (r : Record) → Legal ed r → capture_read_of ed [] (frame_of ed r) 0 ≡ Accepted (with_origin (record { tuner = Spare; repaired = 0 }) r) 0
  spare-some r l =
      let past : number_at ed [] 0 ≡ 1 = number_past ed [] 0 (omega arith) in
      spare-otherwise ed [] (frame_of ed r) 0 _ 0 (given past (λ z. omega arith)) (read-own Spare r l)

  pub capture-reads : CaptureReads ed
  capture-reads =
      record {
        main-first = main-first ed;
        spare-otherwise = spare-otherwise ed;
        neither = λ main spare n m s. ap capture_refusals (neither ed main spare n m s);
        accepted-only = accepted-only;
        refused-only = refused-only;
        fields_told = fields_told;
        main_some = main_some;
        spare-some = spare-some;
      }
