-- The promises hold. Assumes nothing.
use mathlib.Core.Path.{◌≡◌, refl, sym, ap, ◌∙◌, subst}
use mathlib.Core.Bool.{Bool, true, false}
use mathlib.Core.Logic.{◌≢◌, ◌⊎◌, inl, inr}
use mathlib.Core.List.{[]}
use Prim.Native.Nat.{ℕ}
use native.Mathlib.Omega.{arith}
use lib.Dec.{eqb}
use borrow.Author.Tests.{eqb-true, eqb-false}
use Rattle.frame.specs.Fields.{fields}
use Rattle.frame.specs.Write.{Legal, record_refusal}
use Rattle.frame.specs.declared.Edition.{Edition}
use Rattle.frame.specs.declared.Record.{Record}
use Rattle.place.specs.Degrees.{place_of}
use Rattle.place.specs.Desk.{Allowed, conversion_of, conversion_number}
use Rattle.place.specs.declared.Place.{Place}
use Rattle.place.specs.declared.Fields.{Fields}
use Rattle.place.specs.declared.Conversion.{Conversion}
use Rattle.place.specs.declared.Conversion.TheVariants as conversion
use Rattle.place.proofs.Promises.{degrees-laws}
use Rattle.report.specs.Report.{report_of}
use Rattle.report.specs.Promises.{reports_place}
use Rattle.report.proofs.Promises.{reports}
use Rattle.desk_record.specs.DeskRecord.{place_record, judged, desk_answer, desk_record_of, desk_record_number, desk_record_fields}
use Rattle.desk_record.specs.Promises.{Fits, MadeOf, DeskRecords}
use Rattle.desk_record.specs.declared.DeskWarning.{DeskWarning}
use Rattle.desk_record.specs.declared.DeskRecord.{DeskRecord}
use Rattle.desk_record.specs.declared.DeskRecord.TheVariants.{Made, Refused}
use Rattle.desk_record.proofs.DeskRecords.{judged-legal, judged-refused, fits-legal, legal-fits, legal-body, not-nine}

module _ (ed : Edition) (w : DeskWarning) (p : Place) where
  -- a place that has field values
  placed : (f : Fields) → conversion_of p ≡ conversion.Converted f → desk_record_of ed w p ≡ judged ed (place_record w f)
  unfolding desk_record_of
  placed f e = ap (desk_answer ed w) e

  -- and one that has none
  unplaced : (n : ℕ) → conversion_of p ≡ conversion.Refused n → desk_record_of ed w p ≡ Refused n
  unfolding desk_record_of
  unplaced n e = ap (desk_answer ed w) e

  eleven-first : conversion_number (conversion_of p) ≡ 11 → desk_record_of ed w p ≡ Refused 11
  eleven-first e = unplaced 11 (degrees-laws.refused p e)

  then-the-writers : (f : Fields) → conversion_of p ≡ conversion.Converted f → desk_record_number (desk_record_of ed w p) ≡ record_refusal ed (place_record w f)
  then-the-writers f e = ap desk_record_number (placed f e) ∙ go (eqb (record_refusal ed (place_record w f)) 0) refl
    where
      go : (b : Bool) → eqb (record_refusal ed (place_record w f)) 0 ≡ b → desk_record_number (judged ed (place_record w f)) ≡ record_refusal ed (place_record w f)
      go true q =
          let l = eqb-true (record_refusal ed (place_record w f)) 0 q in
          ap desk_record_number (judged-legal ed w f l) ∙ sym l
      go false q = ap desk_record_number (judged-refused ed w f (eqb-false (record_refusal ed (place_record w f)) 0 q))

  made : (f : Fields) → Fits w → conversion_of p ≡ conversion.Converted f → desk_record_of ed w p ≡ Made (place_record w f)
  made f h e = placed f e ∙ judged-legal ed w f (fits-legal ed w f h (degrees-laws.placed-only p f e).0)

  refused-told : desk_record_number (desk_record_of ed w p) ≢ 0 → desk_record_fields (desk_record_of ed w p) ≡ []
  refused-told h = go (desk_record_of ed w p) refl
    where
      go : (a : DeskRecord) → desk_record_of ed w p ≡ a → desk_record_fields (desk_record_of ed w p) ≡ []
      go (Made r) e = absurd (h (ap desk_record_number e))
      go (Refused n) e = ap desk_record_fields e

  -- what the place became decides
  never-nine : desk_record_number (desk_record_of ed w p) ≢ 9
  never-nine = go (conversion_of p) refl
    where
      go : (c : Conversion) → conversion_of p ≡ c → desk_record_number (desk_record_of ed w p) ≢ 9
      go (conversion.Converted f) e z = not-nine ed w f (degrees-laws.placed-only p f e).0 (sym (then-the-writers f e) ∙ z)
      go (conversion.Refused n) e z = eleven (degrees-laws.zero-or-eleven p)
        where
          eleven : (conversion_number (conversion_of p) ≡ 0) ⊎ (conversion_number (conversion_of p) ≡ 11) → ⊥
          eleven (inl q) = omega (arith, q, ap conversion_number e, ap desk_record_number (unplaced n e), z)
          eleven (inr q) = omega (arith, q, ap conversion_number e, ap desk_record_number (unplaced n e), z)

  -- a record that is made of field values
  made_of : (f : Fields) (r : Record) → conversion_of p ≡ conversion.Converted f → Legal ed (place_record w f) → place_record w f ≡ r → MadeOf ed w p r
  unfolding place_record
  made_of f r c l e =
      let k = degrees-laws.placed-only p f c in
      record {
        place = f;
        converted = c;
        is = e;
        fits = legal-fits ed w f l;
        legal = subst (Legal ed) e l;
        origin = ap (λ (y : Record). y.origin) (sym e);
        reported = subst (λ (y : Record). report_of ed y ≡ reports_place (place_of f)) e ((reports ed).place (place_record w f) l (legal-body ed w f l));
        same = k.1;
      }

  made-only : (r : Record) → desk_record_of ed w p ≡ Made r → MadeOf ed w p r
  made-only r e = go (conversion_of p) refl
    where
      by-writer : (f : Fields) → conversion_of p ≡ conversion.Converted f → (b : Bool) → eqb (record_refusal ed (place_record w f)) 0 ≡ b → MadeOf ed w p r
      by-writer f c true q =
          let l : Legal ed (place_record w f) = eqb-true (record_refusal ed (place_record w f)) 0 q in
          let same = sym (placed f c ∙ judged-legal ed w f l) ∙ e in
          made_of f r c l cc
      by-writer f c false q =
          let same = sym (placed f c ∙ judged-refused ed w f (eqb-false (record_refusal ed (place_record w f)) 0 q)) ∙ e in
          let z : ◌≡◌ {A = ℕ} 0 1 = cc in absurd (omega arith)

      go : (c : Conversion) → conversion_of p ≡ c → MadeOf ed w p r
      go (conversion.Converted f) c = by-writer f c (eqb (record_refusal ed (place_record w f)) 0) refl
      go (conversion.Refused n) c = let same = sym (unplaced n c) ∙ e in let z : ◌≡◌ {A = ℕ} 0 1 = cc in absurd (omega arith)

module _ (ed : Edition) where
  made_every : (w : DeskWarning) (f : Fields) → Fits w → Allowed f → desk_record_fields (desk_record_of ed w (place_of f)) ≡ fields (place_record w f)
  made_every w f h a = ap desk_record_fields (made ed w (place_of f) f h (degrees-laws.back-again f a))

  pub desk-records : DeskRecords ed
  desk-records =
      record {
        eleven-first = eleven-first ed;
        then-the-writers = then-the-writers ed;
        never-nine = never-nine ed;
        refused-told = refused-told ed;
        made = made ed;
        made_every = made_every;
        made-only = made-only ed;
      }
