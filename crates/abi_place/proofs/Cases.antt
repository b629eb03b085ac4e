-- The cases of the definitions, as the functions come to them. Assumes nothing.
use mathlib.Core.Path.{◌≡◌, ◌∙◌, refl, ap, sym}
use mathlib.Core.Logic.{◌≢◌}
use mathlib.Core.List.{List, [], ◌∷◌}
use Prim.Native.Nat.{ℕ}
use native.Mathlib.Omega.{arith}
use lib.Ieee.{Float}
use lib.ListN.{length, set}
use borrow.Author.Tests.{eq-eqb, ne_eqb}
use Rattle.frame.specs.declared.Edition.{Edition}
use Rattle.frame.specs.declared.Record.{Record}
use Rattle.place.specs.Desk.{conversion_of, conversion_number}
use Rattle.place.specs.declared.Place.{Place}
use Rattle.place.specs.declared.Conversion.{Conversion}
use Rattle.place.specs.declared.Conversion.TheVariants.{Refused}
use Rattle.place.proofs.Promises.{degrees-laws}
use Rattle.report.specs.Report.{report_of, report_number}
use Rattle.report.specs.declared.Reported.{Reported}
use Rattle.abi.specs.Status.{status_of}
use Rattle.abi_record.specs.Values.{value_count, record_at}
use Rattle.abi_place.specs.Place.{report_case, doubles_of, report_status, report_place, converted_fields, desk_status, desk_fields}

-- ---- all elements of a buffer stored

pub three-stored : {A : Type 0} (s : List A) (a b c : A) → length s ≡ 3 → set (set (set s 0 a) 1 b) 2 c ≡ a ∷ b ∷ c ∷ []
three-stored [] a b c e = absurd (omega arith)
three-stored (x ∷ []) a b c e = absurd (omega arith)
three-stored (x ∷ y ∷ []) a b c e = absurd (omega arith)
three-stored (x ∷ y ∷ z ∷ []) a b c e = refl
three-stored (x ∷ y ∷ z ∷ w ∷ l) a b c e = absurd (omega arith)

pub five-stored : {A : Type 0} (s : List A) (a b c d e : A) → length s ≡ 5 → set (set (set (set (set s 0 a) 1 b) 2 c) 3 d) 4 e ≡ a ∷ b ∷ c ∷ d ∷ e ∷ []
five-stored [] a b c d e h = absurd (omega arith)
five-stored (x ∷ []) a b c d e h = absurd (omega arith)
five-stored (x ∷ y ∷ []) a b c d e h = absurd (omega arith)
five-stored (x ∷ y ∷ z ∷ []) a b c d e h = absurd (omega arith)
five-stored (x ∷ y ∷ z ∷ w ∷ []) a b c d e h = absurd (omega arith)
five-stored (x ∷ y ∷ z ∷ w ∷ v ∷ []) a b c d e h = refl
five-stored (x ∷ y ∷ z ∷ w ∷ v ∷ u ∷ l) a b c d e h = absurd (omega arith)

-- ---- a report: the status n and the buffer t

module _ (ed : Edition) (v : List ℕ) (s : List Float) {n : ℕ} {t : List Float} where
  pub record-wrong : length v ≢ value_count → n ≡ status_of 1 0 → t ≡ s → (n ≡ report_status ed v s) × (t ≡ report_place ed v s)
  unfolding report_status report_place
  record-wrong h e p = let z = ne_eqb (length v) value_count h in (rw z e, rw z p)

  pub place-wrong : length v ≡ value_count → length s ≢ 3 → n ≡ status_of 1 0 → t ≡ s → (n ≡ report_status ed v s) × (t ≡ report_place ed v s)
  unfolding report_status report_place
  place-wrong l h e p = let z = eq-eqb (length v) value_count l in let y = ne_eqb (length s) 3 h in (rw (z, y) e, rw (z, y) p)

  -- the report a of the record r
  pub reported : (r : Record) (a b : Reported) → length v ≡ value_count → length s ≡ 3 → r ≡ record_at v → a ≡ report_of ed r → a ≡ b → n ≡ status_of (report_number b) (report_case b)
      → t ≡ doubles_of b s → (n ≡ report_status ed v s) × (t ≡ report_place ed v s)
  unfolding report_status report_place
  reported r a b l m e f g p q =
      let z = eq-eqb (length v) value_count l in
      let y = eq-eqb (length s) 3 m in
      let x : b ≡ report_of ed (record_at v) = sym g ∙ f ∙ ap (report_of ed) e in
      (rw (z, y) (p ∙ ap (λ (k : Reported). status_of (report_number k) (report_case k)) x), rw (z, y) (q ∙ ap (λ (k : Reported). doubles_of k s) x))

-- ---- the desk

module _ (latitude longitude depth : Float) (s : List ℕ) {n : ℕ} {t : List ℕ} where
  pub fields-wrong : length s ≢ 5 → n ≡ status_of 1 0 → t ≡ s → (n ≡ desk_status latitude longitude depth s) × (t ≡ desk_fields latitude longitude depth s)
  unfolding desk_status desk_fields
  fields-wrong h e p = let z = ne_eqb (length s) 5 h in (rw z e, rw z p)

  pub converted : (a b : Conversion) → length s ≡ 5 → a ≡ conversion_of (record { latitude = latitude; longitude = longitude; depth = depth }) → a ≡ b
      → n ≡ status_of (conversion_number b) 0 → t ≡ converted_fields b s → (n ≡ desk_status latitude longitude depth s) × (t ≡ desk_fields latitude longitude depth s)
  unfolding desk_status desk_fields
  converted a b l e g p q =
      let z = eq-eqb (length s) 5 l in
      let x = sym g ∙ e in
      (rw z (p ∙ ap (λ (k : Conversion). status_of (conversion_number k) 0) x), rw z (q ∙ ap (λ (k : Conversion). converted_fields k s) x))

-- a refusal leaves the buffer
pub left : (p : Place) (n : ℕ) (s : List ℕ) → conversion_of p ≡ Refused n → s ≡ converted_fields (Refused n) s
left p n s e = rw (ne_eqb n 0 number)
  where
    number : n ≢ 0
    number z =
        let i = degrees-laws.zero-only-there p (ap conversion_number e ∙ z) in
        let both = sym e ∙ degrees-laws.placed p i.of i.allowed i.same in
        let y : ◌≡◌ {A = ℕ} 0 1 = cc in absurd (omega arith)
