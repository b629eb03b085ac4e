-- The cases of a report. Assumes nothing.
use mathlib.Core.Path.{◌≡◌, ◌∙◌, sym, ap, ap₂}
use mathlib.Core.Bool.{Bool, cond}
use mathlib.Core.Logic.{◌≢◌}
use Prim.Native.Nat.{ℕ}
use lib.Ieee.{Float}
use borrow.Author.Tests.{eq-eqb, ne_eqb}
use Rattle.frame.specs.Fields.{record_body}
use Rattle.frame.specs.Write.{Legal, record_refusal}
use Rattle.frame.specs.declared.Edition.{Edition}
use Rattle.frame.specs.declared.Body.{Body}
use Rattle.frame.specs.declared.Body.TheVariants.{PlacePage}
use Rattle.frame.specs.declared.Record.{Record}
use Rattle.place.specs.Degrees.{degrees_of, kilometres_of}
use Rattle.report.specs.declared.Reported.{Reported}
use Rattle.report.specs.declared.Reported.TheVariants.{Place, Refused}
use Rattle.report.specs.Report.{reported_by, report_of}

-- what a body reports, as the function comes to it
pub body-reported : (r : Record) {b : Body} (d : Body) → b ≡ d → reported_by d r ≡ reported_by b r
body-reported r d e = ap (λ (x : Body). reported_by x r) (sym e)

pub place-reported : (r : Record) {b : Body} {n m k : Float} → b ≡ PlacePage → n ≡ degrees_of r.south r.latitude → m ≡ degrees_of r.west r.longitude
    → k ≡ kilometres_of r.depth → Place n m k ≡ reported_by b r
place-reported r {m = m} {k = k} e p q o = ap (λ (x : Float). Place x m k) p ∙ ap₂ (Place (degrees_of r.south r.latitude)) q o ∙ body-reported r PlacePage e

module _ (ed : Edition) where
  -- a legal record reports by its body
  pub legal : (r : Record) → Legal ed r → report_of ed r ≡ reported_by (record_body ed r) r
  unfolding report_of
  legal r e = ap (λ (b : Bool). cond b (reported_by (record_body ed r) r) (Refused (record_refusal ed r))) (eq-eqb (record_refusal ed r) 0 e)

  pub refused : (r : Record) → record_refusal ed r ≢ 0 → report_of ed r ≡ Refused (record_refusal ed r)
  unfolding report_of
  refused r h = ap (λ (b : Bool). cond b (reported_by (record_body ed r) r) (Refused (record_refusal ed r))) (ne_eqb (record_refusal ed r) 0 h)

  -- as the function comes to them
  pub report-refused : (r : Record) (n : ℕ) → n ≡ record_refusal ed r → n ≢ 0 → Refused n ≡ report_of ed r
  report-refused r n e h = ap Refused e ∙ sym (refused r (λ z. h (e ∙ z)))

  pub report-legal : (r : Record) (n : ℕ) (b : Body) {a : Reported} → n ≡ record_refusal ed r → n ≡ 0 → b ≡ record_body ed r → a ≡ reported_by b r → a ≡ report_of ed r
  report-legal r n b e z p q = q ∙ ap (λ (x : Body). reported_by x r) p ∙ sym (legal r (sym e ∙ z))
