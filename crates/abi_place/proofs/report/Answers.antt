-- `abi_place::report` meets its contract. Assumes nothing.
use mathlib.Core.Path.{refl, ap, ◌∙◌}
use native.Mathlib.Omega.{arith}
use lib.ListN.{length-set}
use Rattle.frame.specs.declared.Edition.{Edition}
use Rattle.report.specs.Report.{report_of}
use Rattle.abi_place.proofs.Cases.{three-stored, record-wrong, place-wrong, reported}
use Rattle.abi_place.proofs.report.Goals as goal

pub returns-then-values-ne-VALUES : goal.returns-then-values-ne-VALUES
returns-then-values-ne-VALUES c =
    let both = record-wrong _ _ _ c.if-values-ne-VALUES.true c.status.ensures refl in
    record { status = both.0; doubles = both.1 }

pub returns-then-doubles-ne3 : goal.returns-then-doubles-ne3
returns-then-doubles-ne3 c =
    let both = place-wrong _ _ _ c.if-values-ne-VALUES.false c.if-doubles-ne3.true c.status-then-doubles-ne3.ensures refl in
    record { status = both.0; doubles = both.1 }

pub bounds-doubles-1 : goal.bounds-doubles-1
bounds-doubles-1 c = rw length-set (omega (arith, c.if-doubles-ne3.false))

pub bounds-doubles-2 : goal.bounds-doubles-2
bounds-doubles-2 c = rw (length-set, length-set) (omega (arith, c.if-doubles-ne3.false))

pub returns-in-Place : goal.returns-in-Place
returns-in-Place c =
    let s = c.args in
    let both = reported _ _ _ _ _ _ c.if-values-ne-VALUES.false c.if-doubles-ne3.false c.record_at.ensures
    (c.report.ensures ∙ ap (λ (e : Edition). report_of e c.record_at.result) c.edition_of.ensures)
    c.in-Place.is c.status-in-Place.ensures (three-stored s.doubles.now _ _ _ c.if-doubles-ne3.false) in
    record { status = both.0; doubles = both.1 }

pub returns-in-Cancellation : goal.returns-in-Cancellation
returns-in-Cancellation c =
    let both = reported _ _ _ _ _ _ c.if-values-ne-VALUES.false c.if-doubles-ne3.false c.record_at.ensures
    (c.report.ensures ∙ ap (λ (e : Edition). report_of e c.record_at.result) c.edition_of.ensures)
    c.in-Cancellation.is c.status-in-Cancellation.ensures refl in
    record { status = both.0; doubles = both.1 }

pub returns-in-AreasOnly : goal.returns-in-AreasOnly
returns-in-AreasOnly c =
    let both = reported _ _ _ _ _ _ c.if-values-ne-VALUES.false c.if-doubles-ne3.false c.record_at.ensures
    (c.report.ensures ∙ ap (λ (e : Edition). report_of e c.record_at.result) c.edition_of.ensures)
    c.in-AreasOnly.is c.status-in-AreasOnly.ensures refl in
    record { status = both.0; doubles = both.1 }

pub returns-in-Nothing : goal.returns-in-Nothing
returns-in-Nothing c =
    let both = reported _ _ _ _ _ _ c.if-values-ne-VALUES.false c.if-doubles-ne3.false c.record_at.ensures
    (c.report.ensures ∙ ap (λ (e : Edition). report_of e c.record_at.result) c.edition_of.ensures)
    c.in-Nothing.is c.status-in-Nothing.ensures refl in
    record { status = both.0; doubles = both.1 }

pub returns-in-Safety : goal.returns-in-Safety
returns-in-Safety c =
    let both = reported _ _ _ _ _ _ c.if-values-ne-VALUES.false c.if-doubles-ne3.false c.record_at.ensures
    (c.report.ensures ∙ ap (λ (e : Edition). report_of e c.record_at.result) c.edition_of.ensures)
    c.in-Safety.is c.status-in-Safety.ensures refl in
    record { status = both.0; doubles = both.1 }

pub returns-in-Refused : goal.returns-in-Refused
returns-in-Refused c =
    let both = reported _ _ _ _ _ _ c.if-values-ne-VALUES.false c.if-doubles-ne3.false c.record_at.ensures
    (c.report.ensures ∙ ap (λ (e : Edition). report_of e c.record_at.result) c.edition_of.ensures)
    c.in-Refused.is c.status-in-Refused.ensures refl in
    record { status = both.0; doubles = both.1 }
