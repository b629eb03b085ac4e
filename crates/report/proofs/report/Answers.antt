-- `report::report` meets its contract. Assumes nothing.
use native.Mathlib.Omega.{arith}
use Rattle.report.proofs.Cases.{report-refused, report-legal}
use Rattle.report.proofs.report.Goals as goal

pub returns-then-refusal-ne0 : goal.returns-then-refusal-ne0
returns-then-refusal-ne0 c = report-refused _ _ _ c.record_refusal-refusal.ensures (λ e. omega (arith, e))

pub returns : goal.returns
returns c =
    report-legal _ _ _ _ c.record_refusal-refusal.ensures (omega arith) c.record_body.ensures c.report_by.ensures
