use Rattle.std.proofs.Common.{rules, ◌≡◌, arith, ap, length, length-take}
use Rattle.ledger.proofs.Reports.{report-most}
use Rattle.ledger_printer.specs.declared.ReportLength.{ReportLength}
use Rattle.ledger_io.proofs.Written.{report-put}
use Rattle.ledger_io.proofs.put_report.Goals as goal

pub slice_bounds-print-end : goal.slice_bounds-print-end
slice_bounds-print-end c =
    let nine : length c.args.ledger.refused ≡ 9 = search rules in
    omega (arith, ap (λ (n : ReportLength). n.bytes) c.report_length-bytes.ensures, report-most c.args.ledger nine)

pub slice_bounds-print-end-2 : goal.slice_bounds-print-end-2
slice_bounds-print-end-2 c =
    let nine : length c.args.ledger.refused ≡ 9 = search rules in
    simp length-take (omega (arith, ap (λ (n : ReportLength). n.bytes) c.report_length-bytes.ensures, report-most c.args.ledger nine))

pub returns-clause-text : goal.returns-clause-text
returns-clause-text c =
    let a = c.args in
    let nine : length a.ledger.refused ≡ 9 = search rules in
    report-put a.ledger nine a.text.now _ _ c.requires (ap (λ (n : ReportLength). n.bytes) c.report_length-bytes.ensures) c.print.ensures.text
