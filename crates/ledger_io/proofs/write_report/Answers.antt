use Rattle.std.proofs.Common.{rules, ◌≡◌, arith, length, length-take}
use Rattle.ledger.proofs.Reports.{report-most}
use Rattle.ledger_io.proofs.write_report.Goals as goal

pub slice_bounds-text-end : goal.slice_bounds-text-end
slice_bounds-text-end g c =
    let nine : length c.args.ledger.refused ≡ 9 = search rules in
    omega (arith, c.put_report-bytes.ensures.count, report-most c.args.ledger nine)

pub slice_bounds-write_all-end : goal.slice_bounds-write_all-end
slice_bounds-write_all-end g c =
    let nine : length c.args.ledger.refused ≡ 9 = search rules in
    simp length-take (omega (arith, c.put_report-bytes.ensures.count, report-most c.args.ledger nine))
