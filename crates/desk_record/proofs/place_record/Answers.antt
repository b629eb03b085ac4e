-- `desk_record::place_record` meets its contract. Assumes nothing.
use mathlib.Core.Path.{ap}
use Rattle.frame.specs.Fields.{record_from, with_origin}
use Rattle.frame.specs.declared.Origin.{Origin}
use Rattle.desk_record.specs.DeskRecord.{place_record}
use Rattle.desk_record.proofs.place_record.Goals as goal

pub returns : goal.returns
unfolding place_record record_from
returns c =
    let s = c.args in
    ap (λ (o : Origin). with_origin o (place_record s.warning s.fields)) c.no_origin-origin.ensures
