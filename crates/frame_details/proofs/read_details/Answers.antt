-- `frame_details::read_details` meets its contract. Assumes nothing.
use native.Mathlib.Omega.{arith}
use Rattle.bits.specs.Bits.{bits}
use Rattle.bits.proofs.Bits.{length-bits}
use Rattle.frame_details.proofs.Reading.{details-read}
use Rattle.frame_details.proofs.read_details.Goals as goal

pub returns : goal.returns
returns c =
    let d = bits c.args.details.now in
    details-read c.args.body c.args.reference c.args.pattern c.args.identification c.args.update d (omega (arith, length-bits c.args.details.now, c.requires))
    c.ones_hold-holds.ensures c.read_fields-v.ensures c.own_update.ensures
    c.no_origin.ensures c.record_of.ensures
