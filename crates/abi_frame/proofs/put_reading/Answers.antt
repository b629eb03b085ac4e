-- `abi_frame::put_reading` meets its contract. Assumes nothing.
use mathlib.Core.Path.{refl}
use Rattle.abi_frame.proofs.Cases.{told-accepted, told-refused}
use Rattle.abi_frame.proofs.put_reading.Goals as goal

pub returns-in-Accepted : goal.returns-in-Accepted
returns-in-Accepted c =
    let both = told-accepted c.args.reading _ c.in-Accepted.is c.accepted_status.ensures c.put_record.ensures in
    record { status = both.0; values = both.1 }

pub returns-in-Refused : goal.returns-in-Refused
returns-in-Refused c =
    let both = told-refused c.args.reading _ c.in-Refused.is c.status.ensures refl in
    record { status = both.0; values = both.1 }
