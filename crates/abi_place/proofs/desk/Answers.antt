-- `abi_place::desk` meets its contract. Assumes nothing.
use mathlib.Core.Path.{refl, sym, ◌∙◌}
use native.Mathlib.Omega.{arith}
use lib.ListN.{length-set}
use Rattle.abi_place.proofs.Cases.{five-stored, fields-wrong, converted, left}
use Rattle.abi_place.proofs.desk.Goals as goal

pub returns-then-fields-ne5 : goal.returns-then-fields-ne5
returns-then-fields-ne5 c =
    let both = fields-wrong _ _ _ _ c.if-fields-ne5.true c.status.ensures refl in
    record { status = both.0; fields = both.1 }

pub bounds-fields-3 : goal.bounds-fields-3
bounds-fields-3 c = rw (length-set, length-set, length-set) (omega (arith, c.if-fields-ne5.false))

pub bounds-fields-4 : goal.bounds-fields-4
bounds-fields-4 c = rw (length-set, length-set, length-set, length-set) (omega (arith, c.if-fields-ne5.false))

pub returns-in-Converted : goal.returns-in-Converted
returns-in-Converted c =
    let both = converted _ _ _ _ _ _ c.if-fields-ne5.false c.fields_of.ensures c.in-Converted.is c.status-in-Converted.ensures (five-stored c.args.fields.now _ _ _ _ _ c.if-fields-ne5.false) in
    record { status = both.0; fields = both.1 }

pub returns-in-Refused : goal.returns-in-Refused
returns-in-Refused c =
    let both = converted _ _ _ _ _ _ c.if-fields-ne5.false c.fields_of.ensures c.in-Refused.is c.status-in-Refused.ensures
    (left _ _ _ (sym c.fields_of.ensures ∙ c.in-Refused.is)) in
    record { status = both.0; fields = both.1 }
