-- `abi_header::put_fields` meets its contract. Assumes nothing.
use mathlib.Core.Path.{◌≡◌}
use native.Mathlib.Omega.{arith}
use lib.ListN.{length}
use borrow.Author.Rules.{rules}
use Rattle.abi_header.proofs.Cases.{fields-put}
use Rattle.abi_header.proofs.put_fields.Goals as goal
use Rattle.abi_header.proofs.put_fields.Goals.{Start}

ac-count : (c : Start) → length c.args.header.extension.ac ≡ 26
ac-count c = search rules

pub put_values-requires-2 : goal.put_values-requires-2
put_values-requires-2 c =
    omega (arith, ac-count (goal.at.put_values-requires-2 c).Start, c.requires, c.put_values.auto.out)

pub returns : goal.returns
returns c =
    let size : length c.front_fields-front.result ≡ 119 = search rules in
    fields-put c.args.header c.front_fields-front.result c.args.out.now c.put_values.new.out c.put_values-2.new.out c.requires c.front_fields-front.ensures size (ac-count (goal.at.returns c).Start) c.put_values.ensures c.put_values-2.ensures
