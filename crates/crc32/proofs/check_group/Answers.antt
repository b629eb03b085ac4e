-- `crc32::check_group` meets its contract: the sum of eight remainders. Assumes nothing.
use Rattle.crc.specs.Crc.{g32}
use Rattle.crc.proofs.Crc.{some32}
use Rattle.crc32.proofs.Group.{eight-sum}
use Rattle.crc32.proofs.check_group.Goals as goal

pub returns : goal.returns
returns c =
    let a = c.args in
    eight-sum g32 a.b0 a.b1 a.b2 a.b3 a.b4 a.b5 a.b6 a.b7 some32
    c.table0.ensures
    c.table1.ensures
    c.table2.ensures
    c.table3.ensures
    c.table4.ensures
    c.table5.ensures
    c.table6.ensures
    c.table7.ensures
