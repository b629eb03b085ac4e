-- `crc_tables::table7` meets its contract: its code is that of `entries g32 7`, which antt computes. Assumes nothing.
use borrow.Fn.Run
use borrow.Fn.World.{World}
use borrow.Fn.Written
use Rattle.gf2.specs.Polynomial.{add, scale, remainder, check_bits}
use Rattle.bits.specs.Bits.{digit, odd, value, bits_of}
use Rattle.crc.specs.Crc.{g32}
use Rattle.crc.specs.Remainders.{remainder_of}
use Rattle.crc_tables.proofs.Entries.{entries, length-entries, entry, entry-fits, narrow32}
use Rattle.crc_tables.proofs.Lookup.{lookup-meets}
use Rattle.crc.proofs.Table.{sums, powers}
use Rattle.crc_tables.proofs.table7.Statement.{statement}
use Rattle.crc_tables.proofs.table7.Code as code
use Rattle.crc_tables.specs.contracts.table7.Key as key
use Rattle.crc_tables.proofs.table7.Kinds as kinds
use Rattle.crc_tables.proofs.table7.Reads as reads

pub table7_spec : {M : Type 1} → statement M
unfolding entries sums powers remainder_of check_bits remainder add scale bits_of odd value digit
table7_spec {M} 𝓤 𝓛 𝓜 𝓡 wired =
    let w : World = record { M = M; 𝓤 = 𝓤; 𝓛 = 𝓛; 𝓜 = 𝓜; 𝓡 = 𝓡 } in
    Written.close 0 kinds.ps kinds.r reads.Ghost reads.requires reads.ensures reads.pre_read reads.Pinned reads.Owned reads.post_read w 𝓡.env key.name
    code.function (code.unfolded 𝓤 𝓛.H 𝓜 𝓡 wired) (λ κs a g. tt) (λ κs. reads.owns κs w) (reads.passes w)
    λ g. lookup-meets reads.Pre reads.Post (entries g32 7) (length-entries g32 7) (entry-fits g32 7 narrow32) (λ a h p. entry g32 7 a.0 h) 𝓛
    (Run.Over 𝓛 𝓜 𝓡 𝓡.env)
