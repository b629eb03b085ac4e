-- The laws of the two CRCs hold. Assumes nothing.
use Rattle.crc.specs.Promises.{CrcLaws}
use Rattle.crc.proofs.Crc as crc

pub crc-laws : CrcLaws
crc-laws =
    record {
      crc10-divides = crc.crc10-divides;
      crc10-add = crc.crc10-add;
      crc32-divides = crc.crc32-divides;
      crc32-own = crc.crc32-own;
      crc32-only = crc.crc32-only;
      crc32-own-bytes = crc.crc32-own-bytes;
      crc32-only-bytes = crc.crc32-only-bytes;
    }
